-- The term in each place of the variable.
use Rattle.std.proofs.lemmas.Result.{IfOk-weaker}
use Rattle.why_answers.proofs.Tupled.{substituted_term}
use Rattle.why_answers.proofs.asking.put_term.Goals as goal

pub returns-in_ok-copy-in-Var : goal.returns-in_ok-copy-in-Var
returns-in_ok-copy-in-Var c =
    IfOk-weaker c.substitute.result _ _ (λ q e. substituted_term c.args.query q c.args.arg.now c.in-Var.v c.in_ok-copy-in-Var.field-0 c.args.term.now c.in-Var.is c.in_ok-copy-in-Var.ensures e) c.substitute.ensures
