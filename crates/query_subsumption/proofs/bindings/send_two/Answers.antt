-- By `Solving`.
use Rattle.std.proofs.Common.{◌≡◌, refl, true}
use Rattle.std.proofs.lemmas.Result.{IfOk-weaker}
use Rattle.query_subsumption.specs.Numbered.{as_arg}
use Rattle.query_subsumption.specs.Search.{Solves}
use Rattle.query_subsumption.specs.Subsumption.{Replacement, arg_image}
use Rattle.query_subsumption.proofs.Solving.{solves_both, solves_same}
use Rattle.query_subsumption.proofs.bindings.send_two.Goals as goal

pub returns : goal.returns
returns c =
    let P : Replacement → Type 0 = λ θ. arg_image θ (as_arg c.args.x.now) ≡ as_arg c.args.to_x.now in
    let Q : Replacement → Type 0 = λ θ. arg_image θ (as_arg c.args.y.now) ≡ as_arg c.args.to_y.now in
    let first : Solves P c.args.bindings.now.items c.send.new.bindings.items true = solves_same P refl refl c.if-not-branch.false c.in_ok-send.ensures in
    IfOk-weaker c.send-2.result
    (Solves Q c.send.new.bindings.items c.send-2.new.bindings.items)
    (Solves (λ θ. P θ × Q θ) c.args.bindings.now.items c.send-2.new.bindings.items)
    (λ fits s. solves_both P Q first s)
    c.send-2.ensures
