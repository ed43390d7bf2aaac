-- By `Births`.
use Rattle.std.proofs.Common.{◌≡◌, sym}
use Rattle.std.proofs.lemmas.Result.{on_ok_weaker}
use Rattle.vocabulary.specs.declared.ids.Dir.TheVariants.{Fwd, Back}
use Rattle.why_answers.proofs.Births.{born_both, either_end, from_none, from_some}
use Rattle.why_answers.proofs.bearing.push_from.Goals as goal

pub returns-in_default : goal.returns-in_default
returns-in_default c = from_none c.args.downs.now.axioms c.args.query.now c.args.step.now c.args.mark.now c.args.leads.now (rw c.in_default.is at c.term_in.ensures)

pub returns : goal.returns
returns c =
    on_ok_weaker c.push_born-2.result
    (λ b. from_some c.args.downs.now.axioms c.args.query.now c.args.step.now c.args.mark.now c.in-Some.term.now c.args.leads.now c.push_born-2.new.leads (sym (rw c.in-Some.is at c.term_in.ensures))
    (born_both c.args.downs.now.axioms c.args.query.now c.args.step.now c.args.mark.now.step c.in-Some.term.now (λ i e. e ≡ Fwd) (λ i e. e ≡ Back) (λ i e. Unit {0}) c.args.leads.now c.push_born.new.leads c.push_born-2.new.leads c.in_ok-push_born.ensures b (λ i e u. either_end e)))
    c.push_born-2.ensures
