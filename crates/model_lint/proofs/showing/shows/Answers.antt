-- By `Shown`.
use Rattle.std.proofs.Common.{◌≡◌, sym, ◌∙◌, subst, Some}
use Rattle.vocabulary.specs.Lists.{item}
use Rattle.model_lint.proofs.Shown.{shown_told}
use Rattle.model_lint.proofs.showing.shows.Goals as goal

pub returns-in_ok-shown-in-Some-2 : goal.returns-in_ok-shown-in-Some-2
returns-in_ok-shown-in-Some-2 c =
    let k = c.in-Some.constraint.now in
    let numbered = sym (subst (λ cs. Some k ≡ item cs c.args.proof.now.constraint) c.constraints.ensures c.in-Some.ensures) in
    let run = sym (rw (c.axioms.ensures, c.in_ok-first.ensures, c.items.ensures) at c.in_ok-facts.ensures) ∙ c.in-Some-2.is in
    shown_told c.args.tbox.now c.args.proof.now k c.in-Some-2.facts c.in_ok-shown-in-Some-2.shown numbered (c.is_disjointness.ensures.0 c.if-not-is_disjointness.false) run
    (rw c.items-in-Some-2.ensures at c.in_ok-shown-in-Some-2.ensures)
