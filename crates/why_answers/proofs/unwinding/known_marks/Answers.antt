-- A fact at a time.
use Rattle.std.proofs.Common.{◌∙◌, sym, ap, subst, ◌++◌, ◌∷◌, [], take}
use Rattle.std.proofs.lemmas.List.{take_all, take_more}
use Rattle.negative_closure.proofs.Places.{In-at}
use Rattle.why_answers.specs.Showing.{mark_facts}
use Rattle.why_answers.specs.Unwinding.{IsDerivable}
use Rattle.why_answers.proofs.Deriving.{none_shown}
use Rattle.why_answers.proofs.unwinding.known_marks.Goals as goal

pub loop-fact-init : goal.loop-fact-init
loop-fact-init c = (ap mark_facts c.new-2.ensures, none_shown c.args.downs.now.axioms c.args.mappings.now c.args.tables.now _ c.new.ensures c.new-2.ensures)

pub mark_known-requires-clause-fact : goal.mark_known-requires-clause-fact
mark_known-requires-clause-fact c =
    subst (IsDerivable c.args.downs.now c.args.mappings.now c.args.tables.now) (sym c.fact-item.is) (c.requires.facts _ (In-at c.args.facts.now c.loop-fact.fact-index c.fact-item.result c.loop-fact-test.true))

pub loop-fact-preserved : goal.loop-fact-preserved
loop-fact-preserved c = (
  c.in_ok-mark_known.ensures.facts ∙ ap (λ fs. fs ++ c.fact-item.result ∷ []) c.loop-fact.invariant.0 ∙ ap (λ x. take c.loop-fact.fact-index c.args.facts.now ++ x ∷ []) c.fact-item.is ∙ sym (take_more c.args.facts.now c.loop-fact.fact-index c.fact-item.result c.loop-fact-test.true),
  c.in_ok-mark_known.ensures.shown c.loop-fact.invariant.1,
)

pub returns-clause-facts : goal.returns-clause-facts
returns-clause-facts c = c.loop-fact.invariant.0 ∙ take_all c.loop-fact.fact-index c.args.facts.now c.loop-fact-test.false

pub returns-clause-shown : goal.returns-clause-shown
returns-clause-shown c = c.loop-fact.invariant.1
