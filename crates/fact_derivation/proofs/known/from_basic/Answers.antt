use Rattle.std.proofs.Common.{◌∙◌, ap, subst, ◌∷◌, ◌<◌, ◌-◌, ◌^◌}
use Rattle.mapping_facts.proofs.Members.{In-All}
use Rattle.fact_derivation.specs.Derivings.{rule_steps}
use Rattle.fact_derivation.specs.Finding.{IsFound, NoneStands}
use Rattle.fact_derivation.proofs.Underivable.{class_derived, none_below}
use Rattle.fact_derivation.proofs.known.from_basic.Goals as goal

pub returns-in_default : goal.returns-in_default
returns-in_default c =
    none_below c.args.downs.now.axioms c.args.mappings.now c.args.tables.now c.args.class c.args.term.now c.args.from (subst (NoneStands c.args.mappings.now c.args.tables.now) c.in_ok-atom.ensures (rw c.in_default.is at c.in_ok-step.ensures))

pub steps_of-requires-clause-small : goal.steps_of-requires-clause-small
steps_of-requires-clause-small c = rw c.items.ensures (In-All (λ k. k < 2 ^ 32 - 1) c.in-Some-2.numbers (rw c.in-Some-2.is at c.in_ok-numbers.ensures.short).small)

pub returns-in-Some-2 : goal.returns-in-Some-2
returns-in-Some-2 c =
    class_derived c.args.downs.now.axioms c.args.mappings.now c.args.tables.now c.args.class c.args.term.now c.args.from c.in-Some.step c.in-Some-2.numbers c.in_ok-steps_of-in-Some-2.field-0
    (subst (λ a. IsFound c.args.mappings.now c.args.tables.now a c.in-Some.step) c.in_ok-atom.ensures (rw c.in-Some.is at c.in_ok-step.ensures)) (rw c.in-Some-2.is at c.in_ok-numbers.ensures.path)
    (rw c.in-Some-2.is at c.in_ok-numbers.ensures.short).few (c.in_ok-steps_of-in-Some-2.ensures ∙ ap (λ ns. c.in-Some.step ∷ rule_steps ns 1) c.items.ensures)
