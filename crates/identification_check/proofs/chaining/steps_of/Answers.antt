-- By what `derive` gives.
use Rattle.identification_check.proofs.Behind.{derived_by}
use Rattle.identification_check.proofs.chaining.steps_of.Goals as goal

pub returns : goal.returns
returns c =
    derived_by c.args.downs.now.axioms c.args.mappings.now c.args.tables.now c.args.fact.now c.in-Some.steps c.requires.fact.unturned
    (rw c.in-Some.is at c.in_ok-steps.ensures.derives) (rw c.in-Some.is at c.in_ok-steps.ensures.short)
