use Rattle.fact_derivation.specs.Derivings.{NoneUnder}
use Rattle.fact_derivation.proofs.Loops.{all_of, one_more_at}
use Rattle.fact_derivation.proofs.Underivable.{none_of_link}
use Rattle.fact_derivation.proofs.known.of_link.Goals as goal

pub loop-from-preserved : goal.loop-from-preserved
loop-from-preserved c =
    one_more_at (NoneUnder c.args.downs.now.axioms c.args.mappings.now c.args.tables.now c.args.link c.args.near.now c.args.far.now) c.under-from-items.result.now c.loop-from.from-index _ c.loop-from-test.true c.loop-from.invariant
    (rw c.in_default.is at c.in_ok-steps.ensures.derives)

pub returns-clause-derives : goal.returns-clause-derives
returns-clause-derives c =
    none_of_link c.args.downs.now.axioms c.args.mappings.now c.args.tables.now c.args.link c.args.near.now c.args.far.now c.under-from-items.result.now c.requires.known c.requires.far_known c.under-from-items.ensures.listed
    (all_of (NoneUnder c.args.downs.now.axioms c.args.mappings.now c.args.tables.now c.args.link c.args.near.now c.args.far.now) c.under-from-items.result.now c.loop-from.from-index c.loop-from-test.false c.loop-from.invariant)
