use Rattle.dllite_axioms.specs.declared.axioms.Basic.TheVariants.{Class}
use Rattle.fact_derivation.specs.Derivings.{NoneBelow}
use Rattle.fact_derivation.proofs.Loops.{all_of, one_more_at}
use Rattle.fact_derivation.proofs.Underivable.{none_of_class}
use Rattle.fact_derivation.proofs.known.of_class.Goals as goal

pub loop-from-preserved : goal.loop-from-preserved
loop-from-preserved c =
    one_more_at (NoneBelow c.args.downs.now.axioms c.args.mappings.now c.args.tables.now (Class c.args.class) c.args.term.now) c.below-from-items.result.now c.loop-from.from-index _ c.loop-from-test.true c.loop-from.invariant
    (rw c.in_default.is at c.in_ok-steps.ensures)

pub returns : goal.returns
returns c =
    none_of_class c.args.downs.now.axioms c.args.mappings.now c.args.tables.now c.args.class c.args.term.now c.below-from-items.result.now c.requires.known c.below-from-items.ensures.listed
    (all_of (NoneBelow c.args.downs.now.axioms c.args.mappings.now c.args.tables.now (Class c.args.class) c.args.term.now) c.below-from-items.result.now c.loop-from.from-index c.loop-from-test.false c.loop-from.invariant)
