-- No basic so far has a fact.
use Rattle.std.proofs.Common.{take}
use Rattle.vocabulary.specs.Lists.{In}
use Rattle.dllite_axioms.specs.declared.axioms.Basic.{Basic}
use Rattle.dllite_axioms.specs.declared.axioms.Basic.TheVariants.{Class}
use Rattle.fact_derivation.specs.Derivings.{NoneBelow}
use Rattle.fact_derivation.proofs.known.of_class.Given as goal

abbrev pub invariant-loop-from : goal.invariant-loop-from
invariant-loop-from l = (x : Basic) → In x (take l.from-index l.from-items) → NoneBelow l.downs.axioms l.mappings l.tables (Class l.class) l.term x
