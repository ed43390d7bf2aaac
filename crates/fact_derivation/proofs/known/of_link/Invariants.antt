-- No link so far has a fact.
use Rattle.std.proofs.Common.{take}
use Rattle.vocabulary.specs.Lists.{In}
use Rattle.vocabulary.specs.declared.ids.LinkId.{LinkId}
use Rattle.vocabulary.specs.declared.ids.Dir.{Dir}
use Rattle.fact_derivation.specs.Derivings.{NoneUnder}
use Rattle.fact_derivation.proofs.known.of_link.Given as goal

abbrev pub invariant-loop-from : goal.invariant-loop-from
invariant-loop-from l = (x : LinkId × Dir) → In x (take l.from-index l.from-items) → NoneUnder l.downs.axioms l.mappings l.tables l.link l.near l.far x
