-- The atoms so far are parts.
use Rattle.std.proofs.Common.{take}
use Rattle.vocabulary.specs.Lists.{In}
use Rattle.queries.specs.declared.query.Atom.{Atom}
use Rattle.fold_rewriting.specs.Found.{IsPart}
use Rattle.fold_rewriting.proofs.births.are_parts.Given as goal

abbrev pub invariant-loop-atom : goal.invariant-loop-atom
invariant-loop-atom l = (b : Atom) → In b (take l.atom-index l.atoms) → IsPart l.downs.axioms l.birth.0 l.birth.1 l.v b
