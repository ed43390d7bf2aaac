-- The constants of the atoms so far are known.
use Rattle.std.proofs.Common.{take}
use Rattle.vocabulary.specs.Lists.{In}
use Rattle.queries.specs.declared.query.Atom.{Atom}
use Rattle.queries.specs.Occurrences.{KnownAtom}
use Rattle.reasoning_tests.proofs.linting.are_atoms_known.Given as goal

abbrev pub invariant-loop-atom : goal.invariant-loop-atom
invariant-loop-atom l = (a : Atom) → In a (take l.atom-index l.atoms) → KnownAtom a
