-- The count so far, and of what is left.
use Rattle.std.proofs.Common.{◌≡◌, ◌+◌, ◌*◌, ◌≤◌, drop}
use Rattle.query_subsumption.specs.Images.{blanks_in_atoms}
use Rattle.query_subsumption.proofs.numbering.blanks_of_atoms.Given as goal

abbrev pub invariant-loop-a : goal.invariant-loop-a
invariant-loop-a l = record { sum : l.blanks + blanks_in_atoms (drop l.a-index l.atoms) ≡ blanks_in_atoms l.atoms; small : l.blanks ≤ 2 * l.a-index }
