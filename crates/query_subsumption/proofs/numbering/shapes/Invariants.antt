-- The atoms so far, before those of what is left.
use Rattle.std.proofs.Common.{◌≡◌, ◌+◌, ◌*◌, ◌≤◌, ◌++◌, map, drop}
use Rattle.query_subsumption.specs.Numbered.{as_atom}
use Rattle.query_subsumption.specs.Subsumption.{apart_atoms}
use Rattle.query_subsumption.proofs.numbering.shapes.Given as goal

abbrev pub invariant-loop-a : goal.invariant-loop-a
invariant-loop-a l = record { same : map as_atom l.out.items ++ apart_atoms l.next (drop l.a-index l.atoms) ≡ apart_atoms l.fn.from l.atoms; small : l.next ≤ l.fn.from + 2 * l.a-index }
