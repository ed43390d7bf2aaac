-- The greatest so far, and of what is left.
use Rattle.std.proofs.Common.{◌≡◌, ◌≤◌, ◌^◌, max, drop}
use Rattle.query_subsumption.specs.Subsumption.{past_atoms}
use Rattle.query_subsumption.proofs.numbering.past_atoms.Given as goal

abbrev pub invariant-loop-a : goal.invariant-loop-a
invariant-loop-a l = record { greatest : max l.past (past_atoms (drop l.a-index l.atoms)) ≡ past_atoms l.atoms; small : l.past ≤ 2 ^ 32 }
