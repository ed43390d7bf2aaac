-- The count so far, and of what is left.
use Rattle.std.proofs.Common.{◌≡◌, ◌+◌, ◌≤◌, drop}
use Rattle.query_subsumption.specs.Subsumption.{blanks_in_args}
use Rattle.query_subsumption.proofs.numbering.blanks_of_args.Given as goal

abbrev pub invariant-loop-x : goal.invariant-loop-x
invariant-loop-x l = record { sum : l.blanks + blanks_in_args (drop l.x-index l.args) ≡ blanks_in_args l.args; small : l.blanks ≤ l.x-index }
