-- The greatest so far, and of what is left.
use Rattle.std.proofs.Common.{◌≡◌, ◌≤◌, ◌^◌, max, drop}
use Rattle.query_subsumption.specs.Subsumption.{past_args}
use Rattle.query_subsumption.proofs.numbering.past_args.Given as goal

abbrev pub invariant-loop-x : goal.invariant-loop-x
invariant-loop-x l = record { greatest : max l.past (past_args (drop l.x-index l.args)) ≡ past_args l.args; small : l.past ≤ 2 ^ 32 }
