use Rattle.std.proofs.Common.{◌≡◌, ◌-◌, ◌<◌, ◌≤◌, ℕ, List, get_or, length, true}
use Rattle.std.specs.Ordering.{is_le}
use Rattle.vocabulary.specs.declared.term.Term.{Term}
use Rattle.log_assembly.specs.Found.{first_cmp}
use Rattle.log_assembly.proofs.lookup.end_of.Given as goal

abbrev pub decreases-loop-end : goal.decreases-loop-end
decreases-loop-end l = length l.tuples - l.end

abbrev pub invariant-loop-end : goal.invariant-loop-end
invariant-loop-end l = record {
  behind : l.from ≤ l.end;
  within : l.end ≤ length l.tuples;
  upto : (k : ℕ) (d : List Term) → l.from ≤ k → k < l.end → is_le (first_cmp l.term (get_or l.tuples k d)) ≡ true;
}
