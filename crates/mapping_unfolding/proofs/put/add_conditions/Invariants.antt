use Rattle.std.proofs.Common.{◌≡◌, ◌++◌}
use Rattle.mapping_unfolding.proofs.put.add_conditions.Given as goal

abbrev pub invariant-loop-condition : goal.invariant-loop-condition
invariant-loop-condition l =
    (l.draft.query.tables ≡ l.fn.draft.query.tables) × (l.draft.bound ≡ l.fn.draft.bound) × (l.draft.origins ≡ l.fn.draft.origins)
    × (l.draft.query.conditions ++ l.condition-iterator.rest.items ≡ l.fn.draft.query.conditions ++ l.fn.more)
