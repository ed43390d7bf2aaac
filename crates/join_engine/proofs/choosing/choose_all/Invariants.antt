use Rattle.std.proofs.Common.{◌≡◌, ◌<◌, ℕ, length, get_or}
use Rattle.join_engine.specs.declared.choosing.Choice.{Choice}
use Rattle.join_engine.specs.Ties.{AreIndexes, Serves}
use Rattle.join_engine.proofs.choosing.choose_all.Given as goal

abbrev pub invariant-loop-depth : goal.invariant-loop-depth
invariant-loop-depth l = record {
  count : length l.choices.items ≡ l.depth;
  indexes : AreIndexes l.tables l.indexes.items;
  each : (d : ℕ) (x : Choice) → d < length l.choices.items → Serves l.tables l.query l.indexes.items d (get_or l.choices.items d x);
}
