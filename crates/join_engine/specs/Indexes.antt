-- Indexes that are kept for later queries.
use Rattle.std.specs.Prelude.{List}
use Rattle.source_tables.specs.Tables.{Loaded}
use Rattle.join_engine.specs.declared.sharing.Indexes.{Indexes}
use Rattle.join_engine.specs.Ties.{AreIndexes}

-- each lists rows of one of these tables by the texts of a column
unfoldable pub AreOf : List Loaded → Indexes → Type 0
AreOf tables indexes = AreIndexes tables indexes.kept.items
