use Rattle.std.proofs.Common.{length}
use Rattle.onprom_core.proofs.reading.+add_tables.Given as goal

abbrev pub decreases-add_tables : goal.decreases-add_tables
decreases-add_tables g l = length l.decls.now
