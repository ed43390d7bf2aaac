-- The law of tables, as `laws` states it.
use Rattle.std.specs.Prelude.{◌≢◌, ℕ, List, Err}
use Rattle.source_tables.specs.declared.decl.TableDecl.{TableDecl}
use Rattle.source_tables.specs.declared.fault.TableFault.TheVariants.{NoMemory}
use Rattle.source_tables.specs.Tables.{table_of}

-- no bytes are refused for want of memory
abbrev pub MemoryIsNoFault : Type 0
MemoryIsNoFault = (decl : TableDecl) (bytes : List ℕ) → table_of decl bytes ≢ Err NoMemory
