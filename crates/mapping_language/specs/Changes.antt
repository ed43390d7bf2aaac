-- What source lines change, and what they keep.
use Rattle.std.specs.Prelude.{[], ◌∷◌, ◌++◌, All}
use Rattle.jiff_core.specs.Calendar.{IsWithin}
use Rattle.source_tables.specs.declared.decl.TableDecl.{TableDecl}
use Rattle.mapping_language.specs.declared.sources.Sources.{Sources}
use Rattle.mapping_language.specs.Written.{SourceLine, Table, Column, Key}
use Rattle.mapping_language.specs.Tables.{header_or, numbers_of}

-- the table of a line's name, with the line
abbrev pub extended : SourceLine → TableDecl → TableDecl
extended (Table t file offset) table = table
extended (Column t c kind header) table = record table { columns = table.columns ++ record { name = c; header = header_or c header; kind = kind } ∷ [] }
extended (Key t cs) table = record table { keys = table.keys ++ numbers_of table cs ∷ [] }

-- the offsets of the tables are at most 14 hours, ahead of UTC or behind it
abbrev pub HaveOffsets : Sources → Type 0
HaveOffsets s = All (λ table. IsWithin 840 table.offset) s.tables
