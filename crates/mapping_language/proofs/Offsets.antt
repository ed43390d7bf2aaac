-- That lines of columns and keys keep the offsets of tables.
use Rattle.std.proofs.Common.{◌≡◌, List, [], ◌∷◌, ◌++◌, map, All, get_or, ℕ, Bool, true, false, if◌then◌else◌, Result, pos, rules, Option, Some, None, ◌<◌, refl, length, option_and_then, slice_get, Ok, Err, OnOk}
use Rattle.std.specs.Str.{bytes_eq}
use Rattle.std.proofs.lemmas.Option.{slice_get_within, get_or_from_slice_get}
use Rattle.std.proofs.lemmas.List.Elements.{All-map, All-push}
use Rattle.jiff_core.specs.Calendar.{IsWithin}
use Rattle.source_tables.specs.declared.decl.TableDecl.{TableDecl}
use Rattle.mapping_language.specs.declared.sources.Sources.{Sources}
use Rattle.mapping_language.specs.Written.{SourceLine, Table, Column, Key, Source, MapLine}
use Rattle.mapping_language.specs.Tables.{table_number, table_named}
use Rattle.mapping_language.specs.Mappings.{place_of, table_under, offset_under}
use Rattle.mapping_language.specs.Changes.{extended, HaveOffsets}

near_extended : (line : SourceLine) (test : Bool) (table : TableDecl) → IsWithin 840 table.offset → IsWithin 840 (if test then extended line table else table).offset
near_extended line false table near = near
near_extended (Table t file offset) true table near = near
near_extended (Column t c kind header) true table near = near
near_extended (Key t cs) true table near = near

changed_near : (line : SourceLine) (name : List ℕ) (tables : List TableDecl) → All (λ table. IsWithin 840 table.offset) tables
    → All (λ table. IsWithin 840 table.offset) (map (λ table. if bytes_eq table.name name then extended line table else table) tables)
changed_near line name tables near = All-map (λ table. IsWithin 840 table.offset) (λ table. if bytes_eq table.name name then extended line table else table) tables
    (λ k d lt. near_extended line (bytes_eq (get_or tables k d).name name) (get_or tables k d) (near k d lt))

-- one table more
pub pushed_near : {T E : Type 0} (r : Result T E) (tables new : List TableDecl) (table : TableDecl) → All (λ table. IsWithin 840 table.offset) tables → IsWithin 840 table.offset
    → OnOk r (new ≡ tables ++ table ∷ []) → OnOk r (All (λ table. IsWithin 840 table.offset) new)
pushed_near (Ok x) tables new table near one is = rw is (All-push (λ table. IsWithin 840 table.offset) tables table near one)
pushed_near (Err e) tables new table near one is = tt

-- the tables of a name with the line
pub extended_near : (line : SourceLine) (name : List ℕ) (tables old new : List TableDecl) → All (λ table. IsWithin 840 table.offset) tables → old ≡ tables
    → new ≡ map (λ table. if bytes_eq table.name name then extended line table else table) old → All (λ table. IsWithin 840 table.offset) new
extended_near line name tables old new near was is = rw (is, was) (changed_near line name tables near)

near_zero : IsWithin 840 (pos 0)
near_zero = search rules

near_in : (tables : List TableDecl) (o : Option ℕ) → All (λ table. IsWithin 840 table.offset) tables → IsWithin 840 (offset_under (option_and_then (slice_get tables) o))
near_in tables None near = near_zero
near_in tables (Some i) near = by (slice_get tables i) refl
  where
    by : (t : Option TableDecl) → slice_get tables i ≡ t → IsWithin 840 (offset_under t)
    by None e = near_zero
    by (Some t) e = let lt : i < length tables = slice_get_within tables i t e in let is : get_or tables i t ≡ t = get_or_from_slice_get tables i t t e in rw is at (near i t lt)

-- the offset of the table under an alias
pub near_under : (s : Sources) (m : MapLine) (alias : List ℕ) → HaveOffsets s → IsWithin 840 (offset_under (table_under s m alias))
near_under s m alias near = by (option_and_then (slice_get m.sources) (place_of m alias))
  where
    by : (source : Option Source) → IsWithin 840 (offset_under (option_and_then (λ source. table_named s source.table) source))
    by None = near_zero
    by (Some source) = near_in s.tables (table_number s source.table) near
