use Rattle.std.proofs.Common.{◌≡◌, true, map, take}
use Rattle.std.specs.List.{list_all}
use Rattle.csv.specs.Records.{fields_of}
use Rattle.source_tables.specs.Loading.{place_in}
use Rattle.source_tables.specs.Tables.{has_place}
use Rattle.source_tables.proofs.header.find_places.Given as goal

abbrev pub invariant-loop-number : goal.invariant-loop-number
invariant-loop-number l =
    (l.places.items ≡ map (place_in (fields_of l.fn.header)) (take l.number l.fn.decl.columns))
    × (list_all (has_place (fields_of l.fn.header)) (take l.number l.fn.decl.columns) ≡ true)
