use Rattle.std.proofs.Common.{◌≡◌, length, map}
use Rattle.std.specs.List.{list_any}
use Rattle.mapping_language.specs.Mappings.{unknown_cell, cell_of_hole, holes}
use Rattle.mapping_language.specs.Shown.{map_shown}
use Rattle.mapping_language.proofs.mapping_unknown.has_unknown_hole.Given as goal

abbrev pub invariant-loop-behind : goal.invariant-loop-behind
invariant-loop-behind l = list_any (unknown_cell l.sources (map_shown l.line)) (map cell_of_hole (holes l.text)) ≡ list_any (unknown_cell l.sources (map_shown l.line)) (map cell_of_hole (holes l.left.text.now))

abbrev pub decreases-loop-behind : goal.decreases-loop-behind
decreases-loop-behind l = length l.left.text.now
