use Rattle.std.proofs.Common.{◌≡◌, ◌≤◌, ◌-◌, length, ℕ, List}
use Rattle.outside.specs.Files.{IsWhole}
use Rattle.outside.proofs.read.read_by.Given as goal

abbrev pub invariant-loop-bytes : goal.invariant-loop-bytes
invariant-loop-bytes g l = record {
  held : g.S.Shelf.held l.shelf ≡ g.S.Shelf.held l.initial.shelf;
  bound : length l.bytes ≤ l.limit;
  whole : (whole : List ℕ) → IsWhole l.initial.bytes (g.S.Shelf.left l.initial.shelf) whole → IsWhole l.bytes (g.S.Shelf.left l.shelf) whole;
  faults : g.S.Shelf.faults l.shelf ≡ g.S.Shelf.faults l.initial.shelf;
  absences : g.S.Shelf.absences l.shelf ≡ g.S.Shelf.absences l.initial.shelf;
}

abbrev pub decreases-loop-bytes : goal.decreases-loop-bytes
decreases-loop-bytes g l = l.limit - length l.bytes
