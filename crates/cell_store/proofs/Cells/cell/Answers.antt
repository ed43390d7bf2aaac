use Rattle.std.proofs.Common.{ap, length, arith}
use Rattle.cell_store.proofs.Stretches.{stretch_at, cut_at}
use Rattle.cell_store.proofs.Places.{place_there, cell_there}
use Rattle.cell_store.proofs.Cells.cell.Goals as goal

pub start_of-requires : goal.start_of-requires
start_of-requires c =
    let there = place_there _ _ _ _ _ _ c.self.view_is c.requires.row c.requires.col in
    let ok = c.self.inside.ends.ok.0 in
    omega (arith, there, ap length c.as_slice-ends.ensures.value)

pub bounds-ends-place : goal.bounds-ends-place
bounds-ends-place c =
    let there = place_there _ _ _ _ _ _ c.self.view_is c.requires.row c.requires.col in
    omega (arith, there, ap length c.as_slice-ends.ensures.value)

pub offset_bounds-ends-place : goal.offset_bounds-ends-place
offset_bounds-ends-place c =
    let there = place_there _ _ _ _ _ _ c.self.view_is c.requires.row c.requires.col in
    let size = c.as_slice-ends.type_inv.1 in
    omega (arith, there, ap length c.as_slice-ends.ensures.value)

pub stretch-requires-clause-stretch : goal.stretch-requires-clause-stretch
stretch-requires-clause-stretch c =
    let there = place_there _ _ _ _ _ _ c.self.view_is c.requires.row c.requires.col in
    rw (c.start_of.ensures, c.as_slice-ends.ensures.value, c.as_str.ensures.value) (stretch_at _ _ _ _ c.self.invariant.3 there)

pub stretch-requires-clause-cut : goal.stretch-requires-clause-cut
stretch-requires-clause-cut c =
    let there = place_there _ _ _ _ _ _ c.self.view_is c.requires.row c.requires.col in
    let utf8 = rw c.as_str.ensures.value at c.as_str.utf8 in
    rw (c.start_of.ensures, c.as_slice-ends.ensures.value, c.as_str.ensures.value) (cut_at _ _ _ utf8 c.self.invariant.3 there)

pub returns : goal.returns
returns c =
    let there = place_there _ _ _ _ _ _ c.self.view_is c.requires.row c.requires.col in
    rw (c.stretch.ensures, c.start_of.ensures, c.as_slice-ends.ensures.value, c.as_str.ensures.value)
    (cell_there _ _ _ _ _ _ c.self.view_is there)
