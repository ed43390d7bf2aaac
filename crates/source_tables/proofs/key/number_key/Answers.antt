use Rattle.std.proofs.Common.{◌+◌, arith}
use Rattle.std.proofs.lemmas.List.Elements.{All-take, All-drop}
use Rattle.source_tables.specs.Cells.{HasText}
use Rattle.source_tables.specs.Loading.{row_at}
use Rattle.source_tables.specs.Tables.{cut_rows, key_cells}
use Rattle.source_tables.proofs.Cutting.{length-cut_rows, All-cut_rows}
use Rattle.source_tables.proofs.KeyRows.{index_long, text_whole, key_new, key_double}
use Rattle.source_tables.proofs.key.number_key.Goals as goal

pub add-requires : goal.add-requires
add-requires c =
    let long = index_long c.args.key.now (cut_rows c.args.row c.args.width c.args.cells.now.cells) _ c.requires.index in
    omega (arith, long, length-cut_rows c.args.row c.args.width c.args.cells.now.cells, c.requires.row.2)

pub returns-then-number-row-clause-fault : goal.returns-then-number-row-clause-fault
returns-then-number-row-clause-fault c = λ _.
    let whole = text_whole _ (key_cells c.args.key.now (row_at c.args.width c.args.row c.args.cells.now.cells)) _ c.as_str.result.now c.in_ok-write_key.ensures c.if-not-branch.false c.as_str.ensures.value in
    key_double c.args.key.now (c.args.row + 1) (row_at c.args.width c.args.row c.args.cells.now.cells) (cut_rows c.args.row c.args.width c.args.cells.now.cells) c.args.index.now c.add.new.self c.as_str.result.now c.in_ok-number.number
    (All-take HasText _ _ (All-drop HasText _ _ c.requires.texts)) (All-cut_rows _ _ _ c.requires.texts) whole c.requires.index c.in_ok-number.ensures.ok
    (omega (arith, length-cut_rows c.args.row c.args.width c.args.cells.now.cells))

pub returns-clause-right : goal.returns-clause-right
returns-clause-right c =
    let whole = text_whole _ (key_cells c.args.key.now (row_at c.args.width c.args.row c.args.cells.now.cells)) _ c.as_str.result.now c.in_ok-write_key.ensures c.if-not-branch.false c.as_str.ensures.value in
    (key_new c.args.key.now (c.args.row + 1) (row_at c.args.width c.args.row c.args.cells.now.cells) (cut_rows c.args.row c.args.width c.args.cells.now.cells) c.args.index.now c.add.new.self c.as_str.result.now c.in_ok-number.number
    (All-take HasText _ _ (All-drop HasText _ _ c.requires.texts)) (All-cut_rows _ _ _ c.requires.texts) whole c.requires.index c.in_ok-number.ensures.ok
    (omega (arith, length-cut_rows c.args.row c.args.width c.args.cells.now.cells))).0

pub returns-clause-index : goal.returns-clause-index
returns-clause-index c =
    let whole = text_whole _ (key_cells c.args.key.now (row_at c.args.width c.args.row c.args.cells.now.cells)) _ c.as_str.result.now c.in_ok-write_key.ensures c.if-not-branch.false c.as_str.ensures.value in
    (key_new c.args.key.now (c.args.row + 1) (row_at c.args.width c.args.row c.args.cells.now.cells) (cut_rows c.args.row c.args.width c.args.cells.now.cells) c.args.index.now c.add.new.self c.as_str.result.now c.in_ok-number.number
    (All-take HasText _ _ (All-drop HasText _ _ c.requires.texts)) (All-cut_rows _ _ _ c.requires.texts) whole c.requires.index c.in_ok-number.ensures.ok
    (omega (arith, length-cut_rows c.args.row c.args.width c.args.cells.now.cells))).1
