use Rattle.std.proofs.Common.{◌≢◌, ◌<◌, ◌∙◌, sym, ap, [], ◌+◌, ◌*◌, length, get_or, None, arith}
use Rattle.source_tables.specs.Tables.{Loaded}
use Rattle.source_tables.proofs.Cutting.{cell_in, cell_past, row_past}
use Rattle.source_tables.proofs.table.Table.cell.Goals as goal
use Rattle.source_tables.proofs.table.Table.cell.Goals.{else-row-self-via-then-row-self+else-col-len, else-row-self-via-else-row-self}

pub returns-then-col-len : goal.returns-then-col-len
returns-then-col-len c =
    let within : c.args.col.0 < length c.self.inside.decl.columns = omega arith in
    let some : length c.self.inside.decl.columns ≢ 0 = omega arith in
    let width = c.self.invariant.2 some in
    c.cell.ensures
    ∙ ap (λ w. get_or c.self.inside.cells.cells (c.args.row * w + c.args.col.0) None) width
    ∙ sym (cell_in _ _ _ c.args.row c.args.col.0 c.if-row-self.true within)
    ∙ ap (λ (t : Loaded). get_or (get_or t.rows c.args.row []) c.args.col.0 None) c.self.view_is

pub returns-else-row-self : goal.returns-else-row-self
returns-else-row-self c = elim c.else-row-self.branch [
  | else-row-self-via-then-row-self+else-col-len w ↦
      sym (cell_past _ _ _ c.args.row c.args.col.0 (omega arith))
      ∙ ap (λ (t : Loaded). get_or (get_or t.rows c.args.row []) c.args.col.0 None) c.self.view_is
  | else-row-self-via-else-row-self w ↦
      sym (row_past _ _ _ c.args.row c.args.col.0 w.if-row-self.false)
      ∙ ap (λ (t : Loaded). get_or (get_or t.rows c.args.row []) c.args.col.0 None) c.self.view_is
]
