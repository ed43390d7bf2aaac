use Rattle.std.proofs.Common.{◌≡◌, ◌<◌, ◌∙◌, ap, [], List, length, get_or, arith}
use Rattle.std.proofs.lemmas.Result.{err_from_is_err_and}
use Rattle.csv.specs.Records.{fields_of}
use Rattle.source_tables.specs.declared.decl.ColumnDecl.{ColumnDecl}
use Rattle.source_tables.specs.Loading.{Fails, PutsCell}
use Rattle.source_tables.specs.Tables.{checked_cell}
use Rattle.source_tables.proofs.Fields.{text_at}
use Rattle.source_tables.proofs.Offsets.{offset_back}
use Rattle.source_tables.proofs.Rows.{goes_on, stops}
use Rattle.source_tables.proofs.row.push_cells.Goals as goal

pub push_cell-requires-clause-utf8 : goal.push_cell-requires-clause-utf8
push_cell-requires-clause-utf8 c = rw c.field-found.ensures (text_at (fields_of c.args.fields.now) _ c.requires.utf8)

pub returns-in_err-push_cell-clause-fault : goal.returns-in_err-push_cell-clause-fault
returns-in_err-push_cell-clause-fault c =
    let p = err_from_is_err_and c.from_residual.result c.from_residual.ensures.1 in
    let is : c.column-item.result ≡ get_or c.args.decl.now.columns c.loop-number.number c.column-item.result =
    c.column-item.is ∙ ap (λ (columns : List ColumnDecl). get_or columns c.loop-number.number c.column-item.result) c.items-column-items.ensures in
    let there : c.loop-number.number < length c.args.decl.now.columns = omega (arith, ap length c.items-column-items.ensures) in
    let due : Fails c.in_err-push_cell.field-0.0 (checked_cell c.args.decl.now.offset c.column-item.result.kind c.args.row c.loop-number.number (get_or (fields_of c.args.fields.now) (get_or c.args.places.now c.loop-number.number 0) [])) =
    rw (offset_back c.args.decl.now.offset c.requires.offset, c.field-found.ensures) at c.in_err-push_cell.ensures.fault in
    rw (p.1, p.2) (stops c.args.decl.now.offset c.args.row (fields_of c.args.fields.now) c.args.places.now c.args.decl.now.columns c.args.cells.now c.loop-number.cells c.loop-number.number c.column-item.result _
    c.loop-number.invariant (omega (arith, there, c.requires.places)) there is due)

pub loop-number-preserved : goal.loop-number-preserved
loop-number-preserved c =
    let is : c.column-item.result ≡ get_or c.args.decl.now.columns c.loop-number.number c.column-item.result =
    c.column-item.is ∙ ap (λ (columns : List ColumnDecl). get_or columns c.loop-number.number c.column-item.result) c.items-column-items.ensures in
    let there : c.loop-number.number < length c.args.decl.now.columns = omega (arith, ap length c.items-column-items.ensures) in
    let put : PutsCell (checked_cell c.args.decl.now.offset c.column-item.result.kind c.args.row c.loop-number.number (get_or (fields_of c.args.fields.now) (get_or c.args.places.now c.loop-number.number 0) [])) c.loop-number.cells c.push_cell.new.cells =
    rw (offset_back c.args.decl.now.offset c.requires.offset, c.field-found.ensures) at c.in_ok-push_cell.ensures.put in
    goes_on c.args.decl.now.offset c.args.row (fields_of c.args.fields.now) c.args.places.now c.args.decl.now.columns c.args.cells.now c.loop-number.cells c.push_cell.new.cells c.loop-number.number c.column-item.result
    c.loop-number.invariant (omega (arith, there, c.requires.places)) there is put
