use Rattle.std.proofs.Common.{◌≡◌, ◌∙◌, sym, ap, subst, List, ℕ, ◌+◌, ◌++◌, ◌∷◌, [], length, map, Ok}
use Rattle.std.proofs.lemmas.Result.{err_from_is_err_and}
use Rattle.csv.specs.Records.{fields_of}
use Rattle.vocabulary.specs.declared.ids.ColId.{ColId}
use Rattle.source_tables.specs.Tables.{check_keys, cut_rows}
use Rattle.source_tables.specs.Loading.{AreRead, Fails, key_texts, row_at, rows_in}
use Rattle.source_tables.proofs.Adding.{pushed, cells_fail, keys_fail, indexes_before, row_added, read_more, written_back, same_keys}
use Rattle.source_tables.proofs.loading.put_row.Goals as goal

pub returns-in_err-push_cells-clause-fault : goal.returns-in_err-push_cells-clause-fault
returns-in_err-push_cells-clause-fault c =
    let p = err_from_is_err_and c.from_residual.result c.from_residual.ensures.1 in
    rw (p.1, p.2) (cells_fail c.args.decl.now (fields_of c.args.header.now) c.args.places.now (rows_in c.args.decl.now c.args.rows.now.count c.args.rows.now.cells) (c.args.rows.now.count + 1) (fields_of c.args.fields.now) _ c.requires.places c.in_err-push_cells.ensures.fault)

pub number_keys-requires-clause-indexes : goal.number_keys-requires-clause-indexes
number_keys-requires-clause-indexes c =
    let push = pushed c.args.decl.now (fields_of c.args.header.now) c.args.places.now (c.args.rows.now.count + 1) (fields_of c.args.fields.now) c.args.rows.now.cells c.push_cells.new.cells c.requires.places c.in_ok-push_cells.ensures.put c.in_ok-push_cells.ensures.long in
    c.as_mut_slice.ensures.value
    ∙ indexes_before c.args.decl.now (fields_of c.args.header.now) c.args.rows.now.count (fields_of c.args.fields.now) c.args.rows.now.cells c.push_cells.new.cells c.args.rows.now.indexes.items push c.requires.read
    ∙ ap (λ (w : ℕ). map (λ (key : List ColId). key_texts key (cut_rows c.args.rows.now.count w c.push_cells.new.cells.cells)) c.args.decl.now.keys) (sym c.len.ensures)
    ∙ ap (λ (keys : List (List ColId)). map (λ (key : List ColId). key_texts key (cut_rows c.args.rows.now.count c.len.result c.push_cells.new.cells.cells)) keys) (sym c.items.ensures)

pub returns-in_err-number_keys-clause-fault : goal.returns-in_err-number_keys-clause-fault
returns-in_err-number_keys-clause-fault c =
    let p = err_from_is_err_and c.from_residual-in_err-number_keys.result c.from_residual-in_err-number_keys.ensures.1 in
    let push = pushed c.args.decl.now (fields_of c.args.header.now) c.args.places.now (c.args.rows.now.count + 1) (fields_of c.args.fields.now) c.args.rows.now.cells c.push_cells.new.cells c.requires.places c.in_ok-push_cells.ensures.put c.in_ok-push_cells.ensures.long in
    let due : Fails c.in_err-number_keys.field-0.0 (check_keys (rows_in c.args.decl.now c.args.rows.now.count c.push_cells.new.cells) (c.args.rows.now.count + 1) (row_at (length c.args.decl.now.columns) c.args.rows.now.count c.push_cells.new.cells.cells) c.args.decl.now.keys) =
    rw (c.len.ensures, c.items.ensures) at c.in_err-number_keys.ensures.fault in
    rw (p.1, p.2) (keys_fail c.args.decl.now (fields_of c.args.header.now) c.args.rows.now.count (fields_of c.args.fields.now) c.args.rows.now.cells c.push_cells.new.cells c.args.rows.now.indexes.items _ push c.requires.read due)

pub returns-clause-read : goal.returns-clause-read
returns-clause-read c =
    let push = pushed c.args.decl.now (fields_of c.args.header.now) c.args.places.now (c.args.rows.now.count + 1) (fields_of c.args.fields.now) c.args.rows.now.cells c.push_cells.new.cells c.requires.places c.in_ok-push_cells.ensures.put c.in_ok-push_cells.ensures.long in
    let after : c.number_keys.new.indexes ≡ map (λ (key : List ColId). key_texts key (rows_in c.args.decl.now c.args.rows.now.count c.push_cells.new.cells ++ (row_at (length c.args.decl.now.columns) c.args.rows.now.count c.push_cells.new.cells.cells ∷ []))) c.args.decl.now.keys =
    rw (c.len.ensures, c.items.ensures) at c.in_ok-number_keys.ensures.indexes in
    let right : check_keys (rows_in c.args.decl.now c.args.rows.now.count c.push_cells.new.cells) (c.args.rows.now.count + 1) (row_at (length c.args.decl.now.columns) c.args.rows.now.count c.push_cells.new.cells.cells) c.args.decl.now.keys ≡ Ok (row_at (length c.args.decl.now.columns) c.args.rows.now.count c.push_cells.new.cells.cells) =
    rw (c.len.ensures, c.items.ensures) at c.in_ok-number_keys.ensures.right in
    let long = same_keys c.args.decl.now c.args.rows.now.count c.args.rows.now.cells c.args.rows.now.indexes.items c.number_keys.new.indexes _ c.requires.read after in
    let items = written_back c.args.rows.now.indexes.items c.number_keys.new.indexes c.args.rows.now.indexes.len c.args.rows.now.indexes.ok.0 long in
    subst (λ (indexes : List (List (List ℕ))). AreRead c.args.decl.now (c.args.rows.now.count + 1) c.push_cells.new.cells indexes) (sym items)
    (read_more c.args.decl.now (fields_of c.args.header.now) c.args.rows.now.count (fields_of c.args.fields.now) c.args.rows.now.cells c.push_cells.new.cells c.args.rows.now.indexes.items c.number_keys.new.indexes push c.requires.read c.requires.room right after)

pub returns-clause-added : goal.returns-clause-added
returns-clause-added c =
    let push = pushed c.args.decl.now (fields_of c.args.header.now) c.args.places.now (c.args.rows.now.count + 1) (fields_of c.args.fields.now) c.args.rows.now.cells c.push_cells.new.cells c.requires.places c.in_ok-push_cells.ensures.put c.in_ok-push_cells.ensures.long in
    let right : check_keys (rows_in c.args.decl.now c.args.rows.now.count c.push_cells.new.cells) (c.args.rows.now.count + 1) (row_at (length c.args.decl.now.columns) c.args.rows.now.count c.push_cells.new.cells.cells) c.args.decl.now.keys ≡ Ok (row_at (length c.args.decl.now.columns) c.args.rows.now.count c.push_cells.new.cells.cells) =
    rw (c.len.ensures, c.items.ensures) at c.in_ok-number_keys.ensures.right in
    row_added c.args.decl.now (fields_of c.args.header.now) c.args.rows.now.count (fields_of c.args.fields.now) c.args.rows.now.cells c.push_cells.new.cells c.args.rows.now.indexes.items push c.requires.read right
