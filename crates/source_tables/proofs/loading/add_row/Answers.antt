use Rattle.std.proofs.Common.{◌≡◌, ◌<◌, ◌∙◌, sym, subst, length, arith}
use Rattle.std.specs.Result.{IfErr, OnOk}
use Rattle.csv.specs.Records.{fields_of}
use Rattle.source_tables.specs.Cells.{Row}
use Rattle.source_tables.specs.Tables.{OrFault}
use Rattle.source_tables.specs.Loading.{AddsRow, Fails, rows_in}
use Rattle.source_tables.proofs.Adding.{too_many, wrong_width, no_text, row_is}
use Rattle.source_tables.proofs.loading.add_row.Goals as goal

pub returns-then-rows-eq-ROWS-clause-fault : goal.returns-then-rows-eq-ROWS-clause-fault
returns-then-rows-eq-ROWS-clause-fault c = λ _.
    too_many c.args.decl.now (fields_of c.args.header.now) c.args.rows.now.count c.args.rows.now.cells (fields_of c.args.fields.now) c.if-rows-eq-ROWS.true

pub returns-then-len-clause-fault : goal.returns-then-len-clause-fault
returns-then-len-clause-fault c = λ _.
    let room : c.args.rows.now.count < 1_000_000 = omega (arith, c.requires.read.most, c.if-rows-eq-ROWS.false) in
    wrong_width c.args.decl.now (fields_of c.args.header.now) c.args.rows.now.count c.args.rows.now.cells (fields_of c.args.fields.now) room (λ e. c.if-len.true (c.len.ensures ∙ e ∙ sym c.len-2.ensures))

pub returns-then-not-is_all_text-clause-fault : goal.returns-then-not-is_all_text-clause-fault
returns-then-not-is_all_text-clause-fault c = λ _.
    let room : c.args.rows.now.count < 1_000_000 = omega (arith, c.requires.read.most, c.if-rows-eq-ROWS.false) in
    let same : length (fields_of c.args.fields.now) ≡ length (fields_of c.args.header.now) = sym c.len.ensures ∙ c.if-len.false ∙ c.len-2.ensures in
    no_text c.args.decl.now (fields_of c.args.header.now) c.args.rows.now.count c.args.rows.now.cells (fields_of c.args.fields.now) room same (sym c.is_all_text.ensures ∙ c.if-not-is_all_text.true)

pub returns-clause-added : goal.returns-clause-added
returns-clause-added c =
    let room : c.args.rows.now.count < 1_000_000 = omega (arith, c.requires.read.most, c.if-rows-eq-ROWS.false) in
    let same : length (fields_of c.args.fields.now) ≡ length (fields_of c.args.header.now) = sym c.len.ensures ∙ c.if-len.false ∙ c.len-2.ensures in
    let is = row_is c.args.decl.now (fields_of c.args.header.now) c.args.rows.now.count c.args.rows.now.cells (fields_of c.args.fields.now) room same (sym c.is_all_text.ensures ∙ c.if-not-is_all_text.false) in
    subst (λ (read : OrFault Row). OnOk c.put_row.result (AddsRow read (rows_in c.args.decl.now c.args.rows.now.count c.args.rows.now.cells) (rows_in c.args.decl.now c.put_row.new.rows.count c.put_row.new.rows.cells))) (sym is) c.put_row.ensures.added

pub returns-clause-fault : goal.returns-clause-fault
returns-clause-fault c =
    let room : c.args.rows.now.count < 1_000_000 = omega (arith, c.requires.read.most, c.if-rows-eq-ROWS.false) in
    let same : length (fields_of c.args.fields.now) ≡ length (fields_of c.args.header.now) = sym c.len.ensures ∙ c.if-len.false ∙ c.len-2.ensures in
    let is = row_is c.args.decl.now (fields_of c.args.header.now) c.args.rows.now.count c.args.rows.now.cells (fields_of c.args.fields.now) room same (sym c.is_all_text.ensures ∙ c.if-not-is_all_text.false) in
    subst (λ (read : OrFault Row). IfErr c.put_row.result (λ e. Fails e read)) (sym is) c.put_row.ensures.fault
