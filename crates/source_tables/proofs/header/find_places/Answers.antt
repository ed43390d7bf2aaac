use Rattle.std.proofs.Common.{◌≡◌, ◌∙◌, sym, ap, length, get_or, arith, true, List}
use Rattle.std.specs.List.{list_all}
use Rattle.std.specs.Str.{is_utf8}
use Rattle.csv.specs.Records.{fields_of}
use Rattle.source_tables.specs.declared.decl.ColumnDecl.{ColumnDecl}
use Rattle.source_tables.proofs.Heads.{no_place, column_missing, header_right}
use Rattle.source_tables.proofs.header.find_places.Goals as goal

pub returns-then-count_of-ne1-clause-fault : goal.returns-then-count_of-ne1-clause-fault
returns-then-count_of-ne1-clause-fault c =
    let utf8 : list_all is_utf8 (fields_of c.args.header.now) ≡ true = sym c.is_all_text.ensures ∙ c.if-not-is_all_text.false in
    let is : get_or c.args.decl.now.columns c.loop-number.number c.column-item.result ≡ c.column-item.result =
    sym (c.column-item.is ∙ ap (λ (columns : List ColumnDecl). get_or columns c.loop-number.number c.column-item.result) c.items-column-items.ensures) in
    λ _. column_missing c.args.decl.now _ c.loop-number.number c.column-item.result utf8 (omega (arith, ap length c.items-column-items.ensures)) c.loop-number.invariant.1 is
    (no_place (fields_of c.args.header.now) c.column-item.result _ _ c.text.ensures c.count_of.ensures c.if-count_of-ne1.true)

pub returns-clause-right : goal.returns-clause-right
returns-clause-right c =
    let utf8 : list_all is_utf8 (fields_of c.args.header.now) ≡ true = sym c.is_all_text.ensures ∙ c.if-not-is_all_text.false in
    header_right c.args.decl.now _ c.loop-number.number utf8 (omega (arith, ap length c.items-column-items.ensures)) c.loop-number.invariant.1
