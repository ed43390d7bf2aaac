use Rattle.std.proofs.Common.{◌≡◌, ◌∙◌, ap, ◌++◌, ◌∷◌, [], List, ℕ, string_bytes, lit<}
use Rattle.std.proofs.lemmas.Str.{encode_ascii}
use Rattle.source_tables.specs.Loading.{row_at}
use Rattle.source_tables.proofs.KeyRows.{one_cell, null_there}
use Rattle.source_tables.proofs.key.write_key.Goals as goal

pub returns-in-None : goal.returns-in-None
returns-in-None c = null_there c.args.key.now (row_at c.args.width c.args.row c.args.cells.now.cells) c.loop-col.col-index _ _ c.loop-col-test.true c.in-None.ensures

pub loop-col-preserved : goal.loop-col-preserved
loop-col-preserved c =
    let text : string_bytes c.push.new.self ≡ (string_bytes c.loop-col.text ++ c.in-Some.cell.now) ++ (0 ∷ []) =
    c.in_ok-push.ensures.bytes ∙ ap (λ (e : List ℕ). string_bytes c.push_str.new.self ++ e) (encode_ascii 0 (lit< tt)) ∙ ap (λ (t : List ℕ). t ++ (0 ∷ [])) c.in_ok-push_str-in-Some.ensures.bytes in
    one_cell c.args.key.now (row_at c.args.width c.args.row c.args.cells.now.cells) c.loop-col.col-index _ _ c.in-Some.cell.now _ c.loop-col-test.true c.in-Some.ensures text c.loop-col.invariant
