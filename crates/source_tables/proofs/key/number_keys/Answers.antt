use Rattle.std.proofs.Common.{◌≡◌, ◌∙◌, sym, ap, ◌+◌, List, get_or}
use Rattle.vocabulary.specs.declared.ids.ColId.{ColId}
use Rattle.source_tables.specs.Loading.{row_at}
use Rattle.source_tables.specs.Tables.{cut_rows}
use Rattle.source_tables.proofs.KeyRows.{numbered_more}
use Rattle.source_tables.proofs.key.number_keys.Goals as goal

pub loop-number-preserved : goal.loop-number-preserved
loop-number-preserved c =
    let is : c.items.result.now ≡ get_or c.args.keys.now c.loop-number.number c.items.result.now =
    c.items.ensures ∙ c.index-keys-number.is ∙ ap (λ (d : List ColId). get_or c.args.keys.now c.loop-number.number d) (sym c.items.ensures) in
    numbered_more c.args.keys.now (cut_rows c.args.row c.args.width c.args.cells.now.cells) (c.args.row + 1) (row_at c.args.width c.args.row c.args.cells.now.cells) c.loop-number.number c.loop-number.indexes c.items.result.now c.number_key.new.index
    c.loop-number.invariant c.loop-number-test.true is c.in_ok-number_key.ensures.right c.in_ok-number_key.ensures.index
