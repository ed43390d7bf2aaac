use Rattle.std.proofs.Common.{◌∙◌, ap, map, length}
use Rattle.std.proofs.lemmas.Result.{IfOk-weaker}
use Rattle.table_renumbering.specs.Renumbering.{picked}
use Rattle.join_engine.proofs.Gaining.{heads_back, numbered, reordered_by}
use Rattle.join_engine.proofs.heading.heads_reordered.Goals as goal

pub renumber-requires-clause-numbers : goal.renumber-requires-clause-numbers
renumber-requires-clause-numbers c =
    numbered c.args.query.now c.as_slice.result.now c.as_slice-places.result.now
    (reordered_by (length c.args.query.now.query.tables) c.args.numbering.now.order.items c.args.numbering.now.places.items c.as_slice.result.now c.as_slice-places.result.now c.requires.numbering c.as_slice.ensures.value c.as_slice-places.ensures.value)

pub returns-clause-heads : goal.returns-clause-heads
returns-clause-heads c =
    let is = reordered_by (length c.args.query.now.query.tables) c.args.numbering.now.order.items c.args.numbering.now.places.items c.as_slice.result.now c.as_slice-places.result.now c.requires.numbering c.as_slice.ensures.value c.as_slice-places.ensures.value in
    IfOk-weaker c.put_back.result _ _
    (λ given same. heads_back c.args.tables.now c.args.query.now c.in_ok-moved.moved c.as_slice.result.now c.as_slice-places.result.now c.in_ok-tuples.tuples given is c.in_ok-moved.ensures.back c.in_ok-moved.ensures.forth c.in_ok-tuples.ensures.heads
    (same ∙ ap (map (picked c.as_slice-places.result.now)) c.items.ensures))
    c.put_back.ensures
