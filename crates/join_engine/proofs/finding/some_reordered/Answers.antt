use Rattle.std.proofs.Common.{◌∙◌, ap, length}
use Rattle.table_renumbering.specs.Renumbering.{picked}
use Rattle.join_engine.proofs.Gaining.{none_back, numbered, reordered_by, some_back}
use Rattle.join_engine.proofs.finding.some_reordered.Goals as goal

pub renumber-requires-clause-numbers : goal.renumber-requires-clause-numbers
renumber-requires-clause-numbers c =
    numbered c.args.query.now c.as_slice.result.now c.as_slice-places.result.now
    (reordered_by (length c.args.query.now.query.tables) c.args.numbering.now.order.items c.args.numbering.now.places.items c.as_slice.result.now c.as_slice-places.result.now c.requires.numbering c.as_slice.ensures.value c.as_slice-places.ensures.value)

pub returns-in-Some-clause-found : goal.returns-in-Some-clause-found
returns-in-Some-clause-found c =
    let is = rw c.in-Some.is at c.in_ok-tuple.ensures.found in
    some_back c.args.tables.now c.args.query.now c.in_ok-moved.moved c.as_slice-places.result.now c.in-Some.tuple _ c.in_ok-moved.ensures.back is (c.in_ok-pick-in-Some.ensures ∙ ap (picked c.as_slice-places.result.now) c.items.ensures)

pub returns-clause-found : goal.returns-clause-found
returns-clause-found c =
    let is = reordered_by (length c.args.query.now.query.tables) c.args.numbering.now.order.items c.args.numbering.now.places.items c.as_slice.result.now c.as_slice-places.result.now c.requires.numbering c.as_slice.ensures.value c.as_slice-places.ensures.value in
    none_back c.args.tables.now c.args.query.now c.in_ok-moved.moved c.as_slice.result.now c.as_slice-places.result.now is c.in_ok-moved.ensures.forth (rw c.in-None.is at c.in_ok-tuple.ensures.found)
