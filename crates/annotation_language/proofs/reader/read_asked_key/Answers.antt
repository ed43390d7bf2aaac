-- No rule is broken, and what is known is grown.
use Rattle.std.proofs.Common.{refl}
use Rattle.annotation_language.specs.Written.{Key, Answers}
use Rattle.annotation_language.specs.Lines.{broken, grown}
use Rattle.annotation_language.specs.Shown.{shown_query}
use Rattle.annotation_language.proofs.Growing.{read_is}
use Rattle.annotation_language.proofs.reader.read_asked_key.Goals as goal

pub returns-clause-read : goal.returns-clause-read
unfolding broken grown
returns-clause-read c =
    let side = rw (c.in_ok-resolved.ensures.resolved.places, c.in_ok-resolved.ensures.query) at c.value_side-side.ensures in
    let event = rw c.notes-2.ensures at c.is_event.ensures in
    let key = rw c.notes-3.ensures at c.has_key.ensures in
    let count = rw c.notes.ensures at c.keys_in.ensures.value in
    let objects = rw (c.as_slice.ensures.value) at c.first_alone.ensures in
    let bad = rw side at c.is_bad_key.ensures in
    let sound = rw (c.in_ok-resolved.ensures.query, bad, event, key, count, objects) at c.in_ok-found.ensures.sound in
    read_is c.args.model.now c.args.number c.args.notes.now (Key c.args.event.now c.args.key.now c.args.rule (Answers (shown_query c.args.query.now))) _ sound
    (rw (c.in_ok-add_key.ensures, c.in_ok-new.ensures, c.in_ok-found.ensures.found, side, c.in_ok-resolved.ensures.query) refl)
