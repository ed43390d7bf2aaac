-- No rule is broken, and what is known is grown.
use Rattle.std.proofs.Common.{refl}
use Rattle.annotation_language.specs.Written.{Event}
use Rattle.annotation_language.specs.Lines.{broken, grown}
use Rattle.annotation_language.specs.Shown.{shown_query}
use Rattle.annotation_language.proofs.Growing.{read_is}
use Rattle.annotation_language.proofs.reader.read_event.Goals as goal

pub returns-clause-read : goal.returns-clause-read
unfolding broken grown
returns-clause-read c =
    let sound = rw (c.in_ok-resolved.ensures.query, c.is_taken.ensures, c.notes-2.ensures, c.events.ensures, c.notes.ensures, c.as_slice.ensures.value) at c.in_ok-objects.ensures.sound in
    read_is c.args.model.now c.args.number c.args.notes.now (Event c.args.event.now (shown_query c.args.query.now)) _ sound (rw (c.in_ok-add_event.ensures, c.in_ok-name.ensures, c.in_ok-objects.ensures.found, c.in_ok-variables.ensures, c.new-4.ensures, c.as_slice-2.ensures.value, c.in_ok-resolved.ensures.resolved.variables, c.in_ok-resolved.ensures.query) refl)
