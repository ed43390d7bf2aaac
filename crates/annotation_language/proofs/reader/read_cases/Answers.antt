-- No rule is broken, and what is known is grown.
use Rattle.std.proofs.Common.{refl}
use Rattle.annotation_language.specs.Written.{Cases}
use Rattle.annotation_language.specs.Lines.{broken, grown}
use Rattle.annotation_language.specs.Shown.{shown_query}
use Rattle.annotation_language.proofs.Growing.{read_is}
use Rattle.annotation_language.proofs.reader.read_cases.Goals as goal

pub returns-clause-read : goal.returns-clause-read
unfolding broken grown
returns-clause-read c =
    let sound = rw (c.in_ok-resolved.ensures.query, c.is_event.ensures, c.has_cases.ensures, c.notes.ensures, c.notes-2.ensures, c.as_slice.ensures.value) at c.in_ok-cases.ensures.sound in
    read_is c.args.model.now c.args.number c.args.notes.now (Cases c.args.event.now (shown_query c.args.query.now)) _ sound (rw (c.in_ok-add_cases.ensures, c.in_ok-cases.ensures.found, c.in_ok-resolved.ensures.query) refl)
