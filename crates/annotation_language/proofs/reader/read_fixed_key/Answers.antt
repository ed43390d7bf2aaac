-- No rule is broken, and what is known is grown.
use Rattle.std.proofs.Common.{refl, sym}
use Rattle.annotation_language.specs.Written.{Key, Is}
use Rattle.annotation_language.specs.Lines.{broken, grown}
use Rattle.annotation_language.proofs.Growing.{read_is}
use Rattle.annotation_language.proofs.reader.read_fixed_key.Goals as goal

pub returns-clause-read : goal.returns-clause-read
unfolding broken grown
returns-clause-read c =
    let sound = rw (c.is_event.ensures, c.has_key.ensures, c.in_ok-is_value.ensures, c.is_bad_key.ensures, c.keys_in.ensures.value, c.notes.ensures, c.notes-2.ensures, c.notes-3.ensures) at c.in_default.ensures in
    read_is c.args.model.now c.args.number c.args.notes.now (Key c.args.event.now c.args.key.now c.args.rule (Is c.args.kind c.args.text.now)) _ (sym sound) (rw (c.in_ok-add_key.ensures, c.in_ok-new.ensures, c.in_ok-value.ensures) refl)
