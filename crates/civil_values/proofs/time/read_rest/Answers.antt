use Rattle.std.proofs.Common.{◌∙◌, sym, w32}
use Rattle.std.proofs.lemmas.Int.{to_z-of_z}
use Rattle.civil_values.proofs.Moments.{after_by}
use Rattle.civil_values.proofs.time.read_rest.Goals as goal

pub returns-clause-value : goal.returns-clause-value
returns-clause-value c =
    let given = to_z-of_z w32 c.args.given c.ranges.given in
    let read = rw given at c.read_placed.ensures.value in
    read ∙ sym (after_by c.args.given c.args.text.now c.in-len1-up.len_at_least (sym c.if-not-is_mark_byte.ensures))
