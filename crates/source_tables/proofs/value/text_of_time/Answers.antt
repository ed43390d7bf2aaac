use Rattle.std.proofs.Common.{◌∙◌, sym, ap, Some, List, ℕ, ℤ, w32}
use Rattle.std.proofs.lemmas.Int.{to_z-of_z}
use Rattle.civil_values.specs.TimeReader.{time_canonical}
use Rattle.source_tables.proofs.value.text_of_time.Goals as goal

pub returns : goal.returns
returns c =
    let back = to_z-of_z w32 c.args.offset c.ranges.offset in
    ap (λ (t : List ℕ). Some t) c.ascii_text.ensures
    ∙ sym (c.in_ok-at.ensures.canonical _ c.write_time.ensures.text)
    ∙ ap (λ (o : ℤ). time_canonical o c.args.text.now) back
