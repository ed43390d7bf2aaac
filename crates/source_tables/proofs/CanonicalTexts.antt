-- Canonical texts of any kind.
use Rattle.std.proofs.Common.{◌≡◌, ℕ, ℤ, List, Option, Some, true}
use Rattle.jiff_core.specs.Calendar.{IsWithin}
use Rattle.vocabulary.specs.declared.ids.ValueKind.{ValueKind}
use Rattle.vocabulary.specs.declared.ids.ValueKind.TheVariants.{Text, Int, Bool as BoolKind, Time}
use Rattle.civil_values.specs.Texts.{is_cell_text, text_canonical}
use Rattle.civil_values.specs.Numbers.{int_canonical}
use Rattle.civil_values.specs.Truth.{bool_canonical}
use Rattle.civil_values.specs.TimeReader.{time_canonical}
use Rattle.source_tables.specs.Cells.{canonical}

-- what a way of writing gives is a cell text
abbrev WritesCells : (List ℕ → Option (List ℕ)) → Type 0
WritesCells write = (text written : List ℕ) → write text ≡ Some written → is_cell_text written ≡ true

pub each_kind : ((given : ℤ) (text written : List ℕ) → IsWithin 840 given → time_canonical given text ≡ Some written → is_cell_text written ≡ true)
    → WritesCells int_canonical → WritesCells bool_canonical → WritesCells text_canonical
    → (offset : ℤ) (kind : ValueKind) (text written : List ℕ) → IsWithin 840 offset → canonical offset kind text ≡ Some written → is_cell_text written ≡ true
each_kind of_time of_int of_bool of_text offset Text text written within is = of_text text written is
each_kind of_time of_int of_bool of_text offset Int text written within is = of_int text written is
each_kind of_time of_int of_bool of_text offset BoolKind text written within is = of_bool text written is
each_kind of_time of_int of_bool of_text offset Time text written within is = of_time offset text written within is
