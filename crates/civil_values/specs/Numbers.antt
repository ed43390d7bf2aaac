-- Whole numbers of cells.
use Rattle.std.specs.Prelude.{ℕ, Bool, ◌&&◌, nat_lt, if◌then◌else◌, ℤ, pos, neg_ℤ, int_le, List, length, Option, Some, None, option_map}
use Rattle.std.specs.Str.{all_ascii_digits}
use Rattle.std.specs.Str.Parse.{signed_digits_value, without_leading_sign}
use Rattle.std.specs.Fmt.{signed_decimal}

-- an optional sign, and one digit or more
abbrev pub is_integer : List ℕ → Bool
is_integer text = nat_lt 0 (length (without_leading_sign text)) && all_ascii_digits (without_leading_sign text)

-- a number of 64 bits
abbrev pub has_64_bits : ℤ → Bool
has_64_bits n = int_le (neg_ℤ (pos 9_223_372_036_854_775_808)) n && int_le n (pos 9_223_372_036_854_775_807)

-- the number that a text spells
abbrev pub int_value : List ℕ → Option ℤ
int_value text = if is_integer text && has_64_bits (signed_digits_value 10 text) then Some (signed_digits_value 10 text) else None

-- the text of a number: no plus sign, no leading zeros, `0` for zero
abbrev pub int_text : ℤ → List ℕ
int_text n = signed_decimal n

-- the canonical text of a number's text
abbrev pub int_canonical : List ℕ → Option (List ℕ)
int_canonical text = option_map int_text (int_value text)
