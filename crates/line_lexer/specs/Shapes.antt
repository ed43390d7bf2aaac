-- Which texts are tokens, by the table of shapes. A text is its bytes in UTF-8.
use Rattle.std.specs.Prelude.{◌≡◌, ◌≤◌, ◌==◌, ◌&&◌, ◌||◌, not, ℕ, ◌+◌, ◌-◌, ◌*◌, Bool, true, false, List, [], ◌∷◌, ◌++◌, Option, Some, None, nat_le, codes, length, take, drop}
use Rattle.std.specs.List.{list_any, list_all}
use Rattle.std.specs.Str.{chars, bytes_eq}
use Rattle.std.specs.Char.{is_control}
use Rattle.line_lexer.specs.declared.shape.Shape.{Shape}
use Rattle.line_lexer.specs.declared.shape.Shape.TheVariants.{Word, Quoted, Number, Sign}

-- an ASCII digit
abbrev pub is_digit : ℕ → Bool
is_digit b = nat_le 48 b && nat_le b 57

-- an ASCII letter or `_`: what a word begins with
abbrev pub begins_word : ℕ → Bool
begins_word b = (nat_le 65 b && nat_le b 90) || (nat_le 97 b && nat_le b 122) || (b == 95)

-- an ASCII letter, a digit or `_`: what a word goes on with
abbrev pub is_in_word : ℕ → Bool
is_in_word b = begins_word b || is_digit b

-- a letter or `_`, then letters, digits and `_`
abbrev pub is_word : List ℕ → Bool
is_word [] = false
is_word (b ∷ rest) = begins_word b && list_all is_in_word rest

-- one or more digits
abbrev pub is_number : List ℕ → Bool
is_number [] = false
is_number (b ∷ rest) = is_digit b && list_all is_digit rest

-- a byte that is no quote
abbrev pub is_unquoted : ℕ → Bool
is_unquoted b = not (b == 34)

-- no byte of the text is a quote, and no character a control character (0 to 1F and 7F to 9F, hexadecimal)
abbrev pub is_plain : List ℕ → Bool
is_plain text = list_all is_unquoted text && not (list_any is_control (chars text))

-- a text less its first and its last byte
abbrev pub inside : List ℕ → List ℕ
inside text = take (length text - 2) (drop 1 text)

-- a text between two quotes
abbrev pub in_quotes : List ℕ → List ℕ
in_quotes text = 34 ∷ (text ++ (34 ∷ []))

-- a plain text between two quotes
abbrev pub is_quoted : List ℕ → Bool
is_quoted text = bytes_eq text (in_quotes (inside text)) && is_plain (inside text)

-- the nine signs
abbrev pub signs : List (List ℕ)
signs = codes "(" ∷ codes ")" ∷ codes "," ∷ codes "." ∷ codes "=" ∷ codes "<>" ∷ codes "->" ∷ codes ".." ∷ codes "*" ∷ []

-- one of the signs
abbrev pub is_sign : List ℕ → Bool
is_sign text = list_any (bytes_eq text) signs

-- the text is a token of the shape
abbrev pub is_token : Shape → List ℕ → Bool
is_token Word text = is_word text
is_token Quoted text = is_quoted text
is_token Number text = is_number text
is_token Sign text = is_sign text

-- the first n bytes of a text are a token of the shape
abbrev pub IsFront : List ℕ → Shape → ℕ → Type 0
IsFront text shape n = (n ≤ length text) × (is_token shape (take n text) ≡ true)

-- the longest front of a text that is a token: its shape and length, or None where no front is one
abbrev pub IsLongestFront : List ℕ → Option (Shape × ℕ) → Type 0
IsLongestFront text None = (shape : Shape) (n : ℕ) → ¬ (IsFront text shape n)
IsLongestFront text (Some (shape, n)) = IsFront text shape n
    × ((other : Shape) (m : ℕ) → IsFront text other m → (other ≡ shape) × (m ≤ n))

-- the number that digits write when they follow those of n
abbrev pub decimal_after : ℕ → List ℕ → ℕ
decimal_after n [] = n
decimal_after n (d ∷ rest) = decimal_after (10 * n + (d - 48)) rest

-- the number that decimal digits write
abbrev pub decimal : List ℕ → ℕ
decimal digits = decimal_after 0 digits
