-- Pieces of the grammar of lines, over tokens. Each answers what it read and the tokens behind it, or None.
use Rattle.std.specs.Prelude.{◌&&◌, not, ℕ, ◌^◌, Bool, true, false, List, [], ◌∷◌, Option, Some, None, if◌then◌else◌, nat_lt, codes, option_and_then}
use Rattle.std.specs.List.{list_any}
use Rattle.std.specs.Str.{bytes_eq}
use Rattle.line_lexer.specs.declared.shape.Shape.{Shape}
use Rattle.line_lexer.specs.declared.shape.Shape.TheVariants.{Word, Quoted, Number, Sign}
use Rattle.line_lexer.specs.Shapes.{inside, decimal, is_word}
use Rattle.line_lexer.specs.Tokens.{Seen}

-- one reader behind another
infixl 10 ◌>>=◌
abbrev pub ◌>>=◌ : {A B : Type 0} → Option A → (A → Option B) → Option B
o >>= f = option_and_then f o

-- what f makes of the first, or the other where it is not there
abbrev pub either : {A B : Type 0} → Option A → (A → B) → B → B
either None f other = other
either (Some x) f other = f x

-- the three shapes that the pieces ask for
abbrev pub is_word_shape : Shape → Bool
is_word_shape Word = true
is_word_shape Quoted = false
is_word_shape Number = false
is_word_shape Sign = false

abbrev pub is_quoted_shape : Shape → Bool
is_quoted_shape Word = false
is_quoted_shape Quoted = true
is_quoted_shape Number = false
is_quoted_shape Sign = false

abbrev pub is_number_shape : Shape → Bool
is_number_shape Word = false
is_number_shape Quoted = false
is_number_shape Number = true
is_number_shape Sign = false

-- the text stands first, and is not quoted
abbrev pub expect : List ℕ → List Seen → Option (List Seen)
expect text [] = None
expect text (t ∷ ts) = if not (is_quoted_shape t.shape) && bytes_eq t.text text then Some ts else None

-- a word
abbrev pub any_word : List Seen → Option (List ℕ × List Seen)
any_word [] = None
any_word (t ∷ ts) = if is_word_shape t.shape then Some (t.text, ts) else None

-- the words that are no names
abbrev pub reserved : List (List ℕ)
reserved = codes "from" ∷ codes "where" ∷ codes "then" ∷ codes "and" ∷ codes "is" ∷ codes "not" ∷ codes "null" ∷ codes "iri" ∷ codes "offset" ∷ codes "header" ∷ codes "_" ∷ []

-- one of them
abbrev pub is_reserved : List ℕ → Bool
is_reserved text = list_any (bytes_eq text) reserved

-- the text is a word that is not reserved
abbrev pub is_name : List ℕ → Bool
is_name text = is_word text && not (is_reserved text)

-- a word that is not reserved
abbrev pub name : List Seen → Option (List ℕ × List Seen)
name [] = None
name (t ∷ ts) = if is_word_shape t.shape && not (is_reserved t.text) then Some (t.text, ts) else None

-- a quoted text, without its quotes
abbrev pub any_quoted : List Seen → Option (List ℕ × List Seen)
any_quoted [] = None
any_quoted (t ∷ ts) = if is_quoted_shape t.shape then Some (inside t.text, ts) else None

-- a number that 64 bits hold
abbrev pub any_number : List Seen → Option (ℕ × List Seen)
any_number [] = None
any_number (t ∷ ts) = if is_number_shape t.shape && nat_lt (decimal t.text) (2 ^ 64) then Some (decimal t.text, ts) else None

-- no token is left
abbrev pub ended : List Seen → Bool
ended [] = true
ended (t ∷ ts) = false
