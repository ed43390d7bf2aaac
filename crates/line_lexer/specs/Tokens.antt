-- The tokens of a line: behind the blanks the longest front that is a token, again and again, up to the end or a comment.
use Rattle.std.specs.Prelude.{◌≡◌, ◌<◌, ◌≤◌, ◌==◌, ◌&&◌, ◌||◌, not, ℕ, zero, suc, ◌+◌, ◌-◌, Bool, true, List, [], ◌∷◌, Option, Some, None, Result, Ok, Err, if◌then◌else◌, nat_lt, length, take, drop, map, Vec}
use Rattle.std.specs.List.{prefix_len, list_any, slice_range}
use Rattle.std.specs.Str.{chars}
use Rattle.std.specs.Char.{is_control}
use Rattle.std.specs.Global.{Global}
use Rattle.line_lexer.specs.declared.shape.Shape.{Shape}
use Rattle.line_lexer.specs.declared.shape.Shape.TheVariants.{Word, Quoted, Number, Sign}
use Rattle.line_lexer.specs.declared.token.Token.{Token}
use Rattle.line_lexer.specs.declared.token.LexFault.{LexFault}
use Rattle.line_lexer.specs.declared.fault.LineFault.{LineFault}
use Rattle.line_lexer.specs.declared.fault.LineFault.TheVariants.{Syntax, NoMemory}
use Rattle.line_lexer.specs.Cursor.{Cursor, at_end}
use Rattle.line_lexer.specs.Shapes.{is_digit, begins_word, is_in_word, is_unquoted, IsLongestFront}

-- a space or a tab
abbrev pub is_blank : ℕ → Bool
is_blank b = (b == 32) || (b == 9)

-- the length of a quoted text with its quotes, by what follows the first quote; none where it does not end or is not plain
abbrev pub quoted_len : List ℕ → Option ℕ
quoted_len rest =
    let inside = prefix_len is_unquoted rest in
    if nat_lt inside (length rest) && not (list_any is_control (chars (take inside rest))) then Some (inside + 2) else None

-- the length of a sign of two bytes, by its second
abbrev pub pair_len : ℕ → List ℕ → Option ℕ
pair_len second [] = None
pair_len second (c ∷ rest) = if c == second then Some 2 else None

-- `..` or `.`, by what follows the first dot
abbrev pub dots_len : List ℕ → ℕ
dots_len [] = 1
dots_len (c ∷ rest) = if c == 46 then 2 else 1

-- `(`, `)`, `,`, `=` and `*`
abbrev pub is_short_sign : ℕ → Bool
is_short_sign b = (b == 40) || (b == 41) || (b == 44) || (b == 61) || (b == 42)

-- a shape with a length, where there is one
abbrev pub shaped : Shape → Option ℕ → Option (Shape × ℕ)
shaped shape None = None
shaped shape (Some n) = Some (shape, n)

-- the shape and length of the longest front that is a token, by its first byte and what follows
unfoldable pub token_front : ℕ → List ℕ → Option (Shape × ℕ)
token_front b rest =
    if begins_word b then Some (Word, prefix_len is_in_word rest + 1)
    else (if is_digit b then Some (Number, prefix_len is_digit rest + 1)
    else (if b == 34 then shaped Quoted (quoted_len rest)
    else (if is_short_sign b then Some (Sign, 1)
    else (if b == 46 then Some (Sign, dots_len rest)
    else (if (b == 60) || (b == 45) then shaped Sign (pair_len 62 rest)
    else None)))))

-- the shape and length of the longest front of a text that is a token; the law that it is one stands at `Tokens::next` and `tokens_of`
abbrev pub token_at : List ℕ → Option (Shape × ℕ)
token_at [] = None
token_at (b ∷ rest) = token_front b rest

-- the end of the line, or a comment
abbrev pub is_over : List ℕ → Bool
is_over [] = true
is_over (b ∷ rest) = b == 35

-- a text without the blanks at its front
abbrev pub unblanked : List ℕ → List ℕ
unblanked text = drop (prefix_len is_blank text) text

-- what stands first in the rest of a line, behind so many blanks: nothing more, no token, or a token of a shape and length
pub data First : Type 0 where
  Over : First
  Bad : ℕ → First
  At : ℕ → Shape → ℕ → First

-- a token behind so many blanks, or none
abbrev pub behind : ℕ → Option (Shape × ℕ) → First
behind blanks None = Bad blanks
behind blanks (Some (shape, n)) = At blanks shape n

-- what stands first in a text, which so many blanks precede
abbrev pub first_behind : ℕ → List ℕ → First
first_behind blanks text = if is_over text then Over else behind blanks (token_at text)

-- what stands first in the rest of a line
unfoldable pub first_of : List ℕ → First
first_of text = first_behind (prefix_len is_blank text) (unblanked text)

-- what `next` answers where so much stands first, and where it leaves the line
abbrev pub IsNext : First → Cursor → Cursor → Option (Result Token LexFault) → Type 0
IsNext Over old new None = new ≡ at_end old
IsNext (Bad blanks) old new (Some (Err fault)) = (fault.place ≡ old.place + blanks) × (new ≡ at_end old)
IsNext (At blanks shape n) old new (Some (Ok token)) = (token.shape ≡ shape)
    × (token.start ≡ old.place + blanks)
    × (token.end ≡ token.start + n)
    × (token.text.now ≡ slice_range old.line token.start token.end)
    × (new ≡ record { line = old.line; place = token.end })
IsNext first old new result = ⊥

-- a token is the longest front of the rest that is one; at a fault no front of the rest is a token
abbrev pub IsLongestNext : List ℕ → Option (Result Token LexFault) → Type 0
IsLongestNext rest None = Unit {0}
IsLongestNext rest (Some (Err fault)) = IsLongestFront rest None
IsLongestNext rest (Some (Ok token)) = IsLongestFront rest (Some (token.shape, length token.text.now))

-- a token is not empty and begins no earlier than the place up to which was read, nor does a fault
abbrev pub IsInOrder : ℕ → Option (Result Token LexFault) → Type 0
IsInOrder place None = Unit {0}
IsInOrder place (Some (Err fault)) = place ≤ fault.place
IsInOrder place (Some (Ok token)) = (place ≤ token.start) × (token.start < token.end)

-- a token without its place
pub record Seen : Type 0 where
  pub shape : Shape
  pub text : List ℕ

-- what the grammar sees of a token
abbrev pub seen : Token → Seen
seen token = record { shape = token.shape; text = token.text.now }

-- one token more at the front, where the others are there
abbrev pub in_front : Seen → Option (List Seen) → Option (List Seen)
in_front t None = None
in_front t (Some ts) = Some (t ∷ ts)

-- a token at the front and those behind it, of which `onward` tells once it knows how many bytes still belong to this one
abbrev pub begun : ℕ → List ℕ → (ℕ → Option (List Seen)) → Option (Shape × ℕ) → Option (List Seen)
begun b rest onward None = None
begun b rest onward (Some (shape, n)) = in_front (record { shape = shape; text = take n (b ∷ rest) }) (onward (n - 1))

-- the tokens behind so many bytes that belong to the token before; None where no token begins at some place
unfoldable pub tokens_behind : List ℕ → ℕ → Option (List Seen)
tokens_behind [] skip = Some []
tokens_behind (b ∷ rest) (suc skip) = tokens_behind rest skip
tokens_behind (b ∷ rest) zero =
    if is_blank b then tokens_behind rest 0
    else (if b == 35 then Some []
    else begun b rest (λ skip. tokens_behind rest skip) (token_front b rest))

-- all tokens of a line, or None where no token begins at some place
abbrev pub tokens_of : List ℕ → Option (List Seen)
tokens_of line = tokens_behind line 0

-- these tokens, or Syntax where there are none
abbrev pub ReadsTokens : Result (Vec Token Global) LineFault → Option (List Seen) → Type 0
ReadsTokens (Ok tokens) (Some ts) = map seen tokens.items ≡ ts
ReadsTokens (Ok tokens) None = ⊥
ReadsTokens (Err Syntax) ts = ts ≡ None
ReadsTokens (Err NoMemory) ts = Unit {0}
ReadsTokens (Err _) ts = ⊥

-- where there are tokens, this one is the first
abbrev pub Begins : Seen → Option (List Seen) → Type 0
Begins t None = Unit {0}
Begins t (Some ts) = (rest : List Seen) × (ts ≡ t ∷ rest)

-- what is told of the front of a line: no token, this one first, or that none begins there
abbrev pub TellsFirst : Result (Option Token) LexFault → Option (List Seen) → Type 0
TellsFirst (Ok None) ts = ts ≡ Some []
TellsFirst (Ok (Some token)) ts = Begins (seen token) ts
TellsFirst (Err fault) ts = ts ≡ None

-- tokens stand in the line one after the other from a place to another, each of them the slice at its span
abbrev pub AreSpans : List ℕ → ℕ → List Token → ℕ → Type 0
AreSpans line from [] to = from ≤ to
AreSpans line from (t ∷ ts) to = (from ≤ t.start) × (t.start < t.end)
    × (t.text.now ≡ slice_range line t.start t.end) × AreSpans line t.end ts to
