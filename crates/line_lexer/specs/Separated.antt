-- Items with a text between each two.
use Rattle.std.specs.Prelude.{ℕ, zero, suc, List, [], ◌∷◌, Option, Some, None, length}
use Rattle.line_lexer.specs.Tokens.{Seen}
use Rattle.line_lexer.specs.Grammar.{◌>>=◌, either, expect}

-- one item before the others, where they are there
abbrev pub in_front : {A : Type 0} → A → Option (List A × List Seen) → Option (List A × List Seen)
in_front x None = None
in_front x (Some (xs, rest)) = Some (x ∷ xs, rest)

-- from one to so many items with this text between each two; an item takes a token at least, so as many as there are tokens is no bound
unfoldable pub at_most : {A : Type 0} → ℕ → List ℕ → (List Seen → Option (A × List Seen)) → List Seen → Option (List A × List Seen)
at_most zero between item tokens = None
at_most (suc most) between item tokens = item tokens >>= (λ x.
    either (expect between x.1) (λ rest. in_front x.0 (at_most most between item rest)) (Some (x.0 ∷ [], x.1)))

-- one item or more, with this text between each two
abbrev pub separated : {A : Type 0} → List ℕ → (List Seen → Option (A × List Seen)) → List Seen → Option (List A × List Seen)
separated between item tokens = at_most (length tokens) between item tokens
