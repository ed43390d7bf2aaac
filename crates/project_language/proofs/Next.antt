-- What `next` gives of the lines that are still to come.
use Rattle.std.proofs.Common.{◌≡◌, refl, sym, ap, ℕ, ◌+◌, List, [], ◌∷◌, Some, None}
use Rattle.line_lexer.specs.Left.{Left}
use Rattle.line_lexer.specs.Lines.{IsNextLine}
use Rattle.line_lexer.specs.declared.lines.Line.{Line}

-- the first line with the next number, and those behind it
pub next_line : (xs : List (List ℕ)) (old new : Left) (line : Line) → IsNextLine xs old new (Some line) → (xs ≡ line.text.now ∷ new.lines) × (new.number ≡ old.number + 1) × (line.number ≡ old.number + 1)
next_line [] old new line p = absurd p
next_line (first ∷ rest) old new line p = (λ i. sym p.1 i ∷ sym (ap (λ l. l.lines) p.2) i, ap (λ l. l.number) p.2, p.0)

-- nothing, where there is no further line
pub no_line : (xs : List (List ℕ)) (old new : Left) → IsNextLine xs old new None → xs ≡ []
no_line [] old new p = refl
no_line (first ∷ rest) old new p = absurd p
