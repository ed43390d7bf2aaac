-- The lines of a text are its first line, and those of what is left behind it.
use Rattle.std.proofs.Common.{◌≡◌, ◌<◌, ◌+◌, ◌==◌, ℕ, suc, Bool, true, false, cond, not, List, [], ◌∷◌, length, refl, ap, ◌∙◌, arith}
use Rattle.std.specs.List.{slice_split, position_or_len, before_first, after_first, onto_first}
use Rattle.std.specs.Str.Lines.{lines, lines_of_parts, strip_carriage_return}
use Rattle.std.proofs.lemmas.List.Splits.{slice_split_first, length-slice_split}
use Rattle.std.proofs.lemmas.Bool.Decides.{nat_tests}

more_parts : (first : List ℕ) (parts : List (List ℕ)) (n : ℕ) → length parts ≡ n + 1 → lines_of_parts (first ∷ parts) ≡ strip_carriage_return first ∷ lines_of_parts parts
more_parts first [] n e = absurd (omega arith)
more_parts first (x ∷ parts) n e = refl

pub lines_cut : (text : List ℕ) → position_or_len (λ b. b == 10) text < length text → lines text ≡ strip_carriage_return (before_first (λ b. b == 10) text) ∷ lines (after_first (λ b. b == 10) text)
lines_cut text inner = ap lines_of_parts (slice_split_first (λ b. b == 10) text 0 inner)
    ∙ more_parts (before_first (λ b. b == 10) text) (slice_split (λ b. b == 10) (after_first (λ b. b == 10) text)) _ (length-slice_split (λ b. b == 10) (after_first (λ b. b == 10) text))

whole_split : (text : List ℕ) → position_or_len (λ b. b == 10) text ≡ length text → slice_split (λ b. b == 10) text ≡ text ∷ []
whole_split [] e = refl
whole_split (x ∷ xs) e = by (whole_split xs) (x == 10) e
  where
    by : (position_or_len (λ b. b == 10) xs ≡ length xs → slice_split (λ b. b == 10) xs ≡ xs ∷ []) → (t : Bool)
        → cond (not t) (1 + position_or_len (λ b. b == 10) xs) 0 ≡ suc (length xs)
        → cond t ([] ∷ slice_split (λ b. b == 10) xs) (onto_first x (slice_split (λ b. b == 10) xs)) ≡ (x ∷ xs) ∷ []
    by more true h = absurd (omega arith)
    by more false h = ap (onto_first x) (more (omega arith))

pub lines_whole : (text : List ℕ) → 0 < length text → position_or_len (λ b. b == 10) text ≡ length text → lines text ≡ text ∷ []
lines_whole text some e =
    let test : (length text == 0) ≡ false = grind (arith, nat_tests) in
    ap lines_of_parts (whole_split text e) ∙ rw test refl
