-- The items of a list so far, and those to come.
use Rattle.std.proofs.Common.{◌≡◌, ◌<◌, ◌≤◌, ◌-◌, ◌+◌, ℕ, suc, List, [], ◌∷◌, ◌++◌, Option, Some, None, refl, ap, ◌∙◌, arith, append_assoc, length, map}
use Rattle.std.proofs.lemmas.List.{length-map}
use Rattle.line_lexer.specs.Tokens.{Seen}
use Rattle.line_lexer.specs.Grammar.{expect}
use Rattle.line_lexer.specs.Separated.{at_most, in_front, separated}

-- items before those that are there
abbrev pub ahead : {A : Type 0} → List A → Option (List A × List Seen) → Option (List A × List Seen)
ahead front None = None
ahead front (Some (more, rest)) = Some (front ++ more, rest)

ahead-nil : {A : Type 0} (o : Option (List A × List Seen)) → o ≡ ahead [] o
ahead-nil None = refl
ahead-nil (Some (more, rest)) = refl

-- before the first item
pub begins : {A T : Type 0} (between : List ℕ) (item : List Seen → Option (A × List Seen)) (shown : T → Seen) (tokens : List T) → separated between item (map shown tokens) ≡ ahead [] (at_most (length tokens - 0) between item (map shown tokens))
begins between item shown tokens =
    let all : length (map shown tokens) ≡ length tokens - 0 = length-map tokens shown ∙ (omega arith) in
    ap (λ n. at_most n between item (map shown tokens)) all ∙ ahead-nil (at_most (length tokens - 0) between item (map shown tokens))

ahead-push : {A : Type 0} (front : List A) (a : A) (o : Option (List A × List Seen)) → ahead front (in_front a o) ≡ ahead (front ++ a ∷ []) o
ahead-push front a None = refl
ahead-push front a (Some (more, rest)) = rw append_assoc refl

module _ {A : Type 0} (between : List ℕ) (item : List Seen → Option (A × List Seen)) (whole : Option (List A × List Seen)) (front : List A) (n i : ℕ) (tokens : List Seen) (so : whole ≡ ahead front (at_most (n - i) between item tokens)) where
  opened : i < n → at_most (n - i) between item tokens ≡ at_most (suc (n - (i + 1))) between item tokens
  opened lt = let same : n - i ≡ suc (n - (i + 1)) = omega arith in ap (λ m. at_most m between item tokens) same

  pub goes_on : i < n → (a : A) (behind rest : List Seen) → Some (a, behind) ≡ item tokens → Some rest ≡ expect between behind → whole ≡ ahead (front ++ a ∷ []) (at_most (n - (i + 1)) between item rest)
  unfolding at_most
  goes_on lt a behind rest is onward =
      let step : at_most (suc (n - (i + 1))) between item tokens ≡ in_front a (at_most (n - (i + 1)) between item rest) = rw (← is, ← onward) refl in
      so ∙ ap (ahead front) (opened lt ∙ step) ∙ ahead-push front a (at_most (n - (i + 1)) between item rest)

  pub ends : i < n → (a : A) (behind : List Seen) → Some (a, behind) ≡ item tokens → None ≡ expect between behind → Some (front ++ a ∷ [], behind) ≡ whole
  unfolding at_most
  ends lt a behind is last =
      let step : at_most (suc (n - (i + 1))) between item tokens ≡ Some (a ∷ [], behind) = rw (← is, ← last) refl in
      let e = so ∙ ap (ahead front) (opened lt ∙ step) in rw e refl

  pub breaks : i < n → None ≡ item tokens → None ≡ whole
  unfolding at_most
  breaks lt is =
      let step : at_most (suc (n - (i + 1))) between item tokens ≡ None = rw (← is) refl in
      let e = so ∙ ap (ahead front) (opened lt ∙ step) in rw e refl

  pub runs_out : n ≤ i → None ≡ whole
  unfolding at_most
  runs_out le = let same : n - i ≡ 0 = omega arith in let e = rw same at so in rw e refl
