-- Rows by their numbers.
use Rattle.std.proofs.Common.{ℕ, zero, suc, arith, ◌≡◌, refl, sym, ◌∙◌, ap, subst, ◌+◌, ◌<◌, ◌≤◌, ◌⊎◌, inl, inr, ◌↔◌, Bool, true, false, List, [], ◌∷◌, ◌++◌, length, filter, get_or, slice_get, Option, Some, None, if◌then◌else◌, add-zero}
use Rattle.std.specs.List.{range_with_len}
use Rattle.std.proofs.lemmas.List.Elements.{filter-append}
use Rattle.std.proofs.lemmas.Option.{get_or_from_slice_get, slice_get_within}
use Rattle.std.proofs.lemmas.Slice.Eq.{bytes_eq-Decides}
use Rattle.vocabulary.specs.declared.ids.VarId.{VarId}
use Rattle.vocabulary.specs.declared.term.Term.{Term}
use Rattle.vocabulary.specs.Lists.{In, here, there}
use Rattle.vocabulary.specs.Terms.{text_of}
use Rattle.vocabulary.proofs.Members.{In-from_Contains}
use Rattle.queries.specs.declared.query.Arg.{Arg}
use Rattle.relation_join.specs.Joins.{IsListed, IsNumbered, IsPair, IsWith, value_in}
use Rattle.relation_join.specs.Listed.{has_key, has_text, rows_with}
use Rattle.relation_join.proofs.Values.{row_told}

-- one number more
range_more : (a n : ℕ) → range_with_len a (suc n) ≡ range_with_len a n ++ ((a + n) ∷ [])
range_more a zero = rw add-zero refl
range_more a (suc n) = let e : a + 1 + n ≡ a + suc n = omega arith in rw (range_more (a + 1) n, e) refl

filter_more : (p : ℕ → Bool) (i : ℕ) → filter p (range_with_len 0 (i + 1)) ≡ filter p (range_with_len 0 i) ++ (if p i then i ∷ [] else [])
filter_more p i =
    let one : i + 1 ≡ suc i = omega arith in
    let z : 0 + i ≡ i = omega arith in
    ap (λ n. filter p (range_with_len 0 n)) one ∙ ap (filter p) (range_more 0 i) ∙ filter-append p (range_with_len 0 i) ((0 + i) ∷ [])
    ∙ ap (λ k. filter p (range_with_len 0 i) ++ filter p (k ∷ [])) z

pub rows_more : (vars : List VarId) (rows : List (List Term)) (v : VarId) (text : List ℕ) (i : ℕ) (found : Option Term) → found ≡ value_in vars (get_or rows i []) v →
    filter (has_key vars rows v text) (range_with_len 0 (i + 1)) ≡ filter (has_key vars rows v text) (range_with_len 0 i) ++ (if has_text text found then i ∷ [] else [])
rows_more vars rows v text i found e =
    filter_more (has_key vars rows v text) i
    ∙ ap (λ (o : Option Term). filter (has_key vars rows v text) (range_with_len 0 i) ++ (if has_text text o then i ∷ [] else [])) (sym e)

-- what passes is kept
kept_later : (p : ℕ → Bool) (x y : ℕ) (xs : List ℕ) (b : Bool) → p x ≡ b → In y (filter p xs) → In y (filter p (x ∷ xs))
kept_later p x y xs true e i = rw e (there i)
kept_later p x y xs false e i = rw e i

kept : (p : ℕ → Bool) (y : ℕ) (xs : List ℕ) → In y xs → p y ≡ true → In y (filter p xs)
kept p y [] i e = elim i [ ]
kept p y (x ∷ xs) (here q) e = let f : p x ≡ true = ap p q ∙ e in rw f (here q)
kept p y (x ∷ xs) (there i) e = kept_later p x y xs (p x) refl (kept p y xs i e)

equal_or_after : (a i : ℕ) → a ≤ i → (a ≡ i) ⊎ (a + 1 ≤ i)
equal_or_after a i l = grind arith

within_range : (a n i : ℕ) → a ≤ i → i < a + n → In i (range_with_len a n)
within_range a zero i k l = absurd (omega (arith, k, l))
within_range a (suc n) i k l = elim (equal_or_after a i k) [ inl e ↦ here e | inr h ↦ there (within_range (a + 1) n i h (omega (arith, l))) ]

-- what stands at a number is a member, and a member stands at a number
pub In-slice_get : {X : Type 0} (xs : List X) (n : ℕ) (x : X) → slice_get xs n ≡ Some x → In x xs
In-slice_get xs n x e = In-from_Contains xs (n, slice_get_within xs n x e, get_or_from_slice_get xs n x x e)

number_of : {X : Type 0} (xs : List X) (x : X) → In x xs → (n : ℕ) × (n < length xs) × (slice_get xs n ≡ Some x)
number_of [] x i = elim i [ ]
number_of (y ∷ xs) x (here e) = (0, omega arith, ap Some e)
number_of (y ∷ xs) x (there i) = let r = number_of xs x i in let l = r.1 in (suc r.0, omega (arith, l), r.2)

module _ (vars more : List VarId) (head : List Arg) (rows : List (List Term)) (other : List Term) where
  pub numbered : (n : ℕ) (row : List Term) → slice_get rows n ≡ Some row → (ts : List Term) → IsPair vars more head row other ts ↔ IsNumbered vars more head rows other n ts
  numbered n row e ts = (
    (λ p. (row, e, p)),
    (λ h. let q : Some h.0 ≡ Some row = sym h.1 ∙ e in let r : h.0 ≡ row = cc in subst (λ z. IsPair vars more head z other ts) r h.2),
  )

  pub not_numbered : (n : ℕ) → slice_get rows n ≡ None → (ts : List Term) → IsNumbered vars more head rows other n ts → ⊥
  not_numbered n e ts h = let q : None ≡ Some h.0 = sym e ∙ h.1 in cc

  -- a row that pairs with the other has the other's term at the variable, and so its text
  pair_listed : (v : VarId) (t : Term) → In v vars → In v more → value_in more other v ≡ Some t → (n : ℕ) (row ts : List Term) → n < length rows → slice_get rows n ≡ Some row →
      IsPair vars more head row other ts → In n (rows_with vars rows v (text_of t))
  pair_listed v t i j h n row ts l e p =
      let same : Some t ≡ Some (p.0 v) = sym h ∙ row_told p.0 more other v p.2 j in
      let found : value_in vars (get_or rows n []) v ≡ Some t = ap (λ z. value_in vars z v) (get_or_from_slice_get rows n row [] e) ∙ row_told p.0 vars row v p.1 i ∙ sym same in
      let test : has_key vars rows v (text_of t) n ≡ true = ap (has_text (text_of t)) found ∙ (bytes_eq-Decides (text_of t) (text_of t)).1 refl in
      kept (has_key vars rows v (text_of t)) n (range_with_len 0 (length rows)) (within_range 0 (length rows) n (omega arith) (omega (arith, l))) test

  pub listed_with : (v : VarId) (t : Term) (numbers : List ℕ) → In v vars → In v more → value_in more other v ≡ Some t → numbers ≡ rows_with vars rows v (text_of t) →
      (ts : List Term) → IsListed vars more head rows numbers other ts ↔ IsWith vars more head rows other ts
  listed_with v t numbers i j h e ts = (
    (λ k. (k.2.0, In-slice_get rows k.0 k.2.0 k.2.1, k.2.2)),
    (λ k. let r = number_of rows k.0 k.1 in (r.0, subst (In r.0) (sym e) (pair_listed v t i j h r.0 k.0 ts r.1 r.2 k.2), (k.0, r.2, k.2))),
  )
