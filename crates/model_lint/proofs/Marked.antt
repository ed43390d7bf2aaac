-- The marks of constraints, one source after another.
use Rattle.std.proofs.Common.{◌≡◌, ◌↔◌, sym, ◌∙◌, ap, subst, ◌<◌, ◌≤◌, ◌+◌, ◌-◌, ℕ, zero, suc, List, [], ◌∷◌, ◌++◌, length, ◌⊎◌, inl, inr, Some, arith, take, get_or}
use Rattle.std.specs.List.{slice_get}
use Rattle.std.proofs.lemmas.List.{take_more, take_all}
use Rattle.std.proofs.lemmas.Option.{get_or_from_slice_get, slice_get_within}
use Rattle.vocabulary.specs.Lists.{In, here, item}
use Rattle.vocabulary.specs.declared.ids.ClassId.{ClassId}
use Rattle.vocabulary.specs.declared.ids.LinkId.{LinkId}
use Rattle.vocabulary.specs.declared.ids.Dir.{Dir}
use Rattle.vocabulary.proofs.Lists.{In-append_left, In-append_right, In-append_cases}
use Rattle.dllite_axioms.specs.declared.axioms.Axiom.{Axiom}
use Rattle.dllite_axioms.specs.declared.axioms.Basic.{Basic}
use Rattle.dllite_axioms.specs.declared.axioms.Constraint.{Constraint}
use Rattle.dllite_axioms.specs.declared.axioms.Constraint.TheVariants.{Func, Identified}
use Rattle.negative_closure.specs.declared.source.Source.{Source}
use Rattle.negative_closure.specs.declared.source.Source.TheVariants.{One}
use Rattle.negative_closure.specs.Sources.{IsSource, one}
use Rattle.negative_closure.proofs.Negative.{no_empty_func, no_empty_identified}
use Rattle.negative_closure.proofs.Spreading.{in_taken}
use Rattle.negative_closure.proofs.Places.{In-at, only_item, place_of_In, same_or_not}
use Rattle.dllite_axioms.proofs.Firing.{some_same}
use Rattle.dllite_axioms.specs.declared.axioms.Tbox.{Tbox}
use Rattle.model_lint.specs.declared.element.Void.{Void}
use Rattle.model_lint.specs.Marks.{AreMarks, basic_of, IsMark}
use Rattle.model_lint.specs.Voids.{HaveAttributes, IsVoid}
use Rattle.model_lint.proofs.Single.{not_void}

-- no constraint has no mark
pub no_marks : (axioms : List Axiom) (constraints : List Constraint) → AreMarks axioms constraints 0 []
no_marks axioms constraints mark = (λ m. elim m [ ], λ h. absurd (none mark h.0 h.1))
  where
    none : (mark : Basic × ℕ) → mark.1 ≤ 0 → IsMark axioms constraints mark → ⊥
    none mark low is =
        let zero_it : mark.1 ≡ 0 = omega (arith, low) in
        let e = subst (λ n. item constraints n ≡ Some is.0) zero_it is.1 in cc

pub more_marks : (axioms : List Axiom) (constraints : List Constraint) (at : ℕ) (c : Constraint) (marks marks' : List (Basic × ℕ)) → slice_get constraints at ≡ Some c → AreMarks axioms constraints at marks →
    ((mark : Basic × ℕ) → In mark marks' ↔ (In mark marks ⊎ ((at + 1 ≡ mark.1) × IsSource axioms c (One mark.0)))) → AreMarks axioms constraints (at + 1) marks'
more_marks axioms constraints at c marks marks' there_it before added mark = (to, from)
  where
    to : In mark marks' → (mark.1 ≤ at + 1) × IsMark axioms constraints mark
    to m = elim ((added mark).0 m) [
      | inl k ↦ (let h = (before mark).0 k in (omega (arith, h.0), h.1))
      | inr h ↦ (let e : suc at ≡ mark.1 = omega (arith, h.0) in (omega (arith, h.0), (c, subst (λ n. item constraints n ≡ Some c) e there_it, h.1)))
    ]

    from : (mark.1 ≤ at + 1) × IsMark axioms constraints mark → In mark marks'
    from h = (added mark).1 (elim (same_or_not mark.1 (at + 1)) [
      | inl same ↦ (
          let e : mark.1 ≡ suc at = omega (arith, same) in
          let is : slice_get constraints at ≡ Some h.1.0 = subst (λ n. item constraints n ≡ Some h.1.0) e h.1.1 in
          inr (sym same, subst (λ z. IsSource axioms z (One mark.0)) (some_same (sym is ∙ there_it)) h.1.2))
      | inr apart ↦ inl ((before mark).1 (omega (arith, h.0, apart), h.1))
    ])

-- an item more of a list
more_in : {X : Type 0} {x : X} (xs : List X) (i : ℕ) (d : X) → i < length xs → In x (take i xs) ⊎ (get_or xs i d ≡ x) → In x (take (i + 1) xs)
more_in {x = x} xs i d low h = subst (In x) (sym (take_more xs i d low)) (elim h [ inl m ↦ In-append_left (get_or xs i d ∷ []) m | inr e ↦ In-append_right (take i xs) (here e) ])

-- the marks so far are the old ones, and those of the sources so far
abbrev pub AreAdded : List (Basic × ℕ) → ℕ → List Source → List (Basic × ℕ) → Type 0
AreAdded old number sources marks = (mark : Basic × ℕ) → In mark marks ↔ (In mark old ⊎ ((number ≡ mark.1) × In (One mark.0) sources))

pub none_added : (old : List (Basic × ℕ)) (number : ℕ) → AreAdded old number [] old
none_added old number mark = (λ m. inl m, λ h. elim h [ inl m ↦ m | inr k ↦ elim k.1 [ ] ])

one_basic : {b c : Basic} → One b ≡ One c → b ≡ c
one_basic e = cc

pub one_added : (old : List (Basic × ℕ)) (number : ℕ) (sources : List Source) (i : ℕ) (d : Source) (b : Basic) (marks marks' : List (Basic × ℕ)) → i < length sources → get_or sources i d ≡ One b → marks' ≡ marks ++ (b, number) ∷ [] →
    AreAdded old number (take i sources) marks → AreAdded old number (take (i + 1) sources) marks'
one_added old number sources i d b marks marks' low is pushed before mark = (to, from)
  where
    to : In mark marks' → In mark old ⊎ ((number ≡ mark.1) × In (One mark.0) (take (i + 1) sources))
    to m = elim (In-append_cases marks ((b, number) ∷ []) (subst (In mark) pushed m)) [
      | inl k ↦ elim ((before mark).0 k) [ inl o ↦ inl o | inr h ↦ inr (h.0, more_in sources i d low (inl h.1)) ]
      | inr k ↦ (let e = only_item k in inr (ap (λ z. z.1) e, more_in sources i d low (inr (is ∙ ap (λ z. One z.0) e))))
    ]

    from : In mark old ⊎ ((number ≡ mark.1) × In (One mark.0) (take (i + 1) sources)) → In mark marks'
    from h = subst (In mark) (sym pushed) (elim h [
      | inl o ↦ In-append_left ((b, number) ∷ []) ((before mark).1 (inl o))
      | inr k ↦ elim (in_taken sources i d low k.1) [
        | inl n ↦ In-append_left ((b, number) ∷ []) ((before mark).1 (inr (k.0, n)))
        | inr e ↦ In-append_right marks (here (λ j. (one_basic (sym is ∙ e) j, k.0 j)))
      ]
    ])

pub other_added : (old : List (Basic × ℕ)) (number : ℕ) (sources : List Source) (i : ℕ) (d : Source) (marks : List (Basic × ℕ)) → i < length sources → ((b : Basic) → get_or sources i d ≡ One b → ⊥) →
    AreAdded old number (take i sources) marks → AreAdded old number (take (i + 1) sources) marks
other_added old number sources i d marks low none before mark = (to, from)
  where
    to : In mark marks → In mark old ⊎ ((number ≡ mark.1) × In (One mark.0) (take (i + 1) sources))
    to m = elim ((before mark).0 m) [ inl o ↦ inl o | inr h ↦ inr (h.0, more_in sources i d low (inl h.1)) ]

    from : In mark old ⊎ ((number ≡ mark.1) × In (One mark.0) (take (i + 1) sources)) → In mark marks
    from h = elim h [
      | inl o ↦ (before mark).1 (inl o)
      | inr k ↦ elim (in_taken sources i d low k.1) [
        | inl n ↦ (before mark).1 (inr (k.0, n))
        | inr e ↦ absurd (none mark.0 e)
      ]
    ]

-- all sources
pub all_added : (axioms : List Axiom) (c : Constraint) (old : List (Basic × ℕ)) (number : ℕ) (sources : List Source) (i : ℕ) (marks : List (Basic × ℕ)) → length sources ≤ i → ((b : Basic) → In (One b) sources ↔ IsSource axioms c (One b)) →
    AreAdded old number (take i sources) marks → (mark : Basic × ℕ) → In mark marks ↔ (In mark old ⊎ ((number ≡ mark.1) × IsSource axioms c (One mark.0)))
all_added axioms c old number sources i marks end exact before mark = (
  λ m. elim ((before mark).0 m) [ inl o ↦ inl o | inr h ↦ inr (h.0, (exact mark.0).0 (subst (In (One mark.0)) (take_all i sources end) h.1)) ],
  λ h. elim h [ inl o ↦ (before mark).1 (inl o) | inr k ↦ (before mark).1 (inr (k.0, subst (In (One mark.0)) (sym (take_all i sources end)) ((exact mark.0).1 k.1))) ],
)

-- no source of these is a basic
pub none_of_func : (axioms : List Axiom) (p : LinkId) (d : Dir) (b : Basic) → In (One b) [] ↔ IsSource axioms (Func p d) (One b)
none_of_func axioms p d b = (λ m. elim m [ ], λ s. absurd (no s))
  where
    no : IsSource axioms (Func p d) (One b) → ⊥
    no (one e) = no_empty_func e

pub none_of_identified : (axioms : List Axiom) (a : ClassId) (us : List LinkId) (b : Basic) → In (One b) [] ↔ IsSource axioms (Identified a us) (One b)
none_of_identified axioms a us b = (λ m. elim m [ ], λ s. absurd (no s))
  where
    no : IsSource axioms (Identified a us) (One b) → ⊥
    no (one e) = no_empty_identified e

-- searching the marks
pub not_marked : (basic : Basic) (marks : List (Basic × ℕ)) (i : ℕ) (d : Basic × ℕ) → i < length marks → ((get_or marks i d).0 ≡ basic → ⊥) → ((n : ℕ) → In (basic, n) (take i marks) → ⊥) → (n : ℕ) → In (basic, n) (take (i + 1) marks) → ⊥
not_marked basic marks i d low apart before n m = elim (in_taken marks i d low m) [ inl h ↦ before n h | inr e ↦ apart (ap (λ z. z.0) e) ]

pub found_mark : (basic : Basic) (marks : List (Basic × ℕ)) (i : ℕ) (d : Basic × ℕ) → i < length marks → (get_or marks i d).0 ≡ basic → In (basic, (get_or marks i d).1) marks
found_mark basic marks i d low e = subst (λ z. In z marks) (λ j. (e j, (get_or marks i d).1)) (In-at marks i d low)

-- the item of a number has its place
pub place_of_number : {X : Type 0} (xs : List X) (n : ℕ) (x : X) → item xs n ≡ Some x → (1 ≤ n) × (n - 1 < length xs) × ((d : X) → get_or xs (n - 1) d ≡ x)
place_of_number xs zero x e = cc
place_of_number xs (suc m) x e =
    let back : suc m - 1 ≡ m = omega arith in
    let low = slice_get_within xs m x e in
    (omega arith, omega (arith, back, low), λ d. ap (λ k. get_or xs k d) back ∙ get_or_from_slice_get xs m x d e)

-- an element without a mark is not void
pub unmarked : (tbox : Tbox) (marks : List (Basic × ℕ)) → AreMarks tbox.axioms tbox.constraints (length tbox.constraints) marks → (v : Void) → ((n : ℕ) → In (basic_of v, n) marks → ⊥) → HaveAttributes tbox.constraints → IsVoid tbox v → ⊥
unmarked tbox marks are v none attributes void = not_void tbox attributes v (λ c m s. no_source c m s) void
  where
    no_source : (c : Constraint) → In c tbox.constraints → IsSource tbox.axioms c (One (basic_of v)) → ⊥
    no_source c m s =
        let p = place_of_In m in
        none (suc p.0) ((are (basic_of v, suc p.0)).1 (omega (arith, slice_get_within tbox.constraints p.0 c p.1), (c, p.1, s)))

-- the constraint of a mark, as it is found at its place
pub marked_at : (axioms : List Axiom) (constraints xs : List Constraint) (mark : Basic × ℕ) (found : Constraint) → IsMark axioms constraints mark → xs ≡ constraints → found ≡ get_or xs (mark.1 - 1) found →
    (item constraints mark.1 ≡ Some found) × IsSource axioms found (One mark.0)
marked_at axioms constraints xs mark found is same at =
    let there_it : found ≡ is.0 = at ∙ (ap (λ zs. get_or zs (mark.1 - 1) found) same ∙ (place_of_number constraints mark.1 is.0 is.1).2 found) in
    (is.1 ∙ ap Some (sym there_it), subst (λ z. IsSource axioms z (One mark.0)) (sym there_it) is.2)
