-- Assigning facts to atoms, one atom after the other.
use Rattle.std.proofs.Common.{◌≡◌, ◌↔◌, refl, sym, ◌∙◌, ap, subst, ℕ, zero, suc, ◌+◌, ◌<◌, ◌≤◌, Bool, true, false, IsTrue, List, [], ◌∷◌, ◌++◌, length, length-append, append_assoc, take, drop, ◌⊎◌, inl, inr, Some, arith, get_or, length-drop}
use Rattle.std.specs.Prelude.{slice_get}
use Rattle.std.proofs.lemmas.List.{append-nil}
use Rattle.vocabulary.specs.declared.term.Fact.{Fact}
use Rattle.vocabulary.specs.Lists.{In, here, there, Pairwise}
use Rattle.negative_closure.proofs.Places.{place_of_In}
use Rattle.queries.specs.declared.query.Atom.{Atom}
use Rattle.queries.specs.Matches.{AtomIs}
use Rattle.why_answers.specs.Finding.{FrontReads, NoneReads, ReadAt}
use Rattle.why_answers.specs.Reading.{AtomReads}
use Rattle.why_answers.proofs.OneReading.{reads_by}

pub place_there : {X : Type 0} (xs : List X) (k : ℕ) (d : X) → k < length xs → slice_get xs k ≡ Some (get_or xs k d)
place_there [] k d low = absurd (omega (arith, low))
place_there (x ∷ xs) zero d low = refl
place_there (x ∷ xs) (suc k) d low = place_there xs k d (omega (arith, low))

pub place_low : {X : Type 0} (xs : List X) (k : ℕ) (x : X) → slice_get xs k ≡ Some x → k < length xs
place_low [] k x e = cc
place_low (y ∷ xs) zero x e = omega arith
place_low (y ∷ xs) (suc k) x e = let low = place_low xs k x e in omega (arith, low)

take_whole : {X : Type 0} (n : ℕ) (xs : List X) → n ≡ length xs → take n xs ≡ xs
take_whole zero [] e = refl
take_whole zero (x ∷ xs) e = absurd (omega (arith, e))
take_whole (suc n) [] e = absurd (omega (arith, e))
take_whole (suc n) (x ∷ xs) e = ap (λ ys. x ∷ ys) (take_whole n xs (omega (arith, e)))

pair_more : {A B : Type 0} (R : A → B → Type 0) (xs : List A) (ys : List B) (x : A) (y : B) → Pairwise R (take (length ys) xs) ys → slice_get xs (length ys) ≡ Some x → R x y → Pairwise R (take (length (ys ++ y ∷ [])) xs) (ys ++ y ∷ [])
pair_more R [] [] x y p at r = cc
pair_more R [] (z ∷ ys) x y p at r = cc
pair_more R (w ∷ xs) [] x y p at r = let same : w ≡ x = cc in (subst (λ v. R v y) (sym same) r, tt)
pair_more R (w ∷ xs) (z ∷ ys) x y p at r = (p.0, pair_more R xs ys x y p.1 at r)

in_drop : {X : Type 0} (xs : List X) (k : ℕ) (x : X) → slice_get xs k ≡ Some x → In x (drop k xs)
in_drop [] k x e = cc
in_drop (y ∷ xs) zero x e = here cc
in_drop (y ∷ xs) (suc k) x e = in_drop xs k x e

drop_more : {X : Type 0} (xs : List X) (k : ℕ) (x : X) → In x (drop (suc k) xs) → In x (drop k xs)
drop_more [] k x i = elim i [ ]
drop_more (y ∷ xs) zero x i = there i
drop_more (y ∷ xs) (suc k) x i = drop_more xs k x i

-- each atom has its fact
pub all_read : (atoms : List Atom) (facts named : List Fact) → length named ≡ length atoms → FrontReads atoms named → ReadAt atoms facts named []
all_read atoms facts named long front =
    let whole = take_whole (length named) atoms long in
    let r : Pairwise (AtomReads atoms named) atoms named = subst (λ as'. Pairwise (AtomReads as' named) as' named) whole front in
    record { more = []; at = tt; reads = subst (λ fs. Pairwise (AtomReads atoms fs) atoms fs) (sym (append-nil named)) r }

-- facts that are not read with the first atoms have no rest
pub none_reads : (atoms : List Atom) (facts named : List Fact) → (FrontReads atoms named → ⊥) → NoneReads atoms facts named
none_reads atoms facts named none σ p m = none (reads_by σ (take (length named) atoms) named p)

-- one fact further
pub read_more : (atoms : List Atom) (facts named : List Fact) (f : Fact) (at : ℕ) (places : List ℕ) → slice_get facts at ≡ Some f → ReadAt atoms facts (named ++ f ∷ []) places → ReadAt atoms facts named (at ∷ places)
read_more atoms facts named f at places is r =
    let same = append_assoc named (f ∷ []) r.more in
    record { more = f ∷ r.more; at = (is, r.at); reads = subst (λ fs. Pairwise (AtomReads atoms fs) atoms fs) same r.reads }

-- no fact for the next atom
pub none_further : (atoms : List Atom) (facts named : List Fact) → length named < length atoms → ((j : ℕ) (f : Fact) → j < length facts → slice_get facts j ≡ Some f → NoneReads atoms facts (named ++ f ∷ [])) → NoneReads atoms facts named
none_further atoms facts named low none σ p m = by (next atoms (length named) low)
  where
    next : (xs : List Atom) (k : ℕ) → k < length xs → (a : Atom) × (slice_get xs k ≡ Some a)
    next [] k l = absurd (omega (arith, l))
    next (x ∷ xs) zero l = (x, refl)
    next (x ∷ xs) (suc k) l = next xs k (omega (arith, l))

    by : (a : Atom) × (slice_get atoms (length named) ≡ Some a) → ⊥
    by (a, at) =
        let h = m a (in_drop atoms (length named) a at) in
        let j = place_of_In h.1 in
        let long : length (named ++ h.0 ∷ []) ≡ suc (length named) = (let e = length-append named (h.0 ∷ []) in omega (arith, e)) in
        none j.0 h.0 (place_low facts j.0 h.0 j.1) j.1 σ (pair_more (AtomIs σ) atoms named a h.0 p at h.2)
        (λ b i. m b (drop_more atoms (length named) b (subst (λ n. In b (drop n atoms)) long i)))

same_some : {X : Type 0} (x y : X) → Some x ≡ Some y → x ≡ y
same_some x y e = cc

-- an item of a list by its place
pub same_place : {X : Type 0} (xs : List X) (k : ℕ) (x y : X) → k < length xs → x ≡ get_or xs k x → slice_get xs k ≡ Some y → x ≡ y
same_place xs k x y low is at = same_some x y (ap Some is ∙ sym (place_there xs k x low) ∙ at)

-- the fact at a place is not read with the first atoms
pub attempt_none : (atoms : List Atom) (facts named : List Fact) (at : ℕ) (x : Fact) (front : List Atom) (ns : List Fact) (b : Bool) → at < length facts → x ≡ get_or facts at x → ns ≡ named ++ x ∷ [] → front ≡ take (length ns) atoms →
    (IsTrue b ↔ Pairwise (AtomReads front ns) front ns) → b ≡ false → (f : Fact) → slice_get facts at ≡ Some f → NoneReads atoms facts (named ++ f ∷ [])
attempt_none atoms facts named at x front ns b low is made slice test fails f there_is =
    let same : ns ≡ named ++ f ∷ [] = made ∙ ap (λ z. named ++ z ∷ []) (same_place facts at x f low is there_is) in
    let none : FrontReads atoms ns → ⊥ = λ r. clash (sym fails ∙ test.1 (subst (λ as'. Pairwise (AtomReads as' ns) as' ns) (sym slice) r)) in
    subst (NoneReads atoms facts) same (none_reads atoms facts ns none)
  where
    clash : false ≡ true → ⊥
    clash e = cc

-- or it is
pub attempt_front : (atoms front : List Atom) (ns : List Fact) (b : Bool) → front ≡ take (length ns) atoms → (IsTrue b ↔ Pairwise (AtomReads front ns) front ns) → b ≡ true → FrontReads atoms ns
attempt_front atoms front ns b slice test holds = subst (λ as'. Pairwise (AtomReads as' ns) as' ns) slice (test.0 holds)

pub attempt_rest : (atoms : List Atom) (facts named : List Fact) (at : ℕ) (x : Fact) (ns : List Fact) → at < length facts → x ≡ get_or facts at x → ns ≡ named ++ x ∷ [] → NoneReads atoms facts ns → (f : Fact) → slice_get facts at ≡ Some f → NoneReads atoms facts (named ++ f ∷ [])
attempt_rest atoms facts named at x ns low is made none f there_is =
    subst (NoneReads atoms facts) (made ∙ ap (λ z. named ++ z ∷ []) (same_place facts at x f low is there_is)) none

pub attempt_some : (atoms : List Atom) (facts named : List Fact) (at : ℕ) (x : Fact) (ns : List Fact) (old new : List ℕ) → at < length facts → x ≡ get_or facts at x → ns ≡ named ++ x ∷ [] → new ≡ at ∷ old → ReadAt atoms facts ns old → ReadAt atoms facts named new
attempt_some atoms facts named at x ns old new low is made places r =
    subst (ReadAt atoms facts named) (sym places) (read_more atoms facts named x at old (place_there facts at x low ∙ ap Some (sym is)) (subst (λ fs. ReadAt atoms facts fs old) made r))

pub some_place : (facts : List Fact) (k : ℕ) → k < length facts → (f : Fact) × (slice_get facts k ≡ Some f)
some_place [] k low = absurd (omega (arith, low))
some_place (f ∷ facts) zero low = (f, refl)
some_place (f ∷ facts) (suc k) low = some_place facts k (omega (arith, low))

pub below_or_at : (j k : ℕ) → j < k + 1 → (j < k) ⊎ (j ≡ k)
below_or_at zero zero l = inr refl
below_or_at zero (suc k) l = inl (omega arith)
below_or_at (suc j) zero l = absurd (omega (arith, l))
below_or_at (suc j) (suc k) l = elim (below_or_at j k (omega (arith, l))) [ inl h ↦ inl (omega (arith, h)) | inr h ↦ inr (ap suc h) ]

pub strictly : (m n : ℕ) → m ≤ n → (m ≡ n → ⊥) → m < n
strictly zero zero l d = absurd (d refl)
strictly zero (suc n) l d = omega arith
strictly (suc m) zero l d = absurd (omega (arith, l))
strictly (suc m) (suc n) l d = let h = strictly m n (omega (arith, l)) (λ e. d (ap suc e)) in omega (arith, h)

-- what is left behind a place
pub drop_low : {X : Type 0} (xs rest : List X) (k : ℕ) (x : X) → drop k xs ≡ x ∷ rest → k < length xs
drop_low {X} xs rest k x e = let left = ap length e in let long = length-drop {A = X} k xs in omega (arith, left, long)

drop_next_place : {X : Type 0} (xs rest : List X) (k : ℕ) (x : X) → drop k xs ≡ x ∷ rest → drop (suc k) xs ≡ rest
drop_next_place [] rest zero x e = cc
drop_next_place [] rest (suc k) x e = cc
drop_next_place (y ∷ xs) rest zero x e = cc
drop_next_place (y ∷ xs) rest (suc k) x e = drop_next_place xs rest k x e

pub drop_next : {X : Type 0} (xs rest : List X) (k : ℕ) (x : X) → drop k xs ≡ x ∷ rest → drop (k + 1) xs ≡ rest
drop_next xs rest k x e = let next : k + 1 ≡ suc k = omega arith in ap (λ n. drop n xs) next ∙ drop_next_place xs rest k x e

pub none_left : {X : Type 0} (xs rest : List X) (k : ℕ) → drop k xs ≡ rest → length rest ≡ 0 → k ≤ length xs → k ≡ length xs
none_left {X} xs rest k e none few = let left = ap length e in let long = length-drop {A = X} k xs in omega (arith, left, long, none, few)
