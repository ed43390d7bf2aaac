-- The conditions under which two row terms are equal are exact.
use Rattle.std.proofs.Common.{ℕ, zero, suc, ◌≡◌, refl, sym, ◌∙◌, ap, subst, ◌+◌, ◌<◌, List, [], ◌∷◌, ◌++◌, length, map, get_or, take, Option, Some, None, ◌↔◌, arith, add-one, ◌&&◌, Bool, true, false, All}
use Rattle.std.specs.Prelude.{IfOk, IfSome, Result, Ok, Err}
use Rattle.std.specs.List.{list_all}
use Rattle.std.proofs.lemmas.List.Elements.{All-nil, All-cons, All-head, All-tail, All-get_or, All-map, All-weaker}
use Rattle.vocabulary.specs.declared.ids.ValueKind.{ValueKind}
use Rattle.vocabulary.specs.declared.term.Term.{Term, Named, Value}
use Rattle.iri_templates.specs.declared.unifier.Meet.{Meet}
use Rattle.iri_templates.specs.declared.unifier.Meet.TheVariants.{Same, First, Second}
use Rattle.iri_templates.specs.declared.unifier.Unifier.{Unifier}
use Rattle.iri_templates.specs.declared.unifier.Unifier.TheVariants.{Never, When}
use Rattle.iri_templates.specs.Characters.{is_hole_text}
use Rattle.iri_templates.specs.Matching.{Gives}
use Rattle.iri_templates.specs.Templates.{Segments, hole_texts}
use Rattle.iri_templates.specs.Texts.{IsFilling, text_with, texts_of}
use Rattle.iri_templates.specs.Unifying.{AreConditions, CanUnify, IsMet, IsUnifier, IsWithin}
use Rattle.mapping_facts.specs.declared.query.Place.{Place}
use Rattle.mapping_facts.specs.declared.query.Condition.{Condition}
use Rattle.mapping_facts.specs.declared.query.Condition.TheVariants.{Equal, EqualText}
use Rattle.mapping_facts.specs.declared.term.RowTerm.{RowTerm}
use Rattle.mapping_facts.specs.declared.term.RowTerm.TheVariants.{Iri, Cell as CellTerm, Fixed}
use Rattle.mapping_facts.specs.Facts.{term_at}
use Rattle.mapping_facts.specs.Fits.{ConditionFits, IsTextCell, PlaceFits}
use Rattle.mapping_facts.proofs.Tuples.{AllHold, CellsAt, Holds, all_hold, hold_all}
use Rattle.mapping_unfolding.specs.Equating.{Decides, Equates, IsPlaced, IsWhole, met_condition, no_place, term_places, text_conditions}
use Rattle.mapping_unfolding.proofs.Cells.{iri_some, mapped_some, some_is, texts_first}
use Rattle.mapping_unfolding.proofs.Adding.{AreTexts}

-- from either side
decides_turned : (o : Option (List Condition)) (c : CellsAt) (r s : RowTerm) → Decides o c r s → Decides o c s r
decides_turned None c r s x = λ t u et eu same. x u t eu et (sym same)
decides_turned (Some cs) c r s x = λ t u et eu. (let y = x u t eu et in ((λ h. sym (y.0 h)), (λ same. y.1 (sym same))))

pub equates_turned : (r s : RowTerm) (o : Option (List Condition)) → Equates r s o → Equates s r o
equates_turned r s o e = record { decides = λ v w c texts. decides_turned o c r s (e.decides w v c texts); fits = λ n v w. e.fits n w v }

-- terms that are equal where one condition holds
once : (r s : RowTerm) (x : Condition) → ((c : CellsAt) (t u : Term) → term_at c r ≡ Some t → term_at c s ≡ Some u → Holds c x ↔ (t ≡ u)) →
    ((n : ℕ) → All (PlaceFits n) (term_places r) → All (PlaceFits n) (term_places s) → ConditionFits n x) → Equates r s (Some (x ∷ []))
once r s x h fits = record {
  decides = λ v w c texts t u et eu. ((λ k. (h c t u et eu).0 (all_hold c (x ∷ []) k).0), (λ same. hold_all c (x ∷ []) ((h c t u et eu).1 same, tt)));
  fits = λ n v w. All-cons (ConditionFits n) x [] (fits n v w) (All-nil (ConditionFits n));
}

-- cells
value_parts : (k l : ValueKind) (m n : List ℕ) → Value k m ≡ Value l n → (k ≡ l) × (m ≡ n)
value_parts k l m n e = (cc, cc)

pub cells_alike : (k l : ValueKind) (p q : Place) → k ≡ l → Equates (CellTerm k p) (CellTerm l q) (Some (Equal p q ∷ []))
cells_alike k l p q same = once (CellTerm k p) (CellTerm l q) (Equal p q) exact (λ n v w. (All-head (PlaceFits n) p [] v, All-head (PlaceFits n) q [] w))
  where
    exact : (c : CellsAt) (t u : Term) → term_at c (CellTerm k p) ≡ Some t → term_at c (CellTerm l q) ≡ Some u → Holds c (Equal p q) ↔ (t ≡ u)
    exact c t u et eu =
        let x = mapped_some (Value k) (c p) t et in
        let y = mapped_some (Value l) (c q) u eu in (
          (λ h. sym x.2 ∙ ((λ i. Value (same i) ((some_is x.0 h.0 (sym x.1 ∙ h.1) ∙ sym (some_is y.0 h.0 (sym y.1 ∙ h.2))) i)) ∙ y.2)),
          (λ z. (x.0, x.1, y.1 ∙ ap Some (sym (value_parts k l x.0 y.0 (x.2 ∙ (z ∙ sym y.2))).1))),
        )

pub value_alike : (l : ValueKind) (n : List ℕ) (k : ValueKind) (p : Place) → l ≡ k → Equates (Fixed (Value l n)) (CellTerm k p) (Some (EqualText p n ∷ []))
value_alike l n k p same = once (Fixed (Value l n)) (CellTerm k p) (EqualText p n) exact (λ m v w. All-head (PlaceFits m) p [] w)
  where
    exact : (c : CellsAt) (t u : Term) → term_at c (Fixed (Value l n)) ≡ Some t → term_at c (CellTerm k p) ≡ Some u → Holds c (EqualText p n) ↔ (t ≡ u)
    exact c t u et eu =
        let y = mapped_some (Value k) (c p) u eu in (
          (λ h. sym (some_is (Value l n) t et) ∙ ((λ i. Value (same i) (some_is n y.0 (sym h ∙ y.1) i)) ∙ y.2)),
          (λ z. y.1 ∙ ap Some (sym (value_parts l k n y.0 (some_is (Value l n) t et ∙ (z ∙ sym y.2))).1)),
        )

-- the texts of places
texts_count : (c : CellsAt) (ps : List Place) (us : List (List ℕ)) → texts_of (map c ps) ≡ Some us → length us ≡ length ps
texts_count c [] us e = let k : us ≡ [] = cc in rw k refl
texts_count c (p ∷ ps) us e = let b = texts_first (c p) (map c ps) us e in let k = texts_count c ps b.1 b.3 in rw (b.4) (let l : length (b.0 ∷ b.1) ≡ length (p ∷ ps) = grind arith in l)

both_told : (a b : Bool) → a ≡ true → b ≡ true → (a && b) ≡ true
both_told true true e f = refl
both_told true false e f = f
both_told false b e f = e

texts_held : (c : CellsAt) → AreTexts c → (ps : List Place) (us : List (List ℕ)) → texts_of (map c ps) ≡ Some us → list_all is_hole_text us ≡ true
texts_held c texts [] us e = let k : us ≡ [] = cc in subst (λ z. list_all is_hole_text z ≡ true) (sym k) refl
texts_held c texts (p ∷ ps) us e =
    let b = texts_first (c p) (map c ps) us e in
    subst (λ z. list_all is_hole_text z ≡ true) (sym b.4) (both_told (is_hole_text b.0) (list_all is_hole_text b.1) (subst IsTextCell b.2 (texts p)) (texts_held c texts ps b.1 b.3))

filling : (c : CellsAt) → AreTexts c → (a : Segments) (ps : List Place) → IsWhole (Iri a ps) → (us : List (List ℕ)) → texts_of (map c ps) ≡ Some us → IsFilling a us
filling c texts a ps w us e = record { each_hole = texts_count c ps us e ∙ w; hole_texts = texts_held c texts ps us e }

text_at : (c : CellsAt) (ps : List Place) (us : List (List ℕ)) (i : ℕ) → texts_of (map c ps) ≡ Some us → i < length ps → c (get_or ps i no_place) ≡ Some (get_or us i [])
text_at c [] us i e l = absurd (omega (arith, l))
text_at c (p ∷ ps) us zero e l = let b = texts_first (c p) (map c ps) us e in b.2 ∙ ap (λ z. Some (get_or z 0 [])) (sym b.4)
text_at c (p ∷ ps) us (suc i) e l = let b = texts_first (c p) (map c ps) us e in text_at c ps b.1 i b.3 (omega (arith, l)) ∙ ap (λ z. Some (get_or z (suc i) [])) (sym b.4)

named_is : (m n : List ℕ) → Named m ≡ Named n → m ≡ n
named_is m n e = cc

-- two templates
pub iris_never : (a b : Segments) (ps qs : List Place) → (CanUnify a b → ⊥) → Equates (Iri a ps) (Iri b qs) None
iris_never a b ps qs not = record {
  decides = λ w v c texts t u et eu same.
      (let x = iri_some c a ps t et in
      let y = iri_some c b qs u eu in
      not (record {
        first = x.0;
        second = y.0;
        first_fills = filling c texts a ps w x.0 x.1;
        second_fills = filling c texts b qs v y.0 y.1;
        same = named_is (text_with a x.0) (text_with b y.0) (x.2 ∙ (same ∙ sym y.2));
      }));
  fits = λ n v w. tt;
}

module _ (a b : Segments) (ps qs : List Place) (wa : IsWhole (Iri a ps)) (wb : IsWhole (Iri b qs)) where
  first_within : (i : ℕ) → i < length (hole_texts a) → i < length ps
  first_within i l = omega (arith, l, wa)

  second_within : (j : ℕ) → j < length (hole_texts b) → j < length qs
  second_within j l = omega (arith, l, wb)

  module _ (c : CellsAt) (us vs : List (List ℕ)) (e : texts_of (map c ps) ≡ Some us) (f : texts_of (map c qs) ≡ Some vs) where
    met_holds : (m : Meet) → IsWithin a b m → IsMet us vs m → Holds c (met_condition ps qs m)
    met_holds (Same i j) r h = (get_or us i [], text_at c ps us i e (first_within i r.0), text_at c qs vs j f (second_within j r.1) ∙ ap Some (sym h))
    met_holds (First i t) r h = text_at c ps us i e (first_within i r) ∙ ap Some h
    met_holds (Second j t) r h = text_at c qs vs j f (second_within j r) ∙ ap Some h

    holds_met : (m : Meet) → IsWithin a b m → Holds c (met_condition ps qs m) → IsMet us vs m
    holds_met (Same i j) r h = some_is _ _ (sym (text_at c ps us i e (first_within i r.0)) ∙ h.1) ∙ sym (some_is _ _ (sym (text_at c qs vs j f (second_within j r.1)) ∙ h.2))
    holds_met (First i t) r h = some_is _ _ (sym (text_at c ps us i e (first_within i r)) ∙ h)
    holds_met (Second j t) r h = some_is _ _ (sym (text_at c qs vs j f (second_within j r)) ∙ h)

    all_met_hold : (ms : List Meet) → All (IsWithin a b) ms → All (IsMet us vs) ms → AllHold c (map (met_condition ps qs) ms)
    all_met_hold [] r h = tt
    all_met_hold (m ∷ ms) r h =
        (met_holds m (All-head (IsWithin a b) m ms r) (All-head (IsMet us vs) m ms h), all_met_hold ms (All-tail (IsWithin a b) m ms r) (All-tail (IsMet us vs) m ms h))

    all_hold_met : (ms : List Meet) → All (IsWithin a b) ms → AllHold c (map (met_condition ps qs) ms) → All (IsMet us vs) ms
    all_hold_met [] r h = All-nil (IsMet us vs)
    all_hold_met (m ∷ ms) r h =
        All-cons (IsMet us vs) m ms (holds_met m (All-head (IsWithin a b) m ms r) h.0) (all_hold_met ms (All-tail (IsWithin a b) m ms r) h.1)

  met_fits : (n : ℕ) → All (PlaceFits n) ps → All (PlaceFits n) qs → (m : Meet) → IsWithin a b m → ConditionFits n (met_condition ps qs m)
  met_fits n v w (Same i j) r = (All-get_or (PlaceFits n) ps i no_place (first_within i r.0) v, All-get_or (PlaceFits n) qs j no_place (second_within j r.1) w)
  met_fits n v w (First i t) r = All-get_or (PlaceFits n) ps i no_place (first_within i r) v
  met_fits n v w (Second j t) r = All-get_or (PlaceFits n) qs j no_place (second_within j r) w

  pub iris_when : (ms : List Meet) → AreConditions a b ms → Equates (Iri a ps) (Iri b qs) (Some (map (met_condition ps qs) ms))
  iris_when ms conditions = record {
    decides = λ _ _ c texts t u et eu.
        (let x = iri_some c a ps t et in
        let y = iri_some c b qs u eu in
        let exact = conditions.exact x.0 y.0 (filling c texts a ps wa x.0 x.1) (filling c texts b qs wb y.0 y.1) in (
          (λ h. sym x.2 ∙ (ap Named (exact.1 (all_hold_met c x.0 y.0 x.1 y.1 ms conditions.within (all_hold c (map (met_condition ps qs) ms) h))) ∙ y.2)),
          (λ same. hold_all c (map (met_condition ps qs) ms) (all_met_hold c x.0 y.0 x.1 y.1 ms conditions.within (exact.0 (named_is (text_with a x.0) (text_with b y.0) (x.2 ∙ (same ∙ sym y.2)))))),
        ));
    fits = λ n v w. All-map (ConditionFits n) (met_condition ps qs) ms (All-weaker (IsWithin a b) (λ m. ConditionFits n (met_condition ps qs m)) (met_fits n v w) ms conditions.within);
  }

-- a template and a text
texts_hold : (c : CellsAt) (ps : List Place) (us : List (List ℕ)) → texts_of (map c ps) ≡ Some us → AllHold c (text_conditions ps us)
texts_hold c [] us e = tt
texts_hold c (p ∷ ps) us e = let b = texts_first (c p) (map c ps) us e in subst (λ z. AllHold c (text_conditions (p ∷ ps) z)) (sym b.4) (b.2, texts_hold c ps b.1 b.3)

hold_texts : (c : CellsAt) (ps : List Place) (us vs : List (List ℕ)) → length vs ≡ length ps → texts_of (map c ps) ≡ Some us → AllHold c (text_conditions ps vs) → vs ≡ us
hold_texts c [] us [] n e h = some_is [] us e
hold_texts c [] us (v ∷ vs) n e h = absurd (omega (arith, n))
hold_texts c (p ∷ ps) us [] n e h = absurd (omega (arith, n))
hold_texts c (p ∷ ps) us (v ∷ vs) n e h =
    let b = texts_first (c p) (map c ps) us e in
    let m : length vs ≡ length ps = omega (arith, n) in
    ap (λ z. z ∷ vs) (some_is v b.0 (sym h.0 ∙ b.2)) ∙ (ap (λ z. b.0 ∷ z) (hold_texts c ps b.1 vs m b.3 h.1) ∙ sym b.4)

texts_fit : (n : ℕ) (ps : List Place) (us : List (List ℕ)) → All (PlaceFits n) ps → All (ConditionFits n) (text_conditions ps us)
texts_fit n [] us w = All-nil (ConditionFits n)
texts_fit n (p ∷ ps) [] w = All-nil (ConditionFits n)
texts_fit n (p ∷ ps) (u ∷ us) w = All-cons (ConditionFits n) (EqualText p u) (text_conditions ps us) (All-head (PlaceFits n) p ps w) (texts_fit n ps us (All-tail (PlaceFits n) p ps w))

-- the texts of an object that is this constant
given : (n : List ℕ) (a : Segments) (ps : List Place) → IsWhole (Iri a ps) → (c : CellsAt) → AreTexts c → (t u : Term) → term_at c (Fixed (Named n)) ≡ Some t → term_at c (Iri a ps) ≡ Some u → t ≡ u →
    (us : List (List ℕ)) × (texts_of (map c ps) ≡ Some us) × Gives a n us
given n a ps w c texts t u et eu same =
    let y = iri_some c a ps u eu in
    (y.0, y.1, record { fills = filling c texts a ps w y.0 y.1; gives = named_is (text_with a y.0) n (y.2 ∙ (sym same ∙ sym (some_is (Named n) t et))) })

pub text_never : (n : List ℕ) (a : Segments) (ps : List Place) → ((us : List (List ℕ)) → Gives a n us → ⊥) → Equates (Fixed (Named n)) (Iri a ps) None
text_never n a ps not = record {
  decides = λ _ w c texts t u et eu same. (let g = given n a ps w c texts t u et eu same in not g.0 g.2);
  fits = λ m _ _. tt;
}

pub text_when : (n : List ℕ) (a : Segments) (ps : List Place) (vs : List (List ℕ)) → IsWhole (Iri a ps) → Gives a n vs → ((us : List (List ℕ)) → Gives a n us → Some vs ≡ Some us) → Equates (Fixed (Named n)) (Iri a ps) (Some (text_conditions ps vs))
text_when n a ps vs w gives only = record {
  decides = λ _ _ c texts t u et eu. (
    (λ h. (let y = iri_some c a ps u eu in
        let are : vs ≡ y.0 = hold_texts c ps y.0 vs (gives.fills.each_hole ∙ sym w) y.1 (all_hold c (text_conditions ps vs) h) in
        sym (some_is (Named n) t et) ∙ (ap Named (sym gives.gives ∙ ap (text_with a) are) ∙ y.2))),
    (λ same. (let g = given n a ps w c texts t u et eu same in
        hold_all c (text_conditions ps vs) (subst (λ z. AllHold c (text_conditions ps z)) (sym (some_is vs g.0 (only g.0 g.2))) (texts_hold c ps g.0 g.1)))),
  );
  fits = λ m _ v. texts_fit m ps vs v;
}

-- the same, of what a call gives
pub iris_none : (a b : Segments) (ps qs : List Place) (u : Unifier) → IsUnifier a b u → u ≡ Never → Equates (Iri a ps) (Iri b qs) None
iris_none a b ps qs u h e = iris_never a b ps qs (subst (IsUnifier a b) e h)

pub iris_some : (a b : Segments) (ps qs : List Place) → IsWhole (Iri a ps) → IsWhole (Iri b qs) → (u : Unifier) (ms : List Meet) (cs : List Condition) → IsUnifier a b u → u ≡ When ms → cs ≡ map (met_condition ps qs) ms →
    Equates (Iri a ps) (Iri b qs) (Some cs)
iris_some a b ps qs wa wb u ms cs h e f = subst (λ z. Equates (Iri a ps) (Iri b qs) (Some z)) (sym f) (iris_when a b ps qs wa wb ms (subst (IsUnifier a b) e h))

pub holes_placed : (a b : Segments) (ps qs : List Place) → IsWhole (Iri a ps) → IsWhole (Iri b qs) → (u : Unifier) (ms : List Meet) → IsUnifier a b u → u ≡ When ms → All (IsPlaced (length ps) (length qs)) ms
holes_placed a b ps qs wa wb u ms h e = All-weaker (IsWithin a b) (IsPlaced (length ps) (length qs)) placed ms (within (subst (IsUnifier a b) e h))
  where
    within : AreConditions a b ms → All (IsWithin a b) ms
    within k = k.within

    placed : (m : Meet) → IsWithin a b m → IsPlaced (length ps) (length qs) m
    placed (Same i j) r = (first_within a b ps qs wa wb i r.0, second_within a b ps qs wa wb j r.1)
    placed (First i t) r = first_within a b ps qs wa wb i r
    placed (Second j t) r = second_within a b ps qs wa wb j r

pub text_none : (n : List ℕ) (a : Segments) (ps : List Place) (o : Option (List (List ℕ))) → ((us : List (List ℕ)) → Gives a n us → o ≡ Some us) → o ≡ None → Equates (Fixed (Named n)) (Iri a ps) None
text_none n a ps o only e = text_never n a ps (λ us g. (let k : None ≡ Some us = sym e ∙ only us g in cc))

pub text_some : (n : List ℕ) (a : Segments) (ps : List Place) → IsWhole (Iri a ps) → (o : Option (List (List ℕ))) (vs : List (List ℕ)) (cs : List Condition) → IfSome o (Gives a n) → ((us : List (List ℕ)) → Gives a n us → o ≡ Some us) → o ≡ Some vs →
    cs ≡ text_conditions ps vs → Equates (Fixed (Named n)) (Iri a ps) (Some cs)
text_some n a ps w o vs cs gives only e f =
    subst (λ z. Equates (Fixed (Named n)) (Iri a ps) (Some z)) (sym f) (text_when n a ps vs w (subst (λ z. IfSome z (Gives a n)) e gives) (λ us g. sym e ∙ only us g))

pub text_count : (n : List ℕ) (a : Segments) (ps : List Place) → IsWhole (Iri a ps) → (o : Option (List (List ℕ))) (vs : List (List ℕ)) → IfSome o (Gives a n) → o ≡ Some vs → length vs ≡ length ps
text_count n a ps w o vs gives e = count (subst (λ z. IfSome z (Gives a n)) e gives) ∙ sym w
  where
    count : Gives a n vs → length vs ≡ length (hole_texts a)
    count g = g.fills.each_hole

-- a condition of the texts from left to right
one_more : (ps : List Place) (us : List (List ℕ)) (i : ℕ) (p : Place) (u : List ℕ) → i < length ps → i < length us →
    text_conditions (take (suc i) ps) (take (suc i) us) ≡ text_conditions (take i ps) (take i us) ++ EqualText (get_or ps i p) (get_or us i u) ∷ []
one_more [] us i p u l k = absurd (omega (arith, l))
one_more (q ∷ ps) [] i p u l k = absurd (omega (arith, k))
one_more (q ∷ ps) (v ∷ us) zero p u l k = refl
one_more (q ∷ ps) (v ∷ us) (suc i) p u l k = ap (λ z. EqualText q v ∷ z) (one_more ps us i p u (omega (arith, l)) (omega (arith, k)))

pub texts_more : (ps : List Place) (us : List (List ℕ)) (i : ℕ) (u x : List ℕ) (old new : List Condition) → length us ≡ length ps → i < length ps → old ≡ text_conditions (take i ps) (take i us) →
    new ≡ old ++ EqualText (get_or ps i no_place) x ∷ [] → x ≡ u → u ≡ get_or us i u → new ≡ text_conditions (take (i + 1) ps) (take (i + 1) us)
texts_more ps us i u x old new n l is e f g =
    let k : i < length us = omega (arith, n, l) in
    e ∙ (ap (λ z. z ++ EqualText (get_or ps i no_place) x ∷ []) is ∙ (ap (λ z. text_conditions (take i ps) (take i us) ++ EqualText (get_or ps i no_place) z ∷ []) (f ∙ g) ∙ sym (rw add-one (one_more ps us i no_place u l k))))

-- what a call gives, read another way
pub if_ok : {T E : Type 0} (r : Result T E) (P Q : T → Type 0) → ((x : T) → P x → Q x) → IfOk r P → IfOk r Q
if_ok (Ok x) P Q f h = f x h
if_ok (Err e) P Q f h = tt

pub cells_once : {E : Type 0} (k l : ValueKind) (p q : Place) (r : Result (Option (List Condition)) E) → k ≡ l → IfOk r (λ o. o ≡ Some (Equal p q ∷ [])) → IfOk r (λ o. Equates (CellTerm k p) (CellTerm l q) o)
cells_once k l p q r same h = if_ok r _ _ (λ o e. subst (Equates (CellTerm k p) (CellTerm l q)) (sym e) (cells_alike k l p q same)) h

pub value_once : {E : Type 0} (l : ValueKind) (n : List ℕ) (k : ValueKind) (p : Place) (r : Result (Option (List Condition)) E) → l ≡ k → IfOk r (λ o. o ≡ Some (EqualText p n ∷ [])) → IfOk r (λ o. Equates (Fixed (Value l n)) (CellTerm k p) o)
value_once l n k p r same h = if_ok r _ _ (λ o e. subst (Equates (Fixed (Value l n)) (CellTerm k p)) (sym e) (value_alike l n k p same)) h

pub turned_call : {E : Type 0} (s r t : RowTerm) (result : Result (Option (List Condition)) E) → t ≡ s → IfOk result (λ o. Equates s r o) → IfOk result (λ o. Equates r t o)
turned_call s r t result e h = if_ok result _ _ (λ o x. subst (λ z. Equates r z o) (sym e) (equates_turned s r o x)) h
