-- One constraint after the other.
use Rattle.std.proofs.Common.{◌≡◌, refl, sym, ◌∙◌, ap, subst, ℕ, zero, suc, ◌+◌, ◌<◌, ◌≤◌, ◌↔◌, ◌⊎◌, inl, inr, List, [], ◌∷◌, ◌++◌, length, take, get_or, Option, Some, None, arith}
use Rattle.std.specs.declared.cmp.Ordering.TheVariants.{Less}
use Rattle.std.specs.Ordering.{nat_cmp}
use Rattle.std.specs.List.{AllByRecursion}
use Rattle.std.specs.List.Sorted.{IsStrictlySortedBy}
use Rattle.std.proofs.lemmas.Bool.{lt-ltb}
use Rattle.std.proofs.lemmas.List.{take_more, map-append}
use Rattle.vocabulary.specs.declared.term.Fact.{Fact}
use Rattle.vocabulary.specs.Lists.{In, here, item, there}
use Rattle.vocabulary.proofs.Lists.{In-append_cases, In-append_left, In-append_right}
use Rattle.source_tables.specs.Tables.{Loaded}
use Rattle.dllite_axioms.specs.declared.axioms.Axiom.{Axiom}
use Rattle.dllite_axioms.specs.declared.axioms.Constraint.{Constraint}
use Rattle.dllite_axioms.specs.Chase.{AreKnown}
use Rattle.dllite_axioms.specs.declared.axioms.Tbox.{Tbox}
use Rattle.dllite_axioms.specs.Clashes.{IsContradicted}
use Rattle.mapping_facts.specs.declared.mapping.Mapping.{Mapping}
use Rattle.mapping_facts.specs.Facts.{mapped_facts}
use Rattle.mapping_facts.proofs.Members.{In-slice_get}
use Rattle.conflict_checker.specs.declared.derivation.Derivation.{Derivation}
use Rattle.conflict_checker.specs.Derivations.{IsAccepted}
use Rattle.negative_closure.specs.declared.source.Source.{Source}
use Rattle.mapping_facts.specs.Fits.{AreFit}
use Rattle.negative_closure.specs.declared.plan.Plan.{Plan}
use Rattle.negative_closure.specs.Plans.{EndsInClash}
use Rattle.negative_closure.specs.Sources.{IsMetBy, Meets}
use Rattle.consistency_check.specs.declared.met.Met.{Met}
use Rattle.consistency_check.specs.Meeting.{AreMet}
use Rattle.consistency_check.specs.Planned.{derivation_of}
use Rattle.consistency_check.proofs.Known.{mapped_known}
use Rattle.consistency_check.proofs.Planned.{accepted, short}
use Rattle.consistency_check.specs.Contradictions.{AreContradictions, IsContradictedAt, IsContradiction, constraint_numbers}

-- a numbered item is one
pub item_in : {X : Type 0} (xs : List X) (n : ℕ) (x : X) → item xs n ≡ Some x → In x xs
item_in xs zero x e = cc
item_in xs (suc n) x e = In-slice_get xs n x e

-- no source so far
pub not_met : (facts : List Fact) (sources : List Source) (i : ℕ) (d : Source) → i < length sources → ((z : Source) → In z (take i sources) → Meets facts z → ⊥) → (Meets facts (get_or sources i d) → ⊥) →
    (z : Source) → In z (take (i + 1) sources) → Meets facts z → ⊥
not_met facts sources i d low before here_not z m met =
    elim (In-append_cases (take i sources) (get_or sources i d ∷ []) (subst (In z) (take_more sources i d low) m)) [ inl k ↦ before z k met | inr k ↦ only k ]
  where
    only : In z (get_or sources i d ∷ []) → ⊥
    only (here e) = here_not (subst (Meets facts) (sym e) met)
    only (there k) = elim k [ ]

-- what the sources of a constraint tell
abbrev pub Tells : List Axiom → Constraint → List Source → Type 0
Tells axioms c sources = (facts : List Fact) → AreKnown facts → IsContradicted axioms facts c ↔ ((s : Source) × In s sources × Meets facts s)

pub same_constraint : (c k : Constraint) (o : Option Constraint) → o ≡ Some c → o ≡ Some k → c ≡ k
same_constraint c k o e f = let g : Some c ≡ Some k = sym e ∙ f in cc

module _ (tbox : Tbox) (mappings : List Mapping) (tables : List Loaded) (n : ℕ) where
  pub no_item : None ≡ item tbox.constraints n → IsContradictedAt tbox mappings tables n → ⊥
  no_item none h = let e : None ≡ Some h.0 = none ∙ h.1 in cc

  -- where no source is met the constraint is not contradicted
  pub none_contradicted : (axioms : List Axiom) (c : Constraint) (sources : List Source) → AreFit mappings → axioms ≡ tbox.axioms → item tbox.constraints n ≡ Some c → Tells axioms c sources →
      ((s : Source) → In s sources → Meets (mapped_facts mappings tables) s → ⊥) → IsContradictedAt tbox mappings tables n → ⊥
  none_contradicted axioms c sources fit same named tells none h =
      let known = mapped_known mappings tables fit in
      let k : h.0 ≡ c = same_constraint h.0 c (item tbox.constraints n) h.1 named in
      let told : IsContradicted axioms (mapped_facts mappings tables) c = subst (λ x. IsContradicted x (mapped_facts mappings tables) c) (sym same) (subst (IsContradicted tbox.axioms (mapped_facts mappings tables)) k h.2) in
      let met = (tells (mapped_facts mappings tables) known).0 told in
      none met.0 met.1 met.2

  -- and where one is, its plan derives it
  pub one_contradicted : (axioms : List Axiom) (c : Constraint) (sources : List Source) (s : Source) (met : Met) (plan : Plan) (d : Derivation) → AreFit mappings → axioms ≡ tbox.axioms → item tbox.constraints n ≡ Some c → Tells axioms c sources → In s sources →
      AreMet mappings tables s met → ((f g : Fact) → IsMetBy s f g → EndsInClash axioms c (f ∷ g ∷ []) plan) → length plan.rules ≤ 4800 → d ≡ derivation_of n met plan → IsContradiction tbox mappings tables n (Some d)
  one_contradicted axioms c sources s met plan d fit same named tells listed are ends few is =
      let known = mapped_known mappings tables fit in
      let told = (tells (mapped_facts mappings tables) known).1 (s, listed, (are.one, are.two, are.given_one, are.given_two, are.meet)) in
      let ends' : (f g : Fact) → IsMetBy s f g → EndsInClash tbox.axioms c (f ∷ g ∷ []) plan = λ f g m. subst (λ x. EndsInClash x c (f ∷ g ∷ []) plan) same (ends f g m) in
      subst (λ x. IsContradiction tbox mappings tables n (Some x)) (sym is)
      (accepted tbox mappings tables s n c met plan are ends' named, refl, short n met plan few, (c, named, subst (λ x. IsContradicted x (mapped_facts mappings tables) c) same told))

-- increasing numbers
all_push : (P : ℕ → Type 0) (xs : List ℕ) (n : ℕ) → AllByRecursion P xs → P n → AllByRecursion P (xs ++ n ∷ [])
all_push P [] n all h = (h, all)
all_push P (x ∷ xs) n all h = (all.0, all_push P xs n all.1 h)

lt_Less : (m n : ℕ) → m < n → nat_cmp m n ≡ Less
lt_Less m n low = rw (lt-ltb m n low) refl

sorted_push : (xs : List ℕ) (n : ℕ) → IsStrictlySortedBy nat_cmp xs → ((m : ℕ) → In m xs → m < n) → IsStrictlySortedBy nat_cmp (xs ++ n ∷ [])
unfolding IsStrictlySortedBy
sorted_push [] n sorted below = (tt, sorted)
sorted_push (x ∷ xs) n sorted below = (all_push (λ y. nat_cmp x y ≡ Less) xs n sorted.0 (lt_Less x n (below x (here refl))), sorted_push xs n sorted.1 (λ m i. below m (there i)))

module _ (tbox : Tbox) (mappings : List Mapping) (tables : List Loaded) where
  pub none_yet : AreContradictions tbox mappings tables 0 []
  unfolding IsStrictlySortedBy
  none_yet = record {
    accepted = λ d i. elim i [ ];
    short = λ d i. elim i [ ];
    increasing = tt;
    within = λ n i. elim i [ ];
    all = λ n low h. absurd (no_zero n low h);
    only = λ n i. elim i [ ];
  }
    where
      no_zero : (n : ℕ) → n ≤ 0 → IsContradictedAt tbox mappings tables n → ⊥
      no_zero zero low h = let e : None ≡ Some h.0 = h.1 in cc
      no_zero (suc n) low h = absurd (omega (arith, low))

  below_or : (n count : ℕ) → n ≤ count + 1 → (n ≤ count) ⊎ (n ≡ count + 1)
  below_or n count low = grind arith

  -- a constraint that is not contradicted
  pub none_more : (count : ℕ) (ds : List Derivation) → AreContradictions tbox mappings tables count ds → IsContradiction tbox mappings tables (count + 1) None → AreContradictions tbox mappings tables (count + 1) ds
  none_more count ds are none = record {
    accepted = are.accepted;
    short = are.short;
    increasing = are.increasing;
    within = λ n i. let low = are.within n i in omega (arith, low);
    all = λ n low h. elim (below_or n count low) [ inl l ↦ are.all n l h | inr e ↦ absurd (none (subst (IsContradictedAt tbox mappings tables) e h)) ];
    only = are.only;
  }

  -- and one that is
  pub one_more : (count : ℕ) (ds ds' : List Derivation) (d : Derivation) → AreContradictions tbox mappings tables count ds → IsContradiction tbox mappings tables (count + 1) (Some d) → ds' ≡ ds ++ d ∷ [] →
      AreContradictions tbox mappings tables (count + 1) ds'
  one_more count ds ds' d are found added = subst (AreContradictions tbox mappings tables (count + 1)) (sym added) (record {
    accepted = λ e i. last (IsAccepted tbox mappings tables) e i are.accepted found.0;
    short = λ e i. last (λ x. length x.steps ≤ 8_000) e i are.short found.2;
    increasing = rw numbers (sorted_push (constraint_numbers ds) (count + 1) are.increasing (λ m i. (let low = are.within m i in omega (arith, low))));
    within = λ n i. elim (cases n i) [ inl j ↦ (let low = are.within n j in omega (arith, low)) | inr e ↦ omega (arith, e) ];
    all = λ n low h. subst (In n) (sym numbers) (elim (below_or n count low) [ inl l ↦ In-append_left ((count + 1) ∷ []) (are.all n l h) | inr e ↦ In-append_right (constraint_numbers ds) (here (sym e)) ]);
    only = λ n i. elim (cases n i) [ inl j ↦ are.only n j | inr e ↦ subst (IsContradictedAt tbox mappings tables) (sym e) found.3 ];
  })
    where
      numbers : constraint_numbers (ds ++ d ∷ []) ≡ constraint_numbers ds ++ ((count + 1) ∷ [])
      numbers = map-append (λ x. x.constraint) ds (d ∷ []) ∙ ap (λ n. constraint_numbers ds ++ n ∷ []) found.1

      only_one : (P : Derivation → Type 0) (e : Derivation) → In e (d ∷ []) → P d → P e
      only_one P e (here same) h = subst P same h
      only_one P e (there j) h = elim j [ ]

      last : (P : Derivation → Type 0) (e : Derivation) → In e (ds ++ d ∷ []) → ((x : Derivation) → In x ds → P x) → P d → P e
      last P e i before here_too = elim (In-append_cases ds (d ∷ []) i) [ inl j ↦ before e j | inr j ↦ only_one P e j here_too ]

      that : {n m : ℕ} → In n (m ∷ []) → n ≡ m
      that (here e) = sym e
      that (there j) = elim j [ ]

      cases : (n : ℕ) → In n (constraint_numbers (ds ++ d ∷ [])) → In n (constraint_numbers ds) ⊎ (n ≡ count + 1)
      cases n i = elim (In-append_cases (constraint_numbers ds) ((count + 1) ∷ []) (subst (In n) numbers i)) [ inl j ↦ inl j | inr j ↦ inr (that j) ]
