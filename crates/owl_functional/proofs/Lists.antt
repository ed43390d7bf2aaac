-- Lists read item by item.
use Rattle.std.proofs.Common.{◌≡◌, ◌<◌, ◌≤◌, ◌+◌, ◌||◌, ℕ, suc, Bool, List, [], ◌∷◌, ◌++◌, Option, Some, None, length, get_or, take, drop, map, refl, sym, ap, ◌∙◌, arith, add-one, drop-cons, append_assoc, slice_get}
use Rattle.std.specs.List.{list_any, fold, flat_map}
use Rattle.std.proofs.lemmas.Option.{get_or_from_slice_get}
use Rattle.std.proofs.lemmas.Grind.{flat_map-append}
use Rattle.std.proofs.lemmas.List.Folds.{length-flat_map-take}
use Rattle.dllite_axioms.specs.declared.axioms.Basic.{Basic}
use Rattle.dllite_axioms.specs.declared.axioms.Constraint.{Constraint}
use Rattle.dllite_axioms.specs.declared.axioms.Constraint.TheVariants.{Disjoint}
use Rattle.dllite_axioms.specs.declared.axioms.Axiom.{Axiom as Inclusion}
use Rattle.owl_functional.specs.declared.tree.Concept.{Concept}
use Rattle.std.proofs.lemmas.List.Sums.{fold-append}
use Rattle.owl_functional.specs.declared.numbered.Numbered.{Numbered}
use Rattle.owl_functional.specs.Ontology.{none, with_axiom, basic_of, axioms_of, constraints_of, pairs}
use Rattle.std.proofs.lemmas.List.{take_more, drop_all, append-nil, map-append, length-append}
use Rattle.vocabulary.specs.declared.ids.ValueKind.{ValueKind}
use Rattle.vocabulary.specs.declared.ids.ValueKind.TheVariants.{Text}
use Rattle.owl_functional.specs.declared.fault.OwlFault.{OwlFault}
use Rattle.owl_functional.specs.declared.tree.Axiom.{Axiom}
use Rattle.owl_functional.specs.Rules.{kind_in, range_of, fault_of, first_fault, specialised_in, first_specialised}

pub any_of_map : {X Y : Type 0} (p : Y → Bool) (f : X → Y) (xs : List X) → list_any p (map f xs) ≡ list_any (λ x. p (f x)) xs
any_of_map p f [] = refl
any_of_map p f (x ∷ xs) = ap (λ b. p (f x) || b) (any_of_map p f xs)

-- the next item
next_item : (xs : List Axiom) (i : ℕ) (a : Axiom) → i < length xs → a ≡ get_or xs i a → drop i xs ≡ a ∷ drop (i + 1) xs
next_item xs i a lt item = drop-cons xs i a lt ∙ ap (λ x. x ∷ drop (suc i) xs) (sym item) ∙ rw add-one refl

-- the front with one axiom more
pub more_front : (all : List Axiom) (i : ℕ) (a : Axiom) (taken front : List Axiom) → i < length all → a ≡ get_or all i a → taken ≡ take i all → front ≡ take (i + 1) all → front ≡ taken ++ a ∷ []
more_front all i a taken front lt item so is = is ∙ take_more all i a lt ∙ ap (λ x. take i all ++ x ∷ []) (sym item) ∙ ap (λ xs. xs ++ a ∷ []) (sym so)

-- the first axiom with a fault
module _ (whole : Option OwlFault) (all : List Axiom) (i : ℕ) (so : whole ≡ first_fault all (take i all) (drop i all)) where
  module _ (a : Axiom) (before : List Axiom) (front : before ≡ take i all) (lt : i < length all) (item : a ≡ get_or all i a) where
    fault_at : whole ≡ first_fault all before (a ∷ drop (i + 1) all)
    fault_at = rw front (so ∙ ap (λ xs. first_fault all (take i all) xs) (next_item all i a lt item))

    pub fault_here : (e : OwlFault) → fault_of all before a ≡ Some e → Some e ≡ whole
    unfolding first_fault
    fault_here e is = sym (rw is at fault_at)

    pub fault_later : fault_of all before a ≡ None → whole ≡ first_fault all (take (i + 1) all) (drop (i + 1) all)
    unfolding first_fault
    fault_later is =
        let more : before ++ a ∷ [] ≡ take (i + 1) all = ap (λ x. before ++ x ∷ []) item ∙ ap (λ xs. xs ++ get_or all i a ∷ []) front ∙ sym (take_more all i a lt) in
        let h : whole ≡ first_fault all (before ++ a ∷ []) (drop (i + 1) all) = rw is at fault_at in
        h ∙ ap (λ xs. first_fault all xs (drop (i + 1) all)) more

  pub fault_none : length all ≤ i → None ≡ whole
  unfolding first_fault
  fault_none le = sym (rw (drop_all i all le) at so)

-- the first one below a functional one
module _ (whole : Option OwlFault) (all : List Axiom) (i : ℕ) (so : whole ≡ first_specialised all (drop i all)) where
  module _ (a : Axiom) (lt : i < length all) (item : a ≡ get_or all i a) where
    special_at : whole ≡ first_specialised all (a ∷ drop (i + 1) all)
    special_at = so ∙ ap (λ xs. first_specialised all xs) (next_item all i a lt item)

    pub special_here : (e : OwlFault) → specialised_in all a ≡ Some e → Some e ≡ whole
    unfolding first_specialised
    special_here e is = sym (rw is at special_at)

    pub special_later : specialised_in all a ≡ None → whole ≡ first_specialised all (drop (i + 1) all)
    unfolding first_specialised
    special_later is = rw is at special_at

  pub special_none : length all ≤ i → None ≡ whole
  unfolding first_specialised
  special_none le = sym (rw (drop_all i all le) at so)

-- what is numbered with one axiom more
pub next_numbered : (all : List Axiom) (i : ℕ) (a : Axiom) (now next : Numbered) → i < length all → a ≡ get_or all i a → now ≡ fold (with_axiom all) none (take i all) → next ≡ with_axiom all now a → next ≡ fold (with_axiom all) none (take (i + 1) all)
next_numbered all i a now next lt item so is =
    is ∙ ap (λ n. with_axiom all n a) so ∙ ap (λ x. with_axiom all (fold (with_axiom all) none (take i all)) x) item
    ∙ sym (fold-append (with_axiom all) none (take i all) (get_or all i a ∷ [])) ∙ sym (ap (fold (with_axiom all) none) (take_more all i a lt))

-- what axioms give, with one axiom more
gathered : {X Y : Type 0} (f : X → List Y) (xs : List X) (i : ℕ) (a : X) (now next : List Y) → i < length xs → a ≡ get_or xs i a → now ≡ flat_map f (take i xs) → next ≡ now ++ f a → next ≡ flat_map f (take (i + 1) xs)
gathered f xs i a now next lt item so is =
    is ∙ ap (λ ys. ys ++ f a) so ∙ ap (λ x. flat_map f (take i xs) ++ f x) item ∙ ap (λ last. flat_map f (take i xs) ++ last) (sym (append-nil (f (get_or xs i a))))
    ∙ sym (flat_map-append f (take i xs) (get_or xs i a ∷ [])) ∙ sym (ap (flat_map f) (take_more xs i a lt))

pub next_axioms : (n : Numbered) (xs : List Axiom) (i : ℕ) (a : Axiom) (now next : List Inclusion) → i < length xs → a ≡ get_or xs i a → now ≡ flat_map (axioms_of n) (take i xs) → next ≡ now ++ axioms_of n a → next ≡ flat_map (axioms_of n) (take (i + 1) xs)
next_axioms n xs i a now next lt item so is = gathered (axioms_of n) xs i a now next lt item so is

pub next_constraints : (n : Numbered) (xs : List Axiom) (i : ℕ) (a : Axiom) (now next : List Constraint) → i < length xs → a ≡ get_or xs i a → now ≡ flat_map (constraints_of n) (take i xs) → next ≡ now ++ constraints_of n a → next ≡ flat_map (constraints_of n) (take (i + 1) xs)
next_constraints n xs i a now next lt item so is = gathered (constraints_of n) xs i a now next lt item so is

pub many_constraints : (n : Numbered) (xs : List Axiom) (i : ℕ) (a : Axiom) (now : List Constraint) → i < length xs → a ≡ get_or xs i a → now ≡ flat_map (constraints_of n) (take i xs) → 3000 < length (now ++ constraints_of n a) → 3000 < length (flat_map (constraints_of n) xs)
many_constraints n xs i a now lt item so many =
    let most = length-flat_map-take (constraints_of n) xs i a lt in
    let size = length-append now (constraints_of n a) in
    let here : length (constraints_of n a) ≡ length (constraints_of n (get_or xs i a)) = ap (λ x. length (constraints_of n x)) item in
    let front : length now ≡ length (flat_map (constraints_of n) (take i xs)) = ap length so in
    omega (arith, most, size, here, front, many)

pub next_basic : (n : Numbered) (cs : List Concept) (i : ℕ) (c : Concept) (now next : List Basic) → i < length cs → c ≡ get_or cs i c → now ≡ map (basic_of n) (take i cs) → next ≡ now ++ basic_of n c ∷ [] → next ≡ map (basic_of n) (take (i + 1) cs)
next_basic n cs i c now next lt item so is =
    is ∙ ap (λ bs. bs ++ basic_of n c ∷ []) so ∙ ap (λ x. map (basic_of n) (take i cs) ++ basic_of n x ∷ []) item
    ∙ sym (map-append (basic_of n) (take i cs) (get_or cs i c ∷ [])) ∙ sym (ap (map (basic_of n)) (take_more cs i c lt))

pub next_row : (b : Basic) (bs : List Basic) (i : ℕ) (d : Basic) (old now next : List Constraint) → i < length bs → now ≡ old ++ map (Disjoint b) (take i bs) → next ≡ now ++ Disjoint b (get_or bs i d) ∷ [] → next ≡ old ++ map (Disjoint b) (take (i + 1) bs)
next_row b bs i d old now next lt so is =
    is ∙ ap (λ cs. cs ++ Disjoint b (get_or bs i d) ∷ []) so ∙ append_assoc old (map (Disjoint b) (take i bs)) (Disjoint b (get_or bs i d) ∷ [])
    ∙ ap (λ cs. old ++ cs) (sym (map-append (Disjoint b) (take i bs) (get_or bs i d ∷ []))) ∙ sym (ap (λ xs. old ++ map (Disjoint b) xs) (take_more bs i d lt))

-- the pairs of a first basic, and those behind it
module _ (old now : List Constraint) (bs : List Basic) (i : ℕ) (so : old ++ pairs bs ≡ now ++ pairs (drop i bs)) where
  pub next_pairs : i < length bs → (d : Basic) (next : List Constraint) → next ≡ now ++ map (Disjoint (get_or bs i d)) (drop (i + 1) bs) → old ++ pairs bs ≡ next ++ pairs (drop (i + 1) bs)
  next_pairs lt d next is =
      let opened : pairs (drop i bs) ≡ map (Disjoint (get_or bs i d)) (drop (i + 1) bs) ++ pairs (drop (i + 1) bs) = ap pairs (drop-cons bs i d lt) ∙ rw add-one refl in
      so ∙ ap (λ cs. now ++ cs) opened ∙ sym (append_assoc now (map (Disjoint (get_or bs i d)) (drop (i + 1) bs)) (pairs (drop (i + 1) bs))) ∙ ap (λ cs. cs ++ pairs (drop (i + 1) bs)) (sym is)

  pub many_pairs : 3000 < length now → 3000 < length (old ++ pairs bs)
  many_pairs many =
      let size : length (old ++ pairs bs) ≡ length now + length (pairs (drop i bs)) = ap length so ∙ length-append now (pairs (drop i bs)) in
      omega (arith, size, many)

  pub all_pairs : length bs ≤ i → now ≡ old ++ pairs bs
  all_pairs le = sym (so ∙ ap (λ xs. now ++ pairs xs) (drop_all i bs le) ∙ append-nil now)

-- names, one more
pub next_name : (names : List (List ℕ)) (i : ℕ) (now next : List (List ℕ)) (text : List ℕ) → i < length names → slice_get names i ≡ Some text → now ≡ take i names → next ≡ now ++ text ∷ [] → next ≡ take (i + 1) names
next_name names i now next text lt is so pushed =
    pushed ∙ ap (λ xs. xs ++ text ∷ []) so ∙ ap (λ x. take i names ++ x ∷ []) (sym (get_or_from_slice_get names i text text is)) ∙ sym (take_more names i text lt)
