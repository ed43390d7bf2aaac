-- The part of an ordered list that stands alike to a key is an ordered list.
use Rattle.std.proofs.Common.{◌≡◌, refl, ap, subst, ℕ, Bool, true, false, cond, List, [], ◌∷◌, Option, Some, None, filter, filter_map}
use Rattle.std.specs.declared.cmp.Ordering.{Ordering}
use Rattle.std.specs.declared.cmp.Ordering.TheVariants.{Less, Equal, Greater}
use Rattle.std.specs.Ordering.{is_eq, ordering_then}
use Rattle.std.specs.Cmp.{Equal-is}
use Rattle.std.specs.List.{AllByRecursion, cons_option}
use Rattle.std.specs.List.Sorted.{IsStrictlySortedBy}
use Rattle.std.proofs.lemmas.Cmp.{tied_itself}
use Rattle.vocabulary.specs.declared.term.Term.{Term, New', Named, Value}
use Rattle.vocabulary.specs.Lists.{IsListOf}
use Rattle.vocabulary.specs.Texts.{text_cmp}
use Rattle.vocabulary.proofs.Lists.{In-filter_map, from_filter_map}
use Rattle.queries.specs.Order.{term_cmp, tuple_cmp}
use Rattle.queries.proofs.Ordered.{tuples_ordered}
use Rattle.log_assembly.specs.Found.{begins, lone_name, names_of, second, values_at}

-- the same list by another condition that holds of the same
pub listed_by : {A : Type 0} (cmp : A → A → Ordering) (P Q : A → Type 0) (xs : List A) → ((x : A) → P x → Q x) → ((x : A) → Q x → P x) → IsListOf cmp P xs → IsListOf cmp Q xs
listed_by cmp P Q xs to from l = record { ordered = l.ordered; each = λ x m. to x (l.each x m); all = λ x q. l.all x (from x q) }

module _ {X Y : Type 0} (cmp : X → X → Ordering) (cmp' : Y → Y → Ordering) (f : X → Option Y) (g : Y → X) (back : (x : X) (y : Y) → f x ≡ Some y → x ≡ g y) (forth : (y : Y) → f (g y) ≡ Some y)
    (same : (y z : Y) → cmp (g y) (g z) ≡ Less → cmp' y z ≡ Less) where
  below : (x : X) (y : Y) (e : f x ≡ Some y) (xs : List X) → AllByRecursion (λ w. cmp x w ≡ Less) xs → AllByRecursion (λ z. cmp' y z ≡ Less) (filter_map f xs)
  below x y e [] all = tt
  below x y e (w ∷ xs) all = by (below x y e xs all.1) (f w) refl
    where
      by : AllByRecursion (λ z. cmp' y z ≡ Less) (filter_map f xs) → (o : Option Y) → f w ≡ o → AllByRecursion (λ z. cmp' y z ≡ Less) (cons_option o (filter_map f xs))
      by rest None k = rest
      by rest (Some z) k =
          let less : cmp (g y) (g z) ≡ Less = subst (λ v. cmp (g y) v ≡ Less) (back w z k) (subst (λ v. cmp v w ≡ Less) (back x y e) all.0) in
          (same y z less, rest)

  ascending : (xs : List X) → IsStrictlySortedBy cmp xs → IsStrictlySortedBy cmp' (filter_map f xs)
  unfolding IsStrictlySortedBy
  ascending [] s = tt
  ascending (x ∷ xs) s = by (ascending xs s.1) (f x) refl
    where
      by : IsStrictlySortedBy cmp' (filter_map f xs) → (o : Option Y) → f x ≡ o → IsStrictlySortedBy cmp' (cons_option o (filter_map f xs))
      by rest None e = rest
      by rest (Some y) e = (below x y e xs s.0, rest)

  pub section : (P : X → Type 0) (xs : List X) → IsListOf cmp P xs → IsListOf cmp' (λ y. P (g y)) (filter_map f xs)
  section P xs l = record {
    ordered = ascending xs l.ordered;
    each = λ y m. let r = from_filter_map f xs m in subst P (back r.0 y r.2) (l.each r.0 r.1);
    all = λ y p. In-filter_map f (l.all (g y) p) (forth y);
  }

-- a filter before a filter_map is one of them
pub fused : {X Y : Type 0} (p : X → Bool) (h : X → Option Y) (xs : List X) → filter_map (λ x. cond (p x) (h x) None) xs ≡ filter_map h (filter p xs)
fused p h [] = refl
fused p h (x ∷ xs) = by (fused p h xs) (p x)
  where
    by : filter_map (λ x. cond (p x) (h x) None) xs ≡ filter_map h (filter p xs) → (b : Bool) → cons_option (cond b (h x) None) (filter_map (λ x. cond (p x) (h x) None) xs) ≡ filter_map h (cond b (x ∷ filter p xs) (filter p xs))
    by rest true = ap (cons_option (h x)) rest
    by rest false = rest

pub then_last : (o : Ordering) → ordering_then o Equal ≡ Less → o ≡ Less
then_last Less e = refl
then_last Equal e = cc
then_last Greater e = cc

-- names that stand alone
name_back : (x : List Term) (n : List ℕ) → lone_name x ≡ Some n → x ≡ Named n ∷ []
name_back [] n e = cc
name_back (Named m ∷ []) n e = cc
name_back (Value k m ∷ []) n e = cc
name_back (New' p d s r ∷ []) n e = cc
name_back (t ∷ u ∷ us) n e = cc

pub names_listed : (P : List Term → Type 0) (tuples : List (List Term)) → IsListOf tuple_cmp P tuples → IsListOf text_cmp (λ n. P (Named n ∷ [])) (names_of tuples)
names_listed P tuples l = section tuple_cmp text_cmp lone_name (λ n. Named n ∷ []) name_back (λ n. refl) (λ m n e. then_last (text_cmp m n) (then_last (ordering_then (text_cmp m n) Equal) e)) P tuples l

-- what begins with a term has it as its first
pub begins_is : (t s : Term) (ss : List Term) → begins t (s ∷ ss) ≡ true → s ≡ t
begins_is t s ss e = (tuples_ordered.term_level s t).0 ((Equal-is (term_cmp s t)).0 e)

pub begins_itself : (t : Term) (ss : List Term) → begins t (t ∷ ss) ≡ true
begins_itself t ss = ap is_eq (tied_itself tuples_ordered.terms t)

abbrev second_at : Term → List Term → Option Term
second_at t x = cond (begins t x) (second x) None

second_back : (t : Term) (x : List Term) (v : Term) → second_at t x ≡ Some v → x ≡ t ∷ v ∷ []
second_back t [] v e = cc
second_back t (s ∷ []) v e = by (begins t (s ∷ [])) e
  where
    by : (b : Bool) → cond b None None ≡ Some v → s ∷ [] ≡ t ∷ v ∷ []
    by true e = cc
    by false e = cc
second_back t (s ∷ w ∷ []) v e = by (begins t (s ∷ w ∷ [])) refl e
  where
    by : (b : Bool) → begins t (s ∷ w ∷ []) ≡ b → cond b (Some w) None ≡ Some v → s ∷ w ∷ [] ≡ t ∷ v ∷ []
    by true b e = let first : s ≡ t = begins_is t s (w ∷ []) b in cc
    by false b e = cc
second_back t (s ∷ w ∷ u ∷ us) v e = by (begins t (s ∷ w ∷ u ∷ us)) e
  where
    by : (b : Bool) → cond b None None ≡ Some v → s ∷ w ∷ u ∷ us ≡ t ∷ v ∷ []
    by true e = cc
    by false e = cc

second_less : (t y z : Term) → tuple_cmp (t ∷ y ∷ []) (t ∷ z ∷ []) ≡ Less → term_cmp y z ≡ Less
second_less t y z e =
    let level : term_cmp t t ≡ Equal = tied_itself tuples_ordered.terms t in
    then_last (term_cmp y z) (subst (λ o. ordering_then o (ordering_then (term_cmp y z) Equal) ≡ Less) level e)

-- the second terms of what begins with a term
pub values_listed : (t : Term) (P : List Term → Type 0) (tuples : List (List Term)) → IsListOf tuple_cmp P tuples → IsListOf term_cmp (λ v. P (t ∷ v ∷ [])) (values_at t tuples)
values_listed t P tuples l =
    let made = section tuple_cmp term_cmp (second_at t) (λ v. t ∷ v ∷ []) (second_back t) (λ v. ap (λ b. cond b (Some v) None) (begins_itself t (v ∷ []))) (second_less t) P tuples l in
    subst (IsListOf term_cmp (λ v. P (t ∷ v ∷ []))) (fused (begins t) second tuples) made
