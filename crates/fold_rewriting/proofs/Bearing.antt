-- The births that give an atom, among what is below a class and under a link.
use Rattle.std.proofs.Common.{ℕ, ◌≡◌, ◌↔◌, refl, sym, ◌∙◌, ap, subst, ◌≤◌, ◌<◌, ◌+◌, Bool, true, false, List, [], ◌∷◌, ◌++◌, inl, inr, Option, Some, None, ltb, length, get_or, take, filter_map, arith}
use Rattle.std.specs.declared.cmp.Ordering.{Ordering}
use Rattle.std.specs.declared.cmp.Ordering.TheVariants.{Less, Equal}
use Rattle.std.specs.List.{list_any, cons_option}
use Rattle.std.specs.Option.{option_to_list}
use Rattle.std.proofs.lemmas.List.Elements.{filter_map-append}
use Rattle.std.specs.List.Sorted.{IsStrictlySortedBy}
use Rattle.std.specs.Ordering.{nat_cmp, ordering_then}
use Rattle.std.proofs.lemmas.Bool.{eqb-true, eq-eqb, or_cases, or_left, or_right, ltb-true, false≢true}
use Rattle.std.proofs.lemmas.Bool.Decides.{nat_tests}
use Rattle.std.proofs.lemmas.List.{take_more}
use Rattle.std.proofs.lemmas.Map.Keys.{sorted_head, sorted_tail}
use Rattle.std.proofs.lemmas.Option.{none-some, same_Some}
use Rattle.std.specs.List.{AllByRecursion}
use Rattle.vocabulary.specs.declared.ids.ClassId.{ClassId}
use Rattle.vocabulary.specs.declared.ids.LinkId.{LinkId}
use Rattle.vocabulary.specs.declared.ids.Dir.{Dir}
use Rattle.vocabulary.specs.declared.ids.Dir.TheVariants.{Fwd, Back}
use Rattle.vocabulary.specs.Lists.{In, here, there, IsListOf}
use Rattle.vocabulary.proofs.Lists.{In-append_cases, In-filter_map, from_filter_map}
use Rattle.dllite_axioms.specs.declared.axioms.Basic.{Basic}
use Rattle.dllite_axioms.specs.declared.axioms.Basic.TheVariants.{Class, Has}
use Rattle.dllite_axioms.specs.declared.axioms.Axiom.{Axiom}
use Rattle.dllite_axioms.specs.declared.axioms.Axiom.TheVariants.{SubLink}
use Rattle.dllite_axioms.specs.Basics.{other, turn}
use Rattle.dllite_axioms.specs.Chains.{Chain, stay, onward, Leads, by_sub, by_sub_link, Under, itself, further}
use Rattle.dllite_axioms.specs.Within.{IsAxiomWithin, IsWithin}
use Rattle.negative_closure.specs.Chains.{IsUnder, NoneTwice}
use Rattle.negative_closure.specs.Order.{dir_cmp, basic_cmp, end_cmp}
use Rattle.negative_closure.proofs.Places.{In-at, only_item}
use Rattle.fold_rewriting.specs.Births.{birth_to, same_end, is_birth_to}

-- an increasing list has no item twice
of_all : {X : Type 0} (P : X → Type 0) (xs : List X) (z : X) → AllByRecursion P xs → In z xs → P z
of_all P [] z all m = elim m [ ]
of_all P (x ∷ xs) z all (here e) = subst P e all.0
of_all P (x ∷ xs) z all (there m) = of_all P xs z all.1 m

none_twice_sorted : {X : Type 0} (cmp : X → X → Ordering) → ((x : X) → cmp x x ≡ Equal) → (xs : List X) → IsStrictlySortedBy cmp xs → NoneTwice xs
none_twice_sorted cmp level [] s = tt
none_twice_sorted cmp level (x ∷ xs) s =
    ((λ m. apart (of_all (λ z. cmp x z ≡ Less) xs x (sorted_head cmp x xs s) m) (level x)), none_twice_sorted cmp level xs (sorted_tail cmp x xs s))
  where
    apart : {o : Ordering} → o ≡ Less → o ≡ Equal → ⊥
    apart h k = cc

level_number : (n : ℕ) → nat_cmp n n ≡ Equal
level_number n = grind (arith, nat_tests)

level_dir : (d : Dir) → dir_cmp d d ≡ Equal
level_dir Fwd = refl
level_dir Back = refl

level_basic : (x : Basic) → basic_cmp x x ≡ Equal
level_basic (Class a) = level_number a.0
level_basic (Has p d) = ap (λ o. ordering_then o (dir_cmp d d)) (level_number p.0) ∙ level_dir d

pub once_basics : (P : Basic → Type 0) (xs : List Basic) → IsListOf basic_cmp P xs → NoneTwice xs
once_basics P xs l = none_twice_sorted basic_cmp level_basic xs l.ordered

pub once_ends : (P : LinkId × Dir → Type 0) (xs : List (LinkId × Dir)) → IsListOf end_cmp P xs → NoneTwice xs
once_ends P xs l = none_twice_sorted end_cmp (λ x. level_basic (Has x.0 x.1)) xs l.ordered

-- what axioms lead to is within their classes and links
leads_within : (classes links : ℕ) {ax : Axiom} {b c : Basic} → Leads ax b c → IsAxiomWithin classes links ax → IsWithin classes links c
leads_within classes links by_sub w = w.1
leads_within classes links by_sub_link w = w.1

no_class : {p : LinkId} {d : Dir} {c : ClassId} {P : Type 0} → Has p d ≡ Class c → P
no_class e = cc

module _ (axioms : List Axiom) (classes links : ℕ) (within : (a : Axiom) → In a axioms → IsAxiomWithin classes links a) where
  pub class_within : (p : LinkId) (d : Dir) (c : ClassId) → Chain axioms (Has p d) (Class c) → c.0 < classes
  class_within p d c chain = by chain refl
    where
      by : {b : Basic} → Chain axioms (Has p d) b → b ≡ Class c → c.0 < classes
      by (stay e) h = no_class (e ∙ h)
      by (onward ax r m l) h = subst (IsWithin classes links) h (leads_within classes links l (within ax m))

  pub under_within : {p q : LinkId} {d : Dir} → p.0 < links → Under axioms p d q → q.0 < links
  under_within w (itself e) = subst (λ (z : LinkId). z.0 < links) e w
  under_within w (further {p = p} {r = r} {e = e} u m h) = (within (SubLink p e r) m).1

-- the births among basics
twice : (d : Dir) → other (other d) ≡ d
twice Fwd = refl
twice Back = refl

birth_is : (p : LinkId) (d : Dir) → ◌≡◌ {A = Option (LinkId × Dir)} (birth_to (Has p (other d))) (Some (p, d))
birth_is p d = λ i. Some (p, twice d i)

pub birth_in : (p : LinkId) (d : Dir) (xs : List Basic) → In (Has p (other d)) xs → In {X = LinkId × Dir} (p, d) (filter_map birth_to xs)
birth_in p d xs m = In-filter_map birth_to m (birth_is p d)

same_pair : {p q : LinkId} {d e : Dir} → ◌≡◌ {A = Option (LinkId × Dir)} (Some (p, d)) (Some (q, e)) → ◌≡◌ {A = LinkId × Dir} (p, d) (q, e)
same_pair {p} {q} {d} {e} h = same_Some {A = LinkId × Dir} (p, d) (q, e) h

end_of_birth : (x : Basic) (b : LinkId × Dir) → birth_to x ≡ Some b → x ≡ Has b.0 (other b.1)
end_of_birth (Class a) b h = absurd (none-some b h)
end_of_birth (Has p d) b h =
    let e = same_Some {A = LinkId × Dir} (p, other d) b h in
    (λ i. Has p (sym (twice d) i)) ∙ ap {A = LinkId × Dir} (λ z. Has z.0 (other z.1)) e

pub of_birth : (p : LinkId) (d : Dir) (xs : List Basic) → In {X = LinkId × Dir} (p, d) (filter_map birth_to xs) → In (Has p (other d)) xs
of_birth p d xs m = let f = from_filter_map birth_to xs m in subst (λ x. In x xs) (end_of_birth f.0 (p, d) f.2) f.1

pub once_births : (xs : List Basic) → NoneTwice xs → NoneTwice (filter_map birth_to xs)
once_births [] h = tt
once_births (Class a ∷ xs) h = once_births xs h.1
once_births (Has p d ∷ xs) h = ((λ m. h.0 (subst (λ e. In (Has p e) xs) (twice d) (of_birth p (other d) xs m))), once_births xs h.1)

-- looking for one
pub same_told : (a b : LinkId × Dir) → same_end a b ≡ true → a ≡ b
same_told (p, Fwd) (q, Fwd) h = λ i. (record { 0 = eqb-true p.0 q.0 h i }, Fwd)
same_told (p, Fwd) (q, Back) h = cc
same_told (p, Back) (q, Fwd) h = cc
same_told (p, Back) (q, Back) h = λ i. (record { 0 = eqb-true p.0 q.0 h i }, Back)

pub same_itself : (a : LinkId × Dir) → same_end a a ≡ true
same_itself (p, Fwd) = eq-eqb p.0 p.0 refl
same_itself (p, Back) = eq-eqb p.0 p.0 refl

any_found : {X : Type 0} (t : X → Bool) (xs : List X) → list_any t xs ≡ true → (x : X) × In x xs × (t x ≡ true)
any_found t [] h = cc
any_found t (x ∷ xs) h = elim (or_cases (t x) (list_any t xs) h) [ inl e ↦ (x, here refl, e) | inr e ↦ (let r = any_found t xs e in (r.0, there r.1, r.2)) ]

found_any : {X : Type 0} (t : X → Bool) {x : X} (xs : List X) → In x xs → t x ≡ true → list_any t xs ≡ true
found_any t [] m h = elim m [ ]
found_any t (y ∷ xs) (here e) h = or_left (t y) (list_any t xs) (ap t e ∙ h)
found_any t (y ∷ xs) (there m) h = or_right (t y) (list_any t xs) (found_any t xs m h)

birth_told : (b : LinkId × Dir) (x : Basic) → is_birth_to b x ≡ true → Has b.0 (other b.1) ≡ x
birth_told b (Class a) h = cc
birth_told b (Has p d) h = ap {A = LinkId × Dir} (λ z. Has z.0 (other z.1)) (same_told b (p, other d) h) ∙ (λ i. Has p (twice d i))

pub among_basics : (b : LinkId × Dir) (xs : List Basic) → (list_any (is_birth_to b) xs ≡ true) ↔ In (Has b.0 (other b.1)) xs
among_basics b xs = (
  (λ h. (let r = any_found (is_birth_to b) xs h in subst (λ x. In x xs) (sym (birth_told b r.0 r.2)) r.1)),
  (λ m. found_any (is_birth_to b) xs m (ap (same_end b) (λ i. (b.0, twice b.1 i)) ∙ same_itself b)),
)

pub among_ends : (b : LinkId × Dir) (xs : List (LinkId × Dir)) → (list_any (same_end b) xs ≡ true) ↔ In b xs
among_ends b xs = (
  (λ h. (let r = any_found (same_end b) xs h in subst (λ x. In x xs) (sym (same_told b r.0 r.2)) r.1)),
  (λ m. found_any (same_end b) xs m (same_itself b)),
)

-- as the functions answer
pub told_into : (axioms : List Axiom) (b : LinkId × Dir) (c : ClassId) (below : List Basic) (r : Bool) → IsListOf basic_cmp (λ x. Chain axioms x (Class c)) below → r ≡ list_any (is_birth_to b) below →
    (r ≡ true) ↔ Chain axioms (Has b.0 (other b.1)) (Class c)
told_into axioms b c below r listed e = ((λ h. listed.each (Has b.0 (other b.1)) ((among_basics b below).0 (sym e ∙ h))), (λ k. e ∙ (among_basics b below).1 (listed.all (Has b.0 (other b.1)) k)))

pub told_at : (axioms : List Axiom) (b : LinkId × Dir) (q : LinkId) (e : Dir) (under : List (LinkId × Dir)) (r : Bool) → IsListOf end_cmp (λ end. IsUnder axioms end (q, e)) under → r ≡ list_any (same_end b) under →
    (r ≡ true) ↔ Under axioms b.0 (turn b.1 e) q
told_at axioms b q e under r listed h = ((λ t. listed.each b ((among_ends b under).0 (sym h ∙ t))), (λ k. h ∙ (among_ends b under).1 (listed.all b k)))

pub not_into : (axioms : List Axiom) (classes links : ℕ) → ((a : Axiom) → In a axioms → IsAxiomWithin classes links a) → (p : LinkId) (d : Dir) (c : ClassId) (n : ℕ) → n ≡ classes → n ≤ c.0 → (ltb c.0 n ≡ true) ↔ Chain axioms (Has p d) (Class c)
not_into axioms classes links within p d c n e l = (
  (λ t. (let h = ltb-true c.0 n t in absurd (omega (arith, h, l)))),
  (λ chain. (let h = class_within axioms classes links within p d c chain in absurd (omega (arith, h, l, e)))),
)

pub not_all : {X : Type 0} (P : X → Type 0) (xs : List X) (i : ℕ) (x : X) (b : Bool) → i < length xs → x ≡ get_or xs i x → (b ≡ true) ↔ P x → b ≡ false → (false ≡ true) ↔ ((z : X) → In z xs → P z)
not_all P xs i x b l is test none = (
  (λ h. absurd (false≢true h)),
  (λ all. absurd (false≢true (sym none ∙ test.1 (all x (subst (λ z. In z xs) (sym is) (In-at xs i x l)))))),
)

pub one_more : {X : Type 0} (P : X → Type 0) (xs : List X) (i : ℕ) (x : X) → i < length xs → x ≡ get_or xs i x → ((z : X) → In z (take i xs) → P z) → P x → (z : X) → In z (take (i + 1) xs) → P z
one_more P xs i x l is before here' z m =
    elim (In-append_cases (take i xs) (get_or xs i x ∷ []) (subst (In z) (take_more xs i x l) m)) [
      | inl n ↦ before z n
      | inr n ↦ subst P (is ∙ only_item n) here'
    ]

pub birth_more : (basics : List Basic) (i : ℕ) (d x : Basic) (births births' : List (LinkId × Dir)) (o : Option (LinkId × Dir)) → i < length basics → x ≡ get_or basics i d → births ≡ filter_map birth_to (take i basics) → birth_to x ≡ o → births' ≡ births ++ option_to_list o →
    births' ≡ filter_map birth_to (take (i + 1) basics)
birth_more basics i d x births births' o l is before e made =
    made ∙ ap (λ xs. xs ++ option_to_list o) before ∙ ap (λ ys. filter_map birth_to (take i basics) ++ ys) (sym (ap (λ z. cons_option z []) e ∙ listed o))
    ∙ sym (ap (filter_map birth_to) (take_more basics i d l) ∙ filter_map-append birth_to (take i basics) (get_or basics i d ∷ []) ∙ ap (λ z. filter_map birth_to (take i basics) ++ cons_option (birth_to z) []) (sym is))
  where
    listed : (o : Option (LinkId × Dir)) → cons_option o [] ≡ option_to_list o
    listed None = refl
    listed (Some y) = refl

pub within_at : (links : ℕ) (births items : List (LinkId × Dir)) (i : ℕ) (x : LinkId × Dir) → ((p : LinkId) (d : Dir) → In {X = LinkId × Dir} (p, d) births → p.0 < links) → items ≡ births → i < length items → (get_or items i x).0.0 < links
within_at links births items i x within same l = let y = get_or items i x in within y.0 y.1 (subst {A = List (LinkId × Dir)} (λ xs. In {X = LinkId × Dir} y xs) same (In-at items i x l))

pub all_in : (axioms : List Axiom) (c : ClassId) (below : List Basic) (births : List (LinkId × Dir)) → IsListOf basic_cmp (λ x. Chain axioms x (Class c)) below → births ≡ filter_map birth_to below → (p : LinkId) (d : Dir) →
    Chain axioms (Has p (other d)) (Class c) → In {X = LinkId × Dir} (p, d) births
all_in axioms c below births listed e p d chain = subst (λ xs. In {X = LinkId × Dir} (p, d) xs) (sym e) (birth_in p d below (listed.all (Has p (other d)) chain))

pub births_within : (classes links : ℕ) (below : List Basic) (births : List (LinkId × Dir)) → ((x : Basic) → In x below → IsWithin classes links x) → births ≡ filter_map birth_to below → (p : LinkId) (d : Dir) → In {X = LinkId × Dir} (p, d) births → p.0 < links
births_within classes links below births within e p d m = within (Has p (other d)) (of_birth p d below (subst (λ xs. In {X = LinkId × Dir} (p, d) xs) e m))

pub births_once : (axioms : List Axiom) (c : ClassId) (below : List Basic) (births : List (LinkId × Dir)) → IsListOf basic_cmp (λ x. Chain axioms x (Class c)) below → births ≡ filter_map birth_to below → NoneTwice births
births_once axioms c below births listed e = subst NoneTwice (sym e) (once_births below (once_basics (λ x. Chain axioms x (Class c)) below listed))

pub ends_once : (axioms : List Axiom) (q : LinkId) (e : Dir) (under births : List (LinkId × Dir)) → IsListOf end_cmp (λ end. IsUnder axioms end (q, e)) under → births ≡ under → NoneTwice births
ends_once axioms q e under births listed h = subst NoneTwice (sym h) (once_ends (λ end. IsUnder axioms end (q, e)) under listed)
