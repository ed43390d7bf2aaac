-- The void elements, one after another.
use Rattle.std.proofs.Common.{◌≡◌, refl, sym, ◌∙◌, ap, subst, ◌<◌, ◌≤◌, ◌+◌, ◌-◌, ℕ, List, [], ◌∷◌, ◌++◌, inl, inr, arith, nat_eq, if◌then◌else◌}
use Rattle.std.proofs.lemmas.Bool.{lt-ltb, le-ltb, cases_lt}
use Rattle.std.proofs.lemmas.List.{map-append}
use Rattle.std.specs.List.Sorted.{IsStrictlySortedBy}
use Rattle.std.specs.Ordering.{nat_cmp}
use Rattle.std.specs.declared.cmp.Ordering.TheVariants.{Less, Equal, Greater}
use Rattle.vocabulary.specs.Lists.{In, here, there}
use Rattle.vocabulary.proofs.Lists.{In-append_left, In-append_right, In-append_cases}
use Rattle.dllite_axioms.specs.declared.axioms.Tbox.{Tbox}
use Rattle.negative_closure.proofs.Marking.{sorted_more}
use Rattle.negative_closure.proofs.Places.{only_item, same_or_not}
use Rattle.model_lint.specs.declared.element.Void.{Void}
use Rattle.model_lint.specs.declared.element.Void.TheVariants.{Class, Link}
use Rattle.model_lint.specs.declared.element.VoidProof.{VoidProof}
use Rattle.model_lint.specs.Marks.{element}
use Rattle.model_lint.specs.Voids.{AreVoids, elements_of, HaveAttributes, IsElement, IsVoid, Shows, void_cmp}
use Rattle.model_lint.proofs.Renaming.{shown_is_void}

-- the void ones of the first n elements
pub record AreVoidsBelow (tbox : Tbox) (classes n : ℕ) (proofs : List VoidProof) : Type 0 where
  pub ordered : IsStrictlySortedBy void_cmp (elements_of proofs)
  pub shown : (proof : VoidProof) → In proof proofs → Shows tbox proof
  pub below : (v : Void) → In v (elements_of proofs) → (m : ℕ) × (m < n) × (element classes m ≡ v)
  pub all : HaveAttributes tbox.constraints → (m : ℕ) → m < n → IsVoid tbox (element classes m) → In (element classes m) (elements_of proofs)

-- elements by number
class_at : (classes n : ℕ) → n < classes → element classes n ≡ Class (record { 0 = n })
class_at classes n low = ap (λ b. if b then Class (record { 0 = n }) else Link (record { 0 = n - classes })) (lt-ltb n classes low)

link_at : (classes n : ℕ) → classes ≤ n → element classes n ≡ Link (record { 0 = n - classes })
link_at classes n high = ap (λ b. if b then Class (record { 0 = n }) else Link (record { 0 = n - classes })) (le-ltb n classes high)

less_cmp : (a b : ℕ) → a < b → nat_cmp a b ≡ Less
less_cmp a b low = ap (λ t. if t then Less else (if nat_eq a b then Equal else Greater)) (lt-ltb a b low)

element_less : (classes m n : ℕ) → m < n → void_cmp (element classes m) (element classes n) ≡ Less
element_less classes m n low =
    elim (cases_lt n classes) [
      | inl h ↦ (λ i. void_cmp (class_at classes m (omega (arith, low, h)) i) (class_at classes n h i)) ∙ less_cmp m n low
      | inr h ↦ elim (cases_lt m classes) [
        | inl k ↦ (λ i. void_cmp (class_at classes m k i) (link_at classes n h i))
        | inr k ↦ (λ i. void_cmp (link_at classes m k i) (link_at classes n h i)) ∙ less_cmp (m - classes) (n - classes) (omega (arith, low, k, h))
      ]
    ]

-- each element has its number
number_of : (classes links : ℕ) (v : Void) → IsElement classes links v → (n : ℕ) × (n < classes + links) × (element classes n ≡ v)
number_of classes links (Class a) e = (a.0, omega (arith, e), class_at classes a.0 e)
number_of classes links (Link p) e =
    let back : classes + p.0 - classes ≡ p.0 = omega arith in
    (classes + p.0, omega (arith, e), link_at classes (classes + p.0) (omega arith) ∙ (λ i. Link (record { 0 = back i })))

element_in : (classes links n : ℕ) → n < classes + links → IsElement classes links (element classes n)
element_in classes links n low =
    elim (cases_lt n classes) [
      | inl h ↦ subst (IsElement classes links) (sym (class_at classes n h)) h
      | inr h ↦ (let k : n - classes < links = omega (arith, low, h) in subst (IsElement classes links) (sym (link_at classes n h)) k)
    ]

pub none_below : (tbox : Tbox) (classes : ℕ) → AreVoidsBelow tbox classes 0 []
unfolding IsStrictlySortedBy
none_below tbox classes = record { ordered = tt; shown = λ p m. elim m [ ]; below = λ v m. elim m [ ]; all = λ h m low. absurd (omega (arith, low)) }

-- the next is void, or it is not
pub one_below : (tbox : Tbox) (classes n : ℕ) (proofs proofs' : List VoidProof) (proof : VoidProof) → AreVoidsBelow tbox classes n proofs → Shows tbox proof × (proof.what ≡ element classes n) → proofs' ≡ proofs ++ proof ∷ [] →
    AreVoidsBelow tbox classes (n + 1) proofs'
one_below tbox classes n proofs proofs' proof a found pushed =
    let names : elements_of proofs' ≡ elements_of proofs ++ proof.what ∷ [] = ap elements_of pushed ∙ map-append (λ p. p.what) proofs (proof ∷ []) in
    record {
      ordered = subst (IsStrictlySortedBy void_cmp) (sym names) (sorted_more void_cmp (elements_of proofs) proof.what a.ordered
          (λ v m. (let b = a.below v m in (λ i. void_cmp (sym b.2 i) (found.1 i)) ∙ element_less classes b.0 n b.1)));
      shown = λ p m. elim (In-append_cases proofs (proof ∷ []) (subst (In p) pushed m)) [ inl k ↦ a.shown p k | inr k ↦ subst (Shows tbox) (only_item k) found.0 ];
      below = λ v m. elim (In-append_cases (elements_of proofs) (proof.what ∷ []) (subst (In v) names m)) [
        | inl k ↦ (let b = a.below v k in (b.0, omega (arith, b.1), b.2))
        | inr k ↦ (n, omega arith, sym found.1 ∙ only_item k)
      ];
      all = λ h m low void. subst (In (element classes m)) (sym names) (elim (same_or_not m n) [
        | inl same ↦ In-append_right (elements_of proofs) (here (found.1 ∙ ap (element classes) (sym same)))
        | inr apart ↦ In-append_left (proof.what ∷ []) (a.all h m (omega (arith, low, apart)) void)
      ]);
    }

pub not_below : (tbox : Tbox) (classes n : ℕ) (proofs : List VoidProof) → AreVoidsBelow tbox classes n proofs → (HaveAttributes tbox.constraints → IsVoid tbox (element classes n) → ⊥) → AreVoidsBelow tbox classes (n + 1) proofs
not_below tbox classes n proofs a none = record {
  ordered = a.ordered;
  shown = a.shown;
  below = λ v m. (let b = a.below v m in (b.0, omega (arith, b.1), b.2));
  all = λ h m low void. elim (same_or_not m n) [
    | inl same ↦ absurd (none h (subst (λ k. IsVoid tbox (element classes k)) same void))
    | inr apart ↦ a.all h m (omega (arith, low, apart)) void
  ];
}

-- all of them
what_in : (proofs : List VoidProof) (v : Void) → In v (elements_of proofs) → (proof : VoidProof) × In proof proofs × (proof.what ≡ v)
what_in [] v m = elim m [ ]
what_in (p ∷ proofs) v (here e) = (p, here refl, e)
what_in (p ∷ proofs) v (there m) = let r = what_in proofs v m in (r.0, there r.1, r.2)

pub all_voids : (tbox : Tbox) (classes links n : ℕ) (proofs : List VoidProof) → n ≡ classes + links → AreVoidsBelow tbox classes n proofs → AreVoids tbox classes links proofs
all_voids tbox classes links n proofs end a = record {
  ordered = a.ordered;
  shown = a.shown;
  elements = λ v m. (let b = a.below v m in let p = what_in proofs v m in (subst (IsElement classes links) b.2 (element_in classes links b.0 (omega (arith, b.1, end))), subst (IsVoid tbox) p.2 (shown_is_void tbox p.0 (a.shown p.0 p.1))));
  all = λ h v e void. (let b = number_of classes links v e in subst (λ w. In w (elements_of proofs)) b.2 (a.all h b.0 (omega (arith, b.1, end)) (subst (IsVoid tbox) (sym b.2) void)));
}
