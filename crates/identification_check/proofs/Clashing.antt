-- The facts of two members with the same values, and a clash.
use Rattle.std.proofs.Common.{◌≡◌, refl, sym, subst, ◌*◌, ◌≤◌, List, [], ◌∷◌, length, arith}
use Rattle.vocabulary.specs.declared.ids.ClassId.{ClassId}
use Rattle.vocabulary.specs.declared.ids.LinkId.{LinkId}
use Rattle.vocabulary.specs.declared.term.Term.{Term}
use Rattle.vocabulary.specs.declared.term.Fact.{Fact}
use Rattle.vocabulary.specs.declared.term.Fact.TheVariants.{InClass, Linked}
use Rattle.vocabulary.specs.Lists.{In, here, there, Pairwise}
use Rattle.vocabulary.specs.Terms.{IsKnown, IsKnownFact}
use Rattle.dllite_axioms.specs.declared.axioms.Constraint.TheVariants.{Identified}
use Rattle.dllite_axioms.specs.Clashes.{Clash, ShareEach}
use Rattle.identification_check.specs.Chained.{most_of}
use Rattle.identification_check.specs.Members.{shared_facts, twin_facts}

-- what holds of the facts
both_shared : (P : Fact → Type 0) (us : List LinkId) (values : List Term) (x y : Term) → Pairwise (λ u v. P (Linked u x v) × P (Linked u y v)) us values → (f : Fact) → In f (shared_facts us values x y) → P f
both_shared P [] values x y p f i = elim i [ ]
both_shared P (u ∷ us) [] x y p f i = absurd p
both_shared P (u ∷ us) (v ∷ values) x y p f (here e) = subst P e p.0.0
both_shared P (u ∷ us) (v ∷ values) x y p f (there (here e)) = subst P e p.0.1
both_shared P (u ∷ us) (v ∷ values) x y p f (there (there i)) = both_shared P us values x y p.1 f i

pub twins_all : (P : Fact → Type 0) (a : ClassId) (us : List LinkId) (values : List Term) (x y : Term) → P (InClass a x) → P (InClass a y) → Pairwise (λ u v. P (Linked u x v) × P (Linked u y v)) us values → (f : Fact) → In f (twin_facts a us values x y) → P f
twins_all P a us values x y one two p f (here e) = subst P e one
twins_all P a us values x y one two p f (there (here e)) = subst P e two
twins_all P a us values x y one two p f (there (there i)) = both_shared P us values x y p f i

-- how many steps they take
shared_cost : (us : List LinkId) (values : List Term) (x y : Term) → most_of (shared_facts us values x y) ≤ 1202 * length us
shared_cost [] values x y = omega arith
shared_cost (u ∷ us) [] x y = omega arith
shared_cost (u ∷ us) (v ∷ values) x y = let rest = shared_cost us values x y in omega (arith, rest)

pub twins_cost : (a : ClassId) (us : List LinkId) (values : List Term) (x y : Term) → length us ≤ 3 → most_of (twin_facts a us values x y) ≤ 8_000
twins_cost a us values x y few = let rest = shared_cost us values x y in omega (arith, rest, few)

-- they clash
share_each : (us : List LinkId) (values : List Term) (x y : Term) → Pairwise (λ u v. IsKnown v) us values → ShareEach us x y (shared_facts us values x y)
share_each [] [] x y p = refl
share_each [] (v ∷ values) x y p = absurd p
share_each (u ∷ us) [] x y p = absurd p
share_each (u ∷ us) (v ∷ values) x y p = (v, shared_facts us values x y, refl, p.0, share_each us values x y p.1)

pub twins_clash : (a : ClassId) (us : List LinkId) (values : List Term) (x y : Term) → IsKnown x → IsKnown y → (x ≡ y → ⊥) → Pairwise (λ u v. IsKnown v) us values → Clash (Identified a us) (twin_facts a us values x y)
twins_clash a us values x y known_x known_y differ p = (x, y, shared_facts us values x y, refl, known_x, known_y, differ, share_each us values x y p)

-- the values that a clash has
pub record AreShared (facts : List Fact) (us : List LinkId) (x y : Term) : Type 0 where
  pub values : List Term
  pub one : Pairwise (λ u v. In (Linked u x v) facts) us values
  pub two : Pairwise (λ u v. In (Linked u y v) facts) us values

pub clash_shares : (facts : List Fact) (us : List LinkId) (x y : Term) (more : List Fact) → IsKnown x → IsKnown y → ((f : Fact) → In f more → IsKnownFact f → In f facts) → ShareEach us x y more → AreShared facts us x y
clash_shares facts [] x y more known_x known_y all h = record { values = []; one = tt; two = tt }
clash_shares facts (u ∷ us) x y more known_x known_y all h =
    let rest = clash_shares facts us x y h.1 known_x known_y (λ f i. all f (subst (In f) (sym h.2) (there (there i)))) h.4 in
    record {
      values = h.0 ∷ rest.values;
      one = (all (Linked u x h.0) (subst (In (Linked u x h.0)) (sym h.2) (here refl)) (known_x, h.3), rest.one);
      two = (all (Linked u y h.0) (subst (In (Linked u y h.0)) (sym h.2) (there (here refl))) (known_y, h.3), rest.two);
    }

-- pairs by pairs
pub pairs_join : {A B : Type 0} (P Q R : A → B → Type 0) (xs : List A) (ys : List B) → ((x : A) (y : B) → In x xs → P x y → Q x y → R x y) → Pairwise P xs ys → Pairwise Q xs ys → Pairwise R xs ys
pairs_join P Q R [] [] by p q = tt
pairs_join P Q R [] (y ∷ ys) by p q = absurd p
pairs_join P Q R (x ∷ xs) [] by p q = absurd p
pairs_join P Q R (x ∷ xs) (y ∷ ys) by p q = (by x y (here refl) p.0 q.0, pairs_join P Q R xs ys (λ z w i. by z w (there i)) p.1 q.1)
