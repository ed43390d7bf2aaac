-- Members of a class that their values do not tell apart.
use Rattle.std.specs.Prelude.{ℕ, ◌≡◌, ◌+◌, ◌<◌, List, [], ◌∷◌, ◌++◌, take, length, get_or}
use Rattle.vocabulary.specs.declared.ids.ClassId.{ClassId}
use Rattle.vocabulary.specs.declared.ids.LinkId.{LinkId}
use Rattle.vocabulary.specs.declared.term.Term.{Term}
use Rattle.vocabulary.specs.declared.term.Fact.{Fact}
use Rattle.vocabulary.specs.declared.term.Fact.TheVariants.{InClass, Linked}
use Rattle.vocabulary.specs.Lists.{In, Pairwise}

-- the facts have the member, and each attribute's value of it
pub record HasValues (facts : List Fact) (a : ClassId) (us : List LinkId) (values : List Term) (member : Term) : Type 0 where
  pub is_member : In (InClass a member) facts
  pub has_values : Pairwise (λ u v. In (Linked u member v) facts) us values

-- the tuple is these values and this member
pub record IsMemberTuple (facts : List Fact) (a : ClassId) (us : List LinkId) (tuple : List Term) : Type 0 where
  pub values : List Term
  pub member : Term
  pub are : tuple ≡ values ++ member ∷ []
  pub stand : HasValues facts a us values member

-- for each attribute the facts by which it joins both members to the value
abbrev pub shared_facts : List LinkId → List Term → Term → Term → List Fact
shared_facts [] values x y = []
shared_facts (u ∷ us) [] x y = []
shared_facts (u ∷ us) (v ∷ values) x y = Linked u x v ∷ Linked u y v ∷ shared_facts us values x y

-- two members, and the values that they share
abbrev pub twin_facts : ClassId → List LinkId → List Term → Term → Term → List Fact
twin_facts a us values x y = InClass a x ∷ InClass a y ∷ shared_facts us values x y

-- the facts of two tuples, each of values and a member behind them, where the values are the first's
pub record AreFactsOf (a : ClassId) (us : List LinkId) (one two : List Term) (facts : List Fact) : Type 0 where
  pub x : Term
  pub y : Term
  pub one_is : one ≡ take (length us) one ++ x ∷ []
  pub two_is : two ≡ take (length us) two ++ y ∷ []
  pub are : facts ≡ twin_facts a us (take (length us) one) x y

-- the tuple here and the next have the same n terms in front
abbrev pub AreTwins : ℕ → List (List Term) → ℕ → Type 0
AreTwins n tuples at = take n (get_or tuples at []) ≡ take n (get_or tuples (at + 1) [])

abbrev pub NoneAreTwins : ℕ → List (List Term) → Type 0
NoneAreTwins n tuples = (at : ℕ) → at + 1 < length tuples → AreTwins n tuples at → ⊥

-- the facts of some tuple and the next, which have the same values
pub record AreTwinFacts (a : ClassId) (us : List LinkId) (tuples : List (List Term)) (facts : List Fact) : Type 0 where
  pub at : ℕ
  pub within : at + 1 < length tuples
  pub twins : AreTwins (length us) tuples at
  pub facts_of : AreFactsOf a us (get_or tuples at []) (get_or tuples (at + 1) []) facts
