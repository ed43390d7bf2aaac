-- Worlds: models, finite or not, and the constraints that they meet.
use Rattle.std.specs.Prelude.{ℕ, ◌≡◌, Some, List}
use Rattle.vocabulary.specs.declared.ids.LinkId.{LinkId}
use Rattle.vocabulary.specs.declared.ids.Dir.{Dir}
use Rattle.vocabulary.specs.declared.term.Term.{Term}
use Rattle.vocabulary.specs.declared.term.Fact.{Fact}
use Rattle.vocabulary.specs.declared.term.Fact.TheVariants.{InClass, Linked}
use Rattle.vocabulary.specs.Lists.{In}
use Rattle.dllite_axioms.specs.declared.axioms.Basic.{Basic}
use Rattle.dllite_axioms.specs.declared.axioms.Axiom.{Axiom}
use Rattle.dllite_axioms.specs.declared.axioms.Axiom.TheVariants.{Sub, SubLink}
use Rattle.dllite_axioms.specs.declared.axioms.Constraint.{Constraint}
use Rattle.dllite_axioms.specs.declared.axioms.Constraint.TheVariants.{Disjoint, Func, Apart, Identified}
use Rattle.dllite_axioms.specs.Basics.{link_fact, match_at}
use Rattle.dllite_axioms.specs.Chase.{apply_of}
use Rattle.dllite_axioms.specs.Clashes.{Clash}

-- a set of facts, finite or not: they are listed stage by stage without end, as any set of facts can be
abbrev pub World : Type 0
World = ℕ → List Fact

-- the fact is true in the world
abbrev pub Holds : World → Fact → Type 0
Holds world f = (n : ℕ) × In f (world n)

-- what is true is a model of facts under axioms: they are true, and what it says by the left side of an axiom it says by the right side; any terms may stand in it for unnamed objects, names and values stand for themselves
pub record Satisfies (axioms : List Axiom) (facts : List Fact) (holds : Fact → Type 0) : Type 0 where
  pub has : (f : Fact) → In f facts → holds f
  pub closed : (l r : Basic) → In (Sub l r) axioms → (f : Fact) (t : Term) → holds f → match_at l f ≡ Some t → (g : Fact) × holds g × (match_at r g ≡ Some t)
  pub closed_links : (q : LinkId) (d : Dir) (p : LinkId) → In (SubLink q d p) axioms → (f g : Fact) → holds f → apply_of (SubLink q d p) f ≡ Some g → holds g

abbrev pub IsModel : List Axiom → List Fact → World → Type 0
IsModel axioms facts world = Satisfies axioms facts (Holds world)

-- no facts that are true clash under the constraint
abbrev pub Meets : World → Constraint → Type 0
Meets world c = (clashing : List Fact) → ((f : Fact) → In f clashing → Holds world f) → Clash c clashing → ⊥

-- and so as DL-Lite reads the constraints in a model: of unknown fillers and members too, which known ones may be
abbrev pub MeetsFully : World → Constraint → Type 0
MeetsFully world (Disjoint b c) = (f g : Fact) (t : Term) → Holds world f → Holds world g → match_at b f ≡ Some t → match_at c g ≡ Some t → ⊥
MeetsFully world (Func p d) = (s t u : Term) → Holds world (link_fact p d s t) → Holds world (link_fact p d s u) → t ≡ u
MeetsFully world (Apart q d p) = (s t : Term) → Holds world (Linked q s t) → Holds world (link_fact p d s t) → ⊥
MeetsFully world (Identified a us) =
    (x y : Term) → Holds world (InClass a x) → Holds world (InClass a y) → ((u : LinkId) → In u us → (v : Term) × Holds world (Linked u x v) × Holds world (Linked u y v)) → x ≡ y

-- no known term decides whether the constraint is contradicted: it is a disjointness
abbrev pub IsDisjointness : Constraint → Type 0
IsDisjointness (Disjoint b c) = Unit {0}
IsDisjointness (Func p d) = ⊥
IsDisjointness (Apart q d p) = Unit {0}
IsDisjointness (Identified a us) = ⊥
