-- Axioms and constraints whose links have the sorts of their places, and what holds of every model that is read.
use Rattle.std.specs.Prelude.{ℕ, ◌≡◌, ◌≤◌, List, [], ◌∷◌, Some, length, slice_get}
use Rattle.vocabulary.specs.declared.ids.LinkId.{LinkId}
use Rattle.vocabulary.specs.declared.ids.Dir.{Dir}
use Rattle.vocabulary.specs.declared.ids.Dir.TheVariants.{Fwd, Back}
use Rattle.vocabulary.specs.declared.ids.Side.{Side}
use Rattle.vocabulary.specs.declared.ids.Side.TheVariants.{Object, Value}
use Rattle.vocabulary.specs.declared.ids.ValueKind.{ValueKind}
use Rattle.vocabulary.specs.Lists.{In}
use Rattle.dllite_axioms.specs.declared.axioms.Basic.{Basic}
use Rattle.dllite_axioms.specs.declared.axioms.Basic.TheVariants.{Class, Has}
use Rattle.dllite_axioms.specs.declared.axioms.Axiom.{Axiom}
use Rattle.dllite_axioms.specs.declared.axioms.Axiom.TheVariants.{Sub, SubLink}
use Rattle.dllite_axioms.specs.declared.axioms.Constraint.{Constraint}
use Rattle.dllite_axioms.specs.declared.axioms.Constraint.TheVariants.{Disjoint, Func, Apart, Identified}
use Rattle.uml_model.specs.Axioms.{axioms_of, constraints_of}
use Rattle.uml_model.specs.Bounds.{AreAxiomsWithin, AreConstraintsWithin, AreFunctionalFree}
use Rattle.uml_model.specs.Rules.{Known}

-- the sort of a link's second place is there at its number
abbrev pub HasSide : List Side → LinkId → Side → Type 0
HasSide sides p side = slice_get sides p.0 ≡ Some side

-- only an association is followed from its second end
abbrev pub IsTurnSorted : List Side → LinkId → Dir → Type 0
IsTurnSorted sides p Fwd = (side : Side) × HasSide sides p side
IsTurnSorted sides p Back = HasSide sides p Object

abbrev pub IsBasicSorted : List Side → Basic → Type 0
IsBasicSorted sides (Class a) = Unit {0}
IsBasicSorted sides (Has p d) = IsTurnSorted sides p d

-- the second places of the two links have one sort, and it is that of objects where the ends are exchanged
abbrev pub AreLinksSorted : List Side → LinkId → Dir → LinkId → Type 0
AreLinksSorted sides q Fwd p = (side : Side) × HasSide sides q side × HasSide sides p side
AreLinksSorted sides q Back p = HasSide sides q Object × HasSide sides p Object

abbrev pub IsAxiomSorted : List Side → Axiom → Type 0
IsAxiomSorted sides (Sub l r) = IsBasicSorted sides l × IsBasicSorted sides r
IsAxiomSorted sides (SubLink q d p) = AreLinksSorted sides q d p

-- no item stands twice
abbrev pub AreDifferent : {X : Type 0} → List X → Type 0
AreDifferent [] = Unit {0}
AreDifferent (x ∷ xs) = (In x xs → ⊥) × AreDifferent xs

-- from one to three different attributes
pub record AreIdentifying (sides : List Side) (links : List LinkId) : Type 0 where
  pub some : 1 ≤ length links
  pub few : length links ≤ 3
  pub differ : AreDifferent links
  pub attributes : (u : LinkId) → In u links → (k : ValueKind) × HasSide sides u (Value k)

abbrev pub IsConstraintSorted : List Side → Constraint → Type 0
IsConstraintSorted sides (Disjoint l r) = IsBasicSorted sides l × IsBasicSorted sides r
IsConstraintSorted sides (Func p d) = IsTurnSorted sides p d
IsConstraintSorted sides (Apart q d p) = HasSide sides q Object × HasSide sides p Object
IsConstraintSorted sides (Identified a us) = AreIdentifying sides us

abbrev pub AreAxiomsSorted : List Side → List Axiom → Type 0
AreAxiomsSorted sides axioms = (ax : Axiom) → In ax axioms → IsAxiomSorted sides ax

abbrev pub AreConstraintsSorted : List Side → List Constraint → Type 0
AreConstraintsSorted sides constraints = (c : Constraint) → In c constraints → IsConstraintSorted sides c

-- what holds of every model that is read: its counts are within the limits, the numbers in its axioms and constraints are those of its classes and links and have the sorts of their places, and no link is below a functional one
pub record IsModel (s : Known) : Type 0 where
  pub few_classes : length s.classes ≤ 400
  pub few_links : length s.links ≤ 600
  pub each_side : length s.sides ≡ length s.links
  pub few_axioms : length (axioms_of s.lines) ≤ 6_000
  pub few_constraints : length (constraints_of s.lines) ≤ 3_000
  pub axioms_within : AreAxiomsWithin (length s.classes) (length s.links) (axioms_of s.lines)
  pub constraints_within : AreConstraintsWithin (length s.classes) (length s.links) (constraints_of s.lines)
  pub functional_free : AreFunctionalFree (axioms_of s.lines) (constraints_of s.lines)
  pub axioms_sorted : AreAxiomsSorted s.sides (axioms_of s.lines)
  pub constraints_sorted : AreConstraintsSorted s.sides (constraints_of s.lines)
