-- Void classes and links (the unsatisfiable concepts and roles of DL-Lite), and proofs that they are void.
use Rattle.std.specs.Prelude.{ℕ, ◌≡◌, ◌<◌, Some, List, [], ◌∷◌, codes, map}
use Rattle.std.specs.declared.cmp.Ordering.{Ordering}
use Rattle.std.specs.declared.cmp.Ordering.TheVariants.{Less, Greater}
use Rattle.std.specs.List.Sorted.{IsStrictlySortedBy}
use Rattle.std.specs.Ordering.{nat_cmp}
use Rattle.vocabulary.specs.declared.ids.ClassId.{ClassId}
use Rattle.vocabulary.specs.declared.term.Term.{Term, Named}
use Rattle.vocabulary.specs.declared.term.Fact.{Fact}
use Rattle.vocabulary.specs.declared.term.Fact.TheVariants.{InClass, Linked}
use Rattle.vocabulary.specs.Lists.{In, item}
use Rattle.dllite_axioms.specs.declared.axioms.Constraint.{Constraint}
use Rattle.dllite_axioms.specs.declared.axioms.Constraint.TheVariants.{Identified}
use Rattle.dllite_axioms.specs.declared.axioms.Tbox.{Tbox}
use Rattle.dllite_axioms.specs.Chase.{AreKnown}
use Rattle.dllite_axioms.specs.Clashes.{Clash, IsConsistent}
use Rattle.dllite_axioms.specs.Worlds.{IsDisjointness}
use Rattle.negative_closure.specs.Plans.{EndsInClash}
use Rattle.model_lint.specs.declared.element.Void.{Void}
use Rattle.model_lint.specs.declared.element.Void.TheVariants.{Class, Link}
use Rattle.model_lint.specs.declared.element.VoidProof.{VoidProof}

-- a fact of the element: some object is in the class, or two things are joined by the link
abbrev pub IsFactOf : Void → Fact → Type 0
IsFactOf (Class a) f = (t : Term) × (f ≡ InClass a t)
IsFactOf (Link p) f = (s t : Term) × (f ≡ Linked p s t)

-- no consistent list of known facts holds a fact of the element
abbrev pub IsVoid : Tbox → Void → Type 0
IsVoid tbox v = (facts : List Fact) → AreKnown facts → IsConsistent tbox.axioms tbox.constraints facts → (f : Fact) → In f facts → IsFactOf v f → ⊥

-- one fact of the element, of made-up objects
abbrev pub made_up : Void → Fact
made_up (Class a) = InClass a (Named (codes "x"))
made_up (Link p) = Linked p (Named (codes "x")) (Named (codes "y"))

-- from one fact of the element each rule of the proof has its fact, and those of the two named steps clash under its constraint, which is a disjointness: no other is contradicted by one fact, whatever it speaks of
pub record Shows (tbox : Tbox) (proof : VoidProof) : Type 0 where
  pub constraint : Constraint
  pub numbered : item tbox.constraints proof.constraint ≡ Some constraint
  pub disjointness : IsDisjointness constraint
  pub clash : EndsInClash tbox.axioms constraint (made_up proof.what ∷ []) (record { rules = proof.rules; first = proof.first; second = proof.second })

-- the facts of the two numbers clash under the constraint, in this order
abbrev pub AreClashing : Constraint → List Fact → ℕ → ℕ → Type 0
AreClashing c facts first second = (f g : Fact) × (item facts first ≡ Some f) × (item facts second ≡ Some g) × Clash c (f ∷ g ∷ [])

-- classes by number, then links by number
abbrev pub void_cmp : Void → Void → Ordering
void_cmp (Class a) (Class b) = nat_cmp a.0 b.0
void_cmp (Class a) (Link q) = Less
void_cmp (Link p) (Class b) = Greater
void_cmp (Link p) (Link q) = nat_cmp p.0 q.0

-- the class or the link is one of so many
abbrev pub IsElement : ℕ → ℕ → Void → Type 0
IsElement classes links (Class a) = a.0 < classes
IsElement classes links (Link p) = p.0 < links

-- each identification has an attribute: without one it would say that its class has one member at most
abbrev pub HaveAttributes : List Constraint → Type 0
HaveAttributes constraints = (a : ClassId) → In (Identified a []) constraints → ⊥

abbrev pub elements_of : List VoidProof → List Void
elements_of proofs = map (λ proof. proof.what) proofs

-- a proof for each void class, by number, then for each void link, by number, and for no other
pub record AreVoids (tbox : Tbox) (classes links : ℕ) (proofs : List VoidProof) : Type 0 where
  pub ordered : IsStrictlySortedBy void_cmp (elements_of proofs)
  pub shown : (proof : VoidProof) → In proof proofs → Shows tbox proof
  pub elements : (v : Void) → In v (elements_of proofs) → IsElement classes links v × IsVoid tbox v
  pub all : HaveAttributes tbox.constraints → (v : Void) → IsElement classes links v → IsVoid tbox v → In v (elements_of proofs)
