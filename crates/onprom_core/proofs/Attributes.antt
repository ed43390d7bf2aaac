-- Links that identify are attributes, and no fact of a link gives one of an attribute with its ends exchanged.
use Rattle.std.proofs.Common.{◌≡◌, refl, sym, ◌∙◌, ap, List, Some}
use Rattle.vocabulary.specs.declared.ids.LinkId.{LinkId}
use Rattle.vocabulary.specs.declared.ids.Dir.{Dir}
use Rattle.vocabulary.specs.declared.ids.Dir.TheVariants.{Fwd, Back}
use Rattle.vocabulary.specs.declared.ids.Side.{Side}
use Rattle.vocabulary.specs.declared.ids.Side.TheVariants.{Object, Value}
use Rattle.vocabulary.specs.declared.ids.ValueKind.{ValueKind}
use Rattle.dllite_axioms.specs.declared.axioms.Axiom.{Axiom}
use Rattle.dllite_axioms.specs.declared.axioms.Axiom.TheVariants.{SubLink}
use Rattle.dllite_axioms.specs.Basics.{turn}
use Rattle.dllite_axioms.specs.Chains.{Under, itself, further}
use Rattle.uml_model.specs.Sorts.{AreAxiomsSorted, AreIdentifying, AreLinksSorted, HasSide}
use Rattle.identification_check.specs.Violations.{AreAttributes}

module _ (sides : List Side) (axioms : List Axiom) (sorted : AreAxiomsSorted sides axioms) where
  -- the sort of a place is one
  one_sort : (p : LinkId) (s t : Side) → HasSide sides p s → HasSide sides p t → Some s ≡ Some t
  one_sort p s t is other = sym is ∙ other

  -- a link below an attribute is one, and its ends are not exchanged
  below : (p u : LinkId) (e : Dir) (k : ValueKind) → HasSide sides u (Value k) → AreLinksSorted sides p e u → (e ≡ Fwd) × HasSide sides p (Value k)
  below p u Fwd k is (side, near, far) = (refl, near ∙ one_sort u side (Value k) far is)
  below p u Back k is (near, far) = let e : Some Object ≡ Some (Value k) = one_sort u Object (Value k) far is in cc

  straight : (q u : LinkId) (d : Dir) (k : ValueKind) → HasSide sides u (Value k) → Under axioms q d u → d ≡ Fwd
  straight q u d k is (itself same) = refl
  straight q u f k is (further {p = p} {d = c} {e = e} under stands same) =
      let next = below p u e k is (sorted (SubLink p e u) stands) in
      sym same ∙ ap (λ c. turn c e) (straight q p c k next.1 under) ∙ next.0

  pub attributes : (us : List LinkId) → AreIdentifying sides us → AreAttributes axioms us
  attributes us are = record {
    few = are.few;
    unturned = λ u stands q under. let kind = are.attributes u stands in let e : Back ≡ Fwd = straight q u Back kind.0 kind.1 under in cc;
  }
