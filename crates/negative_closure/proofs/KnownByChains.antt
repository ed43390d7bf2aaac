-- A class fact of a known term comes from a given fact by a chain.
use Rattle.std.proofs.Common.{◌≡◌, subst, List, Some, inl, inr}
use Rattle.vocabulary.specs.declared.ids.ClassId.{ClassId}
use Rattle.vocabulary.specs.declared.term.Term.{Term}
use Rattle.vocabulary.specs.declared.term.Fact.{Fact}
use Rattle.vocabulary.specs.declared.term.Fact.TheVariants.{InClass}
use Rattle.vocabulary.specs.Lists.{In}
use Rattle.vocabulary.specs.Terms.{IsKnown}
use Rattle.vocabulary.proofs.Fresh.{new_unknown}
use Rattle.dllite_axioms.specs.declared.axioms.Axiom.{Axiom}
use Rattle.dllite_axioms.specs.declared.axioms.Basic.{Basic}
use Rattle.dllite_axioms.specs.declared.axioms.Basic.TheVariants.{Class}
use Rattle.dllite_axioms.specs.Basics.{match_at}
use Rattle.dllite_axioms.specs.Chains.{Chain}
use Rattle.dllite_axioms.specs.Chase.{Derived, given}
use Rattle.dllite_axioms.proofs.Firing.{class_match, match_right}
use Rattle.dllite_axioms.proofs.Trace.{trace, forward}
use Rattle.negative_closure.specs.Laws.{KnownComeByChains}

-- a given fact says of the term what leads to the class
record Comes (axioms : List Axiom) (facts : List Fact) (a : ClassId) (t : Term) : Type 0 where
  basic : Basic
  fact : Fact
  is_given : In fact facts
  matches : match_at basic fact ≡ Some t
  chain : Chain axioms basic (Class a)

comes : (axioms : List Axiom) (facts : List Fact) (a : ClassId) (t : Term) → IsKnown t → Derived axioms facts (InClass a t) → Comes axioms facts a t
comes axioms facts a t known d = elim (trace d (Class a) t (match_right (Class a) t)) [
  | inl o ↦ record { basic = o.basic; fact = o.fact; is_given = o.is_given; matches = o.matches; chain = o.chain }
  | inr o ↦ absurd (new_unknown o.p o.d o.s (rw o.is_new at known))
]

leads : (axioms : List Axiom) (facts : List Fact) (a : ClassId) (t : Term) → Comes axioms facts a t → Derived axioms facts (InClass a t)
leads axioms facts a t c =
    let r = forward (given c.is_given) c.matches c.chain in
    subst (Derived axioms facts) (class_match a r.0 t r.2) r.1

pub known_come_by_chains : KnownComeByChains
known_come_by_chains axioms facts a t known =
    (λ d. let c = comes axioms facts a t known d in (c.basic, c.fact, c.is_given, c.matches, c.chain), λ c. leads axioms facts a t (record { basic = c.0; fact = c.1; is_given = c.2; matches = c.3; chain = c.4 }))
