-- Contradictions of identifications.
use Rattle.std.proofs.Common.{◌≡◌, refl, sym, ◌∙◌, subst, ℕ, ◌+◌, ◌<◌, List, [], ◌∷◌, length, take, get_or, Some, None, inl, inr}
use Rattle.std.proofs.lemmas.List.{take_more}
use Rattle.vocabulary.specs.declared.ids.ClassId.{ClassId}
use Rattle.vocabulary.specs.declared.ids.LinkId.{LinkId}
use Rattle.vocabulary.specs.Lists.{In, here, item, there}
use Rattle.vocabulary.proofs.Lists.{In-append_cases}
use Rattle.source_tables.specs.Tables.{Loaded}
use Rattle.dllite_axioms.specs.declared.axioms.Axiom.{Axiom}
use Rattle.dllite_axioms.specs.declared.axioms.Constraint.{Constraint}
use Rattle.dllite_axioms.specs.declared.axioms.Constraint.TheVariants.{Disjoint, Func, Apart, Identified}
use Rattle.dllite_axioms.specs.Clashes.{IsContradicted}
use Rattle.mapping_facts.specs.declared.mapping.Mapping.{Mapping}
use Rattle.mapping_facts.specs.Facts.{mapped_facts}
use Rattle.conflict_checker.specs.declared.derivation.Derivation.{Derivation}
use Rattle.conflict_checker.specs.Derivations.{IsAccepted, facts_from}
use Rattle.conflict_checker.proofs.Contradicted.{accepted_is_contradicted}
use Rattle.negative_closure.specs.Sources.{HasExactSources}
use Rattle.identification_check.specs.declared.violation.Violation.{Violation}
use Rattle.identification_check.specs.Violations.{IsViolation}
use Rattle.consistency_check.specs.Checkable.{IsCheckable}
use Rattle.consistency_check.specs.Contradictions.{IsContradiction, IsContradictionOf}
use Rattle.consistency_check.proofs.Gathered.{same_constraint}

module _ (axioms : List Axiom) (mappings : List Mapping) (tables : List Loaded) (n : ℕ) (c : Constraint) where
  -- a violation is accepted, and so the constraint is contradicted
  pub violation_contradicts : (v : Violation) (d : Derivation) → d ≡ record { constraint = n; steps = v.steps; ends = v.ends } → IsViolation axioms mappings tables c v → IsContradictionOf axioms mappings tables n c (Some d)
  violation_contradicts v d is w tbox same numbered =
      let e : Derivation = record { constraint = n; steps = v.steps; ends = v.ends } in
      let run : facts_from tbox.axioms mappings tables [] v.steps ≡ Some w.facts = subst (λ axs. facts_from axs mappings tables [] v.steps ≡ Some w.facts) same w.run in
      let accepted : IsAccepted tbox mappings tables e = record { facts = w.facts; steps = run; constraint = c; numbered = numbered; ends = w.clash } in
      subst (λ x. IsContradiction tbox mappings tables n (Some x)) (sym is) (accepted, refl, w.few, (c, numbered, accepted_is_contradicted tbox mappings tables e c accepted numbered))

  pub none_violates : (IsContradicted axioms (mapped_facts mappings tables) c → ⊥) → IsContradictionOf axioms mappings tables n c None
  none_violates none tbox same numbered h =
      let k : h.0 ≡ c = same_constraint h.0 c (item tbox.constraints n) h.1 numbered in
      none (subst (λ axs. IsContradicted axs (mapped_facts mappings tables) c) (sym same) (subst (IsContradicted tbox.axioms (mapped_facts mappings tables)) k h.2))

-- a constraint that does not identify has exact sources
pub exact_or_identified : (axioms : List Axiom) (c : Constraint) → IsCheckable axioms c → ((a : ClassId) (us : List LinkId) → c ≡ Identified a us → ⊥) → HasExactSources axioms c
exact_or_identified axioms (Disjoint b d) h other = h
exact_or_identified axioms (Func p d) h other = h
exact_or_identified axioms (Apart q d p) h other = h
exact_or_identified axioms (Identified a us) h other = absurd (other a us refl)

-- none so far identifies
pub none_further : (constraints : List Constraint) (i : ℕ) (c : Constraint) → i < length constraints → c ≡ get_or constraints i c → ((a : ClassId) (us : List LinkId) → In (Identified a us) (take i constraints) → ⊥) → ((a : ClassId) (us : List LinkId) → c ≡ Identified a us → ⊥) →
    (a : ClassId) (us : List LinkId) → In (Identified a us) (take (i + 1) constraints) → ⊥
none_further constraints i c low is before other a us m =
    elim (In-append_cases (take i constraints) (get_or constraints i c ∷ []) (subst (In (Identified a us)) (take_more constraints i c low) m)) [ inl k ↦ before a us k | inr k ↦ only k ]
  where
    only : In (Identified a us) (get_or constraints i c ∷ []) → ⊥
    only (here e) = other a us (is ∙ e)
    only (there k) = elim k [ ]
