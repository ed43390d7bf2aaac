-- Derivations of several facts, one behind the other.
use Rattle.std.specs.Prelude.{◌≡◌, ◌≤◌, ℕ, ◌+◌, List, [], ◌∷◌, ◌++◌, length, Some, All}
use Rattle.vocabulary.specs.declared.term.Fact.{Fact}
use Rattle.vocabulary.specs.declared.term.Fact.TheVariants.{InClass, Linked}
use Rattle.vocabulary.specs.Lists.{In}
use Rattle.vocabulary.specs.Terms.{IsKnownFact}
use Rattle.source_tables.specs.Tables.{Loaded}
use Rattle.dllite_axioms.specs.declared.axioms.Axiom.{Axiom}
use Rattle.dllite_axioms.specs.Chase.{chase}
use Rattle.negative_closure.specs.Chains.{Hierarchy}
use Rattle.mapping_facts.specs.declared.mapping.Mapping.{Mapping}
use Rattle.mapping_facts.specs.Facts.{mapped_facts}
use Rattle.conflict_checker.specs.declared.derivation.Step.{Step}
use Rattle.conflict_checker.specs.declared.derivation.Step.TheVariants.{Mapped, Rule}
use Rattle.conflict_checker.specs.Derivations.{facts_from, items_at}
use Rattle.fact_derivation.specs.Derivings.{IsFactWithin, IsUnturned}
use Rattle.identification_check.specs.declared.violation.Violation.{Violation}

-- the step behind n other steps
abbrev pub shifted : ℕ → Step → Step
shifted n (Mapped mapping target rows) = Mapped mapping target rows
shifted n (Rule number step) = Rule number (n + step)

-- the number of the step that a step cites
abbrev pub cited : Step → ℕ
cited (Mapped mapping target rows) = 0
cited (Rule number step) = step

-- the most steps of a derivation of the fact
abbrev pub most : Fact → ℕ
most (InClass a t) = 1601
most (Linked p s t) = 601

-- the most steps of derivations of the facts
abbrev pub most_of : List Fact → ℕ
most_of [] = 0
most_of (f ∷ fs) = most f + most_of fs

abbrev pub IsUnturnedFact : List Axiom → Fact → Type 0
IsUnturnedFact axioms (InClass a t) = Unit {0}
IsUnturnedFact axioms (Linked p s t) = IsUnturned axioms p

-- a known fact that some chase of the mapped facts holds, of a class or of an attribute
pub record IsDerivable (h : Hierarchy) (mappings : List Mapping) (tables : List Loaded) (f : Fact) : Type 0 where
  pub known : IsKnownFact f
  pub within : IsFactWithin h.classes h.links f
  pub unturned : IsUnturnedFact h.axioms f
  pub round : ℕ
  pub stands : In f (chase h.axioms (mapped_facts mappings tables) round)

-- each step has its fact, and the last one this fact
pub record IsDerived (axioms : List Axiom) (mappings : List Mapping) (tables : List Loaded) (f : Fact) (steps : List Step) : Type 0 where
  pub before : List Fact
  pub run : facts_from axioms mappings tables [] steps ≡ Some (before ++ f ∷ [])
  pub few : length steps ≤ most f
  pub cite : All (λ s. cited s ≤ 1601) steps

-- each step has its fact, the ends have these facts, in order, and there are no more steps than that
pub record AreChained (axioms : List Axiom) (mappings : List Mapping) (tables : List Loaded) (wanted : List Fact) (v : Violation) : Type 0 where
  pub facts : List Fact
  pub run : facts_from axioms mappings tables [] v.steps ≡ Some facts
  pub ends : items_at facts v.ends ≡ Some wanted
  pub few : length v.steps ≤ most_of wanted
