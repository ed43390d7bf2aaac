-- Fold steps followed back.
use Rattle.std.specs.Prelude.{◌≡◌, ℕ, List, Some, slice_get}
use Rattle.vocabulary.specs.declared.term.Fact.{Fact}
use Rattle.vocabulary.specs.Terms.{IsKnownFact}
use Rattle.source_tables.specs.Tables.{Loaded}
use Rattle.dllite_axioms.specs.Chase.{Derived}
use Rattle.negative_closure.specs.Chains.{Hierarchy}
use Rattle.mapping_facts.specs.declared.mapping.Mapping.{Mapping}
use Rattle.mapping_facts.specs.Facts.{mapped_facts}
use Rattle.fact_derivation.specs.Derivings.{IsFactWithin}
use Rattle.why_answers.specs.declared.folding.Node.{Node}
use Rattle.why_answers.specs.Showing.{Read}

-- the atoms of the fold at a place read as these facts
abbrev pub IsAtNode : List Node → ℕ → List Fact → Type 0
IsAtNode nodes at facts = (n : Node) × (slice_get nodes at ≡ Some n) × Read n.query.atoms facts

-- a known fact that some chase of the mapped facts holds
pub record IsDerivable (h : Hierarchy) (mappings : List Mapping) (tables : List Loaded) (f : Fact) : Type 0 where
  pub known : IsKnownFact f
  pub within : IsFactWithin h.classes h.links f
  pub derived : Derived h.axioms (mapped_facts mappings tables) f
