-- What a query is asked over: axioms, and mappings to the classes and links of which they speak (the specification of ontology-based data access, without its tables).
use Rattle.std.specs.Prelude.{ℕ, ◌≤◌, List, length, take, drop}
use Rattle.vocabulary.specs.Lists.{In}
use Rattle.dllite_axioms.specs.declared.axioms.Axiom.{Axiom}
use Rattle.dllite_axioms.specs.Within.{IsAxiomWithin}
use Rattle.mapping_facts.specs.declared.mapping.Mapping.{Mapping}
use Rattle.mapping_facts.specs.Fits.{AreFit}
use Rattle.mapping_saturation.specs.Saturation.{GiveTheKnown}
use Rattle.negative_closure.specs.Chains.{Hierarchy}

pub record Specified : Type 0 where
  pub axioms : List Axiom
  pub mappings : List Mapping

-- the axioms are over the classes and links of the hierarchy, and behind the given mappings stand further ones whose facts are the known facts of the chase of theirs
pub record AreReady (h : Hierarchy) (given : ℕ) (saturated : List Mapping) : Type 0 where
  pub within : (a : Axiom) → In a h.axioms → IsAxiomWithin h.classes h.links a
  pub counted : given ≤ length saturated
  pub fit : AreFit (take given saturated)
  pub further_fit : AreFit (drop given saturated)
  pub known : GiveTheKnown h.axioms (take given saturated) (drop given saturated)
