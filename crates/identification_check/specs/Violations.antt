-- Violations of identification constraints.
use Rattle.std.specs.Prelude.{◌≡◌, ◌≤◌, List, [], length, Some}
use Rattle.vocabulary.specs.declared.ids.LinkId.{LinkId}
use Rattle.vocabulary.specs.declared.term.Fact.{Fact}
use Rattle.vocabulary.specs.Lists.{In}
use Rattle.source_tables.specs.Tables.{Loaded}
use Rattle.dllite_axioms.specs.declared.axioms.Axiom.{Axiom}
use Rattle.dllite_axioms.specs.declared.axioms.Constraint.{Constraint}
use Rattle.mapping_facts.specs.declared.mapping.Mapping.{Mapping}
use Rattle.conflict_checker.specs.Derivations.{EndsClash, facts_from}
use Rattle.fact_derivation.specs.Derivings.{IsUnturned}
use Rattle.identification_check.specs.declared.violation.Violation.{Violation}

-- at most three links, under none of which another is with its ends exchanged
pub record AreAttributes (axioms : List Axiom) (us : List LinkId) : Type 0 where
  pub few : length us ≤ 3
  pub unturned : (u : LinkId) → In u us → IsUnturned axioms u

-- each step has its fact, the facts of the ends clash under the constraint, and the steps are few
pub record IsViolation (axioms : List Axiom) (mappings : List Mapping) (tables : List Loaded) (c : Constraint) (v : Violation) : Type 0 where
  pub facts : List Fact
  pub run : facts_from axioms mappings tables [] v.steps ≡ Some facts
  pub clash : EndsClash c facts v.ends
  pub few : length v.steps ≤ 8_000
