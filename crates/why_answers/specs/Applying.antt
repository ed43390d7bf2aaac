-- Axioms applied one after the other.
use Rattle.std.specs.Prelude.{◌≡◌, ℕ, List, [], ◌∷◌, ◌++◌, Some, slice_get}
use Rattle.vocabulary.specs.declared.term.Fact.{Fact}
use Rattle.vocabulary.specs.Lists.{item}
use Rattle.dllite_axioms.specs.declared.axioms.Axiom.{Axiom}
use Rattle.dllite_axioms.specs.Chase.{apply_of}
use Rattle.source_tables.specs.Tables.{Loaded}
use Rattle.mapping_facts.specs.declared.mapping.Mapping.{Mapping}
use Rattle.conflict_checker.specs.declared.derivation.Step.{Step}
use Rattle.conflict_checker.specs.Derivations.{facts_from}

-- the axioms with these numbers, counted from 0, lead from one fact to another
pub data Applies (axioms : List Axiom) : List ℕ → Fact → Fact → Type 0 where
  applied : {f g : Fact} → f ≡ g → Applies axioms [] f g
  apply_one : {f h g : Fact} {k : ℕ} {chain : List ℕ} (ax : Axiom) → slice_get axioms k ≡ Some ax → apply_of ax f ≡ Some h → Applies axioms chain h g → Applies axioms (k ∷ chain) f g

-- every step has its fact, and these are all of them
abbrev pub Runs : List Axiom → List Mapping → List Loaded → List Step → List Fact → Type 0
Runs axioms mappings tables steps facts = facts_from axioms mappings tables [] steps ≡ Some facts

-- with the facts so far and more every step has its fact, and this is the fact of the number
pub record RunsOn (axioms : List Axiom) (mappings : List Mapping) (tables : List Loaded) (steps : List Step) (facts : List Fact) (n : ℕ) (f : Fact) : Type 0 where
  pub more : List Fact
  pub run : Runs axioms mappings tables steps (facts ++ more)
  pub at : item (facts ++ more) n ≡ Some f
