-- Mapped steps for an atom.
use Rattle.std.specs.Prelude.{◌≡◌, ℕ, ◌+◌, List, length, map, Option, Some, None, slice_get}
use Rattle.vocabulary.specs.declared.term.Fact.{Fact}
use Rattle.vocabulary.specs.Lists.{In}
use Rattle.source_tables.specs.Tables.{Loaded}
use Rattle.dllite_axioms.specs.declared.axioms.Axiom.{Axiom}
use Rattle.queries.specs.declared.query.Atom.{Atom}
use Rattle.queries.specs.Matches.{AtomIs, Terms}
use Rattle.mapping_facts.specs.declared.mapping.Mapping.{Mapping}
use Rattle.mapping_facts.specs.Facts.{mapped_facts}
use Rattle.mapping_unfolding.specs.declared.draft.Origin.{Origin}
use Rattle.mapping_unfolding.specs.Unfoldings.{items_from}
use Rattle.conflict_checker.specs.declared.derivation.Step.{Step}
use Rattle.conflict_checker.specs.declared.derivation.Step.TheVariants.{Mapped}
use Rattle.conflict_checker.specs.Derivations.{step_fact}

abbrev pub table_count : Option Mapping → ℕ
table_count None = 0
table_count (Some m) = length m.query.tables

-- the step of an origin at a tuple of the row query, whose numbers count from 1
abbrev pub origin_step : List Mapping → List ℕ → Origin → Step
origin_step mappings tuple o =
    Mapped (o.mapping + 1) (o.target + 1) (map (λ n. n + 1) (items_from o.first (table_count (slice_get mappings o.mapping)) tuple))

-- a step has the fact, whatever the axioms are and whatever stands before it
abbrev pub HasFact : List Mapping → List Loaded → Step → Fact → Type 0
HasFact mappings tables step f = (axioms : List Axiom) (earlier : List Fact) → step_fact axioms mappings tables earlier step ≡ Some f

-- a mapped step has a fact for which the atom stands
pub record IsFound (mappings : List Mapping) (tables : List Loaded) (a : Atom) (step : Step) : Type 0 where
  pub mapping : ℕ
  pub target : ℕ
  pub rows : List ℕ
  pub is_mapped : step ≡ Mapped mapping target rows
  pub fact : Fact
  pub has : HasFact mappings tables step fact
  pub given : In fact (mapped_facts mappings tables)
  pub terms : Terms
  pub stands : AtomIs terms a fact

-- the atom stands for no mapped fact
abbrev pub NoneStands : List Mapping → List Loaded → Atom → Type 0
NoneStands mappings tables a = (f : Fact) (σ : Terms) → In f (mapped_facts mappings tables) → AtomIs σ a f → ⊥
