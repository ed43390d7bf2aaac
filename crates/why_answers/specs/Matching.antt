-- Facts of tables for the atoms of a query.
use Rattle.std.specs.Prelude.{ℕ, ◌≡◌, List, [], ◌∷◌, length, Option, Some, option_map, slice_get}
use Rattle.std.specs.Option.{option_and_then}
use Rattle.vocabulary.specs.declared.ids.VarId.{VarId}
use Rattle.vocabulary.specs.declared.term.Fact.{Fact}
use Rattle.vocabulary.specs.Lists.{In}
use Rattle.source_tables.specs.Tables.{Loaded}
use Rattle.queries.specs.declared.query.Atom.{Atom}
use Rattle.queries.specs.Matches.{AtomIs, Matched, Terms}
use Rattle.queries.specs.Occurrences.{atom_occurs, count}
use Rattle.mapping_facts.specs.declared.mapping.Mapping.{Mapping}
use Rattle.mapping_facts.specs.Facts.{mapped_facts, mapping_fact}
use Rattle.mapping_unfolding.specs.declared.draft.Origin.{Origin}
use Rattle.mapping_unfolding.specs.Unfoldings.{items_from}
use Rattle.why_answers.specs.Showing.{Read}

-- the fact of an origin's target on its rows of the tuple
abbrev pub origin_fact : List Mapping → List Loaded → List ℕ → Origin → Option Fact
origin_fact mappings tables tuple o =
    option_and_then (λ m. option_and_then (mapping_fact tables m (items_from o.first (length m.query.tables) tuple)) (slice_get m.targets o.target)) (slice_get mappings o.mapping)

abbrev pub origin_facts : List Mapping → List Loaded → List ℕ → List Origin → Option (List Fact)
origin_facts mappings tables tuple [] = Some []
origin_facts mappings tables tuple (o ∷ origins) = option_and_then (λ f. option_map (λ fs. f ∷ fs) (origin_facts mappings tables tuple origins)) (origin_fact mappings tables tuple o)

-- no replacement takes each atom to one of the facts
abbrev pub NoMatch : List Fact → List Atom → Type 0
NoMatch facts atoms = (σ : Terms) → Matched facts σ atoms → ⊥

-- mapped facts to which one replacement takes the atoms, in order
pub record ReadMapped (mappings : List Mapping) (tables : List Loaded) (atoms : List Atom) (facts : List Fact) : Type 0 where
  pub read : Read atoms facts
  pub mapped : (f : Fact) → In f facts → In f (mapped_facts mappings tables)

-- no variable stands in the atom, in the atoms
abbrev pub IsWithoutVariables : Atom → Type 0
IsWithoutVariables a = (v : VarId) → atom_occurs v a ≡ 0

abbrev pub AreWithoutVariables : List Atom → Type 0
AreWithoutVariables atoms = (v : VarId) → count v atoms ≡ 0

-- the atom stands for one of the facts
abbrev pub HasFact : List Fact → Atom → Type 0
HasFact facts a = (σ : Terms) × (f : Fact) × In f facts × AtomIs σ a f

-- one of the facts, for which the atom stands whatever the variables are
abbrev pub IsFactOf : List Fact → Atom → Fact → Type 0
IsFactOf facts a f = In f facts × ((σ : Terms) → AtomIs σ a f)
