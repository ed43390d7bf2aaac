-- The search through the folds of a query.
use Rattle.std.specs.Prelude.{◌≡◌, ℕ, ◌<◌, Bool, List, ◌++◌, map, Option, Some, None, slice_get}
use Rattle.std.specs.Ordering.{is_eq}
use Rattle.vocabulary.specs.declared.term.Fact.{Fact}
use Rattle.vocabulary.specs.Lists.{In}
use Rattle.dllite_axioms.specs.declared.axioms.Axiom.{Axiom}
use Rattle.source_tables.specs.Tables.{Loaded}
use Rattle.queries.specs.declared.query.Query.{Query}
use Rattle.queries.specs.Matches.{Matched, Terms}
use Rattle.queries.specs.Normal.{normal_form}
use Rattle.queries.specs.Order.{query_cmp}
use Rattle.mapping_facts.specs.declared.mapping.Mapping.{Mapping}
use Rattle.fold_rewriting.specs.declared.steps.FoldStep.{FoldStep as Told}
use Rattle.fold_rewriting.specs.Folds.{Folds}
use Rattle.fold_rewriting.specs.Steps.{FoldAt, IsFold}
use Rattle.why_answers.specs.declared.folding.Found.{Found}
use Rattle.why_answers.specs.declared.folding.Node.{Node}
use Rattle.why_answers.specs.Matching.{NoMatch, ReadMapped}

abbrev pub node_queries : List Node → List Query
node_queries nodes = map (λ n. n.query) nodes

abbrev pub has_query : Query → Node → Bool
has_query q n = is_eq (query_cmp n.query q)

-- the query at a place is the normal form, or a fold step gave it from that at an earlier place
abbrev pub ComesFrom : List Axiom → Query → List Node → ℕ → Query → Option (ℕ × Told) → Type 0
ComesFrom axioms q nodes i query None = query ≡ normal_form q
ComesFrom axioms q nodes i query (Some (j, s)) = (j < i) × ((m : Node) × (slice_get nodes j ≡ Some m) × FoldAt axioms m.query s query)

-- folds of a query, each with where it comes from
pub record AreNodes (axioms : List Axiom) (q : Query) (nodes : List Node) : Type 0 where
  pub folds : (n : Node) → In n nodes → Folds axioms q n.query
  pub from : (i : ℕ) (n : Node) → slice_get nodes i ≡ Some n → ComesFrom axioms q nodes i n.query n.from

-- steps from a place give the queries that are added, and all that they give are there
pub record AddsFolds (from : ℕ) (steps : List (Told × Query)) (old new : List Node) : Type 0 where
  pub more : List Node
  pub made : new ≡ old ++ more
  pub each : (n : Node) → In n more → (s : Told) × (n.from ≡ Some (from, s)) × In {X = Told × Query} (s, n.query) steps
  pub all : (s : Told) (r : Query) → In {X = Told × Query} (s, r) steps → In r (node_queries new)

-- the folds so far; those before a place have no match in the facts, and what fold steps give of them is there
pub record Searched (axioms : List Axiom) (q : Query) (facts : List Fact) (nodes : List Node) (at : ℕ) : Type 0 where
  pub are : AreNodes axioms q nodes
  pub started : In (normal_form q) (node_queries nodes)
  pub done : (i : ℕ) (n : Node) → i < at → slice_get nodes i ≡ Some n → NoMatch facts n.query.atoms × ((r : Query) → IsFold axioms n.query r → In r (node_queries nodes))

-- a fold with mapped facts for its atoms
pub record IsFoundAt (axioms : List Axiom) (q : Query) (mappings : List Mapping) (tables : List Loaded) (found : Found) : Type 0 where
  pub are : AreNodes axioms q found.nodes
  pub node : Node
  pub at : slice_get found.nodes found.at ≡ Some node
  pub matched : ReadMapped mappings tables node.query.atoms found.facts

-- some fold has a match in the facts
abbrev pub SomeMatches : List Axiom → Query → List Fact → Type 0
SomeMatches axioms q facts = (m : Query) × (σ : Terms) × Folds axioms q m × Matched facts σ m.atoms
