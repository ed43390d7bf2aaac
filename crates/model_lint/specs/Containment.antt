-- Containment of queries under axioms.
use Rattle.std.specs.Prelude.{ℕ, ◌≡◌, ◌<◌, Some, List, []}
use Rattle.vocabulary.specs.declared.term.Term.{Term}
use Rattle.vocabulary.specs.declared.term.Fact.{Fact}
use Rattle.vocabulary.specs.Lists.{item, IsListOf}
use Rattle.dllite_axioms.specs.declared.axioms.Axiom.{Axiom}
use Rattle.dllite_axioms.specs.Chase.{AreKnown}
use Rattle.dllite_axioms.specs.Models.{IsFiniteModel}
use Rattle.queries.specs.declared.query.Query.{Query}
use Rattle.queries.specs.Matches.{Terms, IsMatch}
use Rattle.queries.specs.Order.{query_cmp}
use Rattle.certain_semantics.specs.Certain.{IsCertain}
use Rattle.perfect_rewriting.specs.Reach.{Reach}
use Rattle.query_subsumption.specs.Subsumption.{AreKept, MapsInto}

-- over every list of known facts each certain answer of the one query is one of the other
abbrev pub IsContained : List Axiom → Query → Query → Type 0
IsContained axioms first second = (facts : List Fact) → AreKnown facts → (tuple : List Term) → IsCertain axioms facts first tuple → IsCertain axioms facts second tuple

-- the queries that stand for the rewriting of a query: its reach, in order, without those for which another stands
pub record AreRewritten (axioms : List Axiom) (q : Query) (queries : List Query) : Type 0 where
  pub reached : List Query
  pub members : IsListOf query_cmp (Reach axioms q) reached
  pub kept : AreKept reached queries

-- of these queries the first that maps into the special one has this number, counted from 1
pub record IsFirst (queries : List Query) (special : Query) (number : ℕ) : Type 0 where
  pub query : Query
  pub numbered : item queries number ≡ Some query
  pub maps : MapsInto query special
  pub sooner : (n : ℕ) (q : Query) → n < number → item queries n ≡ Some q → MapsInto q special → ⊥

-- of the queries that stand for the rewriting of the second, the first that maps into the first query has this number
pub record IsCovered (axioms : List Axiom) (first second : Query) (number : ℕ) : Type 0 where
  pub queries : List Query
  pub rewritten : AreRewritten axioms second queries
  pub covers : IsFirst queries first number

-- in every list of facts in which each axiom finds its right side, each image of the first query's head is one of the second's
abbrev pub HoldsInModels : List Axiom → Query → Query → Type 0
HoldsInModels axioms first second = (model : List Fact) → IsFiniteModel axioms [] model → (tuple : List Term) (σ : Terms) → IsMatch model first tuple σ → (τ : Terms) × IsMatch model second tuple τ
