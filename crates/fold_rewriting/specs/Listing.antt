-- The folds as a list: its members, when they are too many, and what they answer.
use Rattle.std.specs.Prelude.{◌<◌, ◌↔◌, List, length}
use Rattle.std.specs.List.Sorted.{IsStrictlySortedBy}
use Rattle.vocabulary.specs.declared.term.Term.{Term}
use Rattle.vocabulary.specs.declared.term.Fact.{Fact}
use Rattle.vocabulary.specs.Lists.{In}
use Rattle.dllite_axioms.specs.declared.axioms.Axiom.{Axiom}
use Rattle.dllite_axioms.specs.Chase.{AreKnown}
use Rattle.queries.specs.declared.query.Query.{Query}
use Rattle.queries.specs.Matches.{Terms, IsMatch}
use Rattle.queries.specs.Occurrences.{KnownConstants, HeadStands}
use Rattle.queries.specs.Order.{query_cmp}
use Rattle.certain_semantics.specs.Certain.{IsCertain}
use Rattle.fold_rewriting.specs.Folds.{Folds, HoldsKnown}

-- there are more than 4,000 folds: there is a longer list of them, increasing, so that each is another
pub record IsTooWide (axioms : List Axiom) (q : Query) : Type 0 where
  pub members : List Query
  pub different : IsStrictlySortedBy query_cmp members
  pub folded : (m : Query) → In m members → Folds axioms q m
  pub many : 4000 < length members

-- over a known list that holds the known facts of its chase, the certain answers are the head images of the matches of these queries in the list itself
abbrev pub GiveCertain : List Axiom → Query → List Query → Type 0
GiveCertain axioms q list = KnownConstants q → HeadStands q → (facts : List Fact) → AreKnown facts → HoldsKnown axioms facts → (tuple : List Term) →
    IsCertain axioms facts q tuple ↔ ((m : Query) × (σ : Terms) × In m list × IsMatch facts m tuple σ)
