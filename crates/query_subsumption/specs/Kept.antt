-- What the kept queries of a list have of it.
use Rattle.std.specs.Prelude.{◌≢◌, ◌↔◌, List}
use Rattle.vocabulary.specs.declared.term.Fact.{Fact}
use Rattle.vocabulary.specs.declared.term.Term.{Term}
use Rattle.vocabulary.specs.Lists.{In}
use Rattle.queries.specs.declared.query.Query.{Query}
use Rattle.queries.specs.Matches.{IsMatch, Terms}
use Rattle.query_subsumption.specs.Subsumption.{MapsInto}

-- each query of the one list is in the other
abbrev pub AreAmong : List Query → List Query → Type 0
AreAmong queries kept = (q : Query) → In q kept → In q queries

-- no query of the list maps into another of it
abbrev pub NoneMaps : List Query → Type 0
NoneMaps kept = (g s : Query) → In g kept → In s kept → g ≢ s → MapsInto g s → ⊥

-- the tuple is the image of the head under a match of one of the queries
abbrev pub HasImage : List Fact → List Query → List Term → Type 0
HasImage facts queries tuple = (q : Query) × In q queries × ((σ : Terms) × IsMatch facts q tuple σ)

-- in each list of facts, the two lists of queries have the same head images
abbrev pub SameImages : List Query → List Query → Type 0
SameImages queries kept = (facts : List Fact) (tuple : List Term) → HasImage facts queries tuple ↔ HasImage facts kept tuple
