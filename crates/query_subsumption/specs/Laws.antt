-- The law of mappings, as `laws` states it.
use Rattle.std.specs.Prelude.{List}
use Rattle.vocabulary.specs.declared.term.Term.{Term}
use Rattle.vocabulary.specs.declared.term.Fact.{Fact}
use Rattle.queries.specs.declared.query.Query.{Query}
use Rattle.queries.specs.Matches.{IsMatch, Terms}
use Rattle.query_subsumption.specs.Subsumption.{MapsInto}

-- where a query maps into another, each image of the other's head is one of its own
abbrev pub MappingIsSound : Type 0
MappingIsSound = (facts : List Fact) (general special : Query) (tuple : List Term) → MapsInto general special → (σ : Terms) → IsMatch facts special tuple σ → (τ : Terms) × IsMatch facts general tuple τ
