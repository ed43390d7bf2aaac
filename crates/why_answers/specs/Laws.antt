-- The law of explanations, as `laws` states it.
use Rattle.std.specs.Prelude.{List}
use Rattle.vocabulary.specs.declared.term.Term.{Term}
use Rattle.dllite_axioms.specs.declared.axioms.Tbox.{Tbox}
use Rattle.queries.specs.declared.query.Query.{Query}
use Rattle.certain_semantics.specs.Certain.{IsCertain}
use Rattle.source_tables.specs.Tables.{Loaded}
use Rattle.mapping_facts.specs.declared.mapping.Mapping.{Mapping}
use Rattle.mapping_facts.specs.Facts.{mapped_facts}
use Rattle.why_answers.specs.declared.explanation.Why.{Why}
use Rattle.why_answers.specs.Explanations.{Explains}

-- what is explained is a certain answer over the mapped facts
abbrev pub ExplainedIsCertain : Type 0
ExplainedIsCertain = (tbox : Tbox) (mappings : List Mapping) (tables : List Loaded) (q : Query) (why : Why) (tuple : List Term) →
    Explains tbox mappings tables q why tuple → IsCertain tbox.axioms (mapped_facts mappings tables) q tuple
