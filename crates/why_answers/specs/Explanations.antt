-- Explanations of answers.
use Rattle.std.specs.Prelude.{◌≡◌, List, Some}
use Rattle.vocabulary.specs.declared.term.Term.{Term}
use Rattle.vocabulary.specs.declared.term.Fact.{Fact}
use Rattle.vocabulary.specs.Lists.{Pairwise}
use Rattle.dllite_axioms.specs.declared.axioms.Tbox.{Tbox}
use Rattle.queries.specs.declared.query.Query.{Query}
use Rattle.queries.specs.Matches.{AtomIs, HeadIs, Terms}
use Rattle.certain_semantics.specs.Certain.{TermsKnown}
use Rattle.source_tables.specs.Tables.{Loaded}
use Rattle.mapping_facts.specs.declared.mapping.Mapping.{Mapping}
use Rattle.conflict_checker.specs.Derivations.{facts_of, items_at}
use Rattle.why_answers.specs.declared.explanation.Why.{Why}

-- one replacement of the variables, each Blank a variable of its own, takes the atoms, in order, to these facts, and the head to the tuple
pub record Reads (q : Query) (facts : List Fact) (tuple : List Term) : Type 0 where
  pub terms : Terms
  pub atoms : Pairwise (AtomIs terms) q.atoms facts
  pub head : HeadIs terms q.head tuple

-- every step has its fact, the atoms' numbers name steps whose facts read as the tuple, and the terms of the tuple are known
pub record Explains (tbox : Tbox) (mappings : List Mapping) (tables : List Loaded) (q : Query) (why : Why) (tuple : List Term) : Type 0 where
  pub facts : List Fact
  pub steps : facts_of tbox mappings tables why.steps ≡ Some facts
  pub named : List Fact
  pub numbered : items_at facts why.atoms ≡ Some named
  pub reads : Reads q named tuple
  pub known : TermsKnown tuple
