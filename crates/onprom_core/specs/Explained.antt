-- What the job of `why` comes to, where the answers are known.
use Rattle.std.specs.Prelude.{◌≡◌, ◌⊎◌, ℕ, List, None, Some}
use Rattle.vocabulary.specs.Lists.{item}
use Rattle.vocabulary.specs.declared.term.Term.{Term}
use Rattle.source_tables.specs.Tables.{Loaded}
use Rattle.queries.specs.declared.query.Query.{Query}
use Rattle.why_answers.specs.declared.explanation.Why.{Why}
use Rattle.project_language.specs.declared.project.Project.{Project}
use Rattle.onprom_core.specs.Jobs.{Ending, explained_end, unknown_end}
use Rattle.onprom_core.specs.Meaning.{ExplainsAnswer}

-- the ending has an explanation of the tuple
abbrev pub ExplainsTuple : Project → List Loaded → Query → List Term → Ending → Type 0
ExplainsTuple project tables q tuple e = (why : Why) × ExplainsAnswer project tables q why tuple × (e ≡ explained_end project why tuple)

-- it explains the tuple of the number, or tells that there is none
abbrev pub EndsExplaining : Project → List Loaded → Query → List (List Term) → ℕ → Ending → Type 0
EndsExplaining project tables q tuples number e =
    ((tuple : List Term) × (item tuples number ≡ Some tuple) × ExplainsTuple project tables q tuple e)
    ⊎ ((item tuples number ≡ None) × (e ≡ unknown_end number))
