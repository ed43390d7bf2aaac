-- The queries that can be asked by name, and their variables.
use Rattle.std.specs.Prelude.{ℕ, List, Option, Some, if◌then◌else◌, option_map, option_and_then, position, slice_get, codes}
use Rattle.std.specs.Str.{bytes_eq}
use Rattle.line_lexer.specs.Grammar.{either}
use Rattle.queries.specs.declared.query.Query.{Query}
use Rattle.annotation_language.specs.declared.notes.NamedQuery.{NamedQuery}
use Rattle.annotation_language.specs.declared.notes.Annotations.{Annotations}
use Rattle.annotation_language.specs.Lines.{VariablesOf, event_named}

-- the query of a `query` line
abbrev pub noted_query : List NamedQuery → List ℕ → Option Query
noted_query queries n = option_map (λ q. q.query) (option_and_then (slice_get queries) (position (λ q. bytes_eq q.name n) queries))

-- the case query by `case`, the objects of an event by its name, and the query of a `query` line by its name
abbrev pub query_named : Annotations → List ℕ → Option Query
query_named notes n = if bytes_eq n (codes "case") then notes.case_query
    else either (event_named notes n) (λ event. Some event.objects) (noted_query notes.queries n)

-- the variables of a query that can be asked by this name, by their numbers
abbrev pub variables_named : List VariablesOf → List ℕ → Option (List (List ℕ))
variables_named found n = option_map (λ v. v.variables) (option_and_then (slice_get found) (position (λ v. bytes_eq v.name n) found))
