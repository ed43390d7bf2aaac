-- Numbers that crates beside the table of limits state are those of the table.
use Rattle.std.specs.Prelude.{◌≡◌, refl, ◌<◌, ◌≤◌, ℕ, List, length}
use Rattle.line_lexer.specs.Faults.{limit_of}
use Rattle.line_lexer.specs.declared.fault.Counted.TheVariants.{Rows, Rewriting, Steps}
use Rattle.vocabulary.specs.Lists.{In}
use Rattle.dllite_axioms.specs.declared.axioms.Axiom.{Axiom}
use Rattle.dllite_axioms.specs.declared.axioms.Tbox.{Tbox}
use Rattle.source_tables.specs.Tables.{Loaded, rows_limit}
use Rattle.mapping_facts.specs.declared.mapping.Mapping.{Mapping}
use Rattle.queries.specs.declared.query.Query.{Query}
use Rattle.conflict_checker.specs.declared.derivation.Derivation.{Derivation}
use Rattle.consistency_check.specs.Contradictions.{AreContradictions}
use Rattle.perfect_rewriting.specs.Rewriting.{IsTooWide}

rows : rows_limit ≡ limit_of Rows
rows = refl

rewriting : {axioms : List Axiom} {q : Query} (wide : IsTooWide axioms q) → limit_of Rewriting < length wide.members
rewriting wide = wide.many

steps : {tbox : Tbox} {mappings : List Mapping} {tables : List Loaded} {count : ℕ} {ds : List Derivation} → AreContradictions tbox mappings tables count ds → (d : Derivation) → In d ds → length d.steps ≤ limit_of Steps
steps contradictions = contradictions.short
