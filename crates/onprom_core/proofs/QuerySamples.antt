-- First ends of the walks of `answer` and of `rewrite`, computed.
use Rattle.std.proofs.Common.{◌≡◌, refl, ℕ, List, [], ◌∷◌, Option, Some, None, Result, Ok, Err, codes}
use Rattle.std.specs.Str.{chars, is_utf8}
use Rattle.line_lexer.specs.Separated.{at_most}
use Rattle.line_lexer.specs.Tokens.{tokens_behind, token_front}
use Rattle.uml_model.specs.Lines as model_lines
use Rattle.uml_model.specs.Rules as model_rules
use Rattle.mapping_language.specs.Grammar as map_grammar
use Rattle.mapping_language.specs.Tables as map_tables
use Rattle.annotation_language.specs.Grammar as note_grammar
use Rattle.annotation_language.specs.Lines as note_lines
use Rattle.project_language.specs.Project.{name_lines, name_text, open_lines, read_lines, read_project}
use Rattle.onprom_core.specs.declared.status.Status.TheVariants as status
use Rattle.onprom_core.specs.declared.halt.Stopped.{Stopped}
use Rattle.onprom_core.specs.Lines.{query_refused}
use Rattle.onprom_core.specs.Walk.{Files, Job, answer_step, one_table, rewrite_step, tables_step, walk, given_step, project_step}

-- what a walk stops with, none where it comes to its job
abbrev stopped_with : Result Job Stopped → Option Stopped
stopped_with (Ok job) = None
stopped_with (Err stopped) = Some stopped

-- a project whose table is not held, and with a query `q` and no cases
abbrev asked : Files
asked = (codes "p", codes "onprom 1\ntable t \"t.csv\"\ncolumn t a text\nclass A\nquery q (x) where A(x)\n") ∷ []

abbrev answer : List ℕ → Option Stopped
answer name = stopped_with (walk (codes "answer" ∷ codes "p" ∷ name ∷ []) asked).end

abbrev rewrite : List ℕ → Option Stopped
rewrite name = stopped_with (walk (codes "rewrite" ∷ codes "p" ∷ name ∷ []) asked).end

-- the query is found before the tables are read
unknown : answer (codes "none") ≡ Some (record { status = status.Refused; line = codes "refused: query none: Unknown\n" })
unfolding walk project_step given_step answer_step query_refused chars tokens_behind token_front map_grammar.source_line map_grammar.table_line map_grammar.column_line map_tables.broken map_tables.grown at_most model_lines.model_line model_rules.broken note_grammar.atom note_grammar.of_any note_grammar.of_one note_grammar.annotation_line note_lines.broken note_lines.grown open_lines name_lines name_text read_lines read_project is_utf8 lib.Utf8.encode
unknown = refl

-- `case` names no query where there are no cases
no_case : answer (codes "case") ≡ Some (record { status = status.Refused; line = codes "refused: query case: Unknown\n" })
unfolding walk project_step given_step answer_step query_refused chars tokens_behind token_front map_grammar.source_line map_grammar.table_line map_grammar.column_line map_tables.broken map_tables.grown at_most model_lines.model_line model_rules.broken note_grammar.atom note_grammar.of_any note_grammar.of_one note_grammar.annotation_line note_lines.broken note_lines.grown open_lines name_lines name_text read_lines read_project is_utf8 lib.Utf8.encode
no_case = refl

no_table : answer (codes "q") ≡ Some (record { status = status.Absent; line = codes "absent: t.csv\n" })
unfolding walk project_step given_step answer_step one_table tables_step chars tokens_behind token_front map_grammar.source_line map_grammar.table_line map_grammar.column_line map_tables.broken map_tables.grown at_most model_lines.model_line model_rules.broken note_grammar.atom note_grammar.of_any note_grammar.of_one note_grammar.annotation_line note_lines.broken note_lines.grown open_lines name_lines name_text read_lines read_project is_utf8 lib.Utf8.encode
no_table = refl

-- `rewrite` asks for no table
rewritten : rewrite (codes "q") ≡ None
unfolding walk project_step given_step rewrite_step chars tokens_behind token_front map_grammar.source_line map_grammar.table_line map_grammar.column_line map_tables.broken map_tables.grown at_most model_lines.model_line model_rules.broken note_grammar.atom note_grammar.of_any note_grammar.of_one note_grammar.annotation_line note_lines.broken note_lines.grown open_lines name_lines name_text read_lines read_project is_utf8 lib.Utf8.encode
rewritten = refl
