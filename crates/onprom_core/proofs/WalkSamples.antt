-- Commands by their words, and first ends of walks, computed.
use Rattle.std.proofs.Common.{◌≡◌, refl, ℕ, List, [], ◌∷◌, Option, Some, None, Result, Ok, Err, codes, map, arith}
use Rattle.std.specs.Fmt.{digits}
use Rattle.std.specs.Str.{chars, is_utf8}
use Rattle.line_lexer.specs.Separated.{at_most}
use Rattle.line_lexer.specs.Tokens.{tokens_behind, token_front}
use Rattle.uml_model.specs.Lines as model_lines
use Rattle.uml_model.specs.Rules as model_rules
use Rattle.mapping_language.specs.Grammar as map_grammar
use Rattle.mapping_language.specs.Tables as map_tables
use Rattle.annotation_language.specs.Grammar as note_grammar
use Rattle.annotation_language.specs.Lines as note_lines
use Rattle.derivation_text.specs.Reading as derivations
use Rattle.project_language.specs.Project.{nothing, name_lines, name_text, open_lines, read_lines, read_project}
use Rattle.project_language.specs.declared.fault.ProjectFault.{ProjectFault}
use Rattle.project_language.specs.declared.project.Project.{Project}
use Rattle.onprom_core.specs.declared.status.Status.TheVariants as status
use Rattle.onprom_core.specs.declared.halt.Stopped.{Stopped}
use Rattle.onprom_core.specs.Commands.{Extract, Check, Verify, Answer, Rewrite, Make, Why, Lint, Contained, command_of}
use Rattle.onprom_core.specs.Headline.{IsAcceptedProject}
use Rattle.onprom_core.specs.Lines.{line_refused, usage_line}
use Rattle.onprom_core.specs.Walk.{Files, Job, check_step, extract_step, one_table, tables_step, verify_step, walk, given_step, project_step}

-- each command; a number of documents has no leading zero, is not 0 and at most 100,000
commands : map command_of ((codes "extract" ∷ codes "p" ∷ []) ∷ (codes "check" ∷ codes "p" ∷ []) ∷ (codes "verify" ∷ codes "p" ∷ codes "d" ∷ []) ∷ (codes "answer" ∷ codes "p" ∷ codes "q" ∷ []) ∷ (codes "rewrite" ∷ codes "p" ∷ codes "q" ∷ []) ∷ (codes "make" ∷ codes "100000" ∷ codes "summary" ∷ []) ∷ [])
    ≡ Some (Extract (codes "p")) ∷ Some (Check (codes "p")) ∷ Some (Verify (codes "p") (codes "d")) ∷ Some (Answer (codes "p") (codes "q")) ∷ Some (Rewrite (codes "p") (codes "q")) ∷ Some (Make 100_000 (codes "summary")) ∷ []
unfolding digits
commands = refl

no_commands : map command_of ([] ∷ (codes "extract" ∷ []) ∷ (codes "extract" ∷ codes "p" ∷ codes "q" ∷ []) ∷ (codes "Extract" ∷ codes "p" ∷ []) ∷ (codes "make" ∷ codes "07" ∷ codes "doc.csv" ∷ []) ∷ (codes "make" ∷ codes "0" ∷ codes "doc.csv" ∷ []) ∷ (codes "make" ∷ codes "100001" ∷ codes "doc.csv" ∷ []) ∷ (codes "make" ∷ codes "1" ∷ codes "doc" ∷ []) ∷ [])
    ≡ None ∷ None ∷ None ∷ None ∷ None ∷ None ∷ None ∷ None ∷ []
unfolding digits
no_commands = refl

-- a number of an answer has no leading zero, is not 0 and at most 4,294,967,295
more_commands : map command_of ((codes "why" ∷ codes "p" ∷ codes "q" ∷ codes "4294967295" ∷ []) ∷ (codes "why" ∷ codes "p" ∷ codes "q" ∷ codes "4294967296" ∷ []) ∷ (codes "why" ∷ codes "p" ∷ codes "q" ∷ codes "01" ∷ []) ∷ (codes "lint" ∷ codes "p" ∷ []) ∷ (codes "contained" ∷ codes "p" ∷ codes "q" ∷ codes "r" ∷ []) ∷ (codes "contained" ∷ codes "p" ∷ codes "q" ∷ []) ∷ [])
    ≡ Some (Why (codes "p") (codes "q") 4_294_967_295) ∷ None ∷ None ∷ Some (Lint (codes "p")) ∷ Some (Contained (codes "p") (codes "q") (codes "r")) ∷ None ∷ []
unfolding digits
more_commands = refl

-- what a walk stops with, none where it comes to its job
abbrev stopped_with : Result Job Stopped → Option Stopped
stopped_with (Ok job) = None
stopped_with (Err stopped) = Some stopped

abbrev extract : List ℕ → Files → Option Stopped
extract p files = stopped_with (walk (codes "extract" ∷ p ∷ []) files).end

-- words that match no line of the table
usage : stopped_with (walk (codes "check" ∷ []) []).end ≡ Some (record { status = status.Usage; line = usage_line })
unfolding walk
usage = refl

absent : extract (codes "p") [] ≡ Some (record { status = status.Absent; line = codes "absent: p\n" })
unfolding walk project_step given_step extract_step
absent = refl

-- a project with these lines
abbrev held : List ℕ → Files
held text = (codes "p", text) ∷ []

syntax : extract (codes "p") (held (codes "x")) ≡ Some (record { status = status.Refused; line = codes "refused: p line 1: Syntax\n" })
unfolding digits walk project_step given_step extract_step line_refused chars tokens_behind token_front open_lines name_lines name_text read_lines read_project is_utf8 lib.Utf8.encode
syntax = refl

-- annotations without a case lack it in no line
lacking : extract (codes "p") (held (codes "onprom 1\nclass A")) ≡ Some (record { status = status.Refused; line = codes "refused: p line 0: NoCase\n" })
unfolding digits walk project_step given_step extract_step line_refused chars tokens_behind token_front model_lines.model_line model_rules.broken open_lines name_lines name_text read_lines read_project is_utf8 lib.Utf8.encode
lacking = refl

-- a table is begun behind the project, and only then
table_begun : (walk (codes "extract" ∷ codes "p" ∷ []) (held (codes "onprom 1\ntable t \"t.csv\"\ncolumn t a text\nclass A\ncase c where A(c)\n"))).begun ≡ codes "p" ∷ codes "t.csv" ∷ []
unfolding walk project_step given_step extract_step one_table tables_step chars tokens_behind token_front map_grammar.source_line map_grammar.table_line map_grammar.column_line map_tables.broken map_tables.grown at_most model_lines.model_line model_rules.broken note_grammar.atom note_grammar.of_any note_grammar.of_one note_grammar.annotation_line note_lines.broken note_lines.grown open_lines name_lines name_text read_lines read_project is_utf8 lib.Utf8.encode
table_begun = refl

-- the file of a model is begun behind the project, and before the lines behind it are read
abbrev of_model : List ℕ
of_model = codes "onprom 1\nontology \"m\"\nclass"

model_absent : extract (codes "p") (held of_model) ≡ Some (record { status = status.Absent; line = codes "absent: m\n" })
unfolding digits walk project_step given_step extract_step chars tokens_behind token_front open_lines name_lines name_text is_utf8 lib.Utf8.encode
model_absent = refl

model_begun : (walk (codes "extract" ∷ codes "p" ∷ []) (held of_model)).begun ≡ codes "p" ∷ codes "m" ∷ []
unfolding walk project_step given_step extract_step chars tokens_behind token_front open_lines name_lines name_text is_utf8 lib.Utf8.encode
model_begun = refl

-- where all is read, the walk comes to its job
done : extract (codes "p") (held (codes "onprom 1\nclass A\ncase c where A(c)\n")) ≡ None
unfolding walk project_step given_step extract_step tables_step chars tokens_behind token_front model_lines.model_line model_rules.broken at_most note_grammar.atom note_grammar.of_any note_grammar.of_one note_grammar.annotation_line note_lines.broken note_lines.grown open_lines name_lines name_text read_lines read_project is_utf8 lib.Utf8.encode
done = refl

-- `check` asks for no annotations, and a constraint is read as any other line
abbrev clashing : List ℕ
clashing = codes "onprom 1\nclass A\nclass B\ndisjoint A B\n"

checked : stopped_with (walk (codes "check" ∷ codes "p" ∷ []) (held clashing)).end ≡ None
unfolding walk project_step given_step check_step tables_step chars tokens_behind token_front model_lines.model_line model_rules.broken open_lines name_lines name_text read_lines read_project is_utf8 lib.Utf8.encode
checked = refl

-- the derivations of `verify` are read behind the project and its tables
abbrev verified : Files → Option Stopped
verified files = stopped_with (walk (codes "verify" ∷ codes "p" ∷ codes "d" ∷ []) files).end

no_derivations : verified (held clashing) ≡ Some (record { status = status.Absent; line = codes "absent: d\n" })
unfolding walk project_step given_step verify_step tables_step chars tokens_behind token_front model_lines.model_line model_rules.broken open_lines name_lines name_text read_lines read_project is_utf8 lib.Utf8.encode
no_derivations = refl

no_end : verified ((codes "p", clashing) ∷ (codes "d", codes "conflict 1\n") ∷ []) ≡ Some (record { status = status.Refused; line = codes "refused: d line 2: Syntax\n" })
unfolding digits walk project_step given_step verify_step tables_step line_refused chars tokens_behind token_front model_lines.model_line model_rules.broken open_lines name_lines name_text read_lines read_project derivations.line_said derivations.read_lines is_utf8 lib.Utf8.encode
no_end = refl

-- the project that was read, where one was
abbrev project_or_none : Result Project ProjectFault → Project
project_or_none (Ok project) = project
project_or_none (Err fault) = nothing

abbrev small : List ℕ
small = codes "onprom 1\nclass A\ncase c where A(c)\n"

-- a project that is accepted: it is held and read, it has no tables, and its annotations lack nothing
accepted : IsAcceptedProject (held small) (codes "p") (project_or_none (read_project small)) []
unfolding chars tokens_behind token_front model_lines.model_line model_rules.broken at_most note_grammar.atom note_grammar.of_any note_grammar.of_one note_grammar.annotation_line note_lines.broken note_lines.grown open_lines name_lines name_text read_lines read_project is_utf8 lib.Utf8.encode
accepted = record { read = record { bytes = small; held = (refl, omega arith); read = record { given = None; is_given = tt; read = refl }; loaded = tt }; complete = refl }
