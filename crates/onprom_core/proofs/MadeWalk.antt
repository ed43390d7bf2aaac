-- No file is absent in the walk over the made project.
use Rattle.std.proofs.Common.{◌≡◌, ◌≢◌, refl, sym, ◌∙◌, ap, subst, ℕ, ◌+◌, Bool, true, false, List, [], ◌∷◌, Option, Some, None, Result, Ok, Err, codes, length, nat_lt, is_some, if◌then◌else◌, ◌&&◌}
use Rattle.outside.specs.Files.{bytes_of}
use Rattle.line_lexer.specs.Separated.{at_most}
use Rattle.line_lexer.specs.Faults.{limit_of, name_of}
use Rattle.line_lexer.specs.Tokens.{tokens_behind, token_front}
use Rattle.line_lexer.specs.declared.fault.Counted.TheVariants.{File, TablesTogether}
use Rattle.std.specs.Str.{chars, is_utf8}
use Rattle.uml_model.specs.Lines as model_lines
use Rattle.uml_model.specs.Rules as model_rules
use Rattle.mapping_language.specs.Grammar as map_grammar
use Rattle.mapping_language.specs.Tables as map_tables
use Rattle.mapping_language.specs.Mappings as map_mappings
use Rattle.iri_templates.specs.Templates.{template_of}
use Rattle.iri_templates.specs.Characters.{is_hole_text}
use Rattle.annotation_language.specs.Grammar as note_grammar
use Rattle.annotation_language.specs.Lines as note_lines
use Rattle.annotation_language.specs.Complete.{Lack, Case, Cases, Time, Activity, lack_of}
use Rattle.source_tables.specs.declared.decl.TableDecl.{TableDecl}
use Rattle.source_tables.specs.declared.fault.TableFault.{TableFault}
use Rattle.source_tables.specs.declared.fault.TableFault.TheVariants as tf
use Rattle.source_tables.specs.Tables.{Loaded, table_of}
use Rattle.project_language.specs.Project.{name_lines, name_text, ontology_file, open_lines, read_lines, read_project}
use Rattle.project_language.specs.declared.fault.ProjectFault.{ProjectFault}
use Rattle.project_language.specs.declared.fault.ProjectFault.TheVariants as pf
use Rattle.project_language.specs.declared.project.Project.{Project}
use Rattle.big_project.specs.Files.{made_files, project_file}
use Rattle.onprom_core.specs.declared.output.Output.{Output}
use Rattle.onprom_core.specs.declared.halt.Halt.{Halt}
use Rattle.onprom_core.specs.declared.halt.Halt.TheVariants as halt
use Rattle.onprom_core.specs.declared.halt.Stopped.{Stopped}
use Rattle.onprom_core.specs.declared.status.Status.TheVariants as status
use Rattle.onprom_core.specs.Causes.{CountsHalt, IsWhole, SaysUsage}
use Rattle.onprom_core.specs.Jobs.{EndsExtraction, EndsMade}
use Rattle.onprom_core.specs.Lines.{limit_line}
use Rattle.onprom_core.specs.Outputs.{EndsWell, Works, ended}
use Rattle.onprom_core.specs.Steps.{Step, bind_end, goes, ◌>>=◌}
use Rattle.onprom_core.specs.Texts.{text_of}
use Rattle.onprom_core.specs.Walk.{Files, Job, Extracting, complete_step, extract_step, file_step, given_step, held_step, lack_step, loaded_step, one_table, project_of, project_step, read_step, sources_step, stop, table_step, tables_step, together_step}
use Rattle.onprom_core.proofs.WalksBack.{back, held_back, lack_back, read_back}

-- what comes of a step is no absent file
abbrev pub IsPresent : {A : Type 0} → Result A Stopped → Type 0
IsPresent (Ok x) = Unit {0}
IsPresent (Err stopped) = stopped.status ≢ status.Absent

-- a step and one behind it
behind : {A B : Type 0} (m : Step A) (f : A → Step B) → IsPresent m.end → ((v : A) → m.end ≡ Ok v → IsPresent (f v).end) → IsPresent (m >>= f).end
behind {A} {B} m f first rest = by m.end refl first
  where
    by : (o : Result A Stopped) → m.end ≡ o → IsPresent o → IsPresent (bind_end m.begun o f).end
    by (Ok v) is present = rest v is
    by (Err stopped) is present = present

-- a file that is held
held_present : (name : List ℕ) (o : Option (List ℕ)) → is_some o ≡ true → IsPresent (held_step name o).end
held_present name None some = absurd cc
held_present name (Some bytes) some = at (nat_lt (limit_of File) (length bytes))
  where
    at : (t : Bool) → IsPresent (if t then stop {A = List ℕ} status.Limit (limit_line (name_of File)) else goes bytes).end
    at true = λ x. cc
    at false = tt

read_present : (p : List ℕ) (o : Result Project ProjectFault) → IsPresent (read_step p o).end
read_present p (Ok project) = tt
read_present p (Err (pf.NotUtf8 line)) = λ x. cc
read_present p (Err (pf.Line line kind)) = λ x. cc
read_present p (Err (pf.Limit what)) = λ x. cc
read_present p (Err pf.NoMemory) = λ x. cc

lack_present : (p : List ℕ) (project : Project) (o : Option Lack) → IsPresent (lack_step p project o).end
lack_present p project None = tt
lack_present p project (Some Case) = λ x. cc
lack_present p project (Some (Cases line)) = λ x. cc
lack_present p project (Some (Time line)) = λ x. cc
lack_present p project (Some (Activity line)) = λ x. cc

together_present : (total : ℕ) → IsPresent (together_step total).end
together_present total = at (nat_lt (limit_of TablesTogether) total)
  where
    at : (t : Bool) → IsPresent (if t then stop {A = ℕ} status.Limit (limit_line (name_of TablesTogether)) else goes total).end
    at true = λ x. cc
    at false = tt

loaded_present : (decl : TableDecl) (o : Result Loaded TableFault) → IsPresent (loaded_step decl o).end
loaded_present decl (Ok t) = tt
loaded_present decl (Err (tf.Header c)) = λ x. cc
loaded_present decl (Err (tf.NotUtf8 r)) = λ x. cc
loaded_present decl (Err (tf.Width r)) = λ x. cc
loaded_present decl (Err (tf.BadCell r c)) = λ x. cc
loaded_present decl (Err (tf.BadChar r c)) = λ x. cc
loaded_present decl (Err (tf.NullKey r)) = λ x. cc
loaded_present decl (Err (tf.DoubleKey r s)) = λ x. cc
loaded_present decl (Err tf.TooManyRows) = λ x. cc
loaded_present decl (Err tf.NoMemory) = λ x. cc

-- the files of these tables are held
abbrev are_held : Files → List TableDecl → Bool
are_held files [] = true
are_held files (decl ∷ decls) = is_some (bytes_of files decl.file) && are_held files decls

and_left : (a b : Bool) → (a && b) ≡ true → a ≡ true
and_left true b both = refl
and_left false b both = absurd cc

and_right : (a b : Bool) → (a && b) ≡ true → b ≡ true
and_right true b both = both
and_right false b both = absurd cc

one_present : (files : Files) (before : ℕ) (decl : TableDecl) → is_some (bytes_of files decl.file) ≡ true → IsPresent (one_table files before decl).end
unfolding one_table
one_present files before decl held =
    behind (file_step files decl.file) _ (held_present decl.file (bytes_of files decl.file) held) (λ bytes _.
    behind (together_step (before + length bytes)) _ (together_present (before + length bytes)) (λ total _.
    behind (table_step decl bytes) _ (loaded_present decl (table_of decl bytes)) (λ table _. tt)))

tables_present : (files : Files) (before : ℕ) (decls : List TableDecl) → are_held files decls ≡ true → IsPresent (tables_step files before decls).end
unfolding tables_step
tables_present files before [] held = tt
tables_present files before (decl ∷ decls) held =
    let first = is_some (bytes_of files decl.file) in
    let rest = are_held files decls in
    behind (one_table files before decl) _ (one_present files before decl (and_left first rest held)) (λ read _.
    behind (tables_step files read.1 decls) _ (tables_present files read.1 decls (and_right first rest held)) (λ tables _. tt))

-- the files of the tables of a project, where it is one
abbrev holds_tables : Files → Result Project ProjectFault → Bool
holds_tables files (Ok project) = are_held files project.sources.tables
holds_tables files (Err fault) = true

-- the extraction of a project that is held with the files of its tables
extract_present : (files : Files) (p text : List ℕ) → bytes_of files p ≡ Some text → ontology_file text ≡ None → holds_tables files (read_project text) ≡ true → IsPresent (extract_step files p).end
unfolding extract_step project_step given_step
extract_present files p text held alone tables =
    behind (project_step files p) _ project (λ v is.
    behind (complete_step p v) _ (lack_present p v (lack_of v.noted.notes)) (λ whole kept.
    behind (sources_step files whole) _ (tables_present files 0 whole.sources.tables (whole_tables v is whole kept)) (λ read _. tt)))
  where
    same_text : (bytes : List ℕ) → (file_step files p).end ≡ Ok bytes → text ≡ bytes
    same_text bytes is = let at : bytes_of files p ≡ Some bytes = (held_back files p bytes is).0 in cc

    none_present : (bytes : List ℕ) → (file_step files p).end ≡ Ok bytes → IsPresent (given_step files (ontology_file bytes)).end
    none_present bytes is = rw (← same_text bytes is, alone) tt

    project : IsPresent (project_step files p).end
    project =
        behind (file_step files p) _ (held_present p (bytes_of files p) (rw held refl)) (λ bytes is.
        behind (given_step files (ontology_file bytes)) _ (none_present bytes is) (λ given _. read_present p (project_of bytes given)))

    whole_tables : (v : Project) → (project_step files p).end ≡ Ok v → (whole : Project) → (complete_step p v).end ≡ Ok whole → are_held files whole.sources.tables ≡ true
    whole_tables v is whole kept =
        let r = back (file_step files p) _ v is in
        let same = same_text r.0 r.1 in
        let none : ontology_file r.0 ≡ None = rw (← same) alone in
        let read : read_project text ≡ Ok v = rw same (read_back p v (read_project r.0) (rw none at r.2)) in
        let stays = (lack_back p v whole (lack_of v.noted.notes) kept).1 in
        subst (λ x. are_held files x.sources.tables ≡ true) stays (rw read at tables)

-- the made project names no ontology
made_alone : ontology_file project_file ≡ None
unfolding project_file chars tokens_behind token_front open_lines name_lines name_text is_utf8 lib.Utf8.encode
made_alone = refl

-- the made project holds the files of its tables
made_tables : (n : ℕ) → holds_tables (made_files n) (read_project project_file) ≡ true
unfolding project_file chars tokens_behind token_front model_lines.model_line model_lines.attr_line model_lines.assoc_line model_lines.multiplicity_at model_rules.is_functional model_rules.broken map_grammar.source_line map_grammar.table_line map_grammar.column_line map_grammar.key_line map_tables.broken map_tables.grown at_most map_grammar.map_line map_grammar.target map_mappings.holes map_mappings.broken map_mappings.grown template_of is_hole_text note_grammar.atom note_grammar.of_any note_grammar.of_one note_grammar.pair note_grammar.of_two note_grammar.key_front note_grammar.key_line note_grammar.annotation_line note_lines.broken note_lines.grown open_lines read_lines read_project is_utf8 lib.Utf8.encode
made_tables n = refl

pub made_present : (n : ℕ) → IsPresent (extract_step (made_files n) (codes "project.txt")).end
made_present n = extract_present (made_files n) (codes "project.txt") project_file refl made_alone (made_tables n)

-- the walk comes to an extraction, where it comes to a job
extracts : (files : Files) (p : List ℕ) (job : Job) → (extract_step files p).end ≡ Ok job → (project : Project) × (tables : List Loaded) × (job ≡ Extracting project tables)
unfolding extract_step
extracts files p job is =
    let b = back (project_step files p) _ job is in
    let c = back (complete_step p b.0) _ job b.2 in
    let d = back (sources_step files c.0) _ job c.2 in
    let same : job ≡ Extracting c.0 d.0 = cc in
    (c.0, d.0, same)

pub made_ends : (files files' : Files) (p : List ℕ) (output : Output) → files ≡ files' → Works (Ok output) (extract_step files p) → EndsMade (extract_step files' p).end (ended output)
made_ends files files' p output held works =
    let x = extracts files p works.0 works.1 in
    let is : (extract_step files p).end ≡ Ok (Extracting x.0 x.1) = works.1 ∙ ap (λ j. Ok j) x.2 in
    let ends : EndsExtraction x.0 x.1 (ended output) = rw x.2 at works.2 in
    rw (← held) (rw is ends)

-- what stops the walk over the made project is no failure, and no want of a command or of a file
pub made_stops : (n : ℕ) (files : Files) (h : Halt) (stopped : Stopped) (o : Output) (absences absences' : ℕ) → files ≡ made_files n → h ≡ halt.Stopped stopped
    → Works (Err h) (extract_step files (codes "project.txt")) → CountsHalt h 0 0 absences absences' false → (SaysUsage h → ⊥)
    → o.status ≡ stopped.status → text_of o.text ≡ [] → EndsWell false o
made_stops n files h stopped o absences absences' held kind works counts usage same empty =
    let halts : Works (Err (halt.Stopped stopped)) (extract_step (made_files n) (codes "project.txt")) = rw (held, kind) at works in
    let quiet : CountsHalt (halt.Stopped stopped) 0 0 absences absences' false = rw kind at counts in
    let called : SaysUsage (halt.Stopped stopped) → ⊥ = rw kind at usage in
    let is : (extract_step (made_files n) (codes "project.txt")).end ≡ Err stopped = halts in
    let present : stopped.status ≢ status.Absent = subst IsPresent is (made_present n) in
    record {
      whole = subst IsWhole (sym same) quiet.0;
      read = λ e. quiet.1 (sym same ∙ e);
      usage = λ e. called (sym same ∙ e);
      absent = λ e. present (sym same ∙ e);
      silent = λ done conflict. empty;
    }
