-- A project text: its lines in order, up to the first that has a fault.
use Rattle.std.specs.Prelude.{ℕ, ◌+◌, ◌==◌, Bool, true, false, List, [], ◌∷◌, Option, Some, None, Result, Ok, Err, if◌then◌else◌, length, nat_lt, take, codes, is_some, count_by}
use Rattle.std.specs.List.{list_any}
use Rattle.std.specs.Str.{is_utf8}
use Rattle.std.specs.Str.Lossy.{utf8_valid_len}
use Rattle.line_lexer.specs.Tokens.{Seen, tokens_of}
use Rattle.line_lexer.specs.Grammar.{◌>>=◌, any_quoted, expect, ended}
use Rattle.line_lexer.specs.Faults.{limit_of}
use Rattle.line_lexer.specs.Left.{Left}
use Rattle.line_lexer.specs.Lines.{lines_of}
use Rattle.line_lexer.specs.declared.fault.LineFault.{LineFault}
use Rattle.line_lexer.specs.declared.fault.LineFault.TheVariants as line_fault
use Rattle.line_lexer.specs.declared.fault.Counted.TheVariants.{Lines}
use Rattle.uml_model.specs.Lines.{model_line}
use Rattle.uml_model.specs.Rules.{Known, class_named, link_named, read_parsed, nothing as no_model}
use Rattle.owl_functional.specs.declared.ontology.Ontology.{Ontology}
use Rattle.mapping_language.specs.declared.sources.Sources.{Sources}
use Rattle.mapping_language.specs.Grammar.{source_line, map_line}
use Rattle.line_lexer.specs.Judging.{read_by}
use Rattle.mapping_language.specs.Tables as tables
use Rattle.mapping_language.specs.Mappings as mappings
use Rattle.annotation_language.specs.Grammar.{annotation_line}
use Rattle.annotation_language.specs.Lines as notes
use Rattle.annotation_language.specs.Lines.{Noted}
use Rattle.project_language.specs.declared.fault.ProjectFault.{ProjectFault}
use Rattle.project_language.specs.declared.fault.ProjectFault.TheVariants.{NotUtf8, Line, Limit, NoMemory}
use Rattle.project_language.specs.declared.project.Project.{Project}

-- the fault of the line of this number
abbrev pub as_fault : ℕ → LineFault → ProjectFault
as_fault number (line_fault.Limit what) = Limit what
as_fault number line_fault.NoMemory = NoMemory
as_fault number other = Line number other

-- one of these words stands first
abbrev pub begins_with : List (List ℕ) → List Seen → Bool
begins_with words tokens = list_any (λ word. is_some (expect word tokens)) words

-- a line of tables, and a line of annotations, by its first word
abbrev pub is_of_tables : List Seen → Bool
is_of_tables tokens = begins_with (codes "table" ∷ codes "column" ∷ codes "key" ∷ []) tokens

abbrev pub is_of_mappings : List Seen → Bool
is_of_mappings tokens = begins_with (codes "map" ∷ []) tokens

abbrev pub is_of_notes : List Seen → Bool
is_of_notes tokens = begins_with (codes "case" ∷ codes "casename" ∷ codes "event" ∷ codes "cases" ∷ codes "set" ∷ codes "query" ∷ []) tokens

abbrev pub is_end : Option (List Seen) → Bool
is_end None = false
is_end (Some rest) = ended rest

-- `onprom 1`
abbrev pub is_opening : List Seen → Bool
is_opening tokens = is_end (expect (codes "onprom") tokens >>= (λ rest. expect (codes "1") rest))

-- whether a line is `onprom 1`, and not without tokens; a line of other tokens is Syntax
abbrev pub opening : Option (List Seen) → Result Bool LineFault
opening None = Err line_fault.Syntax
opening (Some []) = Ok false
opening (Some (t ∷ ts)) = if is_opening (t ∷ ts) then Ok true else Err line_fault.Syntax

-- the fault of a line that begins with `onprom` and is not the first, by whether it is the opening line again
abbrev pub again : Result Bool LineFault → LineFault
again (Ok true) = line_fault.Double
again (Ok false) = line_fault.Syntax
again (Err fault) = fault

-- FILE of `ontology "FILE"`, behind `ontology`
abbrev pub file_alone : List ℕ × List Seen → Option (List ℕ)
file_alone file = if ended file.1 then Some file.0 else None

abbrev pub named_file : List Seen → Option (List ℕ)
named_file tokens = expect (codes "ontology") tokens >>= (λ rest. any_quoted rest >>= file_alone)

abbrev pub file_or_syntax : Option (List ℕ) → Result (Option (List ℕ)) LineFault
file_or_syntax None = Err line_fault.Syntax
file_or_syntax (Some file) = Ok (Some file)

-- the file that a line names as its ontology, and none without tokens; a line of other tokens is Syntax
abbrev pub naming : Option (List Seen) → Result (Option (List ℕ)) LineFault
naming None = Err line_fault.Syntax
naming (Some []) = Ok None
naming (Some (t ∷ ts)) = file_or_syntax (named_file (t ∷ ts))

abbrev pub map_ok : {A B : Type 0} → (A → B) → Result A LineFault → Result B LineFault
map_ok f (Ok x) = Ok (f x)
map_ok f (Err fault) = Err fault

-- the number of the line that has the first byte which is no part of UTF-8
abbrev pub bad_line : List ℕ → ℕ
bad_line bytes = count_by (λ b. b == 10) (take (utf8_valid_len bytes) bytes) + 1

-- nothing yet
abbrev pub nothing : Project
nothing = record { sources = tables.nothing; model = no_model; given = None; noted = notes.nothing }

-- the classes, links, axioms and constraints of an ontology, and nothing else
abbrev pub begun_with : Ontology → Project
begun_with o = record {
  sources = tables.nothing;
  model = record { classes = o.classes; links = o.links; sides = o.sides; lines = [] };
  given = Some o.tbox;
  noted = notes.nothing;
}

abbrev pub with_sources : Project → Result Sources LineFault → Result Project LineFault
with_sources p result = map_ok (λ sources. record p { sources = sources }) result

abbrev pub with_model : Project → Result Known LineFault → Result Project LineFault
with_model p result = map_ok (λ model. record p { model = model }) result

abbrev pub with_notes : Project → Result Noted LineFault → Result Project LineFault
with_notes p result = map_ok (λ noted. record p { noted = noted }) result

abbrev pub read_source : Project → List Seen → Result Project LineFault
read_source p tokens = with_sources p (read_by source_line (tables.broken p.sources) (tables.grown p.sources) p.sources (Some tokens))

abbrev pub read_mapping : Project → List Seen → Result Project LineFault
read_mapping p tokens = with_sources p (read_by map_line
    (mappings.broken (class_named p.model) (link_named p.model) p.sources)
    (mappings.grown (class_named p.model) (link_named p.model) p.sources) p.sources (Some tokens))

abbrev pub read_note : ℕ → Project → List Seen → Result Project LineFault
read_note number p tokens = with_notes p (read_by annotation_line
    (notes.broken (class_named p.model) (link_named p.model) p.noted)
    (notes.grown (class_named p.model) (link_named p.model) number p.noted) p.noted (Some tokens))

abbrev pub read_model : Project → List Seen → Result Project LineFault
read_model p tokens = if is_some p.given then Err line_fault.Syntax else with_model p (read_parsed p.model (model_line tokens))

-- a line behind `onprom 1`, which may not come again; what begins with no word of another line is a model line or Syntax, and Syntax
-- where an ontology gives the model
abbrev pub read_tokens : ℕ → Project → List Seen → Result Project LineFault
read_tokens number p tokens =
    if is_opening tokens then Err line_fault.Double
    else (if is_of_tables tokens then read_source p tokens
    else (if is_of_mappings tokens then read_mapping p tokens
    else (if is_of_notes tokens then read_note number p tokens
    else read_model p tokens)))

abbrev pub read_seen : ℕ → Project → Option (List Seen) → Result Project LineFault
read_seen number p None = Err line_fault.Syntax
read_seen number p (Some []) = Ok p
read_seen number p (Some (t ∷ ts)) = read_tokens number p (t ∷ ts)

abbrev pub onward : ℕ → Result Project LineFault → (Project → Result Project ProjectFault) → Result Project ProjectFault
onward number (Ok p) next = next p
onward number (Err fault) next = Err (as_fault number fault)

-- lines behind `onprom 1`, the first of this number
unfoldable pub read_lines : ℕ → Project → List (List ℕ) → Result Project ProjectFault
read_lines number p [] = Ok p
read_lines number p (line ∷ rest) = onward number (read_seen number p (tokens_of line)) (λ next. read_lines (number + 1) next rest)

abbrev pub opened : ℕ → Result Bool LineFault → Left → Result Left ProjectFault → Result Left ProjectFault
opened number (Err fault) behind later = Err (as_fault number fault)
opened number (Ok true) behind later = Ok behind
opened number (Ok false) behind later = later

-- what is left behind the first line with tokens, which is `onprom 1`; where no line has tokens, line 1 has the fault
unfoldable pub open_lines : ℕ → List (List ℕ) → Result Left ProjectFault
open_lines number [] = Err (Line 1 line_fault.Syntax)
open_lines number (line ∷ rest) = opened number (opening (tokens_of line)) (record { number = number; lines = rest }) (open_lines (number + 1) rest)

-- the lines are counted before the first is read
abbrev pub open_counted : List (List ℕ) → Result Left ProjectFault
open_counted all = if nat_lt (limit_of Lines) (length all) then Err (Limit Lines) else open_lines 1 all

abbrev pub open_text : List ℕ → Result Left ProjectFault
open_text bytes = if is_utf8 bytes then open_counted (lines_of bytes) else Err (NotUtf8 (bad_line bytes))

abbrev pub behind : {A B : Type 0} → Result A ProjectFault → (A → Result B ProjectFault) → Result B ProjectFault
behind (Ok x) next = next x
behind (Err fault) next = Err fault

-- the project that the bytes of a file are, or its first fault
unfoldable pub read_project : List ℕ → Result Project ProjectFault
read_project bytes = behind (open_text bytes) (λ left. read_lines (left.number + 1) nothing left.lines)

abbrev pub named : ℕ → Result (Option (List ℕ)) LineFault → Left → Result (List ℕ × Left) ProjectFault → Result (List ℕ × Left) ProjectFault
named number (Err fault) behind later = Err (as_fault number fault)
named number (Ok (Some file)) behind later = Ok (file, behind)
named number (Ok None) behind later = later

-- the file that the first line with tokens names as the ontology, and what is left behind that line; any other line is Syntax
unfoldable pub name_lines : ℕ → List (List ℕ) → Result (List ℕ × Left) ProjectFault
name_lines number [] = Err (Line 1 line_fault.Syntax)
name_lines number (line ∷ rest) = named number (naming (tokens_of line)) (record { number = number; lines = rest }) (name_lines (number + 1) rest)

-- the same of a text, behind its `onprom 1`
unfoldable pub name_text : List ℕ → Result (List ℕ × Left) ProjectFault
name_text bytes = behind (open_text bytes) (λ left. name_lines (left.number + 1) left.lines)

abbrev pub file_of : Result (List ℕ × Left) ProjectFault → Option (List ℕ)
file_of (Ok found) = Some found.0
file_of (Err fault) = None

-- the file of the line `ontology "FILE"`: the bytes are UTF-8 in few enough lines, and it is the second line with tokens
abbrev pub ontology_file : List ℕ → Option (List ℕ)
ontology_file bytes = file_of (name_text bytes)

-- the project that the bytes of a file are over the ontology that they name, or its first fault
unfoldable pub read_project_over : List ℕ → Ontology → Result Project ProjectFault
read_project_over bytes o = behind (name_text bytes) (λ found. read_lines (found.1.number + 1) (begun_with o) found.1.lines)
