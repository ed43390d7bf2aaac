-- No definition refuses a text for want of memory.
use Rattle.std.proofs.Common.{◌≡◌, ◌≢◌, refl, sym, ap, ◌∙◌, ℕ, ◌+◌, Bool, true, false, if◌then◌else◌, List, [], ◌∷◌, Option, Some, None, Result, Ok, Err, option_map, ◌||◌, ◌==◌, not, is_some, nat_lt, length, take}
use Rattle.std.specs.List.{list_any}
use Rattle.std.specs.Str.{is_utf8}
use Rattle.line_lexer.specs.Faults.{limit_of}
use Rattle.line_lexer.specs.Judging.{first_broken, first_passed, read_by, unless}
use Rattle.line_lexer.specs.Left.{Left}
use Rattle.line_lexer.specs.Lines.{lines_of}
use Rattle.line_lexer.specs.Tokens.{Seen, tokens_of}
use Rattle.line_lexer.specs.declared.fault.Counted.{Counted}
use Rattle.line_lexer.specs.declared.fault.Counted.TheVariants.{Mappings, TablesOfMapping, Conditions, Targets, Events, EventKeys, Queries, Lines}
use Rattle.line_lexer.specs.declared.fault.LineFault.{LineFault}
use Rattle.line_lexer.specs.declared.fault.LineFault.TheVariants.{Syntax, Unknown, Double, TypeMismatch, BadTemplate, NotBounded, MixedSort, HeadUnbound, BadKey, FunctionalSpecialised, Limit, NoMemory}
use Rattle.vocabulary.specs.declared.ids.ClassId.{ClassId}
use Rattle.vocabulary.specs.declared.ids.LinkId.{LinkId}
use Rattle.vocabulary.specs.declared.ids.Side.{Side}
use Rattle.vocabulary.specs.declared.ids.Side.TheVariants.{Value}
use Rattle.iri_templates.specs.Templates.{template_of}
use Rattle.uml_model.specs.Lines.{model_line}
use Rattle.uml_model.specs.Lines as model
use Rattle.uml_model.specs.Rules as model_rules
use Rattle.uml_model.specs.Rules.{class_named, link_named}
use Rattle.mapping_language.specs.declared.sources.Sources.{Sources}
use Rattle.mapping_language.specs.Grammar.{source_line, map_line}
use Rattle.mapping_language.specs.Written.{SourceLine, MapLine}
use Rattle.mapping_language.specs.Tables as tables
use Rattle.mapping_language.specs.Mappings as mappings
use Rattle.annotation_language.specs.Complete.{has_key}
use Rattle.annotation_language.specs.Grammar.{annotation_line}
use Rattle.annotation_language.specs.Lines as notes
use Rattle.annotation_language.specs.Written as note
use Rattle.owl_functional.specs.declared.ontology.Ontology.{Ontology}
use Rattle.project_language.specs.declared.fault.ProjectFault.{ProjectFault}
use Rattle.project_language.specs.declared.fault.ProjectFault.TheVariants as fault
use Rattle.project_language.specs.declared.project.Project.{Project}
use Rattle.project_language.specs.Project.{as_fault, bad_line, begun_with, behind, file_or_syntax, map_ok, name_lines, name_text, named, named_file, naming, nothing, onward, open_counted, open_lines, open_text, opened, opening, is_opening, is_of_tables, is_of_mappings, is_of_notes, read_lines, read_project, read_project_over, read_seen, read_tokens}

abbrev is_memory : LineFault → Bool
is_memory NoMemory = true
is_memory other = false

-- the rule that is broken, if one is, is no want of memory
abbrev Told : Option LineFault → Type 0
Told o = o ≡ Some NoMemory → ⊥

-- and so for the fault of a line, or of a project
abbrev Says : {S : Type 0} → Result S LineFault → Type 0
Says r = r ≡ Err NoMemory → ⊥

abbrev Reads : {A : Type 0} → Result A ProjectFault → Type 0
Reads r = r ≡ Err fault.NoMemory → ⊥

rule_told : (t : Bool) (f : LineFault) (o : Option LineFault) → is_memory f ≡ false → Told o → Told (if t then Some f else o)
rule_told true f o other next e = (let same : f ≡ NoMemory = cc in let wrong : true ≡ false = ap is_memory (sym same) ∙ other in cc)
rule_told false f o other next e = next e

passed_told : (o : Option Counted) → Told (option_map Limit o)
passed_told None e = cc
passed_told (Some what) e = cc

or_parts : (a b : Bool) → (a || b) ≡ false → (a ≡ false) × (b ≡ false)
or_parts true b e = cc
or_parts false b e = (refl, e)

-- rules that none is want of memory
told : (rules : List (Bool × LineFault)) (counts : List (Counted × ℕ)) → list_any (λ rule. is_memory rule.1) rules ≡ false → Told (first_broken rules counts)
told [] counts others = passed_told (first_passed counts)
told ((t, f) ∷ rules) counts others =
    let parts = or_parts (is_memory f) (list_any (λ rule. is_memory rule.1) rules) others in
    rule_told t f (first_broken rules counts) parts.0 (told rules counts parts.1)

source_told : (s : Sources) (line : SourceLine) → Told (tables.broken s line)
unfolding tables.broken
source_told s line = told ((tables.unknown s line, Unknown) ∷ (tables.double s line, Double) ∷ (tables.mismatch line, TypeMismatch) ∷ []) (tables.counts s line) refl

mapping_told : (class_of : List ℕ → Option ClassId) (link_of : List ℕ → Option (LinkId × Side)) (s : Sources) (m : MapLine) → Told (mappings.broken class_of link_of s m)
unfolding mappings.broken
mapping_told class_of link_of s m =
    told ((mappings.unknown class_of link_of s m, Unknown) ∷ (mappings.double s m, Double) ∷ (mappings.mismatch class_of link_of s m, TypeMismatch)
    ∷ (list_any (λ text. mappings.is_bad (template_of text)) (mappings.all_templates m), BadTemplate) ∷ (list_any (λ text. mappings.is_unbounded (template_of text)) (mappings.all_templates m), NotBounded) ∷ [])
    ((Mappings, length s.mappings + 1) ∷ (TablesOfMapping, length m.sources) ∷ (Conditions, length m.conditions) ∷ (Targets, length m.targets) ∷ []) refl

model_told : (s : model_rules.Known) (line : model.Line) → Told (model_rules.broken s line)
unfolding model_rules.broken
model_told s line =
    told ((model_rules.unknown s line, Unknown) ∷ (model_rules.double s line, Double) ∷ (model_rules.mismatch s line, TypeMismatch) ∷ (model_rules.specialised s line, FunctionalSpecialised) ∷ [])
    (model_rules.counted (model_rules.counts_with s line)) refl

module _ (class_of : List ℕ → Option ClassId) (link_of : List ℕ → Option (LinkId × Side)) where
  query_told : (missing double : Bool) (q : note.Asked) (objects : List (List ℕ)) (bad_key : Bool) (others : List (Counted × ℕ)) → Told (notes.broken_query class_of link_of missing double q objects bad_key others)
  query_told missing double q objects bad_key others =
      told ((missing || list_any (λ a. notes.unknown_name class_of link_of (notes.atom_name a)) q.atoms, Unknown) ∷ (double, Double) ∷ (notes.mismatch class_of link_of q, TypeMismatch)
      ∷ (list_any (λ placed. notes.has_bad_template placed.argument) (notes.all_places class_of link_of q), BadTemplate) ∷ (notes.is_mixed class_of link_of q objects, MixedSort)
      ∷ (list_any (λ v. length (notes.sides_of class_of link_of q v) == 0) q.head, HeadUnbound) ∷ (bad_key, BadKey) ∷ []) (notes.counts q others) refl

  note_told : (s : notes.Noted) (line : note.Line) → Told (notes.broken class_of link_of s line)
  unfolding notes.broken
  note_told s (note.Case q) = query_told false (is_some s.notes.case_query) q q.head false []
  note_told s (note.CaseName q) = query_told (not (is_some s.notes.case_query)) (is_some s.notes.case_name) q (take 1 q.head) (not (notes.is_name_side (notes.value_side class_of link_of q))) []
  note_told s (note.Event e q) = query_told false (notes.is_taken s.notes e) q q.head false ((Events, length s.notes.events + 1) ∷ [])
  note_told s (note.Cases e q) = query_told (not (is_some (notes.event_named s.notes e))) (notes.of_event (notes.event_named s.notes e) (λ event. is_some event.cases)) q q.head false []
  note_told s (note.Key e key rule (note.Answers q)) =
      query_told (not (is_some (notes.event_named s.notes e))) (notes.of_event (notes.event_named s.notes e) (has_key key)) q (take 1 q.head)
      (notes.is_bad_key key rule (notes.value_side class_of link_of q)) ((EventKeys, notes.keys_in (notes.event_named s.notes e) + 1) ∷ [])
  note_told s (note.Key e key rule (note.Is k text)) =
      told ((not (is_some (notes.event_named s.notes e)), Unknown) ∷ (notes.of_event (notes.event_named s.notes e) (has_key key), Double) ∷ (not (notes.is_value k text), TypeMismatch)
      ∷ (notes.is_bad_key key rule (Value k), BadKey) ∷ []) ((EventKeys, notes.keys_in (notes.event_named s.notes e) + 1) ∷ []) refl
  note_told s (note.Query n q) = query_told false (notes.is_taken s.notes n) q [] false ((Queries, length s.notes.queries + 1) ∷ [])

module _ {S L : Type 0} (form : List Seen → Option L) (broken : L → Option LineFault) (grown : L → S) (s : S) (told : (line : L) → Told (broken line)) where
  by_rule : (o : Option LineFault) (new : S) → Told o → Says (unless o new)
  by_rule None new other e = cc
  by_rule (Some f) new other e = (let same : f ≡ NoMemory = cc in other (ap Some same))

  by_form : (t : Seen) (ts : List Seen) (o : Option L) → form (t ∷ ts) ≡ o → Says (read_by form broken grown s (Some (t ∷ ts)))
  by_form t ts None f e = (let wrong = rw f at e in cc)
  by_form t ts (Some line) f e = by_rule (broken line) (grown line) (told line) (rw f at e)

  says_by : (o : Option (List Seen)) → Says (read_by form broken grown s o)
  says_by None e = cc
  says_by (Some []) e = cc
  says_by (Some (t ∷ ts)) e = by_form t ts (form (t ∷ ts)) refl e

mapped : {A B : Type 0} (f : A → B) (r : Result A LineFault) → Says r → Says (map_ok f r)
mapped f (Ok x) says e = cc
mapped f (Err g) says e = (let same : g ≡ NoMemory = cc in says (ap Err same))

chosen : (t : Bool) (a b : Result Project LineFault) → Says a → Says b → Says (if t then a else b)
chosen true a b x y = x
chosen false a b x y = y

judged_says : (s : model_rules.Known) (line : model.Line) (o : Option LineFault) → Told o → Says (model_rules.judged s line o)
judged_says s line None told e = cc
judged_says s line (Some f) told e = (let same : f ≡ NoMemory = cc in told (ap Some same))

parsed_says : (s : model_rules.Known) (o : Option model.Line) → Says (model_rules.read_parsed s o)
parsed_says s None e = cc
parsed_says s (Some line) e = judged_says s line (model_rules.broken s line) (model_told s line) e

twice : Says {S = Project} (Err Double)
twice e = cc

in_no_form : Says {S = Project} (Err Syntax)
in_no_form e = cc

tokens_say : (number : ℕ) (p : Project) (tokens : List Seen) → Says (read_tokens number p tokens)
tokens_say number p tokens =
    chosen (is_opening tokens) _ _ twice
    (chosen (is_of_tables tokens) _ _ (mapped _ _ (says_by source_line (tables.broken p.sources) (tables.grown p.sources) p.sources (source_told p.sources) (Some tokens)))
    (chosen (is_of_mappings tokens) _ _ (mapped _ _ (says_by map_line (mappings.broken (class_named p.model) (link_named p.model) p.sources) (mappings.grown (class_named p.model) (link_named p.model) p.sources) p.sources (mapping_told (class_named p.model) (link_named p.model) p.sources) (Some tokens)))
    (chosen (is_of_notes tokens) _ _ (mapped _ _ (says_by annotation_line (notes.broken (class_named p.model) (link_named p.model) p.noted) (notes.grown (class_named p.model) (link_named p.model) number p.noted) p.noted (note_told (class_named p.model) (link_named p.model) p.noted) (Some tokens)))
    (chosen (is_some p.given) _ _ in_no_form (mapped _ _ (parsed_says p.model (model_line tokens)))))))

seen_says : (number : ℕ) (p : Project) (seen : Option (List Seen)) → Says (read_seen number p seen)
seen_says number p None e = cc
seen_says number p (Some []) e = cc
seen_says number p (Some (t ∷ ts)) e = tokens_say number p (t ∷ ts) e

opening_says : (seen : Option (List Seen)) → Says (opening seen)
opening_says None e = cc
opening_says (Some []) e = cc
opening_says (Some (t ∷ ts)) e = by (is_opening (t ∷ ts)) e
  where
    by : (b : Bool) → Says (if b then Ok true else Err Syntax)
    by true e = cc
    by false e = cc

-- the fault of a line that is no want of memory is none of the project
of_line : (number : ℕ) (f : LineFault) → (f ≡ NoMemory → ⊥) → as_fault number f ≡ fault.NoMemory → ⊥
of_line number (Limit what) other e = cc
of_line number NoMemory other e = other refl
of_line number f other e = cc

abbrev refused : {A : Type 0} → ProjectFault → Result A ProjectFault
refused f = Err f

inside : {A : Type 0} (e f : ProjectFault) → refused {A = A} e ≡ refused f → e ≡ f
inside e f same = cc

onward_reads : (number : ℕ) (r : Result Project LineFault) (next : Project → Result Project ProjectFault) → Says r → ((p : Project) → Reads (next p)) → Reads (onward number r next)
onward_reads number (Ok p) next says reads e = reads p e
onward_reads number (Err f) next says reads e = of_line number f (λ same. says (ap Err same)) (inside (as_fault number f) fault.NoMemory e)

lines_read : (number : ℕ) (p : Project) (lines : List (List ℕ)) → Reads (read_lines number p lines)
unfolding read_lines
lines_read number p [] e = cc
lines_read number p (line ∷ rest) e = onward_reads number (read_seen number p (tokens_of line)) (λ next. read_lines (number + 1) next rest) (seen_says number p (tokens_of line)) (λ next. lines_read (number + 1) next rest) e

opened_reads : (number : ℕ) (r : Result Bool LineFault) (left : Left) (later : Result Left ProjectFault) → Says r → Reads later → Reads (opened number r left later)
opened_reads number (Err f) left later says y e = of_line number f (λ same. says (ap Err same)) (inside (as_fault number f) fault.NoMemory e)
opened_reads number (Ok true) left later says y e = cc
opened_reads number (Ok false) left later says y e = y e

opens : (number : ℕ) (lines : List (List ℕ)) → Reads (open_lines number lines)
unfolding open_lines
opens number [] e = cc
opens number (line ∷ rest) e =
    opened_reads number (opening (tokens_of line)) (record { number = number; lines = rest }) (open_lines (number + 1) rest) (opening_says (tokens_of line)) (opens (number + 1) rest) e

either_reads : {A : Type 0} (t : Bool) (a b : Result A ProjectFault) → Reads a → Reads b → Reads (if t then a else b)
either_reads true a b x y = x
either_reads false a b x y = y

of_limit : {A : Type 0} (what : Counted) → Reads {A = A} (refused (fault.Limit what))
of_limit what e = cc

of_bytes : {A : Type 0} (line : ℕ) → Reads {A = A} (refused (fault.NotUtf8 line))
of_bytes line e = cc

counted_reads : (lines : List (List ℕ)) → Reads (open_counted lines)
counted_reads lines = either_reads (nat_lt (limit_of Lines) (length lines)) (refused (fault.Limit Lines)) (open_lines 1 lines) (of_limit Lines) (opens 1 lines)

text_reads : (bytes : List ℕ) → Reads (open_text bytes)
text_reads bytes = either_reads (is_utf8 bytes) (open_counted (lines_of bytes)) (refused (fault.NotUtf8 (bad_line bytes))) (counted_reads (lines_of bytes)) (of_bytes (bad_line bytes))

behind_reads : {A B : Type 0} (r : Result A ProjectFault) (next : A → Result B ProjectFault) → Reads r → ((x : A) → Reads (next x)) → Reads (behind r next)
behind_reads (Ok x) next says reads e = reads x e
behind_reads (Err f) next says reads e = says (ap Err (inside f fault.NoMemory e))

pub project_told : (bytes : List ℕ) → read_project bytes ≢ Err fault.NoMemory
unfolding read_project
project_told bytes = behind_reads (open_text bytes) (λ left. read_lines (left.number + 1) nothing left.lines) (text_reads bytes) (λ left. lines_read (left.number + 1) nothing left.lines)

naming_says : (seen : Option (List Seen)) → Says (naming seen)
naming_says None e = cc
naming_says (Some []) e = cc
naming_says (Some (t ∷ ts)) e = by (named_file (t ∷ ts)) e
  where
    by : (o : Option (List ℕ)) → Says (file_or_syntax o)
    by None e = cc
    by (Some file) e = cc

named_reads : (number : ℕ) (r : Result (Option (List ℕ)) LineFault) (left : Left) (later : Result (List ℕ × Left) ProjectFault) → Says r → Reads later → Reads (named number r left later)
named_reads number (Err f) left later says y e = of_line number f (λ same. says (ap Err same)) (inside (as_fault number f) fault.NoMemory e)
named_reads number (Ok (Some file)) left later says y e = cc
named_reads number (Ok None) left later says y e = y e

names : (number : ℕ) (lines : List (List ℕ)) → Reads (name_lines number lines)
unfolding name_lines
names number [] e = cc
names number (line ∷ rest) e =
    named_reads number (naming (tokens_of line)) (record { number = number; lines = rest }) (name_lines (number + 1) rest) (naming_says (tokens_of line)) (names (number + 1) rest) e

names_text : (bytes : List ℕ) → Reads (name_text bytes)
unfolding name_text
names_text bytes = behind_reads (open_text bytes) (λ left. name_lines (left.number + 1) left.lines) (text_reads bytes) (λ left. names (left.number + 1) left.lines)

pub project_over_told : (bytes : List ℕ) (o : Ontology) → read_project_over bytes o ≢ Err fault.NoMemory
unfolding read_project_over
project_over_told bytes o = behind_reads (name_text bytes) (λ found. read_lines (found.1.number + 1) (begun_with o) found.1.lines) (names_text bytes) (λ found. lines_read (found.1.number + 1) (begun_with o) found.1.lines)
