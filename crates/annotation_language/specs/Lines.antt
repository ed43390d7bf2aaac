-- The rules of annotation lines, and the annotations that they give.
use Rattle.std.specs.Prelude.{ℕ, ◌+◌, ◌||◌, ◌&&◌, ◌==◌, not, Bool, true, false, pos, List, [], ◌∷◌, ◌++◌, Option, Some, None, Result, Ok, Err, if◌then◌else◌, length, map, is_some, position, slice_get, option_and_then, codes, chars, get_or, take}
use Rattle.std.specs.List.{list_any, list_all, flat_map}
use Rattle.std.specs.Str.{bytes_eq}
use Rattle.line_lexer.specs.Tokens.{tokens_of}
use Rattle.line_lexer.specs.declared.fault.LineFault.{LineFault}
use Rattle.line_lexer.specs.declared.fault.LineFault.TheVariants.{Unknown, Double, TypeMismatch, BadTemplate, MixedSort, HeadUnbound, BadKey}
use Rattle.line_lexer.specs.declared.fault.Counted.{Counted}
use Rattle.line_lexer.specs.declared.fault.Counted.TheVariants.{Atoms, Variables, Events, EventKeys, Queries}
use Rattle.vocabulary.specs.Texts.{is_xml_char}
use Rattle.vocabulary.specs.Texts.{number_of}
use Rattle.vocabulary.specs.declared.ids.ClassId.{ClassId}
use Rattle.vocabulary.specs.declared.ids.LinkId.{LinkId}
use Rattle.vocabulary.specs.declared.ids.Side.{Side}
use Rattle.vocabulary.specs.declared.ids.Side.TheVariants.{Object, Value}
use Rattle.vocabulary.specs.declared.ids.ValueKind.{ValueKind}
use Rattle.vocabulary.specs.declared.ids.ValueKind.TheVariants.{Text, Time}
use Rattle.vocabulary.specs.declared.term.Term.{Named, Value as ValueTerm}
use Rattle.iri_templates.specs.declared.fault.TemplateFault.{TemplateFault}
use Rattle.iri_templates.specs.Templates.{Segments, hole_texts, template_of}
use Rattle.source_tables.specs.Cells.{canonical}
use Rattle.queries.specs.declared.query.Arg.{Arg}
use Rattle.queries.specs.declared.query.Arg.TheVariants as arg
use Rattle.queries.specs.declared.query.Atom.{Atom as QueryAtom}
use Rattle.queries.specs.declared.query.Atom.TheVariants.{InClass, Linked}
use Rattle.queries.specs.declared.query.Query.{Query as QueryOf}
use Rattle.annotation_language.specs.declared.notes.Rule.{Rule}
use Rattle.annotation_language.specs.declared.notes.Rule.TheVariants.{Mandatory, Single, Many}
use Rattle.annotation_language.specs.declared.notes.KeySource.{KeySource}
use Rattle.annotation_language.specs.declared.notes.KeySource.TheVariants.{Fixed, Asked as AskedOf}
use Rattle.annotation_language.specs.declared.notes.EventNote.{EventNote}
use Rattle.annotation_language.specs.declared.notes.Annotations.{Annotations}
use Rattle.annotation_language.specs.Complete.{has_key}
use Rattle.annotation_language.specs.Written.{Argument, Blank, Variable, Constant, Iri, Atom, One, Two, Asked, Source, Answers, Is, Line, Case, CaseName, Event, Cases, Key, Query}
use Rattle.annotation_language.specs.Grammar.{annotation_line}
use Rattle.line_lexer.specs.Judging.{first_broken, read_by, or_zero, text_or_none}
use Rattle.uml_model.specs.Rules.{same_kind}

-- the variables of a query that can be asked by a name, which is `case` for the case query, in the order of their numbers
pub record VariablesOf : Type 0 where
  pub name : List ℕ
  pub variables : List (List ℕ)

-- annotations, and the variables of the case query, the events and the named queries
pub record Noted : Type 0 where
  pub notes : Annotations
  pub variables : List VariablesOf

-- nothing yet
abbrev pub nothing : Noted
nothing = record { notes = record { case_query = None; case_name = None; events = []; queries = [] }; variables = [] }

-- the event of a name
abbrev pub event_named : Annotations → List ℕ → Option EventNote
event_named notes e = option_and_then (slice_get notes.events) (position (λ event. bytes_eq event.name e) notes.events)

-- events and named queries have their names together, and `case` is taken
abbrev pub is_taken : Annotations → List ℕ → Bool
is_taken notes n = bytes_eq n (codes "case") || list_any (λ event. bytes_eq event.name n) notes.events || list_any (λ query. bytes_eq query.name n) notes.queries

-- a test of an event; false where there is none
abbrev pub of_event : Option EventNote → (EventNote → Bool) → Bool
of_event None test = false
of_event (Some event) test = test event

-- how many keys an event has; none where there is no event
abbrev pub keys_in : Option EventNote → ℕ
keys_in None = 0
keys_in (Some event) = length event.keys

abbrev pub variables_of_argument : Argument → List (List ℕ)
variables_of_argument Blank = []
variables_of_argument (Variable v) = v ∷ []
variables_of_argument (Constant text) = []
variables_of_argument (Iri text) = []

abbrev pub variables_of_atom : Atom → List (List ℕ)
variables_of_atom (One p a) = variables_of_argument a
variables_of_atom (Two p a b) = variables_of_argument a ++ variables_of_argument b

-- the texts behind these, each once, where it first stands
abbrev pub each_once : List (List ℕ) → List (List ℕ) → List (List ℕ)
each_once found [] = found
each_once found (v ∷ vs) = each_once (if list_any (bytes_eq v) found then found else found ++ v ∷ []) vs

-- the variables by their numbers: by first appearance, the head before the atoms
abbrev pub variables_of : Asked → List (List ℕ)
variables_of q = each_once [] (q.head ++ flat_map variables_of_atom q.atoms)

abbrev pub atom_name : Atom → List ℕ
atom_name (One p a) = p
atom_name (Two p a b) = p

-- an argument, and the sort that its place asks
pub record Placed : Type 0 where
  pub argument : Argument
  pub side : Side

-- the only place of a class
abbrev pub class_places : Option ClassId → Argument → List Placed
class_places None a = []
class_places (Some c) a = record { argument = a; side = Object } ∷ []

-- the two places of a link
abbrev pub link_places : Option (LinkId × Side) → Argument → Argument → List Placed
link_places None a b = []
link_places (Some (p, side)) a b = record { argument = a; side = Object } ∷ record { argument = b; side = side } ∷ []

-- the text is one of the kind, where times without an offset are in UTC
abbrev pub is_value : ValueKind → List ℕ → Bool
is_value k text = is_some (canonical (pos 0) k text)

-- a constant of the other sort, or one that is not of its kind
abbrev pub misfits : Argument → Side → Bool
misfits Blank side = false
misfits (Variable v) side = false
misfits (Constant text) Object = true
misfits (Constant text) (Value k) = not (is_value k text)
misfits (Iri text) Object = false
misfits (Iri text) (Value k) = true

-- a template without holes
abbrev pub is_plain : Result Segments TemplateFault → Bool
is_plain (Ok t) = length (hole_texts t) == 0
is_plain (Err fault) = false

abbrev pub has_bad_template : Argument → Bool
has_bad_template Blank = false
has_bad_template (Variable v) = false
has_bad_template (Constant text) = false
has_bad_template (Iri text) = not (is_plain (template_of text))

-- the sort of the place, where this variable stands there
abbrev pub side_at : List ℕ → Argument → Side → List Side
side_at v Blank side = []
side_at v (Variable w) side = if bytes_eq v w then side ∷ [] else []
side_at v (Constant text) side = []
side_at v (Iri text) side = []

abbrev pub same_side : Side → Side → Bool
same_side Object Object = true
same_side Object (Value k) = false
same_side (Value k) Object = false
same_side (Value k) (Value l) = same_kind k l

abbrev pub is_value_side : Side → Bool
is_value_side Object = false
is_value_side (Value k) = true

-- two different sorts
abbrev pub differ : List Side → Bool
differ [] = false
differ (side ∷ sides) = list_any (λ other. not (same_side side other)) sides

-- the first sort, or that of objects where there is none
abbrev pub first_side : List Side → Side
first_side [] = Object
first_side (side ∷ sides) = side

-- a text or an object
abbrev pub is_name_side : Side → Bool
is_name_side side = same_side side Object || same_side side (Value Text)

abbrev pub is_mandatory : Rule → Bool
is_mandatory Mandatory = true
is_mandatory Single = false
is_mandatory Many = false

-- a text that no key may be: an empty one, `object`, and one with a `#` or a character outside XML 1.0
abbrev pub is_bad_text : List ℕ → Bool
is_bad_text key = (length key == 0) || bytes_eq key (codes "object") || list_any (λ b. b == 35) key || not (list_all is_xml_char (chars key))

-- the keys whose values are names
abbrev pub is_name_key : List ℕ → Bool
is_name_key key = list_any (bytes_eq key) (codes "concept:name" ∷ codes "org:resource" ∷ codes "lifecycle:transition" ∷ [])

-- the keys that each event has once
abbrev pub is_needed_key : List ℕ → Bool
is_needed_key key = list_any (bytes_eq key) (codes "concept:name" ∷ codes "time:timestamp" ∷ [])

-- a key that logs cannot have with this rule and values of this sort
abbrev pub is_bad_key : List ℕ → Rule → Side → Bool
is_bad_key key rule side = is_bad_text key
    || (bytes_eq key (codes "time:timestamp") && not (same_side side (Value Time)))
    || (is_name_key key && not (is_name_side side))
    || (is_needed_key key && not (is_mandatory rule))

-- the canonical text of a constant of a kind
abbrev pub constant : ValueKind → List ℕ → List ℕ
constant k text = text_or_none (canonical (pos 0) k text)

abbrev pub kind_of_side : Side → ValueKind
kind_of_side Object = Text
kind_of_side (Value k) = k

-- a variable by its number
abbrev pub variable : Asked → List ℕ → Arg
variable q v = arg.Var (record { 0 = or_zero (number_of (variables_of q) v) })

-- the argument that a written one is at a place of this sort
abbrev pub argument_of : Asked → Argument → Side → Arg
argument_of q Blank side = arg.Blank
argument_of q (Variable v) side = variable q v
argument_of q (Constant text) side = arg.Fixed (ValueTerm (kind_of_side side) (constant (kind_of_side side) text))
argument_of q (Iri text) side = arg.Fixed (Named text)

-- a class at its argument, and a link at its two
abbrev pub class_atom : Asked → Option ClassId → Argument → List QueryAtom
class_atom q None a = []
class_atom q (Some c) a = InClass c (argument_of q a Object) ∷ []

abbrev pub link_atom : Asked → Option (LinkId × Side) → Argument → Argument → List QueryAtom
link_atom q None a b = []
link_atom q (Some (p, side)) a b = Linked p (argument_of q a Object) (argument_of q b side) ∷ []

-- the annotations, where the event of a name is changed
abbrev pub changed : Noted → List ℕ → (EventNote → EventNote) → Noted
changed s e f = record s { notes = record s.notes { events = map (λ event. if bytes_eq event.name e then f event else event) s.notes.events } }

-- what each query has that is counted, and what else is
abbrev pub counts : Asked → List (Counted × ℕ) → List (Counted × ℕ)
counts q others = (Atoms, length q.atoms) ∷ (Variables, length (variables_of q)) ∷ (Variables, length q.head) ∷ others

-- with the variables of a query of this name
abbrev pub with_variables : List ℕ → Asked → List VariablesOf → List VariablesOf
with_variables n q found = found ++ record { name = n; variables = variables_of q } ∷ []

-- the second head variable
abbrev pub second : Asked → List ℕ
second q = get_or q.head 1 []

-- the names of the model: the class of a name; the link of a name with the sort of its second place, which is Object for an association
module _ (class_of : List ℕ → Option ClassId) (link_of : List ℕ → Option (LinkId × Side)) where
  -- the arguments of an atom with the sorts of their places; none where its name asks another number of them
  abbrev pub places : Atom → List Placed
  places (One p a) = class_places (class_of p) a
  places (Two p a b) = link_places (link_of p) a b

  abbrev pub all_places : Asked → List Placed
  all_places q = flat_map places q.atoms

  -- the sorts of the places at which a variable stands
  abbrev pub sides_of : Asked → List ℕ → List Side
  sides_of q v = flat_map (λ placed. side_at v placed.argument placed.side) (all_places q)

  abbrev pub unknown_name : List ℕ → Bool
  unknown_name p = not (is_some (class_of p) || is_some (link_of p))

  -- an atom with another number of arguments than its name asks, or a constant that does not fit
  abbrev pub mismatch : Asked → Bool
  mismatch q = list_any (λ a. length (places a) == 0) q.atoms || list_any (λ placed. misfits placed.argument placed.side) (all_places q)

  -- a variable at two sorts, or one of these at values
  abbrev pub is_mixed : Asked → List (List ℕ) → Bool
  is_mixed q objects = list_any (λ v. differ (sides_of q v)) (variables_of q) || list_any (λ v. list_any is_value_side (sides_of q v)) objects

  -- the first rule that a line with a query breaks: what it asks but is not there, what is there already, the query's own rules,
  -- which variables have to be objects, a bad key, and what else is counted
  abbrev pub broken_query : Bool → Bool → Asked → List (List ℕ) → Bool → List (Counted × ℕ) → Option LineFault
  broken_query missing double q objects bad_key others = first_broken (
      (missing || list_any (λ a. unknown_name (atom_name a)) q.atoms, Unknown)
      ∷ (double, Double)
      ∷ (mismatch q, TypeMismatch)
      ∷ (list_any (λ placed. has_bad_template placed.argument) (all_places q), BadTemplate)
      ∷ (is_mixed q objects, MixedSort)
      ∷ (list_any (λ v. length (sides_of q v) == 0) q.head, HeadUnbound)
      ∷ (bad_key, BadKey)
      ∷ [])
      (counts q others)

  -- the sort of the values that a query gives
  abbrev pub value_side : Asked → Side
  value_side q = first_side (sides_of q (second q))

  -- the first rule that a line of a key breaks
  abbrev pub broken_key : Annotations → List ℕ → List ℕ → Rule → Source → Option LineFault
  broken_key notes e key rule (Answers q) = broken_query (not (is_some (event_named notes e))) (of_event (event_named notes e) (has_key key)) q (take 1 q.head)
      (is_bad_key key rule (value_side q)) ((EventKeys, keys_in (event_named notes e) + 1) ∷ [])
  broken_key notes e key rule (Is k text) = first_broken (
      (not (is_some (event_named notes e)), Unknown)
      ∷ (of_event (event_named notes e) (has_key key), Double)
      ∷ (not (is_value k text), TypeMismatch)
      ∷ (is_bad_key key rule (Value k), BadKey)
      ∷ [])
      ((EventKeys, keys_in (event_named notes e) + 1) ∷ [])

  -- the first rule that an annotation line breaks
  unfoldable pub broken : Noted → Line → Option LineFault
  broken s (Case q) = broken_query false (is_some s.notes.case_query) q q.head false []
  broken s (CaseName q) = broken_query (not (is_some s.notes.case_query)) (is_some s.notes.case_name) q (take 1 q.head) (not (is_name_side (value_side q))) []
  broken s (Event e q) = broken_query false (is_taken s.notes e) q q.head false ((Events, length s.notes.events + 1) ∷ [])
  broken s (Cases e q) = broken_query (not (is_some (event_named s.notes e))) (of_event (event_named s.notes e) (λ event. is_some event.cases)) q q.head false []
  broken s (Key e key rule source) = broken_key s.notes e key rule source
  broken s (Query n q) = broken_query false (is_taken s.notes n) q [] false ((Queries, length s.notes.queries + 1) ∷ [])

  -- the atom that a written one is; none where its name asks another number of arguments
  abbrev pub atom_of : Asked → Atom → List QueryAtom
  atom_of q (One p a) = class_atom q (class_of p) a
  atom_of q (Two p a b) = link_atom q (link_of p) a b

  -- the query that a written one is
  abbrev pub query_of : Asked → QueryOf
  query_of q = record { head = map (variable q) q.head; atoms = flat_map (atom_of q) q.atoms }

  -- where the values of a key come from
  abbrev pub source_of : Source → KeySource
  source_of (Answers q) = AskedOf (query_of q) (value_side q)
  source_of (Is k text) = Fixed k (constant k text)

  -- the annotations with an annotation line, the line of this number
  unfoldable pub grown : ℕ → Noted → Line → Noted
  grown number s (Case q) = record { notes = record s.notes { case_query = Some (query_of q) }; variables = with_variables (codes "case") q s.variables }
  grown number s (CaseName q) = record s { notes = record s.notes { case_name = Some (query_of q) } }
  grown number s (Event e q) = record {
    notes = record s.notes { events = s.notes.events ++ record { name = e; line = number; objects = query_of q; cases = None; keys = [] } ∷ [] };
    variables = with_variables e q s.variables;
  }
  grown number s (Cases e q) = changed s e (λ event. record event { cases = Some (query_of q) })
  grown number s (Key e key rule source) = changed s e (λ event. record event { keys = event.keys ++ record { key = key; rule = rule; source = source_of source } ∷ [] })
  grown number s (Query n q) = record {
    notes = record s.notes { queries = s.notes.queries ++ record { name = n; query = query_of q } ∷ [] };
    variables = with_variables n q s.variables;
  }

  -- the annotations with the line of this number, or its first fault
  abbrev pub read_annotation_line : ℕ → Noted → List ℕ → Result Noted LineFault
  read_annotation_line number s text = read_by annotation_line (broken s) (grown number s) s (tokens_of text)
