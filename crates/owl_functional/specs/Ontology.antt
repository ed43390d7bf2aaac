-- The ontology of a text: what its axioms give, or its first fault.
use Rattle.std.specs.Prelude.{◌==◌, ℕ, ◌+◌, List, [], ◌∷◌, ◌++◌, Option, Some, None, Result, Ok, Err, if◌then◌else◌, length, take, map, count_by, fold}
use Rattle.std.specs.List.{flat_map}
use Rattle.std.specs.Str.{is_utf8}
use Rattle.std.specs.Str.Lossy.{utf8_valid_len}
use Rattle.line_lexer.specs.Judging.{first_passed}
use Rattle.line_lexer.specs.Lines.{unmarked}
use Rattle.line_lexer.specs.declared.fault.Counted.{Counted}
use Rattle.line_lexer.specs.declared.fault.Counted.TheVariants as counted
use Rattle.vocabulary.specs.Texts.{number_of}
use Rattle.vocabulary.specs.declared.ids.ClassId.{ClassId}
use Rattle.vocabulary.specs.declared.ids.LinkId.{LinkId}
use Rattle.vocabulary.specs.declared.ids.Side.{Side}
use Rattle.vocabulary.specs.declared.ids.Side.TheVariants.{Object, Value}
use Rattle.dllite_axioms.specs.declared.axioms.Basic.{Basic}
use Rattle.dllite_axioms.specs.declared.axioms.Basic.TheVariants as basic
use Rattle.dllite_axioms.specs.declared.axioms.Constraint.{Constraint}
use Rattle.dllite_axioms.specs.declared.axioms.Constraint.TheVariants as constraint
use Rattle.owl_functional.specs.declared.fault.OwlFault.{OwlFault}
use Rattle.owl_functional.specs.declared.fault.OwlFault.TheVariants as fault
use Rattle.dllite_axioms.specs.declared.axioms.Axiom.{Axiom as Inclusion}
use Rattle.dllite_axioms.specs.declared.axioms.Axiom.TheVariants as inclusion
use Rattle.owl_functional.specs.declared.ontology.Ontology.{Ontology}
use Rattle.owl_functional.specs.declared.numbered.Numbered.{Numbered}
use Rattle.owl_functional.specs.declared.tree.Entity.{Entity}
use Rattle.owl_functional.specs.declared.tree.Concept.{Concept}
use Rattle.owl_functional.specs.declared.tree.Concept.TheVariants.{Class, Has}
use Rattle.owl_functional.specs.declared.tree.Form.TheVariants.{Declaration, Sub, Disjoint, SubLink, Func}
use Rattle.owl_functional.specs.declared.tree.Axiom.{Axiom}
use Rattle.owl_functional.specs.Tokens.{is_feed, tokens_from}
use Rattle.owl_functional.specs.Grammar.{◌>>=◌, document}
use Rattle.owl_functional.specs.Rules.{name_of, sort_rank, kind_in, or_else, first_fault, first_specialised}

-- nothing yet
abbrev pub none : Numbered
none = record { classes = []; links = []; sides = [] }

-- the sort of a link's second place
abbrev pub side_of : List Axiom → Entity → Side
side_of all e = if sort_rank e.sort == 2 then Value (kind_in all e.iri) else Object

-- one class or link more, unless the name is there
abbrev pub with_class : Numbered → List ℕ → Numbered
with_class n name = elim (number_of n.classes name) [ None ↦ record n { classes = n.classes ++ name ∷ [] } | Some k ↦ n ]

abbrev pub with_link : Numbered → List ℕ → Side → Numbered
with_link n name side = elim (number_of n.links name) [ None ↦ record n { links = n.links ++ name ∷ []; sides = n.sides ++ side ∷ [] } | Some k ↦ n ]

abbrev pub with_entity : List Axiom → Numbered → Entity → Numbered
with_entity all n e = if sort_rank e.sort == 0 then with_class n (name_of e.iri) else with_link n (name_of e.iri) (side_of all e)

abbrev pub with_axiom : List Axiom → Numbered → Axiom → Numbered
with_axiom all n a = elim (a.form) [ Declaration e ↦ with_entity all n e | _ ↦ n ]

-- what the axioms declare, in their order
abbrev pub numbered : List Axiom → Numbered
numbered axioms = fold (with_axiom axioms) none axioms

abbrev pub or_zero : Option ℕ → ℕ
or_zero None = 0
or_zero (Some n) = n

abbrev pub class_id : Numbered → Entity → ClassId
class_id n e = record { 0 = or_zero (number_of n.classes (name_of e.iri)) }

abbrev pub link_id : Numbered → Entity → LinkId
link_id n e = record { 0 = or_zero (number_of n.links (name_of e.iri)) }

abbrev pub basic_of : Numbered → Concept → Basic
basic_of n (Class a) = basic.Class (class_id n a)
basic_of n (Has p d) = basic.Has (link_id n p) d

-- the axioms and constraints that an axiom of the text gives
abbrev pub axioms_of : Numbered → Axiom → List Inclusion
axioms_of n a = elim (a.form) [
  | Sub b (Some c) ↦ inclusion.Sub (basic_of n b) (basic_of n c) ∷ []
  | SubLink q d p ↦ inclusion.SubLink (link_id n q) d (link_id n p) ∷ []
  | _ ↦ []
]

-- each basic with each behind it
abbrev pub pairs : List Basic → List Constraint
pairs [] = []
pairs (b ∷ bs) = map (constraint.Disjoint b) bs ++ pairs bs

abbrev pub constraints_of : Numbered → Axiom → List Constraint
constraints_of n a = elim (a.form) [
  | Disjoint cs ↦ pairs (map (basic_of n) cs)
  | Func p d ↦ constraint.Func (link_id n p) d ∷ []
  | _ ↦ []
]

abbrev pub given : Numbered → List Axiom → Ontology
given n axioms = record {
  classes = n.classes;
  links = n.links;
  sides = n.sides;
  tbox = record { axioms = flat_map (axioms_of n) axioms; constraints = flat_map (constraints_of n) axioms };
}

-- what is counted against limits, in the order of the table of limits
abbrev pub passed_limit : Ontology → Option Counted
passed_limit o = first_passed ((counted.Classes, length o.classes) ∷ (counted.Links, length o.links)
    ∷ (counted.Axioms, length o.tbox.axioms) ∷ (counted.Constraints, length o.tbox.constraints) ∷ [])

abbrev pub within_limits : Ontology → Result Ontology OwlFault
within_limits o = elim (passed_limit o) [ None ↦ Ok o | Some what ↦ Err (fault.Limit what) ]

-- what the axioms give, unless one of them has a fault
unfoldable pub judged : List Axiom → Result Ontology OwlFault
judged axioms = elim (or_else (first_fault axioms [] axioms) (first_specialised axioms axioms)) [
  | None ↦ within_limits (given (numbered axioms) axioms)
  | Some e ↦ Err e
]

-- the number of the line that has the first byte which is no part of UTF-8
abbrev pub bad_line : List ℕ → ℕ
bad_line bytes = count_by is_feed (take (utf8_valid_len bytes) bytes) + 1

abbrev pub read_text : List ℕ → Result Ontology OwlFault
read_text text = document (length text) (tokens_from 1 text) >>= judged

-- the ontology that the bytes of a file are, or their first fault
unfoldable pub read_ontology : List ℕ → Result Ontology OwlFault
read_ontology bytes = if is_utf8 bytes then read_text (unmarked bytes) else Err (fault.NotUtf8 (bad_line bytes))
