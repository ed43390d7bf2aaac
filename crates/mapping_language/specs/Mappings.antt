-- The rules of mapping lines, and the mappings that they give.
use Rattle.std.specs.Prelude.{ℕ, ◌+◌, ◌||◌, ◌==◌, not, Bool, true, false, ℤ, pos, List, [], ◌∷◌, ◌++◌, Option, Some, None, Result, Ok, Err, if◌then◌else◌, length, map, is_some, position, slice_get, option_and_then, option_map, drop}
use Rattle.std.specs.List.{list_any, flat_map, take_while}
use Rattle.std.specs.Str.{bytes_eq}
use Rattle.line_lexer.specs.Tokens.{tokens_of}
use Rattle.line_lexer.specs.declared.fault.LineFault.{LineFault}
use Rattle.line_lexer.specs.declared.fault.LineFault.TheVariants.{Unknown, Double, TypeMismatch, BadTemplate, NotBounded}
use Rattle.line_lexer.specs.declared.fault.Counted.TheVariants.{Mappings, TablesOfMapping, Conditions, Targets}
use Rattle.vocabulary.specs.declared.ids.ClassId.{ClassId}
use Rattle.vocabulary.specs.declared.ids.LinkId.{LinkId}
use Rattle.vocabulary.specs.declared.ids.TableId.{TableId}
use Rattle.vocabulary.specs.declared.ids.Side.{Side}
use Rattle.vocabulary.specs.declared.ids.Side.TheVariants.{Object, Value}
use Rattle.vocabulary.specs.declared.ids.ValueKind.{ValueKind}
use Rattle.vocabulary.specs.declared.ids.ValueKind.TheVariants.{Text}
use Rattle.vocabulary.specs.declared.term.Term.{Value as ValueTerm}
use Rattle.iri_templates.specs.declared.fault.TemplateFault.{TemplateFault}
use Rattle.iri_templates.specs.declared.fault.TemplateFault.TheVariants as template_fault
use Rattle.iri_templates.specs.declared.token.Token.{Token}
use Rattle.iri_templates.specs.declared.token.Token.TheVariants.{Plain, Escape, Braced}
use Rattle.iri_templates.specs.Templates.{Segments, hole_at, hole_texts, template_of}
use Rattle.source_tables.specs.declared.decl.ColumnDecl.{ColumnDecl}
use Rattle.source_tables.specs.declared.decl.TableDecl.{TableDecl}
use Rattle.source_tables.specs.Cells.{canonical}
use Rattle.source_tables.specs.Tables.{col}
use Rattle.mapping_facts.specs.declared.query.Place.{Place}
use Rattle.mapping_facts.specs.declared.query.Condition.{Condition as RowCondition}
use Rattle.mapping_facts.specs.declared.query.Condition.TheVariants as row
use Rattle.mapping_facts.specs.declared.term.RowTerm.{RowTerm}
use Rattle.mapping_facts.specs.declared.term.RowTerm.TheVariants as row_term
use Rattle.mapping_facts.specs.declared.mapping.Target.{Target as RowTarget}
use Rattle.mapping_facts.specs.declared.mapping.Target.TheVariants as row_target
use Rattle.mapping_facts.specs.declared.mapping.Mapping.{Mapping}
use Rattle.mapping_language.specs.declared.sources.Sources.{Sources}
use Rattle.mapping_language.specs.Written.{Cell, Other, OfCell, OfText, Condition, Same, Differs, Null, NotNull, Term, Iri, Column, Constant, Target, One, Two, MapLine}
use Rattle.mapping_language.specs.Grammar.{map_line}
use Rattle.line_lexer.specs.Judging.{first_broken, has_twice, read_by, or_zero, text_or_none}
use Rattle.uml_model.specs.Rules.{same_kind}
use Rattle.mapping_language.specs.Tables.{table_number, table_named, column_number, column_named}

-- the place of an alias among the tables of a mapping
abbrev pub place_of : MapLine → List ℕ → Option ℕ
place_of m alias = position (λ source. bytes_eq source.alias alias) m.sources

-- the declaration of the table that stands under an alias, the first that does
abbrev pub table_under : Sources → MapLine → List ℕ → Option TableDecl
table_under s m alias = option_and_then (λ source. table_named s source.table) (option_and_then (slice_get m.sources) (place_of m alias))

-- the column of a cell
abbrev pub column_of : Sources → MapLine → Cell → Option ColumnDecl
column_of s m cell = option_and_then (λ table. column_named table cell.column) (table_under s m cell.alias)

-- the kind of a cell
abbrev pub kind_at : Sources → MapLine → Cell → Option ValueKind
kind_at s m cell = option_map (λ c. c.kind) (column_of s m cell)

-- an alias or a column that is not there
abbrev pub unknown_cell : Sources → MapLine → Cell → Bool
unknown_cell s m cell = not (is_some (column_of s m cell))

abbrev pub braced : Option (Token × List ℕ) → List (List ℕ)
braced None = []
braced (Some (Plain b, rest)) = []
braced (Some (Escape c d, rest)) = []
braced (Some (Braced text, rest)) = text ∷ []

-- the holes of a text, whatever else it has: `{`, a text that is not empty and has no brace, `}`
unfoldable pub holes : List ℕ → List (List ℕ)
holes [] = []
holes (b ∷ rest) = (if b == 123 then braced (hole_at rest) else []) ++ holes rest

-- the text before the first dot, and the text behind it
abbrev pub cell_of_hole : List ℕ → Cell
cell_of_hole text = record {
  alias = take_while (λ b. not (b == 46)) text;
  column = drop (length (take_while (λ b. not (b == 46)) text) + 1) text;
}

abbrev pub cells_of_other : Other → List Cell
cells_of_other (OfCell cell) = cell ∷ []
cells_of_other (OfText text) = []

abbrev pub cells_of_condition : Condition → List Cell
cells_of_condition (Same a b) = a ∷ cells_of_other b
cells_of_condition (Differs a b) = a ∷ cells_of_other b
cells_of_condition (Null a) = a ∷ []
cells_of_condition (NotNull a) = a ∷ []

abbrev pub cells_of_term : Term → List Cell
cells_of_term (Iri text) = map cell_of_hole (holes text)
cells_of_term (Column cell) = cell ∷ []
cells_of_term (Constant text) = []

abbrev pub target_name : Target → List ℕ
target_name (One p a) = p
target_name (Two p a b) = p

abbrev pub terms_of : Target → List Term
terms_of (One p a) = a ∷ []
terms_of (Two p a b) = a ∷ b ∷ []

-- all terms of the targets
abbrev pub all_terms : MapLine → List Term
all_terms m = flat_map terms_of m.targets

-- all cells that the line names, those of holes with them
abbrev pub all_cells : MapLine → List Cell
all_cells m = flat_map cells_of_condition m.conditions ++ flat_map cells_of_term (all_terms m)

-- a term, and the sort that its place asks
pub record Placed : Type 0 where
  pub term : Term
  pub side : Side

-- the only place of a class
abbrev pub class_places : Option ClassId → Term → List Placed
class_places None a = []
class_places (Some c) a = record { term = a; side = Object } ∷ []

-- the two places of a link
abbrev pub link_places : Option (LinkId × Side) → Term → Term → List Placed
link_places None a b = []
link_places (Some (p, side)) a b = record { term = a; side = Object } ∷ record { term = b; side = side } ∷ []

-- a cell of this kind is there
abbrev pub is_of_kind : ValueKind → Option ValueKind → Bool
is_of_kind k None = false
is_of_kind k (Some l) = same_kind k l

-- the text is one of the kind, where times without an offset have the given one
abbrev pub is_value : ℤ → ValueKind → List ℕ → Bool
is_value offset k text = is_some (canonical offset k text)

-- a place of objects has a template, and a place of values a cell of its kind or a text of its kind
abbrev pub fits : Sources → MapLine → Term → Side → Bool
fits s m (Iri text) Object = true
fits s m (Iri text) (Value k) = false
fits s m (Column cell) Object = false
fits s m (Column cell) (Value k) = is_of_kind k (kind_at s m cell)
fits s m (Constant text) Object = false
fits s m (Constant text) (Value k) = is_value (pos 0) k text

abbrev pub offset_under : Option TableDecl → ℤ
offset_under None = pos 0
offset_under (Some table) = table.offset

-- a cell is compared with a cell of its kind, or with a text of its kind under the offset of its table
abbrev pub compares : Sources → MapLine → Cell → Other → Option ValueKind → Bool
compares s m a b None = false
compares s m a (OfCell b) (Some k) = is_of_kind k (kind_at s m b)
compares s m a (OfText text) (Some k) = is_value (offset_under (table_under s m a.alias)) k text

abbrev pub is_illtyped : Sources → MapLine → Condition → Bool
is_illtyped s m (Same a b) = not (compares s m a b (kind_at s m a))
is_illtyped s m (Differs a b) = not (compares s m a b (kind_at s m a))
is_illtyped s m (Null a) = false
is_illtyped s m (NotNull a) = false

abbrev pub template_texts : Term → List (List ℕ)
template_texts (Iri text) = text ∷ []
template_texts (Column cell) = []
template_texts (Constant text) = []

-- all template texts of the line
abbrev pub all_templates : MapLine → List (List ℕ)
all_templates m = flat_map template_texts (all_terms m)

abbrev pub is_bad : Result Segments TemplateFault → Bool
is_bad (Ok t) = false
is_bad (Err template_fault.Empty) = true
is_bad (Err (template_fault.BadChar place)) = true
is_bad (Err (template_fault.Unclosed place)) = true
is_bad (Err other) = false

abbrev pub is_unbounded : Result Segments TemplateFault → Bool
is_unbounded (Ok t) = false
is_unbounded (Err (template_fault.NotBounded hole)) = true
is_unbounded (Err other) = false

abbrev pub number_in : Option TableDecl → List ℕ → ℕ
number_in None c = 0
number_in (Some table) c = or_zero (column_number table c)

-- the place of a cell: its alias among the tables of the mapping, and its column
abbrev pub place_at : Sources → MapLine → Cell → Place
place_at s m cell = record { table = or_zero (place_of m cell.alias); col = col (number_in (table_under s m cell.alias) cell.column) }

-- the canonical text of a constant that is one of its kind
abbrev pub constant : ℤ → Option ValueKind → List ℕ → List ℕ
constant offset None text = []
constant offset (Some k) text = text_or_none (canonical offset k text)

-- the canonical text of a constant that a cell is compared with
abbrev pub constant_at : Sources → MapLine → Cell → List ℕ → List ℕ
constant_at s m cell text = constant (offset_under (table_under s m cell.alias)) (kind_at s m cell) text

-- a condition of the mapping's query
abbrev pub condition_of : Sources → MapLine → Condition → RowCondition
condition_of s m (Same a (OfCell b)) = row.Equal (place_at s m a) (place_at s m b)
condition_of s m (Same a (OfText text)) = row.EqualText (place_at s m a) (constant_at s m a text)
condition_of s m (Differs a (OfCell b)) = row.Differ (place_at s m a) (place_at s m b)
condition_of s m (Differs a (OfText text)) = row.DifferText (place_at s m a) (constant_at s m a text)
condition_of s m (Null a) = row.IsNull (place_at s m a)
condition_of s m (NotNull a) = row.NotNull (place_at s m a)

-- the template of a text, or one that is empty where it is none
abbrev pub template_or : Result Segments TemplateFault → Segments
template_or (Ok t) = t
template_or (Err fault) = record { first = Rattle.iri_templates.specs.declared.segment.Segment.TheVariants.Literal []; rest = [] }

-- the kind of a place of values
abbrev pub kind_of_side : Side → ValueKind
kind_of_side Object = Text
kind_of_side (Value k) = k

-- a term of a target
abbrev pub row_term_of : Sources → MapLine → Placed → RowTerm
row_term_of s m placed = by placed.term
  where
    by : Term → RowTerm
    by (Iri text) = row_term.Iri (template_or (template_of text)) (map (λ hole. place_at s m (cell_of_hole hole)) (hole_texts (template_or (template_of text))))
    by (Column cell) = row_term.Cell (kind_of_side placed.side) (place_at s m cell)
    by (Constant text) = row_term.Fixed (ValueTerm (kind_of_side placed.side) (constant (pos 0) (Some (kind_of_side placed.side)) text))

-- the tables of the mapping's query
abbrev pub tables_of : Sources → MapLine → List TableId
tables_of s m = map (λ source. record { 0 = or_zero (table_number s source.table) }) m.sources

-- a mapping of the name before, or an alias twice
abbrev pub double : Sources → MapLine → Bool
double s m = list_any (λ other. bytes_eq other.name m.name) s.mappings || has_twice (map (λ source. source.alias) m.sources)

-- the names of the model: the class of a name; the link of a name with the sort of its second place, which is Object for an association
module _ (class_of : List ℕ → Option ClassId) (link_of : List ℕ → Option (LinkId × Side)) where
  -- the terms of a target with the sorts of their places; none where the name asks another number of them
  abbrev pub places : Target → List Placed
  places (One p a) = class_places (class_of p) a
  places (Two p a b) = link_places (link_of p) a b

  abbrev pub all_places : MapLine → List Placed
  all_places m = flat_map places m.targets

  abbrev pub is_misapplied : Target → Bool
  is_misapplied t = length (places t) == 0

  abbrev pub unknown_name : List ℕ → Bool
  unknown_name p = not (is_some (class_of p) || is_some (link_of p))

  -- a table, a cell, a hole or a name that is not declared
  abbrev pub unknown : Sources → MapLine → Bool
  unknown s m = list_any (λ source. not (is_some (table_number s source.table))) m.sources
      || list_any (unknown_cell s m) (all_cells m)
      || list_any (λ t. unknown_name (target_name t)) m.targets

  -- a target or a condition with what does not fit there
  abbrev pub mismatch : Sources → MapLine → Bool
  mismatch s m = list_any is_misapplied m.targets
      || list_any (λ placed. not (fits s m placed.term placed.side)) (all_places m)
      || list_any (is_illtyped s m) m.conditions

  -- the first rule that a mapping line breaks
  unfoldable pub broken : Sources → MapLine → Option LineFault
  broken s m = first_broken (
      (unknown s m, Unknown)
      ∷ (double s m, Double)
      ∷ (mismatch s m, TypeMismatch)
      ∷ (list_any (λ text. is_bad (template_of text)) (all_templates m), BadTemplate)
      ∷ (list_any (λ text. is_unbounded (template_of text)) (all_templates m), NotBounded)
      ∷ [])
      ((Mappings, length s.mappings + 1)
      ∷ (TablesOfMapping, length m.sources)
      ∷ (Conditions, length m.conditions)
      ∷ (Targets, length m.targets)
      ∷ [])

  -- a class at its term
  abbrev pub class_targets : Sources → MapLine → Option ClassId → List Placed → List RowTarget
  class_targets s m None placed = []
  class_targets s m (Some c) [] = []
  class_targets s m (Some c) (a ∷ rest) = row_target.InClass c (row_term_of s m a) ∷ []

  -- a link at its two terms
  abbrev pub link_targets : Sources → MapLine → Option (LinkId × Side) → List Placed → List RowTarget
  link_targets s m None placed = []
  link_targets s m (Some (p, side)) [] = []
  link_targets s m (Some (p, side)) (a ∷ []) = []
  link_targets s m (Some (p, side)) (a ∷ b ∷ rest) = row_target.Linked p (row_term_of s m a) (row_term_of s m b) ∷ []

  -- the target that a written one is; none where its name asks another number of terms
  abbrev pub targets_of : Sources → MapLine → Target → List RowTarget
  targets_of s m (One p a) = class_targets s m (class_of p) (places (One p a))
  targets_of s m (Two p a b) = link_targets s m (link_of p) (places (Two p a b))

  -- the mapping of a line
  abbrev pub mapping_of : Sources → MapLine → Mapping
  mapping_of s m = record {
    name = m.name;
    query = record { tables = tables_of s m; conditions = map (condition_of s m) m.conditions };
    targets = flat_map (targets_of s m) m.targets;
  }

  -- the sources with a mapping line
  unfoldable pub grown : Sources → MapLine → Sources
  grown s m = record s { mappings = s.mappings ++ mapping_of s m ∷ [] }

  -- the sources with a mapping line, or its first fault
  abbrev pub read_mapping_line : Sources → List ℕ → Result Sources LineFault
  read_mapping_line s text = read_by map_line (broken s) (grown s) s (tokens_of text)
