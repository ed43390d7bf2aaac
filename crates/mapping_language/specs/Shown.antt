-- Lines that the code holds, as the definitions see them.
use Rattle.std.specs.Prelude.{map, option_map}
use Rattle.mapping_language.specs.declared.written.SourceLine.{SourceLine as HeldSourceLine}
use Rattle.mapping_language.specs.declared.written.SourceLine.TheVariants as held_line
use Rattle.mapping_language.specs.declared.written.Cell.{Cell as HeldCell}
use Rattle.mapping_language.specs.declared.written.Other.{Other as HeldOther}
use Rattle.mapping_language.specs.declared.written.Other.TheVariants as held_other
use Rattle.mapping_language.specs.declared.written.Condition.{Condition as HeldCondition}
use Rattle.mapping_language.specs.declared.written.Condition.TheVariants as held_condition
use Rattle.mapping_language.specs.declared.written.Term.{Term as HeldTerm}
use Rattle.mapping_language.specs.declared.written.Term.TheVariants as held_term
use Rattle.mapping_language.specs.declared.written.Target.{Target as HeldTarget}
use Rattle.mapping_language.specs.declared.written.Target.TheVariants as held_target
use Rattle.mapping_language.specs.declared.written.Source.{Source as HeldSource}
use Rattle.mapping_language.specs.declared.written.MapLine.{MapLine as HeldMapLine}
use Rattle.mapping_language.specs.Written.{SourceLine, Table, Column as ColumnLine, Key, Cell, Other, OfCell, OfText, Condition, Same, Differs, Null, NotNull, Term, Iri, Column, Constant, Target, One, Two, Source, MapLine}

abbrev pub line_shown : HeldSourceLine → SourceLine
line_shown (held_line.Table t file offset) = Table t.now file.now (option_map (λ text. text.now) offset)
line_shown (held_line.Column t c kind header) = ColumnLine t.now c.now kind (option_map (λ text. text.now) header)
line_shown (held_line.Key t cs) = Key t.now (map (λ c. c.now) cs.items)

abbrev pub cell_shown : HeldCell → Cell
cell_shown c = record { alias = c.alias.now; column = c.column.now }

abbrev pub other_shown : HeldOther → Other
other_shown (held_other.Cell c) = OfCell (cell_shown c)
other_shown (held_other.Text text) = OfText text.now

abbrev pub condition_shown : HeldCondition → Condition
condition_shown (held_condition.Same a b) = Same (cell_shown a) (other_shown b)
condition_shown (held_condition.Differs a b) = Differs (cell_shown a) (other_shown b)
condition_shown (held_condition.Null a) = Null (cell_shown a)
condition_shown (held_condition.NotNull a) = NotNull (cell_shown a)

abbrev pub term_shown : HeldTerm → Term
term_shown (held_term.Iri text) = Iri text.now
term_shown (held_term.Column c) = Column (cell_shown c)
term_shown (held_term.Constant text) = Constant text.now

abbrev pub target_shown : HeldTarget → Target
target_shown (held_target.One p a) = One p.now (term_shown a)
target_shown (held_target.Two p a b) = Two p.now (term_shown a) (term_shown b)

abbrev pub source_shown : HeldSource → Source
source_shown s = record { table = s.table.now; alias = s.alias.now }

abbrev pub map_shown : HeldMapLine → MapLine
map_shown m = record {
  name = m.name.now;
  sources = map source_shown m.sources.items;
  conditions = map condition_shown m.conditions.items;
  targets = map target_shown m.targets.items;
}
