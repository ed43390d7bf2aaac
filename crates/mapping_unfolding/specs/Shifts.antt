-- Places, conditions and terms of tables that stand behind n others.
use Rattle.std.specs.Prelude.{ℕ, ◌+◌, map}
use Rattle.mapping_facts.specs.declared.query.Place.{Place}
use Rattle.mapping_facts.specs.declared.query.Condition.{Condition}
use Rattle.mapping_facts.specs.declared.query.Condition.TheVariants.{Equal, EqualText, Differ, DifferText, IsNull, NotNull}
use Rattle.mapping_facts.specs.declared.term.RowTerm.{RowTerm}
use Rattle.mapping_facts.specs.declared.term.RowTerm.TheVariants.{Iri, Cell, Fixed}

abbrev pub shifted_place : ℕ → Place → Place
shifted_place n p = record { table = n + p.table; col = p.col }

abbrev pub shifted_condition : ℕ → Condition → Condition
shifted_condition n (Equal p q) = Equal (shifted_place n p) (shifted_place n q)
shifted_condition n (EqualText p text) = EqualText (shifted_place n p) text
shifted_condition n (Differ p q) = Differ (shifted_place n p) (shifted_place n q)
shifted_condition n (DifferText p text) = DifferText (shifted_place n p) text
shifted_condition n (IsNull p) = IsNull (shifted_place n p)
shifted_condition n (NotNull p) = NotNull (shifted_place n p)

abbrev pub shifted_term : ℕ → RowTerm → RowTerm
shifted_term n (Iri template places) = Iri template (map (shifted_place n) places)
shifted_term n (Cell kind place) = Cell kind (shifted_place n place)
shifted_term n (Fixed term) = Fixed term
