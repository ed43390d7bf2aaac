-- When two row terms are equal.
use Rattle.std.specs.Prelude.{ℕ, ◌≡◌, ◌<◌, true, List, [], ◌∷◌, length, get_or, Option, Some, None, ◌↔◌, IfSome, All}
use Rattle.std.specs.List.{list_all}
use Rattle.vocabulary.specs.declared.term.Term.{Term}
use Rattle.source_tables.specs.Cells.{Cell}
use Rattle.iri_templates.specs.declared.unifier.Meet.{Meet}
use Rattle.iri_templates.specs.declared.unifier.Meet.TheVariants.{Same, First, Second}
use Rattle.iri_templates.specs.Templates.{hole_texts}
use Rattle.mapping_facts.specs.declared.query.Place.{Place}
use Rattle.mapping_facts.specs.declared.query.Condition.{Condition}
use Rattle.mapping_facts.specs.declared.query.Condition.TheVariants.{Equal, EqualText}
use Rattle.mapping_facts.specs.declared.term.RowTerm.{RowTerm}
use Rattle.mapping_facts.specs.declared.term.RowTerm.TheVariants.{Iri, Cell as CellTerm, Fixed}
use Rattle.mapping_facts.specs.Facts.{term_at}
use Rattle.mapping_facts.specs.Fits.{ConditionFits, IsTextCell, PlaceFits}
use Rattle.mapping_facts.specs.Tuples.{condition_holds}

-- two terms that are defined are never equal, or just where the conditions hold
abbrev pub Decides : Option (List Condition) → (Place → Cell) → RowTerm → RowTerm → Type 0
Decides None cell r s = (t u : Term) → term_at cell r ≡ Some t → term_at cell s ≡ Some u → t ≡ u → ⊥
Decides (Some conditions) cell r s = (t u : Term) → term_at cell r ≡ Some t → term_at cell s ≡ Some u → (list_all (condition_holds cell) conditions ≡ true) ↔ (t ≡ u)

-- a template has one place for each hole
abbrev pub IsWhole : RowTerm → Type 0
IsWhole (Iri template places) = length places ≡ length (hole_texts template)
IsWhole (CellTerm kind place) = Unit {0}
IsWhole (Fixed term) = Unit {0}

abbrev pub term_places : RowTerm → List Place
term_places (Iri template places) = places
term_places (CellTerm kind place) = place ∷ []
term_places (Fixed term) = []

-- what two row terms ask to be equal, wherever cells are texts: never, or conditions on tables that they name
pub record Equates (r s : RowTerm) (conditions : Option (List Condition)) : Type 0 where
  pub decides : IsWhole r → IsWhole s → (cell : Place → Cell) → ((p : Place) → IsTextCell (cell p)) → Decides conditions cell r s
  pub fits : (n : ℕ) → All (PlaceFits n) (term_places r) → All (PlaceFits n) (term_places s) → IfSome conditions (All (ConditionFits n))

abbrev pub no_place : Place
no_place = record { table = 0; col = record { 0 = 0 } }

-- the holes of a condition have places
abbrev pub IsPlaced : ℕ → ℕ → Meet → Type 0
IsPlaced m n (Same i j) = (i < m) × (j < n)
IsPlaced m n (First i text) = i < m
IsPlaced m n (Second j text) = j < n

-- a condition on the holes of two templates, as one on their places
abbrev pub met_condition : List Place → List Place → Meet → Condition
met_condition ps qs (Same i j) = Equal (get_or ps i no_place) (get_or qs j no_place)
met_condition ps qs (First i text) = EqualText (get_or ps i no_place) text
met_condition ps qs (Second j text) = EqualText (get_or qs j no_place) text

-- each place has its text
abbrev pub text_conditions : List Place → List (List ℕ) → List Condition
text_conditions [] texts = []
text_conditions (p ∷ ps) [] = []
text_conditions (p ∷ ps) (text ∷ texts) = EqualText p text ∷ text_conditions ps texts
