-- A query over a model, with its variables in the order of their numbers and the sorts of its places.
use Rattle.std.specs.Prelude.{◌≡◌, ◌<◌, ◌^◌, ℕ, length, Bool, false, List, [], ◌∷◌, Option, Some, None, map}
use Rattle.std.specs.Borrow.{Bor}
use Rattle.std.specs.List.{flat_map}
use Rattle.std.specs.Str.{bytes_eq}
use Rattle.vocabulary.specs.declared.ids.Side.{Side}
use Rattle.uml_model.specs.Rules.{Known, class_named, link_named}
use Rattle.annotation_language.specs.declared.places.Placed.{Placed}
use Rattle.annotation_language.specs.declared.resolved.Resolved.{Resolved}
use Rattle.annotation_language.specs.Written as written
use Rattle.annotation_language.specs.Lines as lines
use Rattle.annotation_language.specs.Shown.{shown_argument, shown_query}

-- the texts behind references
abbrev pub texts : List (Bor (List ℕ)) → List (List ℕ)
texts names = map (λ name. name.now) names

abbrev pub shown_placed : Placed → lines.Placed
shown_placed placed = record { argument = shown_argument placed.argument; side = placed.side }

-- the places of an atom over a model
abbrev pub places_of : Known → written.Atom → List lines.Placed
places_of model = lines.places (class_named model) (link_named model)

-- the name of the atom is that of no class and no link of the model
unfoldable pub is_unknown : Known → written.Atom → Bool
is_unknown model atom = lines.unknown_name (class_named model) (link_named model) (lines.atom_name atom)

-- the variables and the places are those of the query
pub record IsResolved (model : Known) (r : Resolved) : Type 0 where
  pub variables : texts r.variables.items ≡ lines.variables_of (shown_query r.query.now)
  pub places : map shown_placed r.places.items ≡ lines.all_places (class_named model) (link_named model) (shown_query r.query.now)

-- the variables are those of the query, and 32 bits hold their numbers
pub record HasVariables (r : Resolved) : Type 0 where
  pub variables : texts r.variables.items ≡ lines.variables_of (shown_query r.query.now)
  pub few : length r.variables.items < 2 ^ 32

-- this variable stands at the place
abbrev pub is_of : List ℕ → lines.Placed → Bool
is_of v placed = stands placed.argument
  where
    stands : written.Argument → Bool
    stands written.Blank = false
    stands (written.Variable w) = bytes_eq v w
    stands (written.Constant text) = false
    stands (written.Iri text) = false

-- the sorts of the places at which a variable stands
abbrev pub sides_at : List ℕ → List lines.Placed → List Side
sides_at v places = flat_map (λ placed. lines.side_at v placed.argument placed.side) places

abbrev pub first_of : List Side → Option Side
first_of [] = None
first_of (side ∷ sides) = Some side
