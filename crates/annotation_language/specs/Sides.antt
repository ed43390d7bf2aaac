-- The sorts of the places of each variable, as the code gathers them.
use Rattle.std.specs.Prelude.{ℕ, List, [], Vec}
use Rattle.std.specs.Borrow.{Bor}
use Rattle.std.specs.HashMap.{HashMap, get_by}
use Rattle.std.specs.Option.{option_map_or}
use Rattle.std.specs.Str.{bytes_eq}
use Rattle.vocabulary.specs.declared.ids.Side.{Side}
use Rattle.annotation_language.specs.declared.sides.Sides.{Sides}

-- the sorts that are noted for a variable, none where it is not there
abbrev pub noted_for : {A S : Type 0} → HashMap (Bor (List ℕ)) (Vec Side A) S → List ℕ → List Side
noted_for found v = option_map_or (λ g. g.items) (get_by (λ k. bytes_eq v k.now) found) []

unfoldable pub sides_in : Sides → List ℕ → List Side
sides_in sides v = noted_for sides.by_variable v
