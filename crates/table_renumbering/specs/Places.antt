-- The places that conditions and terms speak of.
use Rattle.std.specs.Prelude.{List, [], ◌∷◌}
use Rattle.mapping_facts.specs.declared.query.Place.{Place}
use Rattle.mapping_facts.specs.declared.query.Condition.{Condition}
use Rattle.mapping_facts.specs.declared.query.Condition.TheVariants.{Equal, EqualText, Differ, DifferText, IsNull, NotNull}
use Rattle.mapping_facts.specs.declared.term.RowTerm.{RowTerm}
use Rattle.mapping_facts.specs.declared.term.RowTerm.TheVariants.{Iri, Cell, Fixed}

abbrev pub condition_places : Condition → List Place
condition_places (Equal p q) = p ∷ q ∷ []
condition_places (EqualText p text) = p ∷ []
condition_places (Differ p q) = p ∷ q ∷ []
condition_places (DifferText p text) = p ∷ []
condition_places (IsNull p) = p ∷ []
condition_places (NotNull p) = p ∷ []

abbrev pub term_places : RowTerm → List Place
term_places (Iri template places) = places
term_places (Cell kind place) = place ∷ []
term_places (Fixed term) = []
