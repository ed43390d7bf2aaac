-- Two rows of a table, one of the kind a, one of the kind b, that agree in column 0: there are none where it is a key.
use Rattle.std.proofs.Common.{◌≡◌, refl, Bool, true, false, List, [], ◌∷◌, codes, pos}
use Rattle.vocabulary.specs.declared.ids.ColId.{ColId}
use Rattle.source_tables.specs.Tables.{Loaded, col}
use Rattle.mapping_facts.specs.declared.query.Condition.{Condition}
use Rattle.mapping_facts.specs.declared.query.Condition.TheVariants.{Equal, EqualText}
use Rattle.mapping_facts.specs.declared.query.SourceQuery.{SourceQuery}
use Rattle.consistency_check.specs.Unsatisfiable.{at, is_unsatisfiable}

abbrev table : List (List ColId) → Loaded
table keys = record { decl = record { name = []; file = []; offset = pos 0; columns = []; keys = keys }; rows = [] }

abbrev two_rows : List Condition → SourceQuery
two_rows conditions = record { tables = record { 0 = 0 } ∷ record { 0 = 0 } ∷ []; conditions = conditions }

abbrev alike : List Condition
alike = Equal (at 0 (col 0)) (at 1 (col 0)) ∷ EqualText (at 0 (col 1)) (codes "a") ∷ EqualText (at 1 (col 1)) (codes "b") ∷ []

by_key : is_unsatisfiable (table ((col 0 ∷ []) ∷ []) ∷ []) (two_rows alike) ≡ true
by_key = refl

without_key : is_unsatisfiable (table [] ∷ []) (two_rows alike) ≡ false
without_key = refl

-- a key of two columns, of which one is not set equal
part_of_key : is_unsatisfiable (table ((col 0 ∷ col 2 ∷ []) ∷ []) ∷ []) (two_rows alike) ≡ false
part_of_key = refl
