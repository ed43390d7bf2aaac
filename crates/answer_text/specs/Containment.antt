-- Whether a query is contained in another, as it is printed: by the number of a printed query that maps into it, counted from 1.
use Rattle.std.specs.Prelude.{ℕ, List, ◌++◌, codes, decimal, Option, Some, None}

abbrev pub cover_line : ℕ → List ℕ
cover_line number = codes "contained by " ++ decimal number ++ codes "\n"

abbrev pub containment_text : Option ℕ → List ℕ
containment_text (Some number) = cover_line number
containment_text None = codes "not contained\n"

abbrev pub containment_report : Option ℕ → List ℕ
containment_report (Some number) = codes "contained 1\n"
containment_report None = codes "contained 0\n"
