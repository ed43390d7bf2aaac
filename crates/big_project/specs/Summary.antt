-- The summary of a report.
use Rattle.std.specs.Prelude.{ℕ, ◌==◌, not, List, ◌++◌, codes}
use Rattle.std.specs.List.{take_while}

-- the first line of a text, with its end
abbrev pub first_line : List ℕ → List ℕ
first_line text = take_while (λ b. not (b == 10)) text ++ codes "\n"
