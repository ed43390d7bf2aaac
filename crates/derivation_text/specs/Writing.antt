-- The text that a list of derivations is written as.
use Rattle.std.specs.Prelude.{ℕ, ◌+◌, List, [], ◌∷◌, ◌++◌, codes, decimal}
use Rattle.std.specs.List.{flat_map}
use Rattle.conflict_checker.specs.declared.derivation.Step.{Step}
use Rattle.conflict_checker.specs.declared.derivation.Step.TheVariants.{Mapped, Rule}
use Rattle.conflict_checker.specs.declared.derivation.Derivation.{Derivation}
use Rattle.vocabulary.specs.Lists.{item}
use Rattle.line_lexer.specs.Judging.{text_or_none}

-- a number behind a space
abbrev pub spaced : ℕ → List ℕ
spaced n = codes " " ++ decimal n

-- the line of step k, where the mappings have these names
unfoldable pub step_line : List (List ℕ) → ℕ → Step → List ℕ
step_line names k (Mapped m target rows) = decimal k ++ codes " map " ++ text_or_none (item names m) ++ spaced target ++ codes " rows" ++ flat_map spaced rows
step_line names k (Rule a step) = decimal k ++ codes " rule" ++ spaced a ++ codes " from" ++ spaced step

-- the lines of steps from number k on
abbrev pub step_lines : List (List ℕ) → ℕ → List Step → List (List ℕ)
step_lines names k [] = []
step_lines names k (step ∷ steps) = step_line names k step ∷ step_lines names (k + 1) steps

abbrev pub conflict_line : ℕ → List ℕ
conflict_line constraint = codes "conflict" ++ spaced constraint

abbrev pub clash_line : List ℕ → List ℕ
clash_line ends = codes "clash" ++ flat_map spaced ends

abbrev pub derivation_lines : List (List ℕ) → Derivation → List (List ℕ)
derivation_lines names d = conflict_line d.constraint ∷ (step_lines names 1 d.steps ++ (clash_line d.ends ∷ []))

-- the lines of derivations, where the mappings have these names
abbrev pub derivations_lines : List (List ℕ) → List Derivation → List (List ℕ)
derivations_lines names ds = flat_map (derivation_lines names) ds ++ (codes "end" ∷ [])

-- lines, each with its end
unfoldable pub lines_text : List (List ℕ) → List ℕ
lines_text lines = flat_map (λ line. line ++ codes "\n") lines

-- the text of derivations
abbrev pub derivations_text : List (List ℕ) → List Derivation → List ℕ
derivations_text names ds = lines_text (derivations_lines names ds)
