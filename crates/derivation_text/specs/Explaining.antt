-- The text that an explanation is written as: its steps as in a derivation, and for each atom of the query the step that has its fact.
use Rattle.std.specs.Prelude.{ℕ, ◌+◌, List, [], ◌∷◌, ◌++◌, codes}
use Rattle.conflict_checker.specs.declared.derivation.Step.{Step}
use Rattle.derivation_text.specs.Writing.{lines_text, spaced, step_lines}

abbrev pub atom_line : ℕ → ℕ → List ℕ
atom_line k step = codes "atom" ++ spaced k ++ codes " step" ++ spaced step

-- the lines of atoms from number k on
abbrev pub atom_lines : ℕ → List ℕ → List (List ℕ)
atom_lines k [] = []
atom_lines k (step ∷ steps) = atom_line k step ∷ atom_lines (k + 1) steps

-- the lines of an explanation, where the mappings have these names
abbrev pub explanation_lines : List (List ℕ) → List Step → List ℕ → List (List ℕ)
explanation_lines names steps atoms = step_lines names 1 steps ++ (atom_lines 1 atoms ++ (codes "end" ∷ []))

-- the text of an explanation
abbrev pub explanation_text : List (List ℕ) → List Step → List ℕ → List ℕ
explanation_text names steps atoms = lines_text (explanation_lines names steps atoms)
