-- The grammar: the lines of derivations, and which derivations they can spell.
use Rattle.std.specs.Prelude.{◌≡◌, ◌<◌, ◌≤◌, ◌+◌, ◌^◌, ℕ, Bool, true, false, List, [], ◌∷◌, ◌++◌, filter, length, map, Some}
use Rattle.std.specs.List.{flat_map, list_all}
use Rattle.line_lexer.specs.Lines.{lines_of}
use Rattle.line_lexer.specs.Tokens.{tokens_of}
use Rattle.vocabulary.specs.Lists.{In}
use Rattle.conflict_checker.specs.declared.derivation.Step.{Step}
use Rattle.conflict_checker.specs.declared.derivation.Step.TheVariants as steps
use Rattle.conflict_checker.specs.declared.derivation.Derivation.{Derivation}
use Rattle.derivation_text.specs.declared.said.Said.{Said}
use Rattle.derivation_text.specs.declared.said.Said.TheVariants.{Nothing, Conflict, Mapped, Rule, Clash, End, Unreadable}
use Rattle.derivation_text.specs.Reading.{is_step, said_by, steps_limit}

-- the line of step k
abbrev pub step_said : ℕ → Step → Said
step_said k (steps.Mapped m target rows) = Mapped k (Some m) target rows
step_said k (steps.Rule a j) = Rule k a j

-- the lines of steps from number k on
abbrev pub steps_said : ℕ → List Step → List Said
steps_said k [] = []
steps_said k (step ∷ more) = step_said k step ∷ steps_said (k + 1) more

-- the lines of a derivation: its constraint, its steps, and the steps that clash
abbrev pub derivation_said : Derivation → List Said
derivation_said d = Conflict d.constraint ∷ (steps_said 1 d.steps ++ (Clash d.ends ∷ []))

-- the lines of derivations, and an end
abbrev pub derivations_said : List Derivation → List Said
derivations_said ds = flat_map derivation_said ds ++ (End ∷ [])

abbrev pub says_something : Said → Bool
says_something Nothing = false
says_something (Conflict c) = true
says_something (Mapped k mapping target rows) = true
says_something (Rule k a j) = true
says_something (Clash ends) = true
says_something End = true
says_something Unreadable = true

-- what the lines of a text say that say something, where the mappings have these names
abbrev pub text_said : List (List ℕ) → List ℕ → List Said
text_said names text = filter says_something (map (λ line. said_by names (tokens_of line)) (lines_of text))

-- the lines of the text that say something are those of the derivations, and an end
abbrev pub Spells : List (List ℕ) → List ℕ → List Derivation → Type 0
Spells names text ds = text_said names text ≡ derivations_said ds

-- 32 bits hold each number
abbrev pub AreSmall : List ℕ → Type 0
AreSmall numbers = (n : ℕ) → In n numbers → n < 2 ^ 32

-- a k-th step, of one of so many mappings and with a row, or of an earlier step
abbrev pub IsSpelledStep : ℕ → ℕ → Step → Type 0
IsSpelledStep count k (steps.Mapped m target rows) = (1 ≤ m) × (m ≤ count) × (target < 2 ^ 32) × (1 ≤ length rows) × AreSmall rows
IsSpelledStep count k (steps.Rule a step) = (a < 2 ^ 32) × (1 ≤ step) × (step < k)

abbrev pub AreSpelledSteps : ℕ → ℕ → List Step → Type 0
AreSpelledSteps count k [] = Unit {0}
AreSpelledSteps count k (step ∷ more) = IsSpelledStep count k step × AreSpelledSteps count (k + 1) more

-- a derivation over so many mappings: it has a step and not too many, and at least two ends, which are its steps
pub record IsWellFormed (count : ℕ) (d : Derivation) : Type 0 where
  pub constraint : d.constraint < 2 ^ 32
  pub some : 1 ≤ length d.steps
  pub few : length d.steps ≤ steps_limit
  pub steps : AreSpelledSteps count 1 d.steps
  pub two : 2 ≤ length d.ends
  pub ends : list_all (is_step (length d.steps)) d.ends ≡ true

abbrev pub AreWellFormed : ℕ → List Derivation → Type 0
AreWellFormed count ds = (d : Derivation) → In d ds → IsWellFormed count d
