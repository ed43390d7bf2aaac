-- Putting steps behind others, each once.
use Rattle.std.specs.Prelude.{◌≡◌, ℕ, ◌+◌, List, [], ◌∷◌, ◌++◌, length, Some, ◌⊎◌}
use Rattle.vocabulary.specs.Lists.{item}
use Rattle.conflict_checker.specs.declared.derivation.Step.{Step}
use Rattle.conflict_checker.specs.declared.derivation.Step.TheVariants.{Mapped, Rule}

-- the step stands at this number: it did so before, or it is put at the end
abbrev pub Puts : List Step → List Step → Step → ℕ → Type 0
Puts old new s n = ((new ≡ old) × (item old n ≡ Some s)) ⊎ ((new ≡ old ++ s ∷ []) × (n ≡ length old + 1))

-- rules by axioms with these numbers, counted from 0, the first at this step and each further one at the one before; the last stands at this number
pub data PutsChain : List ℕ → ℕ → List Step → List Step → ℕ → Type 0 where
  no_rule : {j n : ℕ} {old new : List Step} → new ≡ old → n ≡ j → PutsChain [] j old new n
  one_rule : {k j i n : ℕ} {chain : List ℕ} {old between new : List Step} → Puts old between (Rule (k + 1) j) i → PutsChain chain i between new n → PutsChain (k ∷ chain) j old new n

-- a rule at another step
abbrev pub moved : ℕ → Step → Step
moved j (Mapped mapping target rows) = Mapped mapping target rows
moved j (Rule number step) = Rule number j

-- steps in which each rule is at the step before, the first at this one; the last stands at this number
pub data PutsBehind : List Step → ℕ → List Step → List Step → ℕ → Type 0 where
  no_step : {j n : ℕ} {old new : List Step} → new ≡ old → n ≡ j → PutsBehind [] j old new n
  one_step : {s : Step} {j i n : ℕ} {more old between new : List Step} → Puts old between (moved j s) i → PutsBehind more i between new n → PutsBehind (s ∷ more) j old new n
