-- Chains are short.
use Rattle.std.specs.Prelude.{ℕ, ◌<◌, ◌-◌, ◌^◌, List, length}
use Rattle.vocabulary.specs.declared.ids.LinkId.{LinkId}
use Rattle.vocabulary.specs.declared.ids.Dir.TheVariants.{Back}
use Rattle.vocabulary.specs.Lists.{In}
use Rattle.dllite_axioms.specs.declared.axioms.Axiom.{Axiom}
use Rattle.dllite_axioms.specs.Chains.{Under}

-- fewer numbers than there may be basics, and 32 bits hold each, counted from 1 too
pub record AreShort (numbers : List ℕ) : Type 0 where
  pub few : length numbers < 1600
  pub small : (k : ℕ) → In k numbers → k < 2 ^ 32 - 1

-- no fact of a link gives one of this link with its ends exchanged
abbrev pub IsUnturned : List Axiom → LinkId → Type 0
IsUnturned axioms p = (q : LinkId) → Under axioms q Back p → ⊥
