-- Assigning facts to atoms.
use Rattle.std.specs.Prelude.{◌≡◌, ℕ, List, ◌++◌, length, take, drop, Some, slice_get}
use Rattle.vocabulary.specs.declared.term.Fact.{Fact}
use Rattle.vocabulary.specs.Lists.{Pairwise}
use Rattle.queries.specs.declared.query.Atom.{Atom}
use Rattle.queries.specs.Matches.{AtomIs, Matched, Terms}
use Rattle.why_answers.specs.Reading.{AtomReads}

-- the facts at these places, counted from 0
abbrev pub AreAt : List Fact → List ℕ → List Fact → Type 0
AreAt facts places named = Pairwise (λ k f. slice_get facts k ≡ Some f) places named

-- the first atoms and their facts are read by one replacement
abbrev pub FrontReads : List Atom → List Fact → Type 0
FrontReads atoms named = Pairwise (AtomReads (take (length named) atoms) named) (take (length named) atoms) named

-- no replacement takes the first atoms to these facts, in order, and the others to any of the facts
abbrev pub NoneReads : List Atom → List Fact → List Fact → Type 0
NoneReads atoms facts named = (σ : Terms) → Pairwise (AtomIs σ) (take (length named) atoms) named → Matched facts σ (drop (length named) atoms) → ⊥

-- facts at these places, with which the atoms and their facts are read by one replacement
pub record ReadAt (atoms : List Atom) (facts named : List Fact) (places : List ℕ) : Type 0 where
  pub more : List Fact
  pub at : AreAt facts places more
  pub reads : Pairwise (AtomReads atoms (named ++ more)) atoms (named ++ more)
