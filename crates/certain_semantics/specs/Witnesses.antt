-- Matches in derived facts, and what they cost.
use Rattle.std.specs.Prelude.{ℕ, suc, ◌+◌, List, [], ◌∷◌}
use Rattle.vocabulary.specs.declared.term.Fact.{Fact}
use Rattle.vocabulary.specs.Lists.{In}
use Rattle.dllite_axioms.specs.declared.axioms.Axiom.{Axiom}
use Rattle.dllite_axioms.specs.Chase.{Derived, height}
use Rattle.queries.specs.declared.query.Atom.{Atom}
use Rattle.queries.specs.Matches.{Terms, AtomIs}

-- each atom stands for a derived fact
abbrev pub Held : List Axiom → List Fact → Terms → List Atom → Type 0
Held axioms facts σ atoms = (a : Atom) → In a atoms → (f : Fact) × Derived axioms facts f × AtomIs σ a f

-- a derivation for each atom, of a fact for which it stands
pub data Witnessed (axioms : List Axiom) (facts : List Fact) (σ : Terms) : List Atom → Type 0 where
  no_atoms : Witnessed axioms facts σ []
  one_atom : {a : Atom} {more : List Atom} (f : Fact) → Derived axioms facts f → AtomIs σ a f → Witnessed axioms facts σ more → Witnessed axioms facts σ (a ∷ more)

-- one for each atom, and one for each axiom applied
abbrev pub cost : {axioms : List Axiom} {facts : List Fact} {σ : Terms} {atoms : List Atom} → Witnessed axioms facts σ atoms → ℕ
cost no_atoms = 0
cost (one_atom f d i w) = suc (height d) + cost w
