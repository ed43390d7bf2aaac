-- Fold steps as they are found: by the births that give an atom at one of its ends.
use Rattle.std.specs.Prelude.{ℕ, ◌≡◌, ◌↔◌, true, false, ◌++◌, ◌⊎◌, List, map, Some, slice_get}
use Rattle.vocabulary.specs.declared.ids.LinkId.{LinkId}
use Rattle.vocabulary.specs.declared.ids.VarId.{VarId}
use Rattle.vocabulary.specs.declared.ids.Dir.{Dir}
use Rattle.vocabulary.specs.Lists.{In}
use Rattle.dllite_axioms.specs.declared.axioms.Basic.{Basic}
use Rattle.dllite_axioms.specs.declared.axioms.Basic.TheVariants.{Has}
use Rattle.dllite_axioms.specs.declared.axioms.Axiom.{Axiom}
use Rattle.dllite_axioms.specs.declared.axioms.Axiom.TheVariants.{Sub}
use Rattle.queries.specs.declared.query.Arg.{Arg}
use Rattle.queries.specs.declared.query.Arg.TheVariants.{Blank, Var, Fixed}
use Rattle.queries.specs.declared.query.Atom.{Atom}
use Rattle.queries.specs.declared.query.Query.{Query}
use Rattle.negative_closure.specs.Chains.{NoneTwice}
use Rattle.fold_rewriting.specs.declared.cutting.Cut.{Cut}
use Rattle.fold_rewriting.specs.declared.steps.FoldStep.{FoldStep as Told}
use Rattle.fold_rewriting.specs.Cutting.{is_var, has_var, cut_of, is_free, folded}
use Rattle.fold_rewriting.specs.Places.{arg_at, beside, IsBorn}

-- the variable is not in the atom, or it is at one end, and a birth at (p, d) gives the atom with the fresh term there
abbrev pub IsPart : List Axiom → LinkId → Dir → VarId → Atom → Type 0
IsPart axioms p d v a = (has_var v a ≡ false) ⊎ ((e : Dir) × (arg_at a e ≡ Some (Var v)) × (is_var v (beside a e) ≡ false) × IsBorn axioms p d a e)

-- a birth at (p, d) gives each atom of the argument that stands at an end of an atom
abbrev pub AreBorn : List Axiom → LinkId → Dir → Query → Atom → Dir → Arg → Type 0
AreBorn axioms p d q a e Blank = IsBorn axioms p d a e
AreBorn axioms p d q a e (Var v) = (b : Atom) → In b q.atoms → IsPart axioms p d v b
AreBorn axioms p d q a e (Fixed t) = ⊥

-- an argument that may be folded stands at this end of this atom
pub record IsFree (q : Query) (i : ℕ) (e : Dir) : Type 0 where
  pub atom : Atom
  pub is : slice_get q.atoms i ≡ Some atom
  pub arg : Arg
  pub stands : arg_at atom e ≡ Some arg
  pub free : is_free q i arg ≡ true

-- a birth gives each atom of the argument at this end, and this is left without them
pub record IsCut (axioms : List Axiom) (birth : LinkId × Dir) (q : Query) (i : ℕ) (e : Dir) (c : Cut) : Type 0 where
  pub spot : IsFree q i e
  pub born : AreBorn axioms birth.0 birth.1 q spot.atom e spot.arg
  pub rest : cut_of q i (beside spot.atom e) spot.arg ≡ Some c

-- a fold step and what it gives
pub record IsFound (axioms : List Axiom) (q : Query) (s : Told) (r : Query) : Type 0 where
  pub by : In (Sub s.left (Has s.link s.dir)) axioms
  pub cut : Cut
  pub rest : IsCut axioms (s.link, s.dir) q s.atom s.end cut
  pub made : r ≡ folded cut s.left

-- the fold steps for which C holds were added, each once
pub record AreAdded (C : Told → Type 0) (axioms : List Axiom) (q : Query) (old new : List (Told × Query)) : Type 0 where
  pub more : List (Told × Query)
  pub made : new ≡ old ++ more
  pub each : (s : Told) (r : Query) → In {X = Told × Query} (s, r) more ↔ (C s × IsFound axioms q s r)
  pub once : NoneTwice (map (λ step. step.0) more)

-- the step is by this birth at this end
abbrev pub IsBy : LinkId × Dir → ℕ → Dir → Told → Type 0
IsBy birth i e s = (s.link ≡ birth.0) × (s.dir ≡ birth.1) × (s.atom ≡ i) × (s.end ≡ e)

-- the step by this left side, and what it gives
abbrev pub told : LinkId × Dir → ℕ → Dir → Cut → Basic → Told × Query
told birth i e c l = (record { link = birth.0; dir = birth.1; left = l; atom = i; end = e }, folded c l)
