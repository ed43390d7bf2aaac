-- The fold steps of a query, each with its axiom and the end of an atom at which it is taken.
use Rattle.std.specs.Prelude.{ℕ, ◌≡◌, ◌↔◌, List, ◌∷◌, map, take, Some, slice_get}
use Rattle.std.specs.List.{remove}
use Rattle.vocabulary.specs.declared.ids.VarId.{VarId}
use Rattle.vocabulary.specs.declared.ids.Dir.{Dir}
use Rattle.vocabulary.specs.Lists.{In}
use Rattle.dllite_axioms.specs.declared.axioms.Basic.TheVariants.{Has}
use Rattle.dllite_axioms.specs.declared.axioms.Axiom.{Axiom}
use Rattle.dllite_axioms.specs.declared.axioms.Axiom.TheVariants.{Sub}
use Rattle.queries.specs.declared.query.Arg.{Arg}
use Rattle.queries.specs.declared.query.Arg.TheVariants.{Blank, Var}
use Rattle.queries.specs.declared.query.Atom.{Atom}
use Rattle.queries.specs.declared.query.Query.{Query}
use Rattle.queries.specs.declared.unify.Change.{Change}
use Rattle.queries.specs.Normal.{normal_form}
use Rattle.queries.specs.Occurrences.{count, head_count}
use Rattle.negative_closure.specs.Chains.{NoneTwice}
use Rattle.perfect_rewriting.specs.Reach.{query_at}
use Rattle.perfect_rewriting.specs.Steps.{atom_of}
use Rattle.fold_rewriting.specs.declared.steps.FoldStep.{FoldStep as Told}
use Rattle.fold_rewriting.specs.Folds.{MeetAll, changed_all, changed_atom_all, Parts, FoldStep}
use Rattle.fold_rewriting.specs.Places.{arg_at, beside, IsBorn}

-- the variable stands at this end of this atom, and in no atom before it
pub record IsFirst (v : VarId) (atoms : List Atom) (i : ℕ) (e : Dir) : Type 0 where
  pub atom : Atom
  pub is : slice_get atoms i ≡ Some atom
  pub stands : arg_at atom e ≡ Some (Var v)
  pub none_before : count v (take i atoms) ≡ 0

-- a fold step as it is told, and the normal form of what it gives
pub data FoldAt (axioms : List Axiom) (q : Query) (s : Told) : Query → Type 0 where
  at_var : {parents : List Arg} {rest : List Atom} {cs : List Change} {z : Arg} (v : VarId) → In (Sub s.left (Has s.link s.dir)) axioms → head_count v q.head ≡ 0 →
      IsFirst v q.atoms s.atom s.end → Parts axioms s.link s.dir v q.atoms parents rest → MeetAll Blank parents cs z →
      FoldAt axioms q s (normal_form (query_at (map (changed_all cs) q.head) (atom_of s.left z ∷ map (changed_atom_all cs) rest)))
  at_blank : (a : Atom) → In (Sub s.left (Has s.link s.dir)) axioms → slice_get q.atoms s.atom ≡ Some a → arg_at a s.end ≡ Some Blank → IsBorn axioms s.link s.dir a s.end →
      FoldAt axioms q s (normal_form (query_at q.head (atom_of s.left (beside a s.end) ∷ remove q.atoms s.atom)))

-- the normal form of what some fold step gives
abbrev pub IsFold : List Axiom → Query → Query → Type 0
IsFold axioms q r = (head : List Arg) × (result : List Atom) × FoldStep axioms q.head q.atoms head result × (r ≡ normal_form (query_at head result))

-- all fold steps of a query with what they give, none twice
pub record AreFoldSteps (axioms : List Axiom) (q : Query) (steps : List (Told × Query)) : Type 0 where
  pub each : (s : Told) (r : Query) → In {X = Told × Query} (s, r) steps ↔ FoldAt axioms q s r
  pub once : NoneTwice (map (λ step. step.0) steps)
