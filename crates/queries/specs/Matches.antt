-- Matches of a query in a list of facts.
use Rattle.std.specs.Prelude.{◌≡◌, List}
use Rattle.vocabulary.specs.declared.ids.VarId.{VarId}
use Rattle.vocabulary.specs.declared.term.Term.{Term}
use Rattle.vocabulary.specs.declared.term.Fact.{Fact}
use Rattle.vocabulary.specs.declared.term.Fact.TheVariants.{InClass as ClassFact, Linked as LinkFact}
use Rattle.vocabulary.specs.Lists.{In, Pairwise}
use Rattle.queries.specs.declared.query.Arg.{Arg}
use Rattle.queries.specs.declared.query.Arg.TheVariants.{Blank, Var, Fixed}
use Rattle.queries.specs.declared.query.Atom.{Atom}
use Rattle.queries.specs.declared.query.Atom.TheVariants.{InClass, Linked}
use Rattle.queries.specs.declared.query.Query.{Query}

-- a term for each variable
abbrev pub Terms : Type 0
Terms = VarId → Term

-- an argument stands for a term: a variable for its own, a Blank for any
abbrev pub ArgIs : Terms → Arg → Term → Type 0
ArgIs σ Blank t = Unit {0}
ArgIs σ (Var v) t = σ v ≡ t
ArgIs σ (Fixed u) t = u ≡ t

-- an atom stands for a fact
abbrev pub AtomIs : Terms → Atom → Fact → Type 0
AtomIs σ (InClass a x) (ClassFact b t) = (a ≡ b) × ArgIs σ x t
AtomIs σ (InClass a x) (LinkFact q s t) = ⊥
AtomIs σ (Linked p x y) (ClassFact b t) = ⊥
AtomIs σ (Linked p x y) (LinkFact q s t) = (p ≡ q) × ArgIs σ x s × ArgIs σ y t

-- each atom stands for a fact of the list
abbrev pub Matched : List Fact → Terms → List Atom → Type 0
Matched facts σ atoms = (a : Atom) → In a atoms → (f : Fact) × In f facts × AtomIs σ a f

-- the tuple is the image of the head
abbrev pub HeadIs : Terms → List Arg → List Term → Type 0
HeadIs σ head tuple = Pairwise (ArgIs σ) head tuple

-- the terms match the query in the facts, and send its head to the tuple
pub record IsMatch (facts : List Fact) (q : Query) (tuple : List Term) (σ : Terms) : Type 0 where
  pub atoms : Matched facts σ q.atoms
  pub head : HeadIs σ q.head tuple
