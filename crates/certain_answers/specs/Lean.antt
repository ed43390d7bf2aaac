-- Queries without class atoms that their link atoms ask for anyway, by the axioms.
use Rattle.std.specs.Prelude.{◌≡◌, ◌≤◌, ◌⊎◌, List, [], ◌∷◌, ◌++◌, length}
use Rattle.vocabulary.specs.declared.ids.ClassId.{ClassId}
use Rattle.vocabulary.specs.declared.ids.LinkId.{LinkId}
use Rattle.vocabulary.specs.declared.ids.Dir.TheVariants.{Fwd, Back}
use Rattle.vocabulary.specs.Lists.{In}
use Rattle.dllite_axioms.specs.declared.axioms.Axiom.{Axiom}
use Rattle.dllite_axioms.specs.declared.axioms.Basic.TheVariants.{Class, Has}
use Rattle.dllite_axioms.specs.Chains.{Chain}
use Rattle.queries.specs.declared.query.Arg.{Arg}
use Rattle.queries.specs.declared.query.Atom.{Atom}
use Rattle.queries.specs.declared.query.Atom.TheVariants.{InClass, Linked}
use Rattle.queries.specs.declared.query.Query.{Query}

-- what has the link has the class: at the argument of its first or of its second place
pub data Asks (axioms : List Axiom) : Atom → ClassId → Arg → Type 0 where
  at_first : {p : LinkId} {c : ClassId} {x y : Arg} → Chain axioms (Has p Fwd) (Class c) → Asks axioms (Linked p x y) c x
  at_second : {p : LinkId} {c : ClassId} {x y : Arg} → Chain axioms (Has p Back) (Class c) → Asks axioms (Linked p x y) c y

-- one of the atoms asks for the class
abbrev pub SomeAsks : List Axiom → List Atom → ClassId → Arg → Type 0
SomeAsks axioms atoms c x = (b : Atom) × In b atoms × Asks axioms b c x

-- the atom is a class atom for which one of the atoms asks
abbrev pub IsAsked : List Axiom → List Atom → Atom → Type 0
IsAsked axioms atoms a = (c : ClassId) × (x : Arg) × (a ≡ InClass c x) × SomeAsks axioms atoms c x

-- atoms without some that are asked for
pub record AreLean (axioms : List Axiom) (all given lean : List Atom) : Type 0 where
  pub from : (a : Atom) → In a lean → In a given
  pub rest : (a : Atom) → In a given → In a lean ⊎ IsAsked axioms all a
  pub few : length lean ≤ length given

-- the query without some atoms that are asked for
pub record IsLean (axioms : List Axiom) (q lean : Query) : Type 0 where
  pub head : lean.head ≡ q.head
  pub atoms : AreLean axioms q.atoms q.atoms lean.atoms

-- the queries, each without some atoms that are asked for
pub record AllLean (axioms : List Axiom) (queries leans : List Query) : Type 0 where
  pub each : (m : Query) → In m leans → (q : Query) × In q queries × IsLean axioms q m
  pub all : (q : Query) → In q queries → (m : Query) × In m leans × IsLean axioms q m

-- the atom was put behind the others, or it is asked for
abbrev pub Treats : List Axiom → List Atom → Atom → List Atom → List Atom → Type 0
Treats axioms all a old new = (new ≡ old ++ a ∷ []) ⊎ ((new ≡ old) × IsAsked axioms all a)
