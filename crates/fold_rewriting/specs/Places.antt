-- The ends of atoms, and what is born there.
use Rattle.std.specs.Prelude.{Option, Some, None, List}
use Rattle.vocabulary.specs.declared.ids.LinkId.{LinkId}
use Rattle.vocabulary.specs.declared.ids.Dir.{Dir}
use Rattle.vocabulary.specs.declared.ids.Dir.TheVariants.{Fwd, Back}
use Rattle.dllite_axioms.specs.declared.axioms.Basic.TheVariants.{Class, Has}
use Rattle.dllite_axioms.specs.declared.axioms.Axiom.{Axiom}
use Rattle.dllite_axioms.specs.Basics.{other, turn}
use Rattle.dllite_axioms.specs.Chains.{Chain, Under}
use Rattle.queries.specs.declared.query.Arg.{Arg}
use Rattle.queries.specs.declared.query.Arg.TheVariants.{Blank}
use Rattle.queries.specs.declared.query.Atom.{Atom}
use Rattle.queries.specs.declared.query.Atom.TheVariants.{InClass, Linked}

-- the argument at an end of an atom: of a link its second place for `Fwd`, its first for `Back`; of a class its only place, for `Fwd`
abbrev pub arg_at : Atom → Dir → Option Arg
arg_at (InClass a x) Fwd = Some x
arg_at (InClass a x) Back = None
arg_at (Linked p x y) Fwd = Some y
arg_at (Linked p x y) Back = Some x

-- the argument at the other end, a Blank for a class
abbrev pub beside : Atom → Dir → Arg
beside (InClass a x) e = Blank
beside (Linked p x y) Fwd = x
beside (Linked p x y) Back = y

-- the birth of a fresh term at (p, d) gives a fact of the atom's class or link, with the fresh term at this end
abbrev pub IsBorn : List Axiom → LinkId → Dir → Atom → Dir → Type 0
IsBorn axioms p d (InClass a x) e = Chain axioms (Has p (other d)) (Class a)
IsBorn axioms p d (Linked q x y) e = Under axioms p (turn d e) q
