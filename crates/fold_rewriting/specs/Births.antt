-- Looking for a birth among the ends of links.
use Rattle.std.specs.Prelude.{Bool, false, nat_eq, Option, Some, None}
use Rattle.vocabulary.specs.declared.ids.LinkId.{LinkId}
use Rattle.vocabulary.specs.declared.ids.Dir.{Dir}
use Rattle.vocabulary.specs.declared.ids.Dir.TheVariants.{Fwd, Back}
use Rattle.dllite_axioms.specs.declared.axioms.Basic.{Basic}
use Rattle.dllite_axioms.specs.declared.axioms.Basic.TheVariants.{Class, Has}
use Rattle.dllite_axioms.specs.Basics.{other}

-- what has the other end of a link is what a birth at the link has as its fresh term
abbrev pub birth_to : Basic → Option (LinkId × Dir)
birth_to (Class a) = None
birth_to (Has p d) = Some (p, other d)

abbrev pub same_end : LinkId × Dir → LinkId × Dir → Bool
same_end (p, Fwd) (q, Fwd) = nat_eq p.0 q.0
same_end (p, Fwd) (q, Back) = false
same_end (p, Back) (q, Fwd) = false
same_end (p, Back) (q, Back) = nat_eq p.0 q.0

abbrev pub is_birth_to : LinkId × Dir → Basic → Bool
is_birth_to birth (Class a) = false
is_birth_to birth (Has p d) = same_end birth (p, other d)
