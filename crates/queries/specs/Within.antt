-- Queries over so many classes and links.
use Rattle.std.specs.Prelude.{ℕ, ◌<◌}
use Rattle.vocabulary.specs.Lists.{In}
use Rattle.queries.specs.declared.query.Atom.{Atom}
use Rattle.queries.specs.declared.query.Atom.TheVariants.{InClass, Linked}
use Rattle.queries.specs.declared.query.Query.{Query}

-- the class or the link of the atom is one of so many
abbrev pub IsAtomWithin : ℕ → ℕ → Atom → Type 0
IsAtomWithin classes links (InClass c a) = c.0 < classes
IsAtomWithin classes links (Linked p a b) = p.0 < links

-- and so for each atom
abbrev pub IsQueryWithin : ℕ → ℕ → Query → Type 0
IsQueryWithin classes links q = (a : Atom) → In a q.atoms → IsAtomWithin classes links a
