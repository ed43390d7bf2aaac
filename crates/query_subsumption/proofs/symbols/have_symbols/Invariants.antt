-- Each symbol so far is among the atoms.
use Rattle.std.proofs.Common.{take}
use Rattle.vocabulary.specs.Lists.{In}
use Rattle.queries.specs.declared.query.Atom.{Atom}
use Rattle.query_subsumption.specs.Search.{SameSymbol}
use Rattle.query_subsumption.proofs.symbols.have_symbols.Given as goal

abbrev pub invariant-loop-a : goal.invariant-loop-a
invariant-loop-a l = (a : Atom) → In a (take l.a-index l.wanted) → (b : Atom) × In b l.atoms × SameSymbol b a
