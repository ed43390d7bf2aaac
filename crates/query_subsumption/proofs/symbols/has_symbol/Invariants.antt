-- No atom so far has the symbol.
use Rattle.std.proofs.Common.{take}
use Rattle.vocabulary.specs.Lists.{In}
use Rattle.queries.specs.declared.query.Atom.{Atom}
use Rattle.query_subsumption.specs.Search.{SameSymbol}
use Rattle.query_subsumption.proofs.symbols.has_symbol.Given as goal

abbrev pub invariant-loop-b : goal.invariant-loop-b
invariant-loop-b l = (b : Atom) → In b (take l.b-index l.atoms) → SameSymbol b l.wanted → ⊥
