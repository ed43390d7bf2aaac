-- By the places of the atoms.
use Rattle.std.proofs.Common.{◌≡◌, true}
use Rattle.vocabulary.specs.Lists.{In}
use Rattle.queries.specs.declared.query.Atom.{Atom}
use Rattle.query_subsumption.specs.Search.{SameSymbol}
use Rattle.query_subsumption.proofs.Places.{In-place, each_more}
use Rattle.query_subsumption.proofs.symbols.have_symbols.Goals as goal

pub returns-then-not-has_symbol : goal.returns-then-not-has_symbol
returns-then-not-has_symbol c = (
  λ h. absurd (cc),
  λ all.
      let w = all c.a-item.result (In-place c.args.wanted.now c.loop-a.a-index c.a-item.result c.loop-a-test.true c.a-item.is) in
      let h : c.has_symbol.result ≡ true = c.has_symbol.ensures.1 w in
      let k = c.if-not-has_symbol.true in cc,
)

pub loop-a-preserved : goal.loop-a-preserved
loop-a-preserved c =
    each_more (λ a. (b : Atom) × In b c.args.atoms.now × SameSymbol b a) c.args.wanted.now c.loop-a.a-index c.a-item.result c.loop-a-test.true c.a-item.is c.loop-a.invariant
    (c.has_symbol.ensures.0 c.if-not-has_symbol.false)
