-- By the places of the atoms.
use Rattle.std.proofs.Common.{◌≡◌, true, refl}
use Rattle.query_subsumption.specs.Search.{SameSymbol}
use Rattle.query_subsumption.proofs.Places.{In-place, each_all, each_more}
use Rattle.query_subsumption.proofs.symbols.has_symbol.Goals as goal

pub returns-then-same_symbol : goal.returns-then-same_symbol
returns-then-same_symbol c =
    (λ h. (c.b-item.result, In-place c.args.atoms.now c.loop-b.b-index c.b-item.result c.loop-b-test.true c.b-item.is, c.same_symbol.ensures.0 c.if-same_symbol.true), λ h. refl)

pub loop-b-preserved : goal.loop-b-preserved
loop-b-preserved c =
    each_more (λ b. SameSymbol b c.args.wanted.now → ⊥) c.args.atoms.now c.loop-b.b-index c.b-item.result c.loop-b-test.true c.b-item.is c.loop-b.invariant
    (λ s. let h : c.same_symbol.result ≡ true = c.same_symbol.ensures.1 s in let k = c.if-same_symbol.false in absurd (cc))

pub returns : goal.returns
returns c =
    (λ h. absurd (cc), λ w. absurd (each_all (λ b. SameSymbol b c.args.wanted.now → ⊥) c.args.atoms.now c.loop-b.b-index c.loop-b-test.false c.loop-b.invariant w.0 w.1 w.2))
