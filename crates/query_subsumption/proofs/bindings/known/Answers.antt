-- By the places of the bindings.
use Rattle.std.proofs.Common.{◌≡◌, ◌≢◌, ◌∙◌, sym, subst, arith}
use Rattle.query_subsumption.specs.Numbered.{as_arg}
use Rattle.query_subsumption.proofs.Places.{In-place, each_all, each_more}
use Rattle.query_subsumption.proofs.Solving.{var}
use Rattle.query_subsumption.proofs.bindings.known.Goals as goal

pub returns-then-b-number-clause-bound : goal.returns-then-b-number-clause-bound
returns-then-b-number-clause-bound c θ agrees =
    let n : c.b-item.result.number ≡ c.args.number = omega arith in
    let e : θ (var c.args.number) ≡ as_arg c.b-item.result.image =
    subst (λ k. θ (var k) ≡ as_arg c.b-item.result.image) n
    (agrees c.b-item.result (In-place c.args.bindings.now c.loop-b.b-index c.b-item.result c.loop-b-test.true c.b-item.is)) in
    (λ t. e ∙ c.same_node.ensures.0 t, λ p. c.same_node.ensures.1 (sym e ∙ p))

pub loop-b-preserved : goal.loop-b-preserved
loop-b-preserved c =
    let other : c.b-item.result.number ≢ c.args.number = omega arith in
    each_more (λ b. b.number ≢ c.args.number) c.args.bindings.now c.loop-b.b-index c.b-item.result c.loop-b-test.true c.b-item.is c.loop-b.invariant other

pub returns-clause-unbound : goal.returns-clause-unbound
returns-clause-unbound c = each_all (λ b. b.number ≢ c.args.number) c.args.bindings.now c.loop-b.b-index c.loop-b-test.false c.loop-b.invariant
