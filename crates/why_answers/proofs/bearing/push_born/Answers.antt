-- An atom at a time.
use Rattle.std.proofs.Common.{◌≡◌, ◌<◌, ◌+◌, ap, subst, Some, length, arith}
use Rattle.std.specs.Prelude.{slice_get}
use Rattle.why_answers.proofs.Births.{atom_there, below_or_at, born_both, born_none, born_weaker, place_below}
use Rattle.why_answers.proofs.bearing.push_born.Goals as goal

pub loop-at-init : goal.loop-at-init
loop-at-init c = born_none c.args.downs.now.axioms c.args.query.now c.args.step.now c.args.from c.args.term.now (λ i e. (i < 0) × (e ≡ c.args.end)) c.args.leads.now (λ i e a p place is bears. (let low = p.0 in absurd (omega (arith, low))))

pub push_born_at-requires-clause-atom : goal.push_born_at-requires-clause-atom
push_born_at-requires-clause-atom c =
    let low = c.loop-at-test.true in
    let many = c.len-at-end.ensures in
    let same = ap length c.items.ensures in
    subst (λ xs. slice_get xs c.loop-at.at ≡ Some c.index-items-at.result) c.items.ensures (atom_there c.items.result.now c.loop-at.at c.index-items-at.result (omega (arith, low, many, same)) c.index-items-at.is)

pub loop-at-preserved : goal.loop-at-preserved
loop-at-preserved c =
    born_both c.args.downs.now.axioms c.args.query.now c.args.step.now c.args.from c.args.term.now (λ i e. (i < c.loop-at.at) × (e ≡ c.args.end)) (λ i e. (i ≡ c.loop-at.at) × (e ≡ c.args.end)) (λ i e. (i < c.loop-at.at + 1) × (e ≡ c.args.end))
    c.args.leads.now c.loop-at.leads c.push_born_at.new.leads c.loop-at.invariant c.in_ok-push_born_at.ensures (λ i e p. below_or_at c.loop-at.at c.args.end i e p)

pub returns : goal.returns
returns c =
    let end = c.loop-at-test.false in
    born_weaker c.args.downs.now.axioms c.args.query.now c.args.step.now c.args.from c.args.term.now (λ i e. (i < c.loop-at.at) × (e ≡ c.args.end)) (λ i e. e ≡ c.args.end) c.args.leads.now c.loop-at.leads
    (λ i e a p is. (let low = place_below c.args.query.now.atoms i a is in let many = c.len-at-end.ensures in (omega (arith, low, end, many), p))) c.loop-at.invariant
