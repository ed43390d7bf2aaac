-- By `Heads`.
use Rattle.std.proofs.Common.{◌≡◌, subst, ◌<◌, length, get_or}
use Rattle.vocabulary.specs.Lists.{In}
use Rattle.relation_join.proofs.Gaining.{In-get_or}
use Rattle.relation_join.proofs.Heads.{head_next}
use Rattle.relation_join.proofs.pairing.head_of.Goals as goal

pub arg_term-requires-clause-stands : goal.arg_term-requires-clause-stands
arg_term-requires-clause-stands c =
    c.requires.head c.arg-item.result
    (subst (In c.arg-item.result) c.items-arg-items.ensures (In-get_or c.items-arg-items.result.now c.loop-arg.arg-index c.arg-item.result c.loop-arg-test.true c.arg-item.is))

pub loop-arg-preserved : goal.loop-arg-preserved
loop-arg-preserved c = λ σ e f.
    let head = c.args.sides.now.head in
    let n = c.loop-arg.arg-index in
    let x = c.arg-item.result in
    let l = subst (λ z. n < length z) c.items-arg-items.ensures c.loop-arg-test.true in
    let is = subst (λ z. x ≡ get_or z n x) c.items-arg-items.ensures c.arg-item.is in
    head_next σ head n x l is c.loop-arg.terms c.in_ok-arg_term.field-0 c.push.new.self c.in_ok-push.ensures.ok (c.loop-arg.invariant σ e f) (c.in_ok-arg_term.ensures σ e f)
