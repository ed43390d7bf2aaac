-- By `Settling`.
use Rattle.std.proofs.Common.{◌≡◌, ◌≢◌, ◌∙◌, sym, ap, length, arith}
use Rattle.queries.specs.Normal.{settled, tidied}
use Rattle.queries.proofs.Settling.{ends, fewer, goes_on}
use Rattle.queries.proofs.normal.settle.Goals as goal

pub loop-current-init : goal.loop-current-init
loop-current-init c = record { same = ap (settled c.args.head.now) c.in_ok-current.ensures; small = omega (arith, c.requires.atoms, ap length c.in_ok-current.ensures) }

pub tidy-requires-clause-atoms : goal.tidy-requires-clause-atoms
tidy-requires-clause-atoms c = omega (arith, ap length c.as_slice.ensures.value, c.loop-current.invariant.small)

pub returns-then-len : goal.returns-then-len
returns-then-len c =
    let next = c.in_ok-next.next in
    let e : next.items ≡ tidied c.args.head.now c.loop-current.current.items = c.in_ok-next.ensures ∙ ap (tidied c.args.head.now) c.as_slice.ensures.value in
    let same : length next.items ≡ length c.loop-current.current.items = omega (arith, c.if-len.true, c.len.ensures, c.len-in-loop-current.ensures, next.ok.0, c.loop-current.current.ok.0) in
    ends c.args.head.now c.loop-current.current.items next.items e same ∙ c.loop-current.invariant.same

pub loop-current-smaller : goal.loop-current-smaller
loop-current-smaller c =
    let next = c.in_ok-next.next in
    let e : next.items ≡ tidied c.args.head.now c.loop-current.current.items = c.in_ok-next.ensures ∙ ap (tidied c.args.head.now) c.as_slice.ensures.value in
    let d : length next.items ≢ length c.loop-current.current.items = λ h. c.if-len.false (c.len.ensures ∙ next.ok.0 ∙ h ∙ sym c.loop-current.current.ok.0 ∙ sym c.len-in-loop-current.ensures) in
    fewer c.args.head.now c.loop-current.current.items next.items e d

pub loop-current-preserved : goal.loop-current-preserved
loop-current-preserved c =
    let next = c.in_ok-next.next in
    let e : next.items ≡ tidied c.args.head.now c.loop-current.current.items = c.in_ok-next.ensures ∙ ap (tidied c.args.head.now) c.as_slice.ensures.value in
    let d : length next.items ≢ length c.loop-current.current.items = λ h. c.if-len.false (c.len.ensures ∙ next.ok.0 ∙ h ∙ sym c.loop-current.current.ok.0 ∙ sym c.len-in-loop-current.ensures) in
    let l = fewer c.args.head.now c.loop-current.current.items next.items e d in
    record { same = goes_on c.args.head.now c.loop-current.current.items next.items e d ∙ c.loop-current.invariant.same; small = omega (arith, l, c.loop-current.invariant.small) }
