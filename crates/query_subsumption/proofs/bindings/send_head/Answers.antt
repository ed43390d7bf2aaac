-- By `Solving`.
use Rattle.std.proofs.Common.{◌≡◌, ◌<◌, ◌≤◌, length, refl, true, false, arith}
use Rattle.query_subsumption.specs.Numbered.{as_arg}
use Rattle.query_subsumption.specs.Search.{Solves}
use Rattle.query_subsumption.specs.Subsumption.{Replacement, arg_image}
use Rattle.query_subsumption.proofs.Solving.{head_ends, head_goes_on, head_stops, solves_same}
use Rattle.query_subsumption.proofs.bindings.send_head.Goals as goal

pub returns-then-not-branch : goal.returns-then-not-branch
returns-then-not-branch c =
    let P : Replacement → Type 0 = λ θ. arg_image θ (as_arg c.index-from-at.result) ≡ as_arg c.index-to-at.result in
    let s : Solves P c.loop-at.bindings.items c.send.new.bindings.items false = solves_same P refl refl c.if-not-branch.true c.in_ok-send.ensures in
    let low : c.loop-at.at < length c.args.from.now = omega arith in
    let low' : c.loop-at.at < length c.args.to.now = omega arith in
    head_stops c.args.from.now c.args.to.now c.loop-at.at c.index-from-at.result c.index-to-at.result low low' c.index-from-at.is c.index-to-at.is c.loop-at.invariant s

pub loop-at-preserved : goal.loop-at-preserved
loop-at-preserved c =
    let P : Replacement → Type 0 = λ θ. arg_image θ (as_arg c.index-from-at.result) ≡ as_arg c.index-to-at.result in
    let s : Solves P c.loop-at.bindings.items c.send.new.bindings.items true = solves_same P refl refl c.if-not-branch.false c.in_ok-send.ensures in
    let low : c.loop-at.at < length c.args.from.now = omega arith in
    let low' : c.loop-at.at < length c.args.to.now = omega arith in
    head_goes_on c.args.from.now c.args.to.now c.loop-at.at c.index-from-at.result c.index-to-at.result low low' c.index-from-at.is c.index-to-at.is c.loop-at.invariant s

pub returns : goal.returns
returns c =
    let all : length c.args.from.now ≤ c.loop-at.at = omega arith in
    let all' : length c.args.to.now ≤ c.loop-at.at = omega arith in
    head_ends c.args.from.now c.args.to.now c.loop-at.at all all' c.loop-at.invariant
