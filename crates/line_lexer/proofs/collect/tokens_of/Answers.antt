use Rattle.std.proofs.Common.{refl, ap, map, is_ok}
use Rattle.std.proofs.lemmas.List.{map-append}
use Rattle.std.proofs.ResultArms.{chosen}
use Rattle.line_lexer.specs.Tokens.{tokens_of, seen}
use Rattle.line_lexer.proofs.Onward.{loop_ok, loop_none, loop_err, reads, next_spans, end_spans, next_smaller}
use Rattle.line_lexer.proofs.collect.tokens_of.Goals as goal

pub loop-next-smaller : goal.loop-next-smaller
loop-next-smaller c = next_smaller c.loop-next.tokens c.next.new.self c.in-Ok.token _ refl (rw c.in-Ok.is at c.in-Some.ensures.next)

pub loop-next-preserved : goal.loop-next-preserved
loop-next-preserved c =
    let pushed = chosen _ _ _ _ c.push.ensures.items (ap is_ok c.in_ok-push-in-Ok.was) in
    let step = loop_ok c.args.line.now (map seen c.loop-next.found.items) c.loop-next.tokens c.next.new.self c.in-Ok.token c.loop-next.invariant.so_far (rw c.in-Ok.is at c.in-Some.ensures.next) in
    let spans = next_spans c.args.line.now 0 c.loop-next.found.items c.loop-next.tokens c.next.new.self c.in-Ok.token _ c.loop-next.invariant.same c.loop-next.invariant.spans (rw c.in-Ok.is at c.in-Some.ensures.in_order) (rw c.in-Ok.is at c.in-Some.ensures.next) in
    record { same = spans.0; within = c.next.ensures.within; so_far = rw (pushed, map-append) step; spans = rw pushed spans.1 }

pub returns-in-Err-clause-tokens : goal.returns-in-Err-clause-tokens
returns-in-Err-clause-tokens c = loop_err c.args.line.now (map seen c.loop-next.found.items) c.loop-next.tokens c.next.new.self c.in-Err.field-0 c.loop-next.invariant.so_far (rw c.in-Err.is at c.in-Some.ensures.next)

pub returns-clause-tokens : goal.returns-clause-tokens
returns-clause-tokens c = reads c.loop-next.found (tokens_of c.args.line.now) (loop_none c.args.line.now (map seen c.loop-next.found.items) c.loop-next.tokens c.next.new.self c.loop-next.invariant.so_far c.in_default.ensures.next)

pub returns-clause-spans : goal.returns-clause-spans
returns-clause-spans c = end_spans c.args.line.now c.loop-next.found.items c.loop-next.tokens c.loop-next.invariant.same c.loop-next.invariant.within c.loop-next.invariant.spans
