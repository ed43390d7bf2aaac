use Rattle.std.proofs.Common.{length, map, ap, is_ok}
use Rattle.std.proofs.ResultArms.{chosen}
use Rattle.std.proofs.lemmas.List.{map-append}
use Rattle.line_lexer.specs.Tokens.{seen}
use Rattle.mapping_language.specs.Grammar.{condition}
use Rattle.mapping_language.specs.Shown.{condition_shown}
use Rattle.line_lexer.proofs.Ahead.{begins, goes_on, ends, breaks, runs_out}
use Rattle.mapping_language.proofs.mapping_grammar.joined_conditions.Goals as goal

pub loop-i-init : goal.loop-i-init
loop-i-init c = rw c.new-found.ensures.items (begins _ condition seen c.args.tokens.now)

pub loop-i-preserved : goal.loop-i-preserved
loop-i-preserved c =
    let pushed = chosen _ _ _ _ c.push.ensures.items (ap is_ok c.in_ok-push.was) in
    rw (pushed, map-append) (goes_on _ condition _ (map condition_shown c.loop-i.found.items) (length c.args.tokens.now) c.loop-i._i (map seen c.loop-i.left.tokens.now) c.loop-i.invariant c.loop-i-test.true (condition_shown c.in-Some.next) (map seen c.in-Some.behind.now) (map seen c.in-Some-expect.rest.now) c.in-Some.ensures c.in-Some-expect.ensures)

pub returns-in_default-expect : goal.returns-in_default-expect
returns-in_default-expect c =
    let pushed = chosen _ _ _ _ c.push.ensures.items (ap is_ok c.in_ok-push.was) in
    rw (pushed, map-append) (ends _ condition _ (map condition_shown c.loop-i.found.items) (length c.args.tokens.now) c.loop-i._i (map seen c.loop-i.left.tokens.now) c.loop-i.invariant c.loop-i-test.true (condition_shown c.in-Some.next) (map seen c.in-Some.behind.now) c.in-Some.ensures c.in_default-expect.ensures)

pub returns-in_default : goal.returns-in_default
returns-in_default c = breaks _ condition _ (map condition_shown c.loop-i.found.items) (length c.args.tokens.now) c.loop-i._i (map seen c.loop-i.left.tokens.now) c.loop-i.invariant c.loop-i-test.true c.in_default.ensures

pub returns : goal.returns
returns c = runs_out _ condition _ (map condition_shown c.loop-i.found.items) (length c.args.tokens.now) c.loop-i._i (map seen c.loop-i.left.tokens.now) c.loop-i.invariant c.loop-i-test.false
