use Rattle.std.proofs.Common.{length, map, ap, is_ok}
use Rattle.std.proofs.ResultArms.{chosen}
use Rattle.std.proofs.lemmas.List.{map-append}
use Rattle.line_lexer.specs.Tokens.{seen}
use Rattle.mapping_language.specs.Grammar.{source}
use Rattle.mapping_language.specs.Shown.{source_shown}
use Rattle.line_lexer.proofs.Ahead.{begins, goes_on, ends, breaks, runs_out}
use Rattle.mapping_language.proofs.mapping_grammar.sources.Goals as goal

pub loop-i-init : goal.loop-i-init
loop-i-init c = rw c.new-found.ensures.items (begins _ source seen c.args.tokens.now)

pub loop-i-preserved : goal.loop-i-preserved
loop-i-preserved c =
    let pushed = chosen _ _ _ _ c.push.ensures.items (ap is_ok c.in_ok-push.was) in
    rw (pushed, map-append) (goes_on _ source _ (map source_shown c.loop-i.found.items) (length c.args.tokens.now) c.loop-i._i (map seen c.loop-i.left.tokens.now) c.loop-i.invariant c.loop-i-test.true (source_shown c.in-Some.next) (map seen c.in-Some.behind.now) (map seen c.in-Some-expect.rest.now) c.in-Some.ensures c.in-Some-expect.ensures)

pub returns-in_default-expect-clause-read : goal.returns-in_default-expect-clause-read
returns-in_default-expect-clause-read c =
    let pushed = chosen _ _ _ _ c.push.ensures.items (ap is_ok c.in_ok-push.was) in
    rw (pushed, map-append) (ends _ source _ (map source_shown c.loop-i.found.items) (length c.args.tokens.now) c.loop-i._i (map seen c.loop-i.left.tokens.now) c.loop-i.invariant c.loop-i-test.true (source_shown c.in-Some.next) (map seen c.in-Some.behind.now) c.in-Some.ensures c.in_default-expect.ensures)

pub returns-in_default-clause-read : goal.returns-in_default-clause-read
returns-in_default-clause-read c = breaks _ source _ (map source_shown c.loop-i.found.items) (length c.args.tokens.now) c.loop-i._i (map seen c.loop-i.left.tokens.now) c.loop-i.invariant c.loop-i-test.true c.in_default.ensures

pub returns-clause-read : goal.returns-clause-read
returns-clause-read c = runs_out _ source _ (map source_shown c.loop-i.found.items) (length c.args.tokens.now) c.loop-i._i (map seen c.loop-i.left.tokens.now) c.loop-i.invariant c.loop-i-test.false
