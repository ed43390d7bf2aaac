use Rattle.std.proofs.Common.{length, map, ap, is_ok}
use Rattle.std.proofs.ResultArms.{chosen}
use Rattle.std.proofs.lemmas.List.{map-append}
use Rattle.line_lexer.specs.Tokens.{seen}
use Rattle.annotation_language.specs.Shown.{shown_atom}
use Rattle.annotation_language.specs.Grammar.{atom}
use Rattle.line_lexer.proofs.Ahead.{goes_on, ends, breaks, runs_out}
use Rattle.annotation_language.proofs.grammar.atoms.Goals as goal

pub returns-in_default : goal.returns-in_default
returns-in_default c = breaks _ atom _ (map shown_atom c.loop-i.found.items) (length c.args.tokens.now) c.loop-i._i (map seen c.loop-i.left.rest.now) c.loop-i.invariant c.loop-i-test.true c.in_default.ensures

pub returns-in_default-expect : goal.returns-in_default-expect
returns-in_default-expect c =
    let pushed = chosen _ _ _ _ c.push.ensures.items (ap is_ok c.in_ok-push.was) in
    rw (pushed, map-append) (ends _ atom _ (map shown_atom c.loop-i.found.items) (length c.args.tokens.now) c.loop-i._i (map seen c.loop-i.left.rest.now) c.loop-i.invariant c.loop-i-test.true (shown_atom c.in-Some.next) (map seen c.in-Some.rest.now) c.in-Some.ensures c.in_default-expect.ensures)

pub loop-i-preserved : goal.loop-i-preserved
loop-i-preserved c =
    let pushed = chosen _ _ _ _ c.push.ensures.items (ap is_ok c.in_ok-push.was) in
    rw (pushed, map-append) (goes_on _ atom _ (map shown_atom c.loop-i.found.items) (length c.args.tokens.now) c.loop-i._i (map seen c.loop-i.left.rest.now) c.loop-i.invariant c.loop-i-test.true (shown_atom c.in-Some.next) (map seen c.in-Some.rest.now) (map seen c.in-Some-expect.more.now) c.in-Some.ensures c.in-Some-expect.ensures)

pub returns : goal.returns
returns c = runs_out _ atom _ (map shown_atom c.loop-i.found.items) (length c.args.tokens.now) c.loop-i._i (map seen c.loop-i.left.rest.now) c.loop-i.invariant c.loop-i-test.false
