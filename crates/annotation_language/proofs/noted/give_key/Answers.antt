use Rattle.std.proofs.Common.{◌∙◌}
use Rattle.annotation_language.specs.Changing.{with_key}
use Rattle.annotation_language.proofs.Gathered.{partly_next, partly_all}
use Rattle.annotation_language.proofs.noted.give_key.Goals as goal

pub loop-event-preserved : goal.loop-event-preserved
loop-event-preserved c =
    let change = with_key c.args.name.now c.args.key.now in
    partly_next change c.args.events.now c.loop-event.events c.loop-event.event-index c.event-item.result c.give_key.new.self c.loop-event-test.true c.loop-event.invariant c.in_ok-give_key.ensures

pub returns : goal.returns
returns c = c.loop-event.invariant ∙ partly_all (with_key c.args.name.now c.args.key.now) c.args.events.now c.loop-event.event-index c.loop-event-test.false
