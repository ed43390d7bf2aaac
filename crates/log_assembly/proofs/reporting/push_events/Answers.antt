use Rattle.std.proofs.Common.{◌∙◌, ap, ◌++◌, inl, inr}
use Rattle.std.specs.List.{flat_map}
use Rattle.log_assembly.specs.TheReport.{event_text}
use Rattle.log_assembly.proofs.Walking.{zip_flat_map_more, zip_whole}
use Rattle.log_assembly.proofs.reporting.push_events.Goals as goal

pub loop-at-preserved : goal.loop-at-preserved
loop-at-preserved c =
    c.in_ok-push_event.ensures ∙ ap (λ js. c.loop-at.out.items ++ event_text (c.index-events-at.result, js)) c.items.ensures
    ∙ zip_flat_map_more event_text c.args.events.now c.args.judged.now c.loop-at.at c.index-events-at.result c.index-judged-at.result c.args.out.now.items c.loop-at.out.items c.loop-at-test.true c.if-at-judged.true c.index-events-at.is c.index-judged-at.is c.loop-at.invariant

pub returns-else-at-judged : goal.returns-else-at-judged
returns-else-at-judged c = c.loop-at.invariant ∙ ap (λ qs. c.args.out.now.items ++ flat_map event_text qs) (zip_whole c.args.events.now c.args.judged.now c.loop-at.at (inr c.if-at-judged.false))

pub returns-after-loop-at : goal.returns-after-loop-at
returns-after-loop-at c = c.loop-at.invariant ∙ ap (λ qs. c.args.out.now.items ++ flat_map event_text qs) (zip_whole c.args.events.now c.args.judged.now c.loop-at.at (inl c.loop-at-test.false))
