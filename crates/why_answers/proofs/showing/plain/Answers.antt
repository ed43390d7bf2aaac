-- By `Marking`.
use Rattle.std.proofs.Common.{◌∙◌, ap, map}
use Rattle.std.proofs.lemmas.List.{take_all}
use Rattle.why_answers.proofs.Marking.{lead_of, plain_facts, plain_led}
use Rattle.why_answers.proofs.showing.plain.Goals as goal

pub returns-clause-facts : goal.returns-clause-facts
returns-clause-facts c = plain_facts c.args.marks.now c.loop-mark.leads (c.loop-mark.invariant ∙ ap (map lead_of) (take_all c.loop-mark.mark-index c.args.marks.now c.loop-mark-test.false))

pub returns-clause-led : goal.returns-clause-led
returns-clause-led c = plain_led c.args.marks.now c.loop-mark.leads (c.loop-mark.invariant ∙ ap (map lead_of) (take_all c.loop-mark.mark-index c.args.marks.now c.loop-mark-test.false))
