use Rattle.std.proofs.Common.{◌∙◌, ap, ◌≤◌, ◌⊎◌, inl, inr, length, arith}
use Rattle.log_assembly.specs.Gathered.{occurrences_from}
use Rattle.log_assembly.proofs.Occurring.{gathered_more}
use Rattle.log_assembly.proofs.Walking.{zip_whole}
use Rattle.log_assembly.proofs.occurrences.gather.Goals as goal
use Rattle.log_assembly.proofs.occurrences.gather.Goals.{then-loop-at-test+else-at-asked, else-loop-at-test}

pub loop-at-preserved : goal.loop-at-preserved
loop-at-preserved c =
    c.in_ok-push_event.ensures ∙ gathered_more c.args.all_cases.now.tuples c.args.events.now c.args.asked.now c.loop-at.at c.index-events-at.result c.index-asked-at.result c.loop-at.out.items c.loop-at-test.true c.if-at-asked.true c.index-events-at.is c.index-asked-at.is c.loop-at.invariant

pub returns : goal.returns
returns c =
    let used : (length c.args.events.now ≤ c.loop-at.at) ⊎ (length c.args.asked.now ≤ c.loop-at.at) =
    elim c.loop-at-test.branch [
      | then-loop-at-test+else-at-asked w ↦ inr (omega (arith, w.if-at-asked))
      | else-loop-at-test w ↦ inl (omega (arith, w.loop-at-test))
    ] in
    c.loop-at.invariant ∙ ap (occurrences_from c.args.all_cases.now.tuples 0) (zip_whole c.args.events.now c.args.asked.now c.loop-at.at used)
