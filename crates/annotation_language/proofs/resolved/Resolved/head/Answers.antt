use Rattle.std.proofs.Common.{sym, ap, is_ok}
use Rattle.std.proofs.ResultArms.{chosen}
use Rattle.annotation_language.specs.Lines.{variable}
use Rattle.annotation_language.specs.Shown.{shown_query}
use Rattle.annotation_language.proofs.Gathered.{next_seen}
use Rattle.annotation_language.proofs.resolved.Resolved.head.Goals as goal

pub loop-v-preserved : goal.loop-v-preserved
loop-v-preserved c =
    let pushed = chosen _ _ _ _ c.push.ensures.items (ap is_ok c.in_ok-push.was) in
    let test = rw c.deref-v-items.ensures.value at c.loop-v-test.true in
    rw (pushed, c.loop-v.invariant, c.variable.ensures, c.deref-v-items.ensures.value) (sym (next_seen (variable (shown_query c.args.self.now.query.now)) (λ v. v.now) c.args.self.now.query.now.head.items c.loop-v.v-index _ test))
