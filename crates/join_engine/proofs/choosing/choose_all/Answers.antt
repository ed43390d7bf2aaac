use Rattle.std.proofs.Common.{◌+◌, ◌∙◌, ap, sym, subst, length}
use Rattle.std.proofs.lemmas.List.{length_push}
use Rattle.join_engine.specs.Ties.{Serves}
use Rattle.join_engine.proofs.Ties.{one_planned}
use Rattle.join_engine.proofs.choosing.choose_all.Goals as goal

pub loop-depth-preserved : goal.loop-depth-preserved
loop-depth-preserved c = record {
  count = ap length c.in_ok-push.ensures.items ∙ length_push c.loop-depth.choices.items c.in_ok-choice.choice ∙ ap (λ n. n + 1) c.loop-depth.invariant.count;
  indexes = c.in_ok-choice.ensures.indexes;
  each = one_planned c.args.tables.now c.args.query.now c.loop-depth.indexes.items c.choose.new.indexes.items c.loop-depth.choices.items c.push.new.self.items c.in_ok-choice.choice c.loop-depth.invariant.each c.in_ok-choice.ensures.kept
      (subst (λ d. Serves c.args.tables.now c.args.query.now c.choose.new.indexes.items d c.in_ok-choice.choice) (sym c.loop-depth.invariant.count) c.in_ok-choice.ensures.serves) c.in_ok-push.ensures.items;
}
