use Rattle.std.proofs.Common.{ap, sym, ◌∙◌, length}
use Rattle.owl_functional.specs.Lookup.{beside}
use Rattle.owl_functional.proofs.Tables.{no_ranges, next_range, all_ranges}
use Rattle.owl_functional.proofs.lookup.all_kinds.Goals as goal

pub loop-axiom-init : goal.loop-axiom-init
loop-axiom-init c = record {
  long = ap (λ t. length t.values) c.new-kinds.ensures ∙ sym (ap (λ t. length t.texts) c.new-kinds.ensures);
  ranges = no_ranges c.new-kinds.result.texts c.new-kinds.result.values (ap (λ t. t.texts) c.new-kinds.ensures) (ap (λ t. t.values) c.new-kinds.ensures);
}

pub loop-axiom-preserved : goal.loop-axiom-preserved
loop-axiom-preserved c = record {
  long = c.in_ok-note_kind.ensures.long;
  ranges = next_range c.args.axioms.now c.loop-axiom.axiom-index c.axiom-item.result (beside c.loop-axiom.kinds.texts c.loop-axiom.kinds.values) (beside c.note_kind.new.kinds.texts c.note_kind.new.kinds.values) c.loop-axiom-test.true c.axiom-item.is c.loop-axiom.invariant.ranges c.in_ok-note_kind.ensures.noted;
}

pub returns-clause-told : goal.returns-clause-told
returns-clause-told c = all_ranges c.args.axioms.now c.loop-axiom.axiom-index (beside c.loop-axiom.kinds.texts c.loop-axiom.kinds.values) c.loop-axiom-test.false c.loop-axiom.invariant.ranges
