use Rattle.std.proofs.Common.{sym, ◌∙◌}
use Rattle.mapping_language.specs.Mappings.{is_illtyped}
use Rattle.mapping_language.specs.Shown.{condition_shown, map_shown}
use Rattle.mapping_language.proofs.Lists.{any_now, any_later, any_never}
use Rattle.mapping_language.proofs.mapping_types.has_illtyped.Goals as goal

pub returns-then-branch : goal.returns-then-branch
returns-then-branch c = any_now (λ x. is_illtyped c.args.sources.now (map_shown c.args.line.now) (condition_shown x)) _ c.args.conditions.now c.loop-condition.condition-index _ c.loop-condition.invariant c.loop-condition-test.true (sym c.if-branch.true ∙ c.in_ok-is_illtyped.ensures)

pub loop-condition-preserved : goal.loop-condition-preserved
loop-condition-preserved c = any_later (λ x. is_illtyped c.args.sources.now (map_shown c.args.line.now) (condition_shown x)) _ c.args.conditions.now c.loop-condition.condition-index _ c.loop-condition.invariant c.loop-condition-test.true (sym c.if-branch.false ∙ c.in_ok-is_illtyped.ensures)

pub returns : goal.returns
returns c = any_never (λ x. is_illtyped c.args.sources.now (map_shown c.args.line.now) (condition_shown x)) _ c.args.conditions.now c.loop-condition.condition-index c.loop-condition.invariant c.loop-condition-test.false
