use Rattle.std.proofs.Common.{sym, ◌∙◌, not}
use Rattle.std.specs.List.{list_any}
use Rattle.uml_model.specs.Rules.{class_named, link_named}
use Rattle.mapping_language.specs.Mappings.{fits, places}
use Rattle.mapping_language.specs.Shown.{target_shown, map_shown}
use Rattle.mapping_language.proofs.Lists.{any_now, any_later, any_never}
use Rattle.mapping_language.proofs.mapping_types.has_misfit.Goals as goal

pub returns-then-branch : goal.returns-then-branch
returns-then-branch c = any_now (λ t. list_any (λ placed. not (fits c.args.sources.now (map_shown c.args.line.now) placed.term placed.side)) (places (class_named c.args.model.now) (link_named c.args.model.now) (target_shown t))) _ c.args.targets.now c.loop-target.target-index _ c.loop-target.invariant c.loop-target-test.true (sym c.if-branch.true ∙ c.in_ok-is_misfit.ensures)

pub loop-target-preserved : goal.loop-target-preserved
loop-target-preserved c = any_later (λ t. list_any (λ placed. not (fits c.args.sources.now (map_shown c.args.line.now) placed.term placed.side)) (places (class_named c.args.model.now) (link_named c.args.model.now) (target_shown t))) _ c.args.targets.now c.loop-target.target-index _ c.loop-target.invariant c.loop-target-test.true (sym c.if-branch.false ∙ c.in_ok-is_misfit.ensures)

pub returns : goal.returns
returns c = any_never (λ t. list_any (λ placed. not (fits c.args.sources.now (map_shown c.args.line.now) placed.term placed.side)) (places (class_named c.args.model.now) (link_named c.args.model.now) (target_shown t))) _ c.args.targets.now c.loop-target.target-index c.loop-target.invariant c.loop-target-test.false
