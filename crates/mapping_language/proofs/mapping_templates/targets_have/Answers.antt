use Rattle.std.proofs.Common.{sym, ◌∙◌}
use Rattle.std.specs.List.{list_any, flat_map}
use Rattle.iri_templates.specs.Templates.{template_of}
use Rattle.mapping_language.specs.Flaws.{has_flaw}
use Rattle.mapping_language.specs.Mappings.{template_texts, terms_of}
use Rattle.mapping_language.specs.Shown.{target_shown}
use Rattle.mapping_language.proofs.Lists.{any_now, any_later, any_never}
use Rattle.mapping_language.proofs.mapping_templates.targets_have.Goals as goal

pub returns-then-branch : goal.returns-then-branch
returns-then-branch c = any_now (λ t. list_any (λ text. has_flaw c.args.flaw (template_of text)) (flat_map template_texts (terms_of (target_shown t)))) _ c.args.targets.now c.loop-target.target-index _ c.loop-target.invariant c.loop-target-test.true (sym c.if-branch.true ∙ c.in_ok-target_has.ensures)

pub loop-target-preserved : goal.loop-target-preserved
loop-target-preserved c = any_later (λ t. list_any (λ text. has_flaw c.args.flaw (template_of text)) (flat_map template_texts (terms_of (target_shown t)))) _ c.args.targets.now c.loop-target.target-index _ c.loop-target.invariant c.loop-target-test.true (sym c.if-branch.false ∙ c.in_ok-target_has.ensures)

pub returns : goal.returns
returns c = any_never (λ t. list_any (λ text. has_flaw c.args.flaw (template_of text)) (flat_map template_texts (terms_of (target_shown t)))) _ c.args.targets.now c.loop-target.target-index c.loop-target.invariant c.loop-target-test.false
