use Rattle.std.proofs.Common.{◌≡◌, drop}
use Rattle.std.specs.List.{list_any, flat_map}
use Rattle.iri_templates.specs.Templates.{template_of}
use Rattle.mapping_language.specs.Flaws.{has_flaw}
use Rattle.mapping_language.specs.Mappings.{template_texts, terms_of}
use Rattle.mapping_language.specs.Shown.{target_shown}
use Rattle.mapping_language.proofs.mapping_templates.targets_have.Given as goal

abbrev pub invariant-loop-target : goal.invariant-loop-target
invariant-loop-target l = list_any (λ t. list_any (λ text. has_flaw l.flaw (template_of text)) (flat_map template_texts (terms_of (target_shown t)))) l.targets
    ≡ list_any (λ t. list_any (λ text. has_flaw l.flaw (template_of text)) (flat_map template_texts (terms_of (target_shown t)))) (drop l.target-index l.targets)
