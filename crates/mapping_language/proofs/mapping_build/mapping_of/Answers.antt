use Rattle.uml_model.specs.Rules.{class_named, link_named}
use Rattle.mapping_language.proofs.Mapped.{mapped_line}
use Rattle.mapping_language.proofs.mapping_build.mapping_of.Goals as goal

pub returns : goal.returns
returns c = mapped_line (class_named c.args.model.now) (link_named c.args.model.now) c.args.sources.now c.args.line.now _ _ _ _ c.deref.result.now c.deref-2.result.now c.deref-3.result.now c.deref.ensures.value c.deref-2.ensures.value c.deref-3.ensures.value
    c.in_ok-name.ensures c.in_ok-tables.ensures c.in_ok-conditions.ensures c.in_ok-targets.ensures
