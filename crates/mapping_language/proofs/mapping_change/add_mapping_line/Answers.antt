use Rattle.uml_model.specs.Rules.{class_named, link_named}
use Rattle.mapping_facts.specs.Fits.{MappingFits}
use Rattle.mapping_language.specs.Mappings.{mapping_of}
use Rattle.mapping_language.specs.Shown.{map_shown}
use Rattle.mapping_language.proofs.Fitting.{mapping_fits}
use Rattle.mapping_language.proofs.mapping_change.add_mapping_line.Goals as goal

pub returns-clause-fit : goal.returns-clause-fit
returns-clause-fit c = λ within some fit.
    let one : MappingFits (mapping_of (class_named c.args.model.now) (link_named c.args.model.now) c.args.sources.now (map_shown c.args.line.now))
    = mapping_fits c.args.sources.now (map_shown c.args.line.now) some (class_named c.args.model.now) (link_named c.args.model.now) within in
    c.push_mapping.ensures.fit fit within.mappings (rw c.in_ok-mapping.ensures one)
