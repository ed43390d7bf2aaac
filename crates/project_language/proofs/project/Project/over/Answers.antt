-- What no line says over an ontology.
use Rattle.std.proofs.Common.{rules, ap, length}
use Rattle.mapping_language.specs.declared.sources.Sources.{Sources}
use Rattle.project_language.proofs.Keeping.{ontology_over, none_few, none_within, none_asked_within}
use Rattle.project_language.proofs.project.Project.over.Goals as goal

pub returns-clause-sound : goal.returns-clause-sound
returns-clause-sound c =
    let none = ap (λ (s : Sources). s.mappings) c.new.ensures in
    let few = none_few c.new.result.mappings none in
    let within = none_within (length c.in_ok-model.model.classes) (length c.in_ok-model.model.links) c.new.result.mappings none in
    record {
      offsets = search rules;
      fit = search rules;
      few = few;
      within = within;
      names = search rules;
      model = c.in_ok-model.ensures.sound;
      tbox = rw c.in_ok-model.ensures.value (ontology_over c.args.ontology c.requires);
      askable = c.new-2.ensures.askable;
      asked_within = none_asked_within (length c.in_ok-model.model.classes) (length c.in_ok-model.model.links) c.new-2.result c.new-2.ensures.made;
    }
