-- What no line says.
use Rattle.std.proofs.Common.{rules, ap, length}
use Rattle.mapping_language.specs.declared.sources.Sources.{Sources}
use Rattle.project_language.proofs.Keeping.{model_over, none_few, none_within, none_asked_within}
use Rattle.project_language.proofs.project.Project.new.Goals as goal

pub returns-clause-sound : goal.returns-clause-sound
returns-clause-sound c =
    let none = ap (λ (s : Sources). s.mappings) c.new.ensures in
    let few = none_few c.new.result.mappings none in
    let within = none_within (length c.new-2.result.classes) (length c.new-2.result.links) c.new.result.mappings none in
    record {
      offsets = search rules;
      fit = search rules;
      few = few;
      within = within;
      names = search rules;
      model = c.new-2.ensures.sound;
      tbox = model_over c.new-2.result c.new-2.ensures.sound;
      askable = c.new-3.ensures.askable;
      asked_within = none_asked_within (length c.new-2.result.classes) (length c.new-2.result.links) c.new-3.result c.new-3.ensures.made;
    }
