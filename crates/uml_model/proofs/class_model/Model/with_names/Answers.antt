use Rattle.std.proofs.Common.{◌≤◌, ◌∙◌, ap, sym, subst, length}
use Rattle.uml_model.proofs.Models.{named_model}
use Rattle.uml_model.proofs.class_model.Model.with_names.Goals as goal

pub returns-clause-sound : goal.returns-clause-sound
returns-clause-sound c = named_model (record { classes = c.in_ok-classes.classes; links = c.in_ok-links.links; sides = c.in_ok-sides.sides.items; lines = c.new.result }) c.new.ensures
    (subst (λ names. length names ≤ 400) (sym c.in_ok-classes.ensures) c.requires.few_classes)
    (subst (λ names. length names ≤ 600) (sym c.in_ok-links.ensures) c.requires.few_links)
    (ap length c.in_ok-sides.ensures.items ∙ c.requires.each_side ∙ sym (ap length c.in_ok-links.ensures))
