use Rattle.std.proofs.Common.{rules}
use Rattle.uml_model.specs.Kept.{AreLinesKept}
use Rattle.uml_model.specs.Lines.{shown}
use Rattle.uml_model.specs.Rules.{Known}
use Rattle.uml_model.proofs.Keeping.{one_more_line}
use Rattle.uml_model.proofs.Models.{invariant_model}
use Rattle.uml_model.proofs.class_model.Model.add.Goals as goal

pub invariant_of-self-2 : goal.invariant_of-self-2
invariant_of-self-2 c =
    let known : Known = record { classes = c.self.inside.classes; links = c.self.inside.links; sides = c.self.inside.sides.items; lines = c.push.new.self } in
    let counts = c.counts_with-counts.ensures in
    let kept : AreLinesKept known = one_more_line c.args.self.now known (shown c.args.line.now) (search rules) counts.each c.requires.sorted c.requires.free c.requires.within c.requires.some counts.kept in
    (search rules, search rules, search rules, search rules, search rules, search rules, search rules, kept)

pub returns-clause-sound : goal.returns-clause-sound
returns-clause-sound c = invariant_model _ _ _ _ _ _ (invariant_of-self-2 c)
