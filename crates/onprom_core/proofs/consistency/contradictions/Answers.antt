use Rattle.onprom_core.proofs.Bounded.{axioms_within, checkable, constraints_within, few_targets, targets_within}
use Rattle.onprom_core.proofs.consistency.contradictions.Goals as goal

pub conflicts-requires-clause-axioms : goal.conflicts-requires-clause-axioms
conflicts-requires-clause-axioms c = rw (c.classes.ensures.count, c.links.ensures.count) (axioms_within c.args.project.now c.requires.sound c.args.tbox.now c.requires.axioms)

pub conflicts-requires-clause-constraints : goal.conflicts-requires-clause-constraints
conflicts-requires-clause-constraints c = rw (c.classes.ensures.count, c.links.ensures.count) (constraints_within c.args.project.now c.requires.sound c.args.tbox.now c.requires.axioms)

pub conflicts-requires-clause-few_targets : goal.conflicts-requires-clause-few_targets
conflicts-requires-clause-few_targets c = rw c.mappings.ensures (few_targets c.args.project.now c.requires.sound c.args.tbox.now c.requires.axioms)

pub conflicts-requires-clause-targets : goal.conflicts-requires-clause-targets
conflicts-requires-clause-targets c = rw (c.classes.ensures.count, c.links.ensures.count, c.mappings.ensures) (targets_within c.args.project.now c.requires.sound c.args.tbox.now c.requires.axioms)

pub conflicts-requires-clause-checkable : goal.conflicts-requires-clause-checkable
conflicts-requires-clause-checkable c = checkable c.args.project.now c.requires.sound c.args.tbox.now c.requires.axioms
