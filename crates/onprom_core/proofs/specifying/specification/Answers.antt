-- By `Bounded`.
use Rattle.onprom_core.proofs.Bounded.{axioms_within, few_targets, targets_within}
use Rattle.onprom_core.proofs.specifying.specification.Goals as goal

pub of-requires-clause-within : goal.of-requires-clause-within
of-requires-clause-within c = rw (c.classes.ensures.count, c.links.ensures.count) (axioms_within c.args.project.now c.requires.sound c.args.tbox.now c.requires.axioms)

pub of-requires-clause-targets : goal.of-requires-clause-targets
of-requires-clause-targets c = rw (c.classes.ensures.count, c.links.ensures.count, c.mappings.ensures) (targets_within c.args.project.now c.requires.sound c.args.tbox.now c.requires.axioms)

pub of-requires-clause-few_mappings : goal.of-requires-clause-few_mappings
of-requires-clause-few_mappings c = rw c.mappings.ensures (few_targets c.args.project.now c.requires.sound c.args.tbox.now c.requires.axioms)
