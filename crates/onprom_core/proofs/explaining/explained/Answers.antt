use Rattle.std.proofs.Common.{◌≡◌}
use Rattle.std.proofs.lemmas.Result.{IfOk-weaker}
use Rattle.onprom_core.specs.Explained.{ExplainsTuple}
use Rattle.onprom_core.specs.Jobs.{explained_end}
use Rattle.onprom_core.specs.Outputs.{ended}
use Rattle.onprom_core.proofs.Bounded.{axioms_within, few_targets, targets_within}
use Rattle.onprom_core.proofs.WhyRuns.{explains_tuple}
use Rattle.onprom_core.proofs.ModelRuns.{few_axioms}
use Rattle.onprom_core.proofs.explaining.explained.Goals as goal

pub why-requires-clause-few_axioms : goal.why-requires-clause-few_axioms
why-requires-clause-few_axioms c = few_axioms c.args.project.now c.requires.sound c.args.tbox.now c.requires.axioms

pub why-requires-clause-within : goal.why-requires-clause-within
why-requires-clause-within c = rw (c.classes.ensures.count, c.links.ensures.count) (axioms_within c.args.project.now c.requires.sound c.args.tbox.now c.requires.axioms)

pub why-requires-clause-targets : goal.why-requires-clause-targets
why-requires-clause-targets c = rw (c.classes.ensures.count, c.links.ensures.count, c.mappings-mappings.ensures) (targets_within c.args.project.now c.requires.sound c.args.tbox.now c.requires.axioms)

pub why-requires-clause-few_mappings : goal.why-requires-clause-few_mappings
why-requires-clause-few_mappings c = rw c.mappings-mappings.ensures (few_targets c.args.project.now c.requires.sound c.args.tbox.now c.requires.axioms)

pub why-requires-clause-certain : goal.why-requires-clause-certain
why-requires-clause-certain c = rw (c.requires.axioms, c.mappings-mappings.ensures) c.requires.certain

pub returns-clause-explains : goal.returns-clause-explains
returns-clause-explains c =
    IfOk-weaker c.written.result (λ o. ended o ≡ explained_end c.args.project.now c.in_ok-found.found c.args.tuple.now)
    (λ o. ExplainsTuple c.args.project.now c.args.tables.now c.args.query.now c.args.tuple.now (ended o))
    (λ o is. explains_tuple c.args.project.now c.args.tables.now c.args.query.now c.args.tuple.now c.args.tbox.now c.mappings-mappings.result.now
    c.requires.axioms c.mappings-mappings.ensures c.in_ok-found.found (ended o) c.in_ok-found.ensures is)
    c.written.ensures.end
