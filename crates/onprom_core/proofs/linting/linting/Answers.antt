use Rattle.std.proofs.Common.{◌≡◌}
use Rattle.std.proofs.lemmas.Result.{IfOk-weaker}
use Rattle.answer_text.specs.Voids.{voids_report, voids_text}
use Rattle.onprom_core.specs.Jobs.{EndsLint}
use Rattle.onprom_core.specs.Outputs.{ended}
use Rattle.onprom_core.specs.Rewritten.{done_with}
use Rattle.onprom_core.proofs.ModelRuns.{axioms_within, constraints_within, ends_linted, few_axioms, few_constraints}
use Rattle.onprom_core.proofs.linting.linting.Goals as goal

pub voids-requires-clause-few_axioms : goal.voids-requires-clause-few_axioms
voids-requires-clause-few_axioms c = few_axioms c.args.project.now c.requires c.in_ok-tbox.tbox c.in_ok-tbox.ensures.tbox

pub voids-requires-clause-few_constraints : goal.voids-requires-clause-few_constraints
voids-requires-clause-few_constraints c = few_constraints c.args.project.now c.requires c.in_ok-tbox.tbox c.in_ok-tbox.ensures.tbox

pub voids-requires-clause-axioms : goal.voids-requires-clause-axioms
voids-requires-clause-axioms c = rw (c.classes.ensures.count, c.links.ensures.count) (axioms_within c.args.project.now c.requires c.in_ok-tbox.tbox c.in_ok-tbox.ensures.tbox)

pub voids-requires-clause-constraints : goal.voids-requires-clause-constraints
voids-requires-clause-constraints c = rw (c.classes.ensures.count, c.links.ensures.count) (constraints_within c.args.project.now c.requires c.in_ok-tbox.tbox c.in_ok-tbox.ensures.tbox)

pub returns-clause-ends : goal.returns-clause-ends
returns-clause-ends c =
    let m = c.args.project.now.model in
    let proofs = c.in_ok-found.found in
    IfOk-weaker c.listed.result (λ o. ended o ≡ done_with (voids_text m.classes m.links proofs) (voids_report proofs)) (λ o. EndsLint c.args.project.now (ended o))
    (λ o is. ends_linted c.args.project.now c.requires c.in_ok-tbox.tbox c.in_ok-tbox.ensures.tbox proofs (ended o) (rw (c.classes.ensures.count, c.links.ensures.count) at c.in_ok-found.ensures) is)
    (rw c.items.ensures at c.listed.ensures.end)
