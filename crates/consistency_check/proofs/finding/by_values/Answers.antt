-- By `Identified`.
use Rattle.dllite_axioms.specs.declared.axioms.Constraint.TheVariants.{Identified}
use Rattle.consistency_check.proofs.Identified.{none_violates, violation_contradicts}
use Rattle.consistency_check.proofs.finding.by_values.Goals as goal

pub returns-in-Some : goal.returns-in-Some
returns-in-Some c =
    violation_contradicts c.args.prepared.now.downs.axioms c.args.mappings.now c.args.tables.now c.args.number (Identified c.args.class c.args.links.now) c.in-Some.violation c.numbered.result c.numbered.ensures (rw c.in-Some.is at c.in_ok-violation.ensures)

pub returns-in-None : goal.returns-in-None
returns-in-None c =
    none_violates c.args.prepared.now.downs.axioms c.args.mappings.now c.args.tables.now c.args.number (Identified c.args.class c.args.links.now) (rw c.in-None.is at c.in_ok-violation.ensures)
