-- By `Violated`.
use Rattle.std.proofs.Common.{◌≤◌, sym, subst, length}
use Rattle.vocabulary.specs.Lists.{In}
use Rattle.queries.specs.Occurrences.{HeadStands}
use Rattle.identification_check.specs.Chained.{AreChained, most_of}
use Rattle.identification_check.specs.Members.{NoneAreTwins}
use Rattle.identification_check.proofs.Querying.{few_atoms, head_stands}
use Rattle.identification_check.proofs.Violated.{found, found_cost, found_derivable, listed_by, not_violated, tuples_long, violated}
use Rattle.identification_check.proofs.violation.find_violation.Goals as goal

pub images-requires-clause-stands : goal.images-requires-clause-stands
images-requires-clause-stands c = subst HeadStands (sym c.in_ok-query.ensures) (head_stands c.args.class c.args.links.now)

pub images-requires-clause-few : goal.images-requires-clause-few
images-requires-clause-few c = subst (λ q. length q.atoms ≤ 16) (sym c.in_ok-query.ensures) (few_atoms c.args.class c.args.links.now c.requires.attributes.few)

pub twin_facts-requires : goal.twin_facts-requires
twin_facts-requires c =
    let listed = listed_by c.args.saturated.now c.args.tables.now c.args.class c.args.links.now c.in_ok-query.query c.in_ok-tuples.tuples c.in_ok-query.ensures c.in_ok-tuples.ensures in
    tuples_long c.args.saturated.now c.args.tables.now c.args.class c.args.links.now c.in_ok-tuples.tuples c.items.result.now listed c.items.ensures

pub chained-requires-clause-facts : goal.chained-requires-clause-facts
chained-requires-clause-facts c =
    let listed = listed_by c.args.saturated.now c.args.tables.now c.args.class c.args.links.now c.in_ok-query.query c.in_ok-tuples.tuples c.in_ok-query.ensures c.in_ok-tuples.ensures in
    let twins = rw c.in-Some.is at c.in_ok-facts.ensures in
    let w = found c.args.saturated.now c.args.tables.now c.args.class c.args.links.now c.in_ok-tuples.tuples c.items.result.now c.in-Some.facts listed c.items.ensures twins in
    λ f i. found_derivable c.args.saturated.now c.args.tables.now c.args.class c.args.links.now c.args.downs.now c.args.mappings.now c.in-Some.facts w c.requires.known c.requires.class c.requires.links c.requires.attributes f (subst (In f) c.items-in-Some.ensures i)

pub chained-requires-clause-few : goal.chained-requires-clause-few
chained-requires-clause-few c =
    let listed = listed_by c.args.saturated.now c.args.tables.now c.args.class c.args.links.now c.in_ok-query.query c.in_ok-tuples.tuples c.in_ok-query.ensures c.in_ok-tuples.ensures in
    let twins = rw c.in-Some.is at c.in_ok-facts.ensures in
    let w = found c.args.saturated.now c.args.tables.now c.args.class c.args.links.now c.in_ok-tuples.tuples c.items.result.now c.in-Some.facts listed c.items.ensures twins in
    subst (λ fs. most_of fs ≤ 8_000) (sym c.items-in-Some.ensures) (found_cost c.args.saturated.now c.args.tables.now c.args.class c.args.links.now c.args.downs.now.axioms c.in-Some.facts w c.requires.attributes)

pub returns-in-Some : goal.returns-in-Some
returns-in-Some c =
    let listed = listed_by c.args.saturated.now c.args.tables.now c.args.class c.args.links.now c.in_ok-query.query c.in_ok-tuples.tuples c.in_ok-query.ensures c.in_ok-tuples.ensures in
    let twins = rw c.in-Some.is at c.in_ok-facts.ensures in
    let w = found c.args.saturated.now c.args.tables.now c.args.class c.args.links.now c.in_ok-tuples.tuples c.items.result.now c.in-Some.facts listed c.items.ensures twins in
    violated c.args.saturated.now c.args.tables.now c.args.class c.args.links.now c.args.downs.now c.args.mappings.now c.in-Some.facts c.in_ok-chained-in-Some.field-0 w c.requires.known c.requires.attributes
    (subst (λ fs. AreChained c.args.downs.now.axioms c.args.mappings.now c.args.tables.now fs c.in_ok-chained-in-Some.field-0) c.items-in-Some.ensures c.in_ok-chained-in-Some.ensures)

pub returns : goal.returns
returns c =
    let listed = listed_by c.args.saturated.now c.args.tables.now c.args.class c.args.links.now c.in_ok-query.query c.in_ok-tuples.tuples c.in_ok-query.ensures c.in_ok-tuples.ensures in
    not_violated c.args.saturated.now c.args.tables.now c.args.class c.args.links.now c.args.downs.now c.args.mappings.now c.in_ok-tuples.tuples c.requires.known listed
    (subst (NoneAreTwins (length c.args.links.now)) c.items.ensures (rw c.in-None.is at c.in_ok-facts.ensures))
