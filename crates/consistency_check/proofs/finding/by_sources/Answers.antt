-- A source at a time.
use Rattle.std.proofs.Common.{sym, subst, get_or}
use Rattle.std.proofs.lemmas.List.{take_all}
use Rattle.vocabulary.specs.Lists.{In}
use Rattle.mapping_facts.specs.Facts.{mapped_facts}
use Rattle.dllite_axioms.specs.declared.axioms.Basic.TheVariants.{Class}
use Rattle.negative_closure.specs.declared.source.Source.TheVariants.{One}
use Rattle.negative_closure.proofs.Places.{In-at}
use Rattle.consistency_check.proofs.Gathered.{none_contradicted, not_met, one_contradicted}
use Rattle.consistency_check.proofs.finding.by_sources.Goals as goal

pub plan-requires-clause-source : goal.plan-requires-clause-source
plan-requires-clause-source c =
    let exact = rw (← c.items-source-items.ensures) at c.in_ok-sources.ensures.sources in
    (exact _).0 (In-at _ _ _ c.loop-source-test.true)

pub loop-source-preserved : goal.loop-source-preserved
loop-source-preserved c = record {
  none = not_met (mapped_facts c.args.mappings.now c.args.tables.now) c.items-source-items.result.now c.loop-source.source-index (One (Class (record { 0 = 0 }))) c.loop-source-test.true c.loop-source.invariant.none (rw c.in_default.is at c.in_ok-met.ensures.met);
  indexes = c.in_ok-met.ensures.indexes;
}

pub returns-in-Some-clause-found : goal.returns-in-Some-clause-found
returns-in-Some-clause-found c =
    let source = get_or c.items-source-items.result.now c.loop-source.source-index (One (Class (record { 0 = 0 }))) in
    let listed = subst (In source) c.items-source-items.ensures (In-at c.items-source-items.result.now c.loop-source.source-index (One (Class (record { 0 = 0 }))) c.loop-source-test.true) in
    λ tbox same named. one_contradicted tbox c.args.mappings.now c.args.tables.now c.args.number c.args.prepared.now.downs.axioms c.args.constraint.now c.in_ok-sources.sources source c.in-Some.met c.in_ok-plan.plan c.in_ok-derivation_of.field-0
    c.requires.fit same named c.in_ok-sources.ensures.contradicted listed (rw c.in-Some.is at c.in_ok-met.ensures.met) c.in_ok-plan.ensures.clash c.in_ok-plan.ensures.few c.in_ok-derivation_of.ensures

pub returns-clause-found : goal.returns-clause-found
returns-clause-found c =
    λ tbox same named. none_contradicted tbox c.args.mappings.now c.args.tables.now c.args.number c.args.prepared.now.downs.axioms c.args.constraint.now c.in_ok-sources.sources c.requires.fit same named c.in_ok-sources.ensures.contradicted
    (λ s m. c.loop-source.invariant.none s (subst (In s) (sym (take_all c.loop-source.source-index c.items-source-items.result.now c.loop-source-test.false)) (subst (In s) (sym c.items-source-items.ensures) m)))
