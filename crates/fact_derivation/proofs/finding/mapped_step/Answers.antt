-- A row query at a time.
use Rattle.std.proofs.Common.{sym, subst}
use Rattle.std.proofs.lemmas.List.{take_all}
use Rattle.vocabulary.specs.Lists.{In}
use Rattle.mapping_facts.specs.Fits.{RowQueryFits}
use Rattle.mapping_facts.proofs.Members.{All-In}
use Rattle.mapping_unfolding.specs.Unfoldings.{AreUnfoldings, HasOrigins}
use Rattle.fact_derivation.proofs.Found.{none_more, none_stands}
use Rattle.fact_derivation.proofs.Loops.{item_listed}
use Rattle.fact_derivation.proofs.finding.mapped_step.Goals as goal

pub step_in-requires-clause-rows : goal.step_in-requires-clause-rows
step_in-requires-clause-rows c =
    All-In (λ u. RowQueryFits u.rows) c.in_ok-list.list c.in_ok-list.ensures.fitting (item_listed c.in_ok-list.list c.items-unfolded-items.result.now c.loop-unfolded.unfolded-index c.unfolded-item.result c.items-unfolded-items.ensures c.loop-unfolded-test.true c.unfolded-item.is)

pub step_in-requires-clause-origins : goal.step_in-requires-clause-origins
step_in-requires-clause-origins c =
    subst (λ q. HasOrigins c.args.mappings.now q c.unfolded-item.result) c.in_ok-query.ensures
    (All-In (HasOrigins c.args.mappings.now c.in_ok-query.query) c.in_ok-list.list c.in_ok-list.ensures.origins (item_listed c.in_ok-list.list c.items-unfolded-items.result.now c.loop-unfolded.unfolded-index c.unfolded-item.result c.items-unfolded-items.ensures c.loop-unfolded-test.true c.unfolded-item.is))

pub loop-unfolded-preserved : goal.loop-unfolded-preserved
loop-unfolded-preserved c =
    none_more c.args.tables.now c.items-unfolded-items.result.now c.loop-unfolded.unfolded-index c.unfolded-item.result c.loop-unfolded-test.true c.unfolded-item.is c.loop-unfolded.invariant (rw c.in_default.is at c.in_ok-step.ensures)

pub returns : goal.returns
returns c =
    none_stands c.args.mappings.now c.args.tables.now c.have_texts.ensures c.args.atom.now c.in_ok-list.list (subst (λ q. AreUnfoldings c.args.mappings.now q c.in_ok-list.list) c.in_ok-query.ensures c.in_ok-list.ensures.exact)
    (λ u m. c.loop-unfolded.invariant u (subst (In u) (sym (take_all c.loop-unfolded.unfolded-index c.items-unfolded-items.result.now c.loop-unfolded-test.false)) (subst (In u) (sym c.items-unfolded-items.ensures) m)))
