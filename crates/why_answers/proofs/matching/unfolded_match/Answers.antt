-- A row query at a time.
use Rattle.std.proofs.Common.{◌≡◌, sym, subst, []}
use Rattle.std.proofs.lemmas.List.{take_all}
use Rattle.vocabulary.specs.Lists.{In}
use Rattle.mapping_facts.specs.Fits.{RowQueryFits}
use Rattle.mapping_facts.specs.RowQueries.{row_tuples}
use Rattle.mapping_facts.proofs.Members.{All-In}
use Rattle.mapping_unfolding.specs.Unfoldings.{HasOrigins}
use Rattle.fact_derivation.proofs.Loops.{item_listed}
use Rattle.why_answers.proofs.AtTuples.{no_head, no_match, one_further}
use Rattle.why_answers.proofs.matching.unfolded_match.Goals as goal

pub unfold-requires-clause-head : goal.unfold-requires-clause-head
unfold-requires-clause-head c = no_head c.args.query.now c.requires.head

pub facts_in-requires-clause-rows : goal.facts_in-requires-clause-rows
facts_in-requires-clause-rows c =
    All-In (λ u. RowQueryFits u.rows) c.in_ok-list.list c.in_ok-list.ensures.fitting (item_listed c.in_ok-list.list c.items-unfolded-items.result.now c.loop-unfolded.unfolded-index c.unfolded-item.result c.items-unfolded-items.ensures c.loop-unfolded-test.true c.unfolded-item.is)

pub facts_in-requires-clause-origins : goal.facts_in-requires-clause-origins
facts_in-requires-clause-origins c =
    All-In (HasOrigins c.args.mappings.now c.args.query.now) c.in_ok-list.list c.in_ok-list.ensures.origins (item_listed c.in_ok-list.list c.items-unfolded-items.result.now c.loop-unfolded.unfolded-index c.unfolded-item.result c.items-unfolded-items.ensures c.loop-unfolded-test.true c.unfolded-item.is)

pub loop-unfolded-preserved : goal.loop-unfolded-preserved
loop-unfolded-preserved c =
    one_further (λ v. row_tuples c.args.tables.now v.rows ≡ []) c.items-unfolded-items.result.now c.loop-unfolded.unfolded-index c.unfolded-item.result c.loop-unfolded-test.true c.unfolded-item.is c.loop-unfolded.invariant (rw c.in_default.is at c.in_ok-facts.ensures)

pub returns : goal.returns
returns c =
    no_match c.args.mappings.now c.args.tables.now c.have_texts.ensures c.args.query.now c.requires.head c.in_ok-list.list c.in_ok-list.ensures.exact
    (λ u m. c.loop-unfolded.invariant u (subst (In u) (sym (take_all c.loop-unfolded.unfolded-index c.items-unfolded-items.result.now c.loop-unfolded-test.false)) (subst (In u) (sym c.items-unfolded-items.ensures) m)))
