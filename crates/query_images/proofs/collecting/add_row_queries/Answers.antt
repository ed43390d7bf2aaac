-- By `Imaged`.
use Rattle.std.proofs.Common.{subst, sym}
use Rattle.mapping_facts.specs.Fits.{RowQueryFits}
use Rattle.mapping_facts.specs.RowQueries.{row_tuples}
use Rattle.table_renumbering.specs.Tuples.{GivesTerms}
use Rattle.relation_join.proofs.Gaining.{gains_kept}
use Rattle.query_images.proofs.Imaged.{all_heads, heads_more, no_heads}
use Rattle.query_images.proofs.collecting.add_row_queries.Goals as goal

pub loop-unfolded-init : goal.loop-unfolded-init
loop-unfolded-init c = no_heads c.args.tables.now c.args.list.now c.args.out.now.items

pub add_row_query-requires : goal.add_row_query-requires
add_row_query-requires c = subst (λ u. RowQueryFits u.rows) (sym c.unfolded-item.is) (c.requires c.loop-unfolded.unfolded-index c.unfolded-item.result c.loop-unfolded-test.true)

pub loop-unfolded-preserved : goal.loop-unfolded-preserved
loop-unfolded-preserved c =
    let tables = c.args.tables.now in
    let rows = c.unfolded-item.result.rows in
    heads_more tables c.args.list.now c.loop-unfolded.unfolded-index c.unfolded-item.result c.args.out.now.items c.loop-unfolded.out.items c.trim.new.tuples.items
    c.loop-unfolded-test.true c.unfolded-item.is c.loop-unfolded.invariant
    (gains_kept (GivesTerms tables rows (row_tuples tables rows)) c.loop-unfolded.out.items c.add_row_query.new.out.items c.trim.new.tuples.items c.in_ok-add_row_query.ensures c.in_ok-most.ensures.same)

pub returns : goal.returns
returns c = all_heads c.args.tables.now c.args.list.now c.loop-unfolded.unfolded-index c.args.out.now.items c.loop-unfolded.out.items c.loop-unfolded-test.false c.loop-unfolded.invariant
