-- By `Imaged`.
use Rattle.std.proofs.Common.{subst}
use Rattle.std.proofs.lemmas.Result.{on_ok_weaker}
use Rattle.mapping_unfolding.specs.Unfoldings.{GivesHead}
use Rattle.relation_join.specs.Joins.{Gains}
use Rattle.query_images.proofs.Imaged.{images_gained}
use Rattle.query_images.proofs.collecting.add_unfolded.Goals as goal

pub returns : goal.returns
returns c =
    on_ok_weaker c.add_row_queries.result
    (λ gains. images_gained c.args.mappings.now c.args.query.now c.in_ok-list.list c.args.tables.now c.args.out.now.items c.add_row_queries.new.out.items c.have_texts.ensures c.in_ok-list.ensures.exact
    (subst (λ list. Gains (GivesHead c.args.tables.now list) c.args.out.now.items c.add_row_queries.new.out.items) c.items.ensures gains))
    c.add_row_queries.ensures
