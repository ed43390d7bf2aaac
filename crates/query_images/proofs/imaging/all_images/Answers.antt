-- By `Imaged`.
use Rattle.std.proofs.Common.{◌↔◌, List, subst}
use Rattle.std.proofs.lemmas.List.{take_all}
use Rattle.vocabulary.specs.declared.term.Term.{Term}
use Rattle.vocabulary.specs.Lists.{In}
use Rattle.mapping_facts.specs.Facts.{mapped_facts}
use Rattle.relation_join.proofs.Gaining.{gains_kept}
use Rattle.query_images.specs.Images.{IsImage, IsImageOfOne}
use Rattle.query_images.proofs.Imaged.{images_more}
use Rattle.query_images.proofs.imaging.all_images.Goals as goal

pub loop-query-preserved : goal.loop-query-preserved
loop-query-preserved c =
    let facts = mapped_facts c.args.mappings.now c.args.tables.now in
    images_more facts c.args.queries.now c.loop-query.query-index c.query-item.result c.loop-query.found.items c.trim.new.tuples.items
    c.loop-query-test.true c.query-item.is c.loop-query.invariant
    (gains_kept (IsImage facts c.query-item.result) c.loop-query.found.items c.add_images.new.out.items c.trim.new.tuples.items c.in_ok-add_images.ensures c.in_ok-most.ensures.same)

pub returns : goal.returns
returns c =
    subst (λ z. (ts : List Term) → In ts c.loop-query.found.items ↔ IsImageOfOne (mapped_facts c.args.mappings.now c.args.tables.now) z ts)
    (take_all c.loop-query.query-index c.args.queries.now c.loop-query-test.false) c.loop-query.invariant
