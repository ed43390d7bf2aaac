-- By `Imaged`.
use Rattle.std.proofs.Common.{◌∙◌, [], sym, subst}
use Rattle.vocabulary.specs.Lists.{IsListOf}
use Rattle.queries.specs.Order.{tuple_cmp}
use Rattle.mapping_facts.specs.Facts.{mapped_facts}
use Rattle.relation_join.specs.Joins.{Gains}
use Rattle.query_images.specs.Images.{IsImage}
use Rattle.query_images.proofs.Imaged.{listed, only_gained}
use Rattle.query_images.proofs.imaging.images.Goals as goal

pub returns : goal.returns
returns c =
    let P = IsImage (mapped_facts c.args.mappings.now c.args.tables.now) c.args.query.now in
    let gained : Gains P [] c.add_images.new.out.items = subst (λ old. Gains P old c.add_images.new.out.items) c.new-found.ensures.items c.in_ok-add_images.ensures in
    subst (IsListOf tuple_cmp P) (sym (c.from_vec.ensures ∙ c.shrink_to_fit.ensures.items)) (listed P c.add_images.new.out.items c.put_in_order.new.tuples.items (only_gained P c.add_images.new.out.items gained) c.in_ok-put_in_order.ensures)
