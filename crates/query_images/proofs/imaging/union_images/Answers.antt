-- By `Imaged`.
use Rattle.std.proofs.Common.{◌∙◌, sym, subst}
use Rattle.vocabulary.specs.Lists.{IsListOf}
use Rattle.queries.specs.Order.{tuple_cmp}
use Rattle.mapping_facts.specs.Facts.{mapped_facts}
use Rattle.query_images.specs.Images.{IsImageOfOne}
use Rattle.query_images.proofs.Imaged.{listed}
use Rattle.query_images.proofs.imaging.union_images.Goals as goal

pub returns : goal.returns
returns c =
    let P = IsImageOfOne (mapped_facts c.args.mappings.now c.args.tables.now) c.args.queries.now in
    subst (IsListOf tuple_cmp P) (sym (c.from_vec.ensures ∙ c.shrink_to_fit.ensures.items)) (listed P c.in_ok-found.found.items c.put_in_order.new.tuples.items c.in_ok-found.ensures c.in_ok-put_in_order.ensures)
