-- By `Imaged`.
use Rattle.std.proofs.Common.{[], subst}
use Rattle.mapping_facts.specs.Facts.{mapped_facts}
use Rattle.relation_join.specs.Joins.{Gains}
use Rattle.query_images.specs.Images.{IsImage}
use Rattle.query_images.proofs.Imaged.{kept, only_gained}
use Rattle.query_images.proofs.collecting.unfolded.Goals as goal

pub returns : goal.returns
returns c =
    let P = IsImage (mapped_facts c.args.mappings.now c.args.tables.now) c.args.query.now in
    let found = c.add_unfolded.new.out.items in
    let gained : Gains P [] found = subst (λ old. Gains P old found) c.new-found.ensures.items c.in_ok-add_unfolded.ensures in
    kept P found c.put_in_order.new.tuples.items (only_gained P found gained) c.in_ok-put_in_order.ensures
