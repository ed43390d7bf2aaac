-- By `Parts` and `Imaged`.
use Rattle.std.proofs.Common.{arith, ◌↔◌, [], List, sym, subst}
use Rattle.vocabulary.specs.declared.term.Term.{Term}
use Rattle.vocabulary.specs.Lists.{In}
use Rattle.mapping_facts.specs.Facts.{mapped_facts}
use Rattle.relation_join.specs.Joins.{Gains}
use Rattle.query_images.specs.Images.{IsImage}
use Rattle.query_images.proofs.Imaged.{kept, only_gained}
use Rattle.query_images.proofs.Parts.{rest_stands}
use Rattle.query_images.proofs.collecting.+add_images.Goals as goal

pub add_images-requires : goal.add_images-requires
add_images-requires t c =
    let cut = c.in_ok-cut.cut in
    let is = c.in_ok-cut.ensures in
    let d = c.decreases in
    (omega (arith, is.fewer, d), (record { stands = rest_stands (mapped_facts c.args.mappings.now c.args.tables.now) c.args.query.now cut.one cut.rest cut.sides.vars cut.sides.more is.cut; few = omega (arith, is.fewer, c.requires.query.few) }, c.requires.fit))

pub joined-requires-clause-others : goal.joined-requires-clause-others
joined-requires-clause-others t c =
    let P = IsImage (mapped_facts c.args.mappings.now c.args.tables.now) c.in_ok-cut.cut.rest in
    let found = c.add_images.new.out.items in
    let gained : Gains P [] found = subst (λ old. Gains P old found) c.new-others.ensures.items c.in_ok-add_images.ensures in
    subst (λ z. (ts : List Term) → In ts z ↔ P ts) (sym c.deref.ensures.value) (kept P found c.put_in_order.new.tuples.items (only_gained P found gained) c.in_ok-put_in_order.ensures)
