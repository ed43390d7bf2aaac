-- By `Parts`.
use Rattle.std.proofs.Common.{rules, arith, ◌≡◌, ◌↔◌, ◌++◌, List, length, sym, subst}
use Rattle.std.proofs.lemmas.Result.{IfOk-weaker}
use Rattle.vocabulary.specs.declared.term.Term.{Term}
use Rattle.vocabulary.specs.Lists.{In}
use Rattle.mapping_facts.specs.Facts.{mapped_facts}
use Rattle.relation_join.specs.Joins.{AreOf, AreRows, IsJoined}
use Rattle.query_images.specs.Images.{IsImage}
use Rattle.query_images.proofs.Imaged.{no_items}
use Rattle.query_images.proofs.Parts.{are_others, are_rows, head_of_both, image_joined, joined_image, nothing_joined, one_stands}
use Rattle.query_images.proofs.collecting.joined.Goals as goal

pub returns-then-is_empty : goal.returns-then-is_empty
returns-then-is_empty c =
    let cut = c.args.cut.now in
    let long : length c.args.others.now ≡ 0 = search rules in
    let none = no_items c.args.others.now long in
    λ ts. subst (λ z. In ts z ↔ IsImage (mapped_facts c.args.mappings.now c.args.tables.now) c.args.query.now ts) (sym c.new.ensures.items)
    (nothing_joined (mapped_facts c.args.mappings.now c.args.tables.now) c.args.query.now cut.one cut.rest cut.sides.vars cut.sides.more c.requires.cut c.args.others.now c.requires.others none ts)

pub unfolded-requires-clause-query : goal.unfolded-requires-clause-query
unfolded-requires-clause-query c =
    let cut = c.args.cut.now in
    record { stands = one_stands (mapped_facts c.args.mappings.now c.args.tables.now) c.args.query.now cut.one cut.rest cut.sides.vars cut.sides.more c.requires.cut; few = omega (arith, c.requires.single) }

pub join-requires-clause-rows : goal.join-requires-clause-rows
join-requires-clause-rows c =
    let cut = c.args.cut.now in
    subst (AreRows cut.sides.vars) (sym c.deref.ensures.value)
    (are_rows (mapped_facts c.args.mappings.now c.args.tables.now) c.args.query.now cut.one cut.rest cut.sides.vars cut.sides.more c.requires.cut c.in_ok-rows.rows.items c.args.others.now c.in_ok-rows.ensures)

pub join-requires-clause-others : goal.join-requires-clause-others
join-requires-clause-others c =
    let cut = c.args.cut.now in
    are_others (mapped_facts c.args.mappings.now c.args.tables.now) c.args.query.now cut.one cut.rest cut.sides.vars cut.sides.more c.requires.cut c.in_ok-rows.rows.items c.args.others.now c.requires.others

pub join-requires-clause-head : goal.join-requires-clause-head
join-requires-clause-head c =
    let cut = c.args.cut.now in
    subst (AreOf (cut.sides.vars ++ cut.sides.more)) (sym c.requires.head)
    (head_of_both (mapped_facts c.args.mappings.now c.args.tables.now) c.args.query.now cut.one cut.rest cut.sides.vars cut.sides.more c.requires.cut c.requires.query.stands)

pub returns : goal.returns
returns c =
    let cut = c.args.cut.now in
    let facts = mapped_facts c.args.mappings.now c.args.tables.now in
    let rows = c.deref.result.now in
    let ones = subst (λ z. (ts : List Term) → In ts z ↔ IsImage facts cut.one ts) (sym c.deref.ensures.value) c.in_ok-rows.ensures in
    IfOk-weaker c.join.result (λ v. (ts : List Term) → In ts v.items ↔ IsJoined cut.sides.vars cut.sides.more cut.sides.head rows c.args.others.now ts) (λ v. (ts : List Term) → In ts v.items ↔ IsImage facts c.args.query.now ts)
    (λ v is ts. (
      (λ i. joined_image facts c.args.query.now cut.one cut.rest cut.sides.vars cut.sides.more c.requires.cut rows c.args.others.now ones c.requires.others ts (subst (λ h. IsJoined cut.sides.vars cut.sides.more h rows c.args.others.now ts) c.requires.head ((is ts).0 i))),
      (λ m. (is ts).1 (subst (λ h. IsJoined cut.sides.vars cut.sides.more h rows c.args.others.now ts) (sym c.requires.head) (image_joined facts c.args.query.now cut.one cut.rest cut.sides.vars cut.sides.more c.requires.cut rows c.args.others.now ones c.requires.others ts m))),
    ))
    c.join.ensures
