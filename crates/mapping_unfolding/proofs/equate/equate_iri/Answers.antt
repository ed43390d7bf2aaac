use Rattle.mapping_unfolding.proofs.Equating.{text_count, text_none, text_some}
use Rattle.mapping_unfolding.proofs.equate.equate_iri.Goals as goal

pub text_conditions-requires : goal.text_conditions-requires
text_conditions-requires c =
    let g = c.in_ok-texts.ensures.gives in
    rw (c.items.ensures) (text_count c.args.iri.now c.args.template.now c.args.places.now c.requires c.in_ok-texts.field-0 c.in-Some.texts (rw (c.text.ensures) at g) c.in-Some.is)

pub returns-in_ok-conditions-in-Some : goal.returns-in_ok-conditions-in-Some
returns-in_ok-conditions-in-Some c =
    let f = c.in_ok-conditions-in-Some.ensures in
    let g = c.in_ok-texts.ensures.gives in
    let o = c.in_ok-texts.ensures.only in
    text_some c.args.iri.now c.args.template.now c.args.places.now c.requires c.in_ok-texts.field-0 c.in-Some.texts c.in_ok-conditions-in-Some.conditions
    (rw (c.text.ensures) at g) (rw (c.text.ensures) at o) c.in-Some.is (rw (c.items.ensures) at f)

pub returns-in-None : goal.returns-in-None
returns-in-None c =
    let o = c.in_ok-texts.ensures.only in
    text_none c.args.iri.now c.args.template.now c.args.places.now c.in_ok-texts.field-0 (rw (c.text.ensures) at o) c.in-None.is
