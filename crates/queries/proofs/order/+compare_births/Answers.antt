-- By the births of each.
use Rattle.std.proofs.Common.{◌∙◌}
use Rattle.std.specs.Ordering.{nat_cmp, ordering_then}
use Rattle.vocabulary.specs.Texts.{text_cmp}
use Rattle.queries.specs.Order.{births}
use Rattle.queries.proofs.Terms.{both_fresh, first_fresh, second_fresh}
use Rattle.queries.proofs.order.+compare_births.Goals as goal

pub returns-in-New-u : goal.returns-in-New-u
returns-in-New-u t c =
    let rest = c.compare_births-rest.ensures ∙ (λ i. text_cmp (births (c.get.ensures i)) (births (c.get-in-New-u.ensures i))) in
    let dirs = c.cmp-in-New-u.ensures ∙ (λ i. nat_cmp (c.direction.ensures i) (c.direction-in-New-u.ensures i)) in
    let inner = c.then.ensures ∙ (λ i. ordering_then (dirs i) (rest i)) in
    c.then-in-New-u.ensures ∙ (λ i. ordering_then (c.cmp.ensures i) (inner i))
    ∙ both_fresh c.args.t.now c.args.u.now c.in-New.p c.in-New-u.q c.in-New.d c.in-New-u.e c.in-New.s c.in-New-u.r c.in-New.is c.in-New-u.is

pub returns-in_default-u : goal.returns-in_default-u
returns-in_default-u t c = first_fresh c.args.t.now c.args.u.now c.in-New.p c.in-New.d c.in-New.s c.in-New.is c.in_default-u.not-New

pub returns-in-New-u-2 : goal.returns-in-New-u-2
returns-in-New-u-2 t c = second_fresh c.args.t.now c.args.u.now c.in-New-u-2.field-0 c.in-New-u-2.field-1 c.in-New-u-2.field-2 c.in_default.not-New c.in-New-u-2.is
