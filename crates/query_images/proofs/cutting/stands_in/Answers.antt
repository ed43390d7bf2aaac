-- By `Scanning`.
use Rattle.std.proofs.Common.{rules, ◌≡◌, refl, ap, subst, get_or}
use Rattle.vocabulary.specs.Lists.{In}
use Rattle.vocabulary.specs.declared.ids.VarId.{VarId}
use Rattle.query_images.proofs.Scanning.{among, get_or_any, none_all, none_more, none_start}
use Rattle.query_images.proofs.cutting.stands_in.Goals as goal

abbrev no_var : VarId
no_var = record { 0 = 0 }

pub loop-other-init : goal.loop-other-init
loop-other-init c = none_start (λ v. v ≡ c.args.var) c.args.vars.now

pub returns-then-other-var : goal.returns-then-other-var
returns-then-other-var c =
    let x = get_or c.args.vars.now c.loop-other.other-index no_var in
    let i = among (λ v. v ≡ c.args.var) c.args.vars.now c.loop-other.other-index x c.loop-other-test.true (get_or_any c.args.vars.now c.loop-other.other-index no_var x c.loop-other-test.true) in
    let e : x ≡ c.args.var = λ i. record { 0 = c.if-other-var.true i } in
    ((λ t. subst (λ z. In z c.args.vars.now) e i), (λ m. search rules))

pub loop-other-preserved : goal.loop-other-preserved
loop-other-preserved c =
    let x = get_or c.args.vars.now c.loop-other.other-index no_var in
    none_more (λ v. v ≡ c.args.var) c.args.vars.now c.loop-other.other-index x c.loop-other-test.true (get_or_any c.args.vars.now c.loop-other.other-index no_var x c.loop-other-test.true) c.loop-other.invariant (λ p. c.if-other-var.false (ap (λ z. z.0) p))

pub returns : goal.returns
returns c =
    let none = none_all (λ v. v ≡ c.args.var) c.args.vars.now c.loop-other.other-index c.loop-other-test.false c.loop-other.invariant in
    ((λ t. search rules), (λ m. absurd (none c.args.var m refl)))
