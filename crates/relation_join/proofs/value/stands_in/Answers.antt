-- By `Gaining`.
use Rattle.std.proofs.Common.{◌≡◌, rules, sym, ap, subst, inl, inr, get_or}
use Rattle.std.proofs.lemmas.List.{take_all}
use Rattle.vocabulary.specs.Lists.{In}
use Rattle.relation_join.proofs.Values.{no_var}
use Rattle.relation_join.proofs.Gaining.{In-get_or, earlier_or_latest, get_or_any}
use Rattle.relation_join.proofs.value.stands_in.Goals as goal

pub loop-other-preserved : goal.loop-other-preserved
loop-other-preserved c = λ i.
    let vars = c.args.vars.now in
    let n = c.loop-other.other-index in
    let x = get_or vars n no_var in
    elim (earlier_or_latest vars n x c.loop-other-test.true (get_or_any vars n no_var x c.loop-other-test.true) c.args.var i) [ inl m ↦ c.loop-other.invariant m | inr e ↦ c.if-other-var.false (ap (λ z. z.0) e) ]

pub returns-then-other-var : goal.returns-then-other-var
returns-then-other-var c =
    let vars = c.args.vars.now in
    let n = c.loop-other.other-index in
    let x = get_or vars n no_var in
    let e : x ≡ c.args.var = λ i. record { 0 = c.if-other-var.true i } in
    ((λ t. subst (λ z. In z vars) e (In-get_or vars n x c.loop-other-test.true (get_or_any vars n no_var x c.loop-other-test.true))), (λ m. search rules))

pub returns : goal.returns
returns c =
    let vars = c.args.vars.now in
    ((λ t. search rules), (λ m. absurd (c.loop-other.invariant (subst (In c.args.var) (sym (take_all c.loop-other.other-index vars c.loop-other-test.false)) m))))
