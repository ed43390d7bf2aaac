-- By `Rows`.
use Rattle.std.proofs.Common.{◌≡◌, rules, sym, ◌∙◌, subst, get_or, true, false, inl, inr, ◌<◌, ◌≤◌, length}
use Rattle.std.proofs.lemmas.List.{take_all}
use Rattle.vocabulary.specs.Lists.{In}
use Rattle.relation_join.specs.Joins.{AgreeAt}
use Rattle.relation_join.proofs.Values.{no_var}
use Rattle.relation_join.proofs.Gaining.{In-get_or, earlier_or_latest, get_or_any}
use Rattle.relation_join.proofs.Rows.{agreement}
use Rattle.relation_join.proofs.pairing.agree.Goals as goal

pub returns-then-not-agree_at : goal.returns-then-not-agree_at
returns-then-not-agree_at c =
    let sides = c.args.sides.now in
    let items = c.items-var-items.result.now in
    let n = c.loop-var.var-index in
    let x = get_or items n no_var in
    let within : In x sides.more = subst (In x) c.items-var-items.ensures (In-get_or items n x c.loop-var-test.true (get_or_any items n no_var x c.loop-var-test.true)) in
    let both = agreement sides.vars sides.more c.args.row.now c.args.other.now c.requires.row c.requires.other in
    ((λ t. search rules), (λ g. let q : false ≡ true = sym c.if-not-agree_at.true ∙ c.agree_at.ensures.1 (both.1 g x within) in search rules))

pub loop-var-preserved : goal.loop-var-preserved
loop-var-preserved c = λ v i.
    let sides = c.args.sides.now in
    let items = c.items-var-items.result.now in
    let n = c.loop-var.var-index in
    let l : n < length sides.more = subst (λ z. n < length z) c.items-var-items.ensures c.loop-var-test.true in
    let x = get_or sides.more n no_var in
    let here : AgreeAt sides.vars sides.more c.args.row.now c.args.other.now x = subst (λ z. AgreeAt sides.vars sides.more c.args.row.now c.args.other.now (get_or z n no_var)) c.items-var-items.ensures (c.agree_at.ensures.0 c.if-not-agree_at.false) in
    elim (earlier_or_latest sides.more n x l (get_or_any sides.more n no_var x l) v i) [
      | inl m ↦ c.loop-var.invariant v m
      | inr e ↦ subst (AgreeAt sides.vars sides.more c.args.row.now c.args.other.now) e here
    ]

pub returns : goal.returns
returns c =
    let sides = c.args.sides.now in
    let both = agreement sides.vars sides.more c.args.row.now c.args.other.now c.requires.row c.requires.other in
    let all = subst (λ z. length z ≤ c.loop-var.var-index) c.items-var-items.ensures c.loop-var-test.false in
    ((λ t. both.0 (λ v i. c.loop-var.invariant v (subst (In v) (sym (take_all c.loop-var.var-index sides.more all)) i))), (λ g. search rules))
