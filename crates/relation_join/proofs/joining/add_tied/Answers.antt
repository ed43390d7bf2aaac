-- By `Numbers`.
use Rattle.std.proofs.Common.{◌≡◌, sym, ◌∙◌, ap, subst, Some}
use Rattle.std.proofs.lemmas.Result.{on_ok_weaker}
use Rattle.vocabulary.specs.Terms.{text_of}
use Rattle.relation_join.specs.Joins.{Gains, IsListed, IsWith, value_in}
use Rattle.relation_join.specs.Listed.{rows_with}
use Rattle.relation_join.proofs.Gaining.{gains_same}
use Rattle.relation_join.proofs.Numbers.{listed_with}
use Rattle.relation_join.proofs.joining.add_tied.Goals as goal

pub returns-in-Some : goal.returns-in-Some
returns-in-Some c =
    let sides = c.args.sides.now in
    let old = c.args.out.now.items in
    let new = c.add_listed.new.out.items in
    let rows = c.args.rows.now in
    let other = c.args.other.now in
    let numbers = c.find-numbers.result.now in
    let t = c.in-Some.term.now in
    let P = IsListed sides.vars sides.more sides.head rows numbers other in
    let Q = IsWith sides.vars sides.more sides.head rows other in
    let found : value_in sides.more other c.args.var ≡ Some t = subst (λ z. value_in z other c.args.var ≡ Some t) c.items.ensures (sym c.in-Some.ensures) in
    let e : numbers ≡ rows_with sides.vars rows c.args.var (text_of t) = c.find-numbers.ensures ∙ c.requires.index c.text-in-Some.result.now ∙ ap (λ z. rows_with sides.vars rows c.args.var z) (c.text-in-Some.ensures ∙ c.text.ensures) in
    on_ok_weaker c.add_listed.result (λ (gains : Gains P old new). gains_same P Q old new (listed_with sides.vars sides.more sides.head rows other c.args.var t numbers c.requires.first c.requires.second found e) gains) c.add_listed.ensures
