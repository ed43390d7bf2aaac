-- By `Facts`.
use Rattle.std.proofs.Common.{◌≡◌, ◌∙◌, sym, ap, Some}
use Rattle.std.proofs.lemmas.Result.{IfOk-weaker}
use Rattle.conflict_checker.specs.Derivations.{facts_of, items_at}
use Rattle.why_answers.proofs.Facts.{one_each, read_is_explained}
use Rattle.why_answers.proofs.explaining.explains.Goals as goal

pub returns-then-len : goal.returns-then-len
returns-then-len c tuple = ((λ e. absurd cc), (λ w. absurd (c.if-len.true (c.len.ensures ∙ one_each c.args.tbox.now c.args.mappings.now c.args.tables.now c.args.query.now c.args.why.now tuple w ∙ sym c.len-2.ensures))))

pub returns-in-Some-2 : goal.returns-in-Some-2
returns-in-Some-2 c =
    let steps : facts_of c.args.tbox.now c.args.mappings.now c.args.tables.now c.args.why.now.steps ≡ Some c.in-Some.facts =
    ap (facts_of c.args.tbox.now c.args.mappings.now c.args.tables.now) (sym c.items.ensures) ∙ sym (rw c.in-Some.is at c.in_ok-facts.ensures) in
    let numbered : items_at c.in-Some.facts c.args.why.now.atoms ≡ Some c.items-in-Some-2.result.now =
    ap (items_at c.in-Some.facts) (sym c.items-3.ensures) ∙ ap (λ fs. items_at fs c.items-3.result.now) (sym c.items-2.ensures) ∙ sym (rw c.in-Some-2.is at c.in_ok-named.ensures) ∙ ap Some (sym c.items-in-Some-2.ensures) in
    let is = read_is_explained c.args.tbox.now c.args.mappings.now c.args.tables.now c.args.query.now c.args.why.now c.in-Some.facts c.items-in-Some-2.result.now steps numbered in
    IfOk-weaker c.read_tuple.result _ _ (λ found h tuple. ((λ e. (is tuple).0 ((h tuple).0 e)), (λ w. (h tuple).1 ((is tuple).1 w)))) c.read_tuple.ensures
