-- By `Deciding`.
use Rattle.std.proofs.Common.{◌≡◌, sym, subst, ◌∙◌, refl, true, false, arith, length, inl, inr}
use Rattle.std.proofs.lemmas.List.{take_all}
use Rattle.std.proofs.lemmas.Option.{slice_get_read}
use Rattle.vocabulary.specs.Lists.{In}
use Rattle.query_subsumption.specs.Subsumption.{MapsInto}
use Rattle.model_lint.proofs.Deciding.{first_there}
use Rattle.negative_closure.proofs.Spreading.{in_taken}
use Rattle.model_lint.proofs.containment.first_into.Goals as goal

pub returns-then-branch : goal.returns-then-branch
returns-then-branch c =
    let xs = c.args.queries.now in
    first_there xs c.args.special.now c.index-queries-at.result c.loop-at.at (slice_get_read xs (length xs) c.loop-at.at c.index-queries-at.result refl (omega (arith, c.loop-at-test.true)) c.index-queries-at.is)
    (c.in_ok-maps.ensures.0 c.if-branch.true) c.loop-at.invariant

pub loop-at-preserved : goal.loop-at-preserved
loop-at-preserved c = λ q m maps.
    elim (in_taken c.args.queries.now c.loop-at.at c.index-queries-at.result (omega (arith, c.loop-at-test.true)) m) [
      | inl before ↦ c.loop-at.invariant q before maps
      | inr e ↦ (let yes = c.in_ok-maps.ensures.1 (subst (λ z. MapsInto z c.args.special.now) (sym (c.index-queries-at.is ∙ e)) maps) in let wrong : true ≡ false = sym yes ∙ c.if-branch.false in absurd cc)
    ]

pub returns : goal.returns
returns c = λ q m. c.loop-at.invariant q (subst (In q) (sym (take_all c.loop-at.at c.args.queries.now (omega (arith, c.loop-at-test.false)))) m)
