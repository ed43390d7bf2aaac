-- By `Pushing` and `Gathering`.
use Rattle.std.proofs.Common.{arith, eqb-true, sym, ◌∙◌}
use Rattle.std.proofs.lemmas.Option.{MatchOption-at_some, MatchOption-at_none}
use Rattle.std.proofs.lemmas.Result.{IfOk-weaker}
use Rattle.fold_rewriting.proofs.Gathering.{added_uncut}
use Rattle.fold_rewriting.proofs.Pushing.{shorter, place_within, with_lefts, without_lefts}
use Rattle.fold_rewriting.proofs.steps.push_steps_by.Goals as goal

pub returns-then-is_empty : goal.returns-then-is_empty
returns-then-is_empty c =
    without_lefts c.args.downs.now.axioms c.args.query.now c.args.birth c.args.at c.args.end c.lefts-lefts.result.now c.lefts-lefts.ensures c.args.steps.now (eqb-true _ _ (sym c.is_empty.ensures ∙ c.if-is_empty.true))

pub push_folds-requires-clause-place : goal.push_folds-requires-clause-place
push_folds-requires-clause-place c = omega (arith, place_within c.args.query.now c.args.at c.args.end c.requires.free, c.requires.atoms)

pub push_folds-requires-clause-head : goal.push_folds-requires-clause-head
push_folds-requires-clause-head c =
    let s = shorter c.args.birth c.args.query.now c.args.at c.args.end c.in-Some.cut (MatchOption-at_some _ _ c.in-Some.cut c.in-Some.is c.in_ok-cut.ensures) in
    omega (arith, s.head, c.requires.head)

pub push_folds-requires-clause-atoms : goal.push_folds-requires-clause-atoms
push_folds-requires-clause-atoms c =
    let s = shorter c.args.birth c.args.query.now c.args.at c.args.end c.in-Some.cut (MatchOption-at_some _ _ c.in-Some.cut c.in-Some.is c.in_ok-cut.ensures) in
    omega (arith, s.atoms, c.requires.atoms)

pub returns-in-Some : goal.returns-in-Some
returns-in-Some c =
    let cut = MatchOption-at_some _ _ c.in-Some.cut c.in-Some.is c.in_ok-cut.ensures in
    IfOk-weaker c.push_folds.result _ _ (λ u made. with_lefts c.args.downs.now.axioms c.args.query.now c.args.birth c.args.at c.args.end c.lefts-lefts.result.now c.lefts-lefts.ensures c.in-Some.cut c.args.steps.now c.push_folds.new.steps cut made) c.push_folds.ensures

pub returns-in-None : goal.returns-in-None
returns-in-None c = added_uncut c.args.downs.now.axioms c.args.query.now c.args.birth c.args.at c.args.end c.args.steps.now (MatchOption-at_none _ _ c.in-None.is c.in_ok-cut.ensures)
