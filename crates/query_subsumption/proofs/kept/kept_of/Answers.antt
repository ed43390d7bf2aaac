-- By `Dropping`.
use Rattle.std.proofs.Common.{◌≡◌, ◌∙◌, sym, subst, refl, ap, true, [], ◌∷◌, ◌++◌, drop, append-nil}
use Rattle.std.proofs.lemmas.List.{drop_all}
use Rattle.query_subsumption.specs.Subsumption.{AreKept, IsDropped, KeptFrom}
use Rattle.query_subsumption.proofs.Dropping.{drops, keeps}
use Rattle.query_subsumption.proofs.kept.kept_of.Goals as goal
use Rattle.query_subsumption.proofs.kept.kept_of.Goals.{then-not-branch+in_ok-copy+in_ok-push, else-not-branch}

pub loop-at-preserved : goal.loop-at-preserved
loop-at-preserved c more k = elim c.if-not-branch.branch [
  | then-not-branch+in_ok-copy+in_ok-push w ↦ (let out = c.loop-at.out.items in
      let q = w.index-queries-at.result in
      let stays : IsDropped c.args.queries.now c.loop-at.at → ⊥ = λ d. let t : c.in_ok-is_dropped.field-0 ≡ true = c.in_ok-is_dropped.ensures.1 d in let f = w.if-not-branch.true in cc in
      let e : c.if-not-branch.out.items ≡ out ++ q ∷ [] = ap (λ v. v.items) w.out-is ∙ w.in_ok-push.ensures.items ∙ ap (λ x. out ++ x ∷ []) w.in_ok-copy.ensures in
      subst (λ xs. AreKept c.args.queries.now (xs ++ more)) (sym e)
      (keeps c.args.queries.now c.loop-at.at q out c.loop-at-test.true w.index-queries-at.is stays c.loop-at.invariant more k))
  | else-not-branch w ↦ (let goes : IsDropped c.args.queries.now c.loop-at.at = c.in_ok-is_dropped.ensures.0 w.if-not-branch.false in
      subst (λ v. AreKept c.args.queries.now (v.items ++ more)) (sym w.out-is) (drops c.args.queries.now c.loop-at.at c.loop-at.out.items c.loop-at-test.true goes c.loop-at.invariant more k))
]

pub returns : goal.returns
returns c =
    let n = c.loop-at.at in
    let e : drop n c.args.queries.now ≡ [] = drop_all n c.args.queries.now c.loop-at-test.false in
    let k : KeptFrom c.args.queries.now n (drop n c.args.queries.now) [] = subst (λ rest. KeptFrom c.args.queries.now n rest []) (sym e) refl in
    subst (AreKept c.args.queries.now) (append-nil c.loop-at.out.items) (c.loop-at.invariant [] k)
