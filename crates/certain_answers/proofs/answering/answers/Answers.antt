-- By `Certain`.
use Rattle.std.proofs.Common.{All, sym, subst}
use Rattle.vocabulary.specs.Lists.{IsListOf}
use Rattle.queries.specs.Order.{tuple_cmp}
use Rattle.fold_rewriting.specs.Listing.{GiveCertain}
use Rattle.mapping_facts.specs.Facts.{mapped_facts}
use Rattle.query_images.specs.Images.{CanUnfold, IsImageOfOne}
use Rattle.certain_answers.specs.Lean.{AllLean}
use Rattle.certain_answers.proofs.Certain.{answers_certain, kept_unfold}
use Rattle.certain_answers.proofs.answering.answers.Goals as goal

pub union_images-requires-clause-queries : goal.union_images-requires-clause-queries
union_images-requires-clause-queries c =
    let lean : AllLean c.downs-downs.result.now.axioms c.in_ok-folds.folds c.in_ok-leans.leans = subst (λ qs. AllLean c.downs-downs.result.now.axioms qs c.in_ok-leans.leans) c.items.ensures c.in_ok-leans.ensures in
    subst (All CanUnfold) (sym c.items-2.ensures)
    (kept_unfold c.downs-downs.result.now.axioms c.args.query.now c.in_ok-folds.folds c.in_ok-leans.leans c.in_ok-kept.kept c.requires.known c.requires.stands c.requires.few c.in_ok-folds.ensures.shape lean c.in_ok-kept.ensures.among)

pub returns-clause-answers : goal.returns-clause-answers
returns-clause-answers c =
    let s = c.args.specification.now in
    let q = c.args.query.now in
    let folds = c.in_ok-folds.folds in
    let leans = c.in_ok-leans.leans in
    let tuples = c.in_ok-tuples.tuples in
    let further = c.further.result.now in
    let tables = c.args.tables.now in
    let gives : GiveCertain s.axioms q folds = subst (λ axioms. GiveCertain axioms q folds) c.downs-downs.ensures.axioms c.in_ok-folds.ensures.answers in
    let here : AllLean c.downs-downs.result.now.axioms folds leans = subst (λ qs. AllLean c.downs-downs.result.now.axioms qs leans) c.items.ensures c.in_ok-leans.ensures in
    let lean : AllLean s.axioms folds leans = subst (λ axioms. AllLean axioms folds leans) c.downs-downs.ensures.axioms here in
    let list : IsListOf tuple_cmp (IsImageOfOne (mapped_facts further tables) c.in_ok-kept.kept) tuples =
    subst (λ qs. IsListOf tuple_cmp (IsImageOfOne (mapped_facts further tables) qs) tuples) c.items-2.ensures c.in_ok-tuples.ensures in
    answers_certain s.axioms s.mappings further c.further.ensures.given_fit c.further.ensures.known tables c.derived-2.ensures c.derived.ensures c.known_come_by_chains.ensures c.known_have_the_chase.ensures c.known_hold_their_known.ensures
    q folds leans c.in_ok-kept.kept c.requires.known c.requires.stands gives lean c.in_ok-kept.ensures.images tuples list
