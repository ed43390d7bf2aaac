-- By the two bounds.
use Rattle.std.proofs.Common.{◌≡◌, ◌∙◌, ap, ◌-◌, ◌≤◌, List, drop, length, length-drop, arith}
use Rattle.vocabulary.specs.declared.term.Term.{Term}
use Rattle.queries.specs.Order.{tuple_cmp}
use Rattle.log_assembly.specs.Found.{first_cmp, run_of}
use Rattle.log_assembly.proofs.Runs.{run_is}
use Rattle.log_assembly.proofs.Tuples.{first_rises}
use Rattle.log_assembly.proofs.lookup.run.Goals as goal

pub returns : goal.returns
returns c =
    let t : Term = c.args.term.now in
    let xs : List (List Term) = c.tuples-tuples.result.now in
    let same : xs ≡ c.args.answers.now.tuples = c.tuples-tuples.ensures in
    let i = c.first_at-from.result in
    let e = c.end_of-end.result in
    let w = c.end_of-end.ensures.within in
    let len : e - i ≤ length (drop i xs) = omega (arith, length-drop i xs, w) in
    run_is tuple_cmp (first_cmp t) (first_rises t) xs i (e - i) c.first_at-from.ensures.within len c.first_at-from.ensures.first c.end_of-end.ensures.end ∙ ap (run_of t) same
