-- By `Working`.
use Rattle.std.proofs.Common.{◌≡◌, length, arith}
use Rattle.queries.specs.declared.query.Query.{Query}
use Rattle.fold_rewriting.specs.Folds.{Folds}
use Rattle.perfect_rewriting.proofs.Faults.{kept_fault}
use Rattle.fold_rewriting.proofs.Shaping.{folds_atoms, folds_head}
use Rattle.fold_rewriting.proofs.Working.{AreFoldsOf, queries, steps_are, working_start, last_found, working_on, less_left, working_end, working_wide}
use Rattle.fold_rewriting.proofs.members.folds_of.Goals as goal

pub loop-member-init : goal.loop-member-init
loop-member-init c = working_start c.args.downs.now.axioms c.args.query.now c.in_ok-normal.field-0 c.in_ok-work.work.found.items c.in_ok-work.work.pending.items c.in_ok-normal.ensures c.in_ok-work.ensures.found c.in_ok-work.ensures.pending

pub fold_steps-requires-clause-head : goal.fold_steps-requires-clause-head
fold_steps-requires-clause-head c =
    let w = c.loop-member.work in
    let m : Query = c.in-Some.member in
    let r : Folds c.args.downs.now.axioms c.args.query.now m = c.loop-member.invariant.folded m (last_found c.args.downs.now.axioms c.args.query.now w.found.items w.pending.items c.pop.new.self.items m c.in-Some.ensures.items c.loop-member.invariant) in
    omega (arith, folds_head r, c.requires.head)

pub fold_steps-requires-clause-atoms : goal.fold_steps-requires-clause-atoms
fold_steps-requires-clause-atoms c =
    let w = c.loop-member.work in
    let m : Query = c.in-Some.member in
    let r : Folds c.args.downs.now.axioms c.args.query.now m = c.loop-member.invariant.folded m (last_found c.args.downs.now.axioms c.args.query.now w.found.items w.pending.items c.pop.new.self.items m c.in-Some.ensures.items c.loop-member.invariant) in
    omega (arith, folds_atoms r, c.requires.atoms)

pub returns-in_err-add_all-clause-wide : goal.returns-in_err-add_all-clause-wide
returns-in_err-add_all-clause-wide c =
    let w = c.loop-member.work in
    let axioms = c.args.downs.now.axioms in
    let steps : AreFoldsOf axioms c.in-Some.member (queries c.into_vec.result.items) = steps_are axioms c.in-Some.member c.in_ok-steps.steps c.into_vec.result.items c.in_ok-steps.ensures c.into_vec.ensures in
    kept_fault c.from_residual-in_err-add_all.result c.in_err-add_all.field-0.0 c.from_residual-in_err-add_all.ensures.1 (λ wide.
    working_wide axioms c.args.query.now w.found.items w.pending.items c.pop.new.self.items (queries c.into_vec.result.items) c.in-Some.member c.in-Some.ensures.items steps c.loop-member.invariant (c.in_err-add_all.ensures.wide wide))

pub loop-member-smaller : goal.loop-member-smaller
loop-member-smaller c =
    let w = c.loop-member.work in
    less_left w.found.items w.pending.items c.pop.new.self.items (queries c.into_vec.result.items) c.add_all.new.self.found.items c.add_all.new.self.pending.items c.in-Some.member c.in-Some.ensures.items c.in_ok-add_all.ensures.added

pub loop-member-preserved : goal.loop-member-preserved
loop-member-preserved c =
    let w = c.loop-member.work in
    let axioms = c.args.downs.now.axioms in
    let steps : AreFoldsOf axioms c.in-Some.member (queries c.into_vec.result.items) = steps_are axioms c.in-Some.member c.in_ok-steps.steps c.into_vec.result.items c.in_ok-steps.ensures c.into_vec.ensures in
    working_on axioms c.args.query.now w.found.items w.pending.items c.pop.new.self.items (queries c.into_vec.result.items) c.add_all.new.self.found.items c.add_all.new.self.pending.items c.in-Some.member
    c.in-Some.ensures.items steps c.loop-member.invariant c.in_ok-add_all.ensures.added

pub returns-clause-members : goal.returns-clause-members
returns-clause-members c =
    let w = c.loop-member.work in
    let none : length w.pending.items ≡ 0 = omega (arith, c.in_default.ensures.cases.0, w.pending.ok.0) in
    working_end c.args.downs.now.axioms c.args.query.now w.found.items w.pending.items none c.loop-member.invariant
