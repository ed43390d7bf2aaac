-- By `Adding`.
use Rattle.perfect_rewriting.proofs.Adding.{adding_start, adding_on, adding_wide}
use Rattle.perfect_rewriting.proofs.Faults.{kept_fault}
use Rattle.fold_rewriting.proofs.Working.{queries, last_query}
use Rattle.fold_rewriting.proofs.members.Work.add_all.Goals as goal

pub loop-query-init : goal.loop-query-init
loop-query-init c =
    let work = c.args.self.now in
    adding_start work.found.items work.pending.items (queries c.args.steps.items) c.requires.sorted c.requires.small

pub loop-query-preserved : goal.loop-query-preserved
loop-query-preserved c =
    let first = c.args.self.now in
    let now = c.loop-query.self in
    adding_on first.found.items first.pending.items (queries c.args.steps.items) (queries c.loop-query.steps.items) (queries c.pop.new.self.items) now.found.items now.pending.items c.add.new.self.found.items c.add.new.self.pending.items
    c.in-Some.query (last_query _ _ _ _ c.in-Some.ensures.items) c.loop-query.invariant c.in_ok-add.ensures.added

pub returns-in_err-add-clause-wide : goal.returns-in_err-add-clause-wide
returns-in_err-add-clause-wide c =
    let first = c.args.self.now in
    let now = c.loop-query.self in
    kept_fault c.from_residual.result c.in_err-add.field-0.0 c.from_residual.ensures.1 (λ wide.
    adding_wide first.found.items first.pending.items (queries c.args.steps.items) (queries c.loop-query.steps.items) (queries c.pop.new.self.items) now.found.items now.pending.items c.in-Some.query (last_query _ _ _ _ c.in-Some.ensures.items) c.loop-query.invariant (c.in_err-add.ensures.wide wide))
