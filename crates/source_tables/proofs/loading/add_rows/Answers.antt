use Rattle.std.proofs.lemmas.Result.{err_from_is_err_and}
use Rattle.csv.specs.Records.{fields_of}
use Rattle.source_tables.specs.Loading.{rows_in}
use Rattle.source_tables.proofs.Taking.{ends_here, took_first}
use Rattle.source_tables.proofs.Bodies.{none_left, row_fails, row_goes}
use Rattle.source_tables.proofs.loading.add_rows.Goals as goal

pub returns-then-not-branch-clause-added : goal.returns-then-not-branch-clause-added
returns-then-not-branch-clause-added c = λ body leaves.
    let left = c.loop-turn.invariant.left body leaves in
    none_left c.args.decl.now (fields_of c.args.header.now) (rows_in c.args.decl.now c.loop-turn.rows.count c.loop-turn.rows.cells) left.0 _ left.2
    (ends_here left.0 _ _ _ c.if-not-branch.true (c.in_ok-next_row.ensures left.0 left.1))

pub returns-in_err-add_row-clause-fault : goal.returns-in_err-add_row-clause-fault
returns-in_err-add_row-clause-fault c =
    let p = err_from_is_err_and c.from_residual-in_err-add_row.result c.from_residual-in_err-add_row.ensures.1 in
    rw (p.1, p.2) (λ body leaves.
    let left = c.loop-turn.invariant.left body leaves in
    let first = took_first left.0 _ _ _ c.if-not-branch.false (c.in_ok-next_row.ensures left.0 left.1) in
    row_fails c.args.decl.now (fields_of c.args.header.now) (rows_in c.args.decl.now c.loop-turn.rows.count c.loop-turn.rows.cells) _ left.0 first.0 _ c.in_err-add_row.field-0.0 left.2 first.1 c.in_err-add_row.ensures.fault)

pub loop-turn-preserved : goal.loop-turn-preserved
loop-turn-preserved c = record {
  read = c.in_ok-add_row.ensures.read;
  left = λ body leaves.
      let left = c.loop-turn.invariant.left body leaves in
      let first = took_first left.0 _ _ _ c.if-not-branch.false (c.in_ok-next_row.ensures left.0 left.1) in
      (first.0, first.2, row_goes c.args.decl.now (fields_of c.args.header.now) (rows_in c.args.decl.now c.loop-turn.rows.count c.loop-turn.rows.cells) _ _ left.0 first.0 _ left.2 first.1 c.in_ok-add_row.ensures.added);
}
