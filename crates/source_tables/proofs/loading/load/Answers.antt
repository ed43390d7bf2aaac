use Rattle.std.proofs.Common.{◌∙◌}
use Rattle.std.proofs.lemmas.Result.{IfOk-weaker, IfErr-weaker}
use Rattle.source_tables.specs.Tables.{records_of}
use Rattle.source_tables.proofs.Taking.{ends_here, took_first}
use Rattle.source_tables.proofs.Whole.{of_records, of_none}
use Rattle.source_tables.proofs.loading.load.Goals as goal

pub returns-then-branch-clause-table : goal.returns-then-branch-clause-table
returns-then-branch-clause-table c =
    let first = took_first (records_of c.args.bytes.now) _ _ _ c.if-branch.true (c.in_ok-next_row.ensures (records_of c.args.bytes.now) c.open_records-reader.ensures) in
    let is = of_records c.args.decl.now c.args.bytes.now _ first.0 first.1 in
    IfOk-weaker c.load_below.result _ _ (λ t found. is ∙ found first.0 first.2) c.load_below.ensures.table

pub returns-then-branch-clause-fault : goal.returns-then-branch-clause-fault
returns-then-branch-clause-fault c =
    let first = took_first (records_of c.args.bytes.now) _ _ _ c.if-branch.true (c.in_ok-next_row.ensures (records_of c.args.bytes.now) c.open_records-reader.ensures) in
    let is = of_records c.args.decl.now c.args.bytes.now _ first.0 first.1 in
    IfErr-weaker c.load_below.result _ _ (λ e fails other. is ∙ fails first.0 first.2 other) c.load_below.ensures.fault

pub returns-clause-table : goal.returns-clause-table
returns-clause-table c =
    let is = of_none c.args.decl.now c.args.bytes.now (ends_here (records_of c.args.bytes.now) _ _ _ c.if-branch.false (c.in_ok-next_row.ensures (records_of c.args.bytes.now) c.open_records-reader.ensures)) in
    IfOk-weaker c.load_empty.result _ _ (λ t found. is ∙ found) c.load_empty.ensures.table

pub returns-clause-fault : goal.returns-clause-fault
returns-clause-fault c =
    let is = of_none c.args.decl.now c.args.bytes.now (ends_here (records_of c.args.bytes.now) _ _ _ c.if-branch.false (c.in_ok-next_row.ensures (records_of c.args.bytes.now) c.open_records-reader.ensures)) in
    IfErr-weaker c.load_empty.result _ _ (λ e fails other. is ∙ fails other) c.load_empty.ensures.fault
