-- A line at a time.
use Rattle.std.proofs.Common.{◌+◌}
use Rattle.project_language.specs.Project.{name_lines}
use Rattle.project_language.proofs.Folding.{at_passed_again, at_named, at_not_named, at_never_named}
use Rattle.project_language.proofs.naming.name_lines.Goals as goal

pub loop-line-preserved : goal.loop-line-preserved
loop-line-preserved c =
    at_passed_again (name_lines (c.args.lines.number + 1) c.args.lines.lines) c.loop-line.lines c.next.new.self c.in-Some.line c.loop-line.invariant c.in-Some.ensures (rw c.in-Ok-None.field-0-is at c.in-Ok-None.ensures.read)

pub returns-in-Ok-Some-clause-named : goal.returns-in-Ok-Some-clause-named
returns-in-Ok-Some-clause-named c =
    rw c.in-Ok-Some.file-is (at_named (name_lines (c.args.lines.number + 1) c.args.lines.lines) c.loop-line.lines c.next.new.self c.in-Some.line c.in-Ok-Some.file.now c.loop-line.invariant c.in-Some.ensures (rw c.in-Ok-Some.field-0-is at c.in-Ok-Some.ensures.read))

pub returns-in-Err-clause-fault : goal.returns-in-Err-clause-fault
returns-in-Err-clause-fault c =
    at_not_named (name_lines (c.args.lines.number + 1) c.args.lines.lines) c.loop-line.lines c.next.new.self c.in-Some.line c.in-Err.fault c.of_line.result c.loop-line.invariant c.in-Some.ensures c.in-Err.ensures.fault c.of_line.ensures

pub returns-clause-fault : goal.returns-clause-fault
returns-clause-fault c known =
    at_never_named (name_lines (c.args.lines.number + 1) c.args.lines.lines) c.loop-line.lines c.next.new.self c.loop-line.invariant c.in_default.ensures
