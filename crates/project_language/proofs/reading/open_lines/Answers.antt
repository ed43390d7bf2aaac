-- A line at a time.
use Rattle.line_lexer.specs.Lines.{lines_of}
use Rattle.project_language.proofs.Folding.{at_passed, at_opened, at_fault, at_never}
use Rattle.project_language.specs.Project.{open_lines}
use Rattle.project_language.proofs.reading.open_lines.Goals as goal

pub returns-in-Ok-true-clause-opened : goal.returns-in-Ok-true-clause-opened
returns-in-Ok-true-clause-opened c =
    at_opened (open_lines 1 (lines_of c.args.text.now)) c.loop-line.lines c.next.new.self c.in-Some.line c.loop-line.invariant c.in-Some.ensures (rw c.in-Ok-true.field-0-test at c.in-Ok-true.ensures.read)

pub loop-line-preserved : goal.loop-line-preserved
loop-line-preserved c =
    at_passed (open_lines 1 (lines_of c.args.text.now)) c.loop-line.lines c.next.new.self c.in-Some.line c.loop-line.invariant c.in-Some.ensures (rw c.in-Ok-false.field-0-test at c.in-Ok-false.ensures.read)

pub returns-in-Err-clause-fault : goal.returns-in-Err-clause-fault
returns-in-Err-clause-fault c =
    at_fault (open_lines 1 (lines_of c.args.text.now)) c.loop-line.lines c.next.new.self c.in-Some.line c.in-Err.fault c.of_line.result c.loop-line.invariant c.in-Some.ensures c.in-Err.ensures.fault c.of_line.ensures

pub returns-clause-fault : goal.returns-clause-fault
returns-clause-fault c known =
    at_never (open_lines 1 (lines_of c.args.text.now)) c.loop-line.lines c.next.new.self c.loop-line.invariant c.in_default.ensures
