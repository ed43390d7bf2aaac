-- A line at a time.
use Rattle.std.proofs.Common.{◌+◌}
use Rattle.project_language.proofs.Folding.{at_read, at_read_fault, at_end}
use Rattle.project_language.specs.Project.{read_lines}
use Rattle.project_language.proofs.reading.read_lines.Goals as goal

pub loop-line-preserved : goal.loop-line-preserved
loop-line-preserved c = record {
  left = at_read (read_lines (c.args.lines.number + 1) c.args.begun c.args.lines.lines) c.loop-line.lines c.next.new.self c.in-Some.line c.loop-line.project c.read_line.new.self
      c.loop-line.invariant.left c.in-Some.ensures c.in-Ok.ensures.read;
  sound = c.in-Ok.ensures.sound;
}

pub returns-in-Err-clause-fault : goal.returns-in-Err-clause-fault
returns-in-Err-clause-fault c =
    at_read_fault (read_lines (c.args.lines.number + 1) c.args.begun c.args.lines.lines) c.loop-line.lines c.next.new.self c.in-Some.line c.loop-line.project c.in-Err.fault c.of_line.result
    c.loop-line.invariant.left c.in-Some.ensures c.in-Err.ensures.fault c.of_line.ensures

pub returns-clause-read : goal.returns-clause-read
returns-clause-read c =
    at_end (read_lines (c.args.lines.number + 1) c.args.begun c.args.lines.lines) c.loop-line.lines c.next.new.self c.loop-line.project c.loop-line.invariant.left c.in_default.ensures
