-- A line that breaks no rule keeps every query askable, and over the model.
use Rattle.annotation_language.specs.Shown.{shown}
use Rattle.annotation_language.proofs.AskableLines.{read_askable, read_within}
use Rattle.annotation_language.proofs.reader.read_annotation_line.Goals as goal

pub returns-in-Some-clause-askable : goal.returns-in-Some-clause-askable
returns-in-Some-clause-askable c all = read_askable c.args.model.now c.args.line.now.number c.args.notes.now all (shown c.in-Some.written) c.read_line.result c.read_line.new.notes c.read_line.ensures.read

pub returns-in-Some-clause-within : goal.returns-in-Some-clause-within
returns-in-Some-clause-within c all = read_within c.args.model.now c.args.line.now.number c.args.notes.now all (shown c.in-Some.written) c.read_line.result c.read_line.new.notes c.read_line.ensures.read
