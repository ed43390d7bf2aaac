-- By whether the bytes are UTF-8.
use Rattle.std.proofs.Common.{◌∙◌, ap}
use Rattle.line_lexer.specs.Lines.{unmarked}
use Rattle.owl_functional.proofs.Bytes.{text_read, text_fault, bytes_fault}
use Rattle.owl_functional.proofs.Sound.{text_sound}
use Rattle.owl_functional.proofs.reading.read_ontology.Goals as goal

pub returns-in-Ok-clause-read : goal.returns-in-Ok-clause-read
returns-in-Ok-clause-read c = text_read c.args.bytes.now c.unmarked.result.now c.read_text.result c.in-Ok.ensures.cases.1 (c.unmarked.ensures.value ∙ ap unmarked c.in-Ok.ensures.cases.0) c.read_text.ensures.read

pub returns-in-Ok-clause-fault : goal.returns-in-Ok-clause-fault
returns-in-Ok-clause-fault c = text_fault c.args.bytes.now c.unmarked.result.now c.read_text.result c.in-Ok.ensures.cases.1 (c.unmarked.ensures.value ∙ ap unmarked c.in-Ok.ensures.cases.0) c.read_text.ensures.fault

pub returns-in-Ok-clause-sound : goal.returns-in-Ok-clause-sound
returns-in-Ok-clause-sound c = text_sound c.unmarked.result.now c.read_text.result c.read_text.ensures.read

pub returns-in-Err-clause-fault : goal.returns-in-Err-clause-fault
returns-in-Err-clause-fault c known = bytes_fault c.args.bytes.now c.bad_line.result c.in-Err.ensures.cases.0 c.bad_line.ensures
