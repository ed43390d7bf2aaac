-- By whether the bytes are UTF-8.
use Rattle.project_language.proofs.Bytes.{text_opened, text_fault, bytes_fault}
use Rattle.project_language.proofs.reading.open_text.Goals as goal

pub returns-in-Ok-clause-opened : goal.returns-in-Ok-clause-opened
returns-in-Ok-clause-opened c = text_opened c.args.bytes.now c.in-Ok.text.now c.open_counted.result c.in-Ok.ensures.cases.1 c.in-Ok.ensures.cases.0 c.open_counted.ensures.opened

pub returns-in-Ok-clause-fault : goal.returns-in-Ok-clause-fault
returns-in-Ok-clause-fault c = text_fault c.args.bytes.now c.in-Ok.text.now c.open_counted.result c.in-Ok.ensures.cases.1 c.in-Ok.ensures.cases.0 c.open_counted.ensures.fault

pub returns-in-Err-clause-fault : goal.returns-in-Err-clause-fault
returns-in-Err-clause-fault c known = bytes_fault c.args.bytes.now c.bad_line.result c.in-Err.ensures.cases.0 c.bad_line.ensures
