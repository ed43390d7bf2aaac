use Rattle.onprom_core.proofs.Texts.{bytes_told, text_told}
use Rattle.onprom_core.proofs.reading.spelled_in.Goals as goal

pub returns-in-Ok-clause-told : goal.returns-in-Ok-clause-told
returns-in-Ok-clause-told c =
    text_told c.args.project.now c.args.name.now c.args.bytes.now c.in-Ok.text.now c.spelled.result c.in-Ok.ensures.cases.1 c.in-Ok.ensures.cases.0 c.spelled.ensures.told

pub returns-in_ok-line_refused-in-Err-clause-told : goal.returns-in_ok-line_refused-in-Err-clause-told
returns-in_ok-line_refused-in-Err-clause-told c =
    bytes_told c.args.project.now c.args.name.now c.args.bytes.now c.refuse.result c.in_ok-line_refused-in-Err.field-0 c.in-Err.ensures.cases.0
    (rw c.bad_line-line.ensures at c.in_ok-line_refused-in-Err.ensures) c.refuse.ensures
