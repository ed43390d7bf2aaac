use Rattle.std.proofs.Common.{◌∙◌, ap}
use Rattle.xes_writer.specs.Xes.{entry_text, escaped}
use Rattle.xes_writer.proofs.Putting.{entry_parts, puts_same, puts_then}
use Rattle.xes_writer.proofs.writing.put_entry.Goals as goal

pub returns : goal.returns
returns g c =
    let entry = c.args.entry.now in
    let indent = c.args.indent.now in
    let key = puts_same (escaped entry.key) (ap escaped (c.as_bytes.ensures.value ∙ c.text.ensures)) c.put_escaped.ensures in
    let value = puts_same (escaped entry.value) (ap escaped (c.as_bytes-2.ensures.value ∙ c.text-2.ensures)) c.put_escaped-2.ensures in
    puts_same (entry_text indent entry) (entry_parts indent c.entry_front.result.now entry c.entry_front.ensures)
    (puts_then (puts_then (puts_then (puts_then (puts_then c.put.ensures c.put-2.ensures) key) c.put-3.ensures) value) c.put-4.ensures)
