use Rattle.std.proofs.Common.{sym, take}
use Rattle.xes_writer.specs.Xes.{escaped}
use Rattle.xes_writer.proofs.Putting.{first_escaped, puts_same}
use Rattle.xes_writer.proofs.gather.Gather.put_front.Goals as goal

pub returns-else-plain-gt0-clause-put : goal.returns-else-plain-gt0-clause-put
returns-else-plain-gt0-clause-put g c = puts_same (escaped (take 1 c.args.text.now)) (sym (first_escaped c.args.text.now c.requires)) c.put_byte.ensures
