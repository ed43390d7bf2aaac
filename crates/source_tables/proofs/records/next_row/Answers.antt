use Rattle.csv.specs.Records.{fields_of}
use Rattle.source_tables.proofs.Taking.{takes}
use Rattle.source_tables.proofs.records.next_row.Goals as goal
use Rattle.source_tables.proofs.records.next_row.Goals.{in-Ok, in-Err}

pub returns : goal.returns
returns c = elim c.match-read_byte_record.branch [
  | in-Ok w ↦ rw w.result-is (λ rows l. takes c.args.reader.now c.read_byte_record.new.self rows w.in-Ok.found (fields_of c.read_byte_record.new.row)
      l (w.in-Ok.ensures.reads l.trim l.ready) w.in-Ok.ensures.reads_on w.in-Ok.ensures.flexible)
  | in-Err w ↦ rw w.result-is tt
]
