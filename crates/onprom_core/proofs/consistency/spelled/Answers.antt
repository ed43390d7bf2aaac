use Rattle.onprom_core.proofs.Spelling.{read_back, well_formed}
use Rattle.onprom_core.proofs.consistency.spelled.Goals as goal

pub write-requires-clause-well_formed : goal.write-requires-clause-well_formed
write-requires-clause-well_formed c = rw c.mappings.ensures (well_formed c.args.project.now c.args.tables.now c.requires.sound c.have_few_rows.ensures c.args.found.now c.accepted_is_well_formed.ensures c.requires.contradictions)

pub returns-clause-read_back : goal.returns-clause-read_back
returns-clause-read_back c =
    read_back c.args.project.now c.args.tables.now c.requires.sound c.have_few_rows.ensures c.args.found.now c.mappings.result.now c.in_ok-text.text c.text.result.now
    c.mappings.ensures c.in_ok-text.ensures.text c.in_ok-text.ensures.read c.text.ensures c.text.utf8
