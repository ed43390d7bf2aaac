use Rattle.language_tests.proofs.mappings.papers.Goals as goal

pub loop-text-preserved : goal.loop-text-preserved
loop-text-preserved c = c.in_ok-read_source_line.ensures.offsets c.loop-text.invariant
