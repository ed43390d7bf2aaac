use Rattle.mapping_language.specs.Changes.{HaveOffsets}
use Rattle.language_tests.proofs.mappings.papers.Given as goal

abbrev pub invariant-loop-text : goal.invariant-loop-text
invariant-loop-text l = HaveOffsets l.sources
