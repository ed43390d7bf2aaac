-- No source so far is met.
use Rattle.std.proofs.Common.{take}
use Rattle.vocabulary.specs.Lists.{In}
use Rattle.mapping_facts.specs.Facts.{mapped_facts}
use Rattle.join_engine.specs.Indexes.{AreOf}
use Rattle.negative_closure.specs.declared.source.Source.{Source}
use Rattle.negative_closure.specs.Sources.{Meets}
use Rattle.consistency_check.proofs.finding.by_sources.Given as goal

abbrev pub invariant-loop-source : goal.invariant-loop-source
invariant-loop-source l = record {
  none : (s : Source) → In s (take l.source-index l.source-items) → Meets (mapped_facts l.mappings l.tables) s → ⊥;
  indexes : AreOf l.tables l.indexes;
}
