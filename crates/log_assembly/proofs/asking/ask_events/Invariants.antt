use Rattle.std.proofs.Common.{take}
use Rattle.vocabulary.specs.Lists.{Pairwise}
use Rattle.certain_semantics.specs.Certain.{IsCertain}
use Rattle.mapping_facts.specs.Facts.{mapped_facts}
use Rattle.log_assembly.specs.Answered.{EventIsTooWide, HasOne, IsEventAsked}
use Rattle.log_assembly.proofs.asking.ask_events.Given as goal

abbrev pub invariant-loop-event : goal.invariant-loop-event
invariant-loop-event l = record {
  asked : Pairwise (IsEventAsked (IsCertain l.specification.axioms (mapped_facts l.specification.mappings l.tables))) (take l.event-index l.events) l.asked;
  narrow : HasOne (EventIsTooWide l.specification.axioms) (take l.event-index l.events) → ⊥;
}
