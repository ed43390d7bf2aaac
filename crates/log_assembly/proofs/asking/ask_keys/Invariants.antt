use Rattle.std.proofs.Common.{take}
use Rattle.vocabulary.specs.Lists.{Pairwise}
use Rattle.certain_semantics.specs.Certain.{IsCertain}
use Rattle.mapping_facts.specs.Facts.{mapped_facts}
use Rattle.annotation_language.specs.declared.notes.KeyNote.{KeyNote}
use Rattle.certain_answers.specs.declared.answer_list.Answers.{Answers}
use Rattle.log_assembly.specs.Answered.{AreAnswersOf, HasOne, KeyIsTooWide, query_of}
use Rattle.log_assembly.proofs.asking.ask_keys.Given as goal

abbrev pub invariant-loop-key : goal.invariant-loop-key
invariant-loop-key l = record {
  answers : Pairwise (λ (key : KeyNote) (a : Answers). AreAnswersOf (IsCertain l.specification.axioms (mapped_facts l.specification.mappings l.tables)) (query_of key.source) a) (take l.key-index l.keys) l.asked;
  narrow : HasOne (KeyIsTooWide l.specification.axioms) (take l.key-index l.keys) → ⊥;
}
