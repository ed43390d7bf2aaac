use Rattle.certain_semantics.specs.Certain.{IsCertain}
use Rattle.mapping_facts.specs.Facts.{mapped_facts}
use Rattle.annotation_language.specs.declared.notes.KeyNote.{KeyNote}
use Rattle.certain_answers.specs.declared.answer_list.Answers.{Answers}
use Rattle.log_assembly.specs.Answered.{AreAnswersOf, KeyIsTooWide, query_of}
use Rattle.log_assembly.proofs.Asks.{asked_more, in_get_or, kept_fault, none_more}
use Rattle.log_assembly.proofs.asking.ask_keys.Goals as goal

pub ask_key-requires : goal.ask_key-requires
ask_key-requires c =
    let key = c.key-item.result in
    c.requires key (in_get_or c.args.keys.now c.loop-key.key-index key key c.loop-key-test.true c.key-item.is)

pub returns-in_err-ask_key-clause-wide : goal.returns-in_err-ask_key-clause-wide
returns-in_err-ask_key-clause-wide c =
    let key = c.key-item.result in
    kept_fault c.from_residual.result c.in_err-ask_key.field-0.0 c.from_residual.ensures.1
    (λ wide. (key, in_get_or c.args.keys.now c.loop-key.key-index key key c.loop-key-test.true c.key-item.is, c.in_err-ask_key.ensures.wide wide))

pub loop-key-preserved : goal.loop-key-preserved
loop-key-preserved c =
    let certain = IsCertain c.args.specification.now.axioms (mapped_facts c.args.specification.now.mappings c.args.tables.now) in
    let keys = c.args.keys.now in
    let i = c.loop-key.key-index in
    record {
      answers = asked_more (λ (key : KeyNote) (a : Answers). AreAnswersOf certain (query_of key.source) a) keys i c.key-item.result c.loop-key.asked c.push.new.self c.in_ok-ask_key.field-0
          c.loop-key-test.true c.key-item.is c.loop-key.invariant.answers c.in_ok-ask_key.ensures.answers c.in_ok-push.ensures.ok;
      narrow = none_more (KeyIsTooWide c.args.specification.now.axioms) keys i c.key-item.result c.loop-key-test.true c.key-item.is c.loop-key.invariant.narrow c.in_ok-ask_key.ensures.narrow;
    }
