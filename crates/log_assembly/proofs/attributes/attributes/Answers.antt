use Rattle.std.proofs.Common.{◌∙◌, ap, [], ◌∷◌, ◌++◌, ◌≤◌, ◌⊎◌, inl, inr, length, map, arith}
use Rattle.certain_answers.specs.declared.answer_list.Answers.{Answers}
use Rattle.annotation_language.specs.declared.notes.KeyNote.{KeyNote}
use Rattle.log_assembly.specs.declared.attributes.Attribute.{Attribute}
use Rattle.log_assembly.specs.Found.{attribute_of}
use Rattle.log_assembly.proofs.Walking.{zip_map_more, zip_whole}
use Rattle.log_assembly.proofs.attributes.attributes.Goals as goal
use Rattle.log_assembly.proofs.attributes.attributes.Goals.{then-loop-at-test+else-at-answers, else-loop-at-test}

pub loop-at-preserved : goal.loop-at-preserved
loop-at-preserved c =
    let f : KeyNote × Answers → Attribute = λ p. attribute_of c.args.object.now p.0 p.1 in
    c.in_ok-push.ensures.items ∙ ap (λ x. c.loop-at.found.items ++ x ∷ []) c.in_ok-attribute_at.ensures
    ∙ zip_map_more f c.args.keys.now c.args.answers.now c.loop-at.at c.index-keys-at.result c.index-answers-at.result c.loop-at.found.items c.loop-at-test.true c.if-at-answers.true c.index-keys-at.is c.index-answers-at.is c.loop-at.invariant

pub returns : goal.returns
returns c =
    let used : (length c.args.keys.now ≤ c.loop-at.at) ⊎ (length c.args.answers.now ≤ c.loop-at.at) =
    elim c.loop-at-test.branch [
      | then-loop-at-test+else-at-answers w ↦ inr (omega (arith, w.if-at-answers))
      | else-loop-at-test w ↦ inl (omega (arith, w.loop-at-test))
    ] in
    c.loop-at.invariant ∙ ap (map (λ p. attribute_of c.args.object.now p.0 p.1)) (zip_whole c.args.keys.now c.args.answers.now c.loop-at.at used)
