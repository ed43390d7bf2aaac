-- By `Behind`.
use Rattle.std.proofs.Common.{◌∙◌, ap, ◌++◌, ◌∷◌, [], map, length}
use Rattle.std.proofs.lemmas.Result.{on_ok_weaker}
use Rattle.identification_check.specs.declared.violation.Violation.{Violation}
use Rattle.identification_check.specs.Chained.{shifted}
use Rattle.identification_check.proofs.Behind.{one_chained}
use Rattle.identification_check.proofs.chaining.push_fact.Goals as goal

pub returns : goal.returns
returns c =
    let before : Violation = c.args.violation.now in
    let after : Violation = record { steps = c.push_shifted.new.steps; ends = c.push.new.self } in
    on_ok_weaker c.push.result
    (λ e. λ wanted are. one_chained c.args.downs.now.axioms c.args.mappings.now c.args.tables.now wanted before after c.args.fact.now c.in_ok-steps.steps are c.in_ok-steps.ensures
    (c.in_ok-push_shifted.ensures ∙ ap (λ xs. before.steps ++ map (shifted (length before.steps)) xs) c.items.ensures)
    (e ∙ ap (λ n. before.ends ++ n ∷ []) c.len.ensures))
    c.push.ensures.ok
