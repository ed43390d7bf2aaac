-- By `Numbers`.
use Rattle.std.proofs.Common.{arith, ◌<◌, length, ◌≡◌, ◌∙◌, ap, sym, ◌++◌, ◌∷◌, [], get_or, if◌then◌else◌}
use Rattle.std.specs.Option.{option_copied}
use Rattle.relation_join.specs.Joins.{value_in}
use Rattle.relation_join.specs.Listed.{has_text}
use Rattle.relation_join.proofs.Gaining.{get_or_any}
use Rattle.relation_join.proofs.Numbers.{rows_more}
use Rattle.relation_join.proofs.index.Index.build.Goals as goal

pub loop-row-preserved : goal.loop-row-preserved
loop-row-preserved c = λ text.
    let within : c.loop-row.row < length c.args.rows.now = omega (arith, c.loop-row-test.true) in
    let found = option_copied c.value_of.result in
    let is : found ≡ value_in c.args.vars.now (get_or c.args.rows.now c.loop-row.row []) c.args.var =
    c.value_of.ensures ∙ ap (λ z. value_in c.args.vars.now z c.args.var) (c.items.ensures ∙ c.index-rows-row.is ∙ get_or_any c.args.rows.now c.loop-row.row c.index-rows-row.result [] within) in
    c.in_ok-add_key.ensures text
    ∙ ap (λ z. z ++ (if has_text text found then c.loop-row.row ∷ [] else [])) (c.loop-row.invariant text)
    ∙ sym (rows_more c.args.vars.now c.args.rows.now c.args.var text c.loop-row.row found is)
