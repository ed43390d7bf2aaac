-- By two conditions, or by one fact.
use Rattle.std.proofs.Common.{◌≡◌, ◌∙◌, subst, sym, true, inl, inr}
use Rattle.consistency_check.specs.Unsatisfiable.{are_one_fact}
use Rattle.consistency_check.proofs.Vain.{vain}
use Rattle.consistency_check.proofs.unsatisfiable.is_vain.Goals as goal

pub returns-then-is_unsatisfiable : goal.returns-then-is_unsatisfiable
returns-then-is_unsatisfiable c = λ e.
    vain c.args.mappings.now c.args.tables.now c.requires.fit c.requires.texts c.requires.keys c.args.source.now c.args.unfolded.now c.requires.origins c.requires.not_apart (inl (c.is_unsatisfiable.ensures c.if-is_unsatisfiable.true))

pub returns-then-asks_two_fillers : goal.returns-then-asks_two_fillers
returns-then-asks_two_fillers c = λ e.
    let one : are_one_fact c.args.mappings.now c.args.tables.now c.args.unfolded.now.rows.query c.args.unfolded.now.origins ≡ true =
    subst (λ os. are_one_fact c.args.mappings.now c.args.tables.now c.args.unfolded.now.rows.query os ≡ true) c.items.ensures (sym c.are_one_fact.ensures ∙ e) in
    vain c.args.mappings.now c.args.tables.now c.requires.fit c.requires.texts c.requires.keys c.args.source.now c.args.unfolded.now c.requires.origins c.requires.not_apart (inr (sym c.asks_two_fillers.ensures ∙ c.if-asks_two_fillers.true, one))
