-- There are too many ends, or too few.
use Rattle.std.proofs.Common.{◌∙◌, sym, length}
use Rattle.std.proofs.lemmas.Bool.{eqb-false}
use Rattle.conflict_checker.specs.ClashLengths.{clash_length}
use Rattle.conflict_checker.proofs.Counts.{wrong_count}
use Rattle.conflict_checker.proofs.accepting.are_clashing.Goals as goal

pub returns-then-not-is_clash_length : goal.returns-then-not-is_clash_length
returns-then-not-is_clash_length c =
    let other = eqb-false (length c.args.ends.now) (clash_length c.args.constraint.now) (sym c.is_clash_length.ensures ∙ c.if-not-is_clash_length.true) in
    (λ t. cc, λ h. absurd (wrong_count c.args.constraint.now c.args.facts.now c.args.ends.now other h))
