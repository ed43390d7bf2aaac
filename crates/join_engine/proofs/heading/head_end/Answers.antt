use Rattle.std.proofs.Common.{◌∙◌, sym, subst}
use Rattle.join_engine.specs.Heads.{IsHeadWithin}
use Rattle.join_engine.proofs.Gaining.{head_fits, head_within}
use Rattle.join_engine.proofs.heading.head_end.Goals as goal

pub returns-then-is_head_within-clause-within : goal.returns-then-is_head_within-clause-within
returns-then-is_head_within-clause-within c = head_within c.loop-end.end c.args.query.now (sym c.is_head_within.ensures ∙ c.if-is_head_within.true)

pub returns-clause-within : goal.returns-clause-within
returns-clause-within c = subst (λ n. IsHeadWithin n c.args.query.now) (sym c.len.ensures) (head_fits c.args.query.now c.requires.fits)
