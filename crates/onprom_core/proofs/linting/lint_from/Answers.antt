use Rattle.std.proofs.Common.{refl}
use Rattle.onprom_core.specs.Walk.{Linting}
use Rattle.onprom_core.proofs.linting.lint_from.Goals as goal

pub returns-clause-told : goal.returns-clause-told
returns-clause-told c = (Linting c.args.project.now, refl, c.in_ok-output.ensures.ends)
