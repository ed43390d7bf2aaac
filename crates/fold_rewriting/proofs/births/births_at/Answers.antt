-- By `Bearing`.
use Rattle.std.proofs.Common.{◌∙◌}
use Rattle.fold_rewriting.proofs.Bearing.{ends_once}
use Rattle.fold_rewriting.proofs.births.births_at.Goals as goal

pub returns-in_ok-births-clause-once : goal.returns-in_ok-births-clause-once
returns-in_ok-births-clause-once c = ends_once c.args.downs.now.axioms c.args.link c.args.end c.under.result.now c.from_vec.result c.under.ensures.listed (c.from_vec.ensures ∙ c.in_ok-births.ensures.items)
