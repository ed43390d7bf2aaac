-- By `Bearing`.
use Rattle.fold_rewriting.proofs.Bearing.{told_at}
use Rattle.fold_rewriting.proofs.births.is_at.Goals as goal

pub returns-then-link-links : goal.returns-then-link-links
returns-then-link-links c = told_at c.args.downs.now.axioms c.args.birth c.args.link c.args.end c.under.result.now c.is_one_of.result c.under.ensures.listed c.is_one_of.ensures
