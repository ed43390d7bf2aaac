-- By `Gathering`.
use Rattle.fold_rewriting.proofs.Gathering.{ends_on}
use Rattle.fold_rewriting.proofs.steps.push_steps_of.Goals as goal

pub returns : goal.returns
returns c = ends_on c.args.downs.now.axioms c.args.query.now c.args.at c.args.steps.now c.push_steps_at.new.steps c.push_steps_at-2.new.steps c.in_ok-push_steps_at.ensures c.in_ok-push_steps_at-2.ensures
