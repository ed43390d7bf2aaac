-- By `Gathering`.
use Rattle.std.proofs.Common.{[], arith}
use Rattle.fold_rewriting.proofs.Gathering.{atoms_on, atoms_end}
use Rattle.fold_rewriting.proofs.steps.fold_steps.Goals as goal

pub loop-at-preserved : goal.loop-at-preserved
loop-at-preserved c = atoms_on c.args.downs.now.axioms c.args.query.now c.loop-at.at [] c.loop-at.steps c.push_steps_of.new.steps c.loop-at.invariant c.in_ok-push_steps_of.ensures

pub returns : goal.returns
returns c = atoms_end c.args.downs.now.axioms c.args.query.now c.loop-at.at c.loop-at.steps (omega (arith, c.loop-at-test.false, c.len-at-end.ensures)) c.loop-at.invariant
