use Rattle.std.proofs.Common.{◌∙◌, sym, ap, is_some}
use Rattle.annotation_language.specs.Resolved.{texts}
use Rattle.annotation_language.proofs.Numbers.{number_first, number_none, number_none_left, is_numbered}
use Rattle.annotation_language.proofs.variables.number_of.Goals as goal

pub returns-then-eq-clause-value : goal.returns-then-eq-clause-value
returns-then-eq-clause-value c = number_first c.args.variables.now c.args.v.now c.loop-n.n _ c.loop-n.invariant c.loop-n-test.true (sym c.eq.ensures ∙ c.if-eq.true)

pub returns-then-eq-clause-found : goal.returns-then-eq-clause-found
returns-then-eq-clause-found c = ap is_some (returns-then-eq-clause-value c) ∙ sym (is_numbered (texts c.args.variables.now) c.args.v.now)

pub returns-clause-value : goal.returns-clause-value
returns-clause-value c = number_none (texts c.args.variables.now) c.args.v.now (number_none_left c.args.variables.now c.args.v.now c.loop-n.n c.loop-n.invariant c.loop-n-test.false)

pub returns-clause-found : goal.returns-clause-found
returns-clause-found c = sym (number_none_left c.args.variables.now c.args.v.now c.loop-n.n c.loop-n.invariant c.loop-n-test.false)
