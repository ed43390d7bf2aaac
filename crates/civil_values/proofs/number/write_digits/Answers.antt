use Rattle.std.proofs.Common.{arith}
use Rattle.civil_values.proofs.Writing.{writing_begins, writing_goes_on, writing_ends}
use Rattle.civil_values.proofs.number.write_digits.Goals as goal

pub loop-rest-init : goal.loop-rest-init
loop-rest-init c = writing_begins c.args.n c.args.digits.now c.told-digits (omega arith)

pub loop-rest-preserved : goal.loop-rest-preserved
loop-rest-preserved c = writing_goes_on c.args.n c.loop-rest.at c.loop-rest.rest c.loop-rest.digits c.loop-rest.invariant c.loop-rest-test.true

pub returns-clause-text : goal.returns-clause-text
returns-clause-text c = writing_ends c.args.n c.loop-rest.at c.loop-rest.rest c.loop-rest.digits c.loop-rest.invariant c.loop-rest-test.false
