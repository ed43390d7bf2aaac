use Rattle.std.proofs.Common.{rules}
use Rattle.annotation_language.proofs.Sorts.{first_is}
use Rattle.annotation_language.proofs.places.side_of.Goals as goal

pub returns-then-is_of : goal.returns-then-is_of
returns-then-is_of c = first_is c.args.v.now c.args.places.now c.loop-placed.placed-index _ c.loop-placed-test.true (search (rules, c.if-is_of.true)) c.loop-placed.invariant
