-- The rows agree at the variables so far.
use Rattle.std.proofs.Common.{take}
use Rattle.vocabulary.specs.declared.ids.VarId.{VarId}
use Rattle.vocabulary.specs.Lists.{In}
use Rattle.relation_join.specs.Joins.{AgreeAt}
use Rattle.relation_join.proofs.pairing.agree.Given as goal

abbrev pub invariant-loop-var : goal.invariant-loop-var
invariant-loop-var l = (v : VarId) → In v (take l.var-index l.fn.sides.more) → AgreeAt l.fn.sides.vars l.fn.sides.more l.fn.row l.fn.other v
