-- By `Bearing`.
use Rattle.fold_rewriting.specs.Found.{IsPart}
use Rattle.fold_rewriting.proofs.Bearing.{not_all, one_more}
use Rattle.fold_rewriting.proofs.births.are_parts.Goals as goal

pub returns-then-not-is_part : goal.returns-then-not-is_part
returns-then-not-is_part c =
    not_all (IsPart c.args.downs.now.axioms c.args.birth.0 c.args.birth.1 c.args.v) c.args.atoms.now c.loop-atom.atom-index c.atom-item.result c.is_part.result c.loop-atom-test.true c.atom-item.is c.is_part.ensures c.if-not-is_part.true

pub loop-atom-preserved : goal.loop-atom-preserved
loop-atom-preserved c =
    one_more (IsPart c.args.downs.now.axioms c.args.birth.0 c.args.birth.1 c.args.v) c.args.atoms.now c.loop-atom.atom-index c.atom-item.result c.loop-atom-test.true c.atom-item.is c.loop-atom.invariant
    (c.is_part.ensures.0 c.if-not-is_part.false)
