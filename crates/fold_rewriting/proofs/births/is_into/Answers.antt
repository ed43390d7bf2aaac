-- By `Bearing`.
use Rattle.fold_rewriting.proofs.Bearing.{told_into, not_into}
use Rattle.fold_rewriting.proofs.births.is_into.Goals as goal

pub returns-then-class-classes : goal.returns-then-class-classes
returns-then-class-classes c = told_into c.args.downs.now.axioms c.args.birth c.args.class c.below.result.now c.is_among.result c.below.ensures.listed c.is_among.ensures

pub returns-else-class-classes : goal.returns-else-class-classes
returns-else-class-classes c = not_into c.args.downs.now.axioms c.args.downs.now.classes c.args.downs.now.links c.requires.within c.args.birth.0 _ c.args.class c.classes.result c.classes.ensures c.if-class-classes.false
