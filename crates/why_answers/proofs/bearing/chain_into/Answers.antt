-- By `Births`.
use Rattle.std.proofs.Common.{arith}
use Rattle.dllite_axioms.specs.Basics.{other}
use Rattle.why_answers.proofs.Births.{no_chain}
use Rattle.why_answers.proofs.bearing.chain_into.Goals as goal

pub returns-then-class-classes : goal.returns-then-class-classes
returns-then-class-classes c =
    let high = c.if-class-classes.true in
    let many = c.classes.ensures in
    no_chain c.args.downs.now.axioms c.args.downs.now.classes c.args.downs.now.links c.requires.within c.args.birth.0 (other c.args.birth.1) c.args.class (omega (arith, high, many))
