-- By `Bearing`.
use Rattle.std.proofs.Common.{arith}
use Rattle.std.proofs.lemmas.Result.{IfOk-weaker}
use Rattle.fold_rewriting.proofs.Bearing.{class_within, all_in, births_within, births_once}
use Rattle.fold_rewriting.proofs.births.births_into.Goals as goal

pub returns-then-class-classes-clause-all : goal.returns-then-class-classes-clause-all
returns-then-class-classes-clause-all c = IfOk-weaker c.births_to.result _ _ (λ l e. all_in c.args.downs.now.axioms c.args.class c.below.result.now l c.below.ensures.listed e) c.births_to.ensures

pub returns-then-class-classes-clause-within : goal.returns-then-class-classes-clause-within
returns-then-class-classes-clause-within c = IfOk-weaker c.births_to.result _ _ (λ l e. births_within c.args.downs.now.classes c.args.downs.now.links c.below.result.now l c.below.ensures.within e) c.births_to.ensures

pub returns-then-class-classes-clause-once : goal.returns-then-class-classes-clause-once
returns-then-class-classes-clause-once c = IfOk-weaker c.births_to.result _ _ (λ l e. births_once c.args.downs.now.axioms c.args.class c.below.result.now l c.below.ensures.listed e) c.births_to.ensures

pub returns-else-class-classes-clause-all : goal.returns-else-class-classes-clause-all
returns-else-class-classes-clause-all c = λ p d chain. (let h = class_within c.args.downs.now.axioms c.args.downs.now.classes c.args.downs.now.links c.requires.within p _ c.args.class chain in absurd (omega (arith, h, c.if-class-classes.false, c.classes.ensures)))
