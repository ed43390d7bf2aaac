use Rattle.std.proofs.Common.{sym, ap, ◌∙◌, ◌∷◌, ◌++◌, [], take}
use Rattle.std.proofs.lemmas.List.{take_more}
use Rattle.owl_functional.specs.Rules.{fault_of, first_fault}
use Rattle.owl_functional.proofs.Lists.{more_front, fault_here, fault_later, fault_none}
use Rattle.owl_functional.proofs.rules.check.Goals as goal

pub returns-in-Some-clause-fault : goal.returns-in-Some-clause-fault
returns-in-Some-clause-fault c = λ known. sym (fault_here (first_fault c.args.axioms.now [] c.args.axioms.now) c.args.axioms.now c.loop-i.i c.loop-i.invariant.so c.index-axioms-i.result c.loop-i.taken c.loop-i.invariant.before c.loop-i-test.true c.index-axioms-i.is c.in-Some.fault
    (ap (λ xs. fault_of xs c.loop-i.taken c.index-axioms-i.result) (sym c.requires) ∙ sym c.fault.ensures.first ∙ c.in-Some.is))

pub with-requires-clause-front : goal.with-requires-clause-front
with-requires-clause-front c = more_front c.args.axioms.now c.loop-i.i c.index-axioms-i.result c.loop-i.taken c.split_at-in-loop-i.result.0.now c.loop-i-test.true c.index-axioms-i.is c.loop-i.invariant.before c.split_at-in-loop-i.ensures.front

pub loop-i-preserved : goal.loop-i-preserved
loop-i-preserved c = record {
  so = fault_later (first_fault c.args.axioms.now [] c.args.axioms.now) c.args.axioms.now c.loop-i.i c.loop-i.invariant.so c.index-axioms-i.result c.loop-i.taken c.loop-i.invariant.before c.loop-i-test.true c.index-axioms-i.is
      (ap (λ xs. fault_of xs c.loop-i.taken c.index-axioms-i.result) (sym c.requires) ∙ sym c.fault.ensures.first ∙ c.in_default.is);
  before = c.in_ok-taken.ensures.noted ∙ c.split_at-in-loop-i.ensures.front;
}

pub returns-clause-none : goal.returns-clause-none
returns-clause-none c = sym (fault_none (first_fault c.args.axioms.now [] c.args.axioms.now) c.args.axioms.now c.loop-i.i c.loop-i.invariant.so c.loop-i-test.false)
