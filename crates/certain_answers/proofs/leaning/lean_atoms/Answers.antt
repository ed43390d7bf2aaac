-- By `Keeping`.
use Rattle.certain_answers.proofs.Keeping.{all_kept, next_lean, none_lean}
use Rattle.certain_answers.proofs.leaning.lean_atoms.Goals as goal

pub loop-atom-init : goal.loop-atom-init
loop-atom-init c = none_lean c.args.downs.now.axioms c.args.atoms.now c.new-lean.result c.new-lean.ensures

pub loop-atom-preserved : goal.loop-atom-preserved
loop-atom-preserved c =
    next_lean c.args.downs.now.axioms c.args.atoms.now c.args.atoms.now c.loop-atom.lean c.push_lean.new.lean c.loop-atom.atom-index c.atom-item.result
    c.loop-atom-test.true c.atom-item.is c.loop-atom.invariant c.in_ok-push_lean.ensures

pub returns : goal.returns
returns c = all_kept c.args.downs.now.axioms c.args.atoms.now c.args.atoms.now c.loop-atom.lean c.loop-atom.atom-index c.loop-atom-test.false c.loop-atom.invariant
