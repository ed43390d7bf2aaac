-- The atoms so far.
use Rattle.std.proofs.Common.{take}
use Rattle.certain_answers.specs.Lean.{AreLean}
use Rattle.certain_answers.proofs.leaning.lean_atoms.Given as goal

abbrev pub invariant-loop-atom : goal.invariant-loop-atom
invariant-loop-atom l = AreLean l.downs.axioms l.atoms (take l.atom-index l.atoms) l.lean
