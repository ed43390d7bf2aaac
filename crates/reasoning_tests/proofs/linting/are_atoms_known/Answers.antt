use Rattle.std.proofs.Common.{◌∙◌, subst, inl, inr}
use Rattle.negative_closure.proofs.Spreading.{in_taken}
use Rattle.queries.specs.Occurrences.{KnownAtom}
use Rattle.reasoning_tests.proofs.linting.are_atoms_known.Goals as goal

pub loop-atom-preserved : goal.loop-atom-preserved
loop-atom-preserved c = λ a m. elim (in_taken _ _ c.atom-item.result c.loop-atom-test.true m) [
  | inl h ↦ c.loop-atom.invariant a h
  | inr e ↦ subst KnownAtom (c.atom-item.is ∙ e) (c.is_atom_known.ensures c.if-not-is_atom_known.false)
]
