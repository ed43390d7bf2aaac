-- The laws of void elements, as `laws` states them.
use Rattle.dllite_axioms.specs.declared.axioms.Tbox.{Tbox}
use Rattle.model_lint.specs.declared.element.VoidProof.{VoidProof}
use Rattle.model_lint.specs.Voids.{IsVoid, Shows}

-- what a proof shows to be void is void
abbrev pub ShownIsVoid : Type 0
ShownIsVoid = (tbox : Tbox) (proof : VoidProof) → Shows tbox proof → IsVoid tbox proof.what
