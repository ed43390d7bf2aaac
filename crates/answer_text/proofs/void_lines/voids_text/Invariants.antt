use Rattle.std.proofs.Common.{◌≡◌, take, flat_map}
use Rattle.answer_text.specs.Voids.{void_lines}
use Rattle.answer_text.proofs.void_lines.voids_text.Given as goal

abbrev pub invariant-loop-proof : goal.invariant-loop-proof
invariant-loop-proof l = l.out.items ≡ flat_map (void_lines l.classes l.links) (take l.proof-index l.proofs)
