use Rattle.std.proofs.Common.{◌≡◌, ◌++◌, take, string_bytes}
use Rattle.derivation_text.specs.Explaining.{atom_lines}
use Rattle.derivation_text.specs.Writing.{lines_text}
use Rattle.derivation_text.proofs.explaining.push_atoms.Given as goal

abbrev pub invariant-loop-at : goal.invariant-loop-at
invariant-loop-at l = string_bytes l.text ≡ string_bytes l.fn.text ++ lines_text (atom_lines 1 (take l.at l.atoms))
