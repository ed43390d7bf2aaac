use Rattle.std.proofs.Common.{◌≡◌, ◌==◌, ◌++◌, not, drop}
use Rattle.std.specs.List.{take_while}
use Rattle.big_project.proofs.summary.first_line.Given as goal

abbrev pub invariant-loop-byte : goal.invariant-loop-byte
invariant-loop-byte l = l.out.items ++ take_while (λ b. not (b == 10)) (drop l.byte-index l.text) ≡ take_while (λ b. not (b == 10)) l.text
