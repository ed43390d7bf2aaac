use Rattle.std.proofs.Common.{◌≡◌, length, map}
use Rattle.line_lexer.specs.Judging.{has_twice}
use Rattle.line_lexer.proofs.repeats.has_twice.Given as goal

abbrev pub invariant-loop-left : goal.invariant-loop-left
invariant-loop-left l = has_twice (map (λ t. t.now) l.texts) ≡ has_twice (map (λ t. t.now) l.left.texts.now)

abbrev pub decreases-loop-left : goal.decreases-loop-left
decreases-loop-left l = length l.left.texts.now
