use Rattle.line_lexer.proofs.Twice.{twice_now, twice_later}
use Rattle.line_lexer.proofs.repeats.has_twice.Goals as goal

pub returns-then-is_among : goal.returns-then-is_among
returns-then-is_among c = twice_now (λ t. t.now) _ c.loop-left.left.texts.now _ c.in-len1-up.len_at_least c.loop-left.invariant c.if-is_among.ensures

pub loop-left-preserved : goal.loop-left-preserved
loop-left-preserved c = twice_later (λ t. t.now) _ c.loop-left.left.texts.now _ c.in-len1-up.len_at_least c.loop-left.invariant c.if-is_among.ensures
