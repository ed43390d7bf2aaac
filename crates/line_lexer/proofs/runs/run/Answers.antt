use Rattle.std.proofs.Common.{sym, arith}
use Rattle.std.proofs.lemmas.List.Sums.{prefix_len_is}
use Rattle.line_lexer.specs.Runs.{passes}
use Rattle.line_lexer.proofs.runs.run.Goals as goal

pub returns-clause-length : goal.returns-clause-length
returns-clause-length c = sym (prefix_len_is (passes c.args.class) c.args.text.now c.loop-count.count 0 c.loop-count.invariant.within c.loop-count.invariant.all (λ h. absurd (omega arith)))
