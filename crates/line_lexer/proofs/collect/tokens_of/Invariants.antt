use Rattle.std.proofs.Common.{◌≡◌, ◌≤◌, length, map}
use Rattle.line_lexer.specs.Cursor.{rest_of}
use Rattle.line_lexer.specs.Tokens.{tokens_of, seen, AreSpans}
use Rattle.line_lexer.proofs.Onward.{ahead}
use Rattle.line_lexer.proofs.collect.tokens_of.Given as goal

abbrev pub invariant-loop-next : goal.invariant-loop-next
invariant-loop-next l = record {
  same : l.tokens.line ≡ l.line;
  within : l.tokens.place ≤ length l.tokens.line;
  so_far : tokens_of l.line ≡ ahead (map seen l.found.items) (tokens_of (rest_of l.tokens));
  spans : AreSpans l.line 0 l.found.items l.tokens.place;
}

abbrev pub decreases-loop-next : goal.decreases-loop-next
decreases-loop-next l = length (rest_of l.tokens)
