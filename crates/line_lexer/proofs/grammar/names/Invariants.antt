use Rattle.std.proofs.Common.{◌≡◌, ◌-◌, length, map, codes}
use Rattle.line_lexer.specs.Tokens.{seen}
use Rattle.line_lexer.specs.Grammar.{name}
use Rattle.line_lexer.specs.Separated.{at_most, separated}
use Rattle.line_lexer.proofs.Ahead.{ahead}
use Rattle.line_lexer.proofs.grammar.names.Given as goal

abbrev pub invariant-loop-i : goal.invariant-loop-i
invariant-loop-i l = separated (codes ",") name (map seen l.tokens) ≡ ahead (map (λ c. c.now) l.found.items) (at_most (length l.tokens - l._i) (codes ",") name (map seen l.left.tokens.now))
