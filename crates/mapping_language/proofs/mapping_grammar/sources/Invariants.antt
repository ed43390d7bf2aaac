use Rattle.std.proofs.Common.{◌≡◌, ◌-◌, length, map, codes}
use Rattle.line_lexer.specs.Tokens.{seen}
use Rattle.line_lexer.specs.Separated.{at_most, separated}
use Rattle.mapping_language.specs.Grammar.{source}
use Rattle.mapping_language.specs.Shown.{source_shown}
use Rattle.line_lexer.proofs.Ahead.{ahead}
use Rattle.mapping_language.proofs.mapping_grammar.sources.Given as goal

abbrev pub invariant-loop-i : goal.invariant-loop-i
invariant-loop-i l = separated (codes ",") source (map seen l.tokens) ≡ ahead (map source_shown l.found.items) (at_most (length l.tokens - l._i) (codes ",") source (map seen l.left.tokens.now))
