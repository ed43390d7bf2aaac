-- The atoms so far, before those of the rest.
use Rattle.std.proofs.Common.{◌≡◌, ◌-◌, length, map, codes}
use Rattle.line_lexer.specs.Tokens.{seen}
use Rattle.annotation_language.specs.Shown.{shown_atom}
use Rattle.line_lexer.specs.Separated.{at_most, separated}
use Rattle.line_lexer.proofs.Ahead.{ahead}
use Rattle.annotation_language.specs.Grammar.{atom}
use Rattle.annotation_language.proofs.grammar.atoms.Given as goal

abbrev pub invariant-loop-i : goal.invariant-loop-i
invariant-loop-i l = separated (codes ",") atom (map seen l.tokens) ≡ ahead (map shown_atom l.found.items) (at_most (length l.tokens - l._i) (codes ",") atom (map seen l.left.rest.now))
