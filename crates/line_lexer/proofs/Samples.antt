-- The definitions at small texts.
use Rattle.std.proofs.Common.{◌≡◌, ℕ, true, false, List, [], ◌∷◌, ◌++◌, Some, None, refl, codes}
use Rattle.std.specs.Str.{chars}
use Rattle.line_lexer.specs.declared.shape.Shape.TheVariants.{Word, Quoted, Number, Sign}
use Rattle.line_lexer.specs.Shapes.{is_token, inside, decimal}
use Rattle.line_lexer.specs.Tokens.{Over, Bad, At, first_of, token_front, Seen, tokens_behind, tokens_of}
use Rattle.line_lexer.specs.Lines.{lines_of}
use Rattle.line_lexer.specs.Grammar.{expect, any_word, name, any_quoted, any_number, ended, is_reserved}

word : List ℕ → Seen
word text = record { shape = Word; text = text }

quoted : List ℕ → Seen
quoted text = record { shape = Quoted; text = text }

number : List ℕ → Seen
number text = record { shape = Number; text = text }

sign : List ℕ → Seen
sign text = record { shape = Sign; text = text }

-- which texts are tokens
words : (is_token Word (codes "_a9Z") ≡ true) × (is_token Word (codes "9a") ≡ false) × (is_token Word (codes "a-b") ≡ false) × (is_token Word [] ≡ false)
words = (refl, refl, refl, refl)

numbers : (is_token Number (codes "007") ≡ true) × (is_token Number (codes "7a") ≡ false) × (is_token Number (codes "-7") ≡ false) × (is_token Number [] ≡ false)
numbers = (refl, refl, refl, refl)

quotes : (is_token Quoted (codes "\"\"") ≡ true) × (is_token Quoted (codes "\"a # b\"") ≡ true) × (is_token Quoted (codes "\"") ≡ false) × (is_token Quoted (codes "\"a\"b\"") ≡ false) × (is_token Quoted (codes "\"a") ≡ false) × (is_token Quoted (codes "a\"") ≡ false)
unfolding chars
quotes = (refl, refl, refl, refl, refl, refl)

-- tab, DEL, U+0080, U+0085 and U+009F are control characters; U+00A0 and e with an acute accent are not
controls : (is_token Quoted (34 ∷ 9 ∷ 34 ∷ []) ≡ false) × (is_token Quoted (34 ∷ 0x1F ∷ 34 ∷ []) ≡ false) × (is_token Quoted (34 ∷ 0x20 ∷ 34 ∷ []) ≡ true) × (is_token Quoted (34 ∷ 0x7E ∷ 34 ∷ []) ≡ true) × (is_token Quoted (34 ∷ 0x7F ∷ 34 ∷ []) ≡ false)
unfolding chars
controls = (refl, refl, refl, refl, refl)

high_controls : (is_token Quoted (34 ∷ 0xC2 ∷ 0x80 ∷ 34 ∷ []) ≡ false) × (is_token Quoted (34 ∷ 0xC2 ∷ 0x85 ∷ 34 ∷ []) ≡ false) × (is_token Quoted (34 ∷ 0xC2 ∷ 0x9F ∷ 34 ∷ []) ≡ false) × (is_token Quoted (34 ∷ 0xC2 ∷ 0xA0 ∷ 34 ∷ []) ≡ true) × (is_token Quoted (34 ∷ 0xC3 ∷ 0xA9 ∷ 34 ∷ []) ≡ true)
unfolding chars
high_controls = (refl, refl, refl, refl, refl)

all_signs : (is_token Sign (codes "(") ≡ true) × (is_token Sign (codes ")") ≡ true) × (is_token Sign (codes ",") ≡ true) × (is_token Sign (codes ".") ≡ true) × (is_token Sign (codes "=") ≡ true) × (is_token Sign (codes "<>") ≡ true) × (is_token Sign (codes "->") ≡ true) × (is_token Sign (codes "..") ≡ true) × (is_token Sign (codes "*") ≡ true)
all_signs = (refl, refl, refl, refl, refl, refl, refl, refl, refl)

no_signs : (is_token Sign (codes "<") ≡ false) × (is_token Sign (codes "-") ≡ false) × (is_token Sign (codes "...") ≡ false) × (is_token Sign (codes "=>") ≡ false) × (is_token Sign (codes ";") ≡ false) × (is_token Sign [] ≡ false)
no_signs = (refl, refl, refl, refl, refl, refl)

-- what stands first
firsts : (first_of (codes "  a9 b") ≡ At 2 Word 2) × (first_of (codes "12ab") ≡ At 0 Number 2) × (first_of (codes "ab12,") ≡ At 0 Word 4) × (first_of (codes "..") ≡ At 0 Sign 2) × (first_of (codes ".a") ≡ At 0 Sign 1) × (first_of (codes "...") ≡ At 0 Sign 2)
unfolding first_of token_front chars
firsts = (refl, refl, refl, refl, refl, refl)

more_firsts : (first_of (codes "<>x") ≡ At 0 Sign 2) × (first_of (codes "->x") ≡ At 0 Sign 2) × (first_of (codes "\"a b\"\"c\"") ≡ At 0 Quoted 5) × (first_of (9 ∷ 32 ∷ 42 ∷ []) ≡ At 2 Sign 1)
unfolding first_of token_front chars
more_firsts = (refl, refl, refl, refl)

overs : (first_of [] ≡ Over) × (first_of (codes "   ") ≡ Over) × (first_of (codes " # a \" b") ≡ Over) × (first_of (codes "#") ≡ Over)
unfolding first_of token_front chars
overs = (refl, refl, refl, refl)

-- no token: a lone `<` or `-`, a quote without its end, a carriage return, a no-break space, a control character in quotes
bads : (first_of (codes " <") ≡ Bad 1) × (first_of (codes "-") ≡ Bad 0) × (first_of (codes "  \"ab") ≡ Bad 2) × (first_of (13 ∷ []) ≡ Bad 0) × (first_of (0xC2 ∷ 0xA0 ∷ []) ≡ Bad 0) × (first_of (34 ∷ 0xC2 ∷ 0x85 ∷ 34 ∷ []) ≡ Bad 0) × (first_of (codes ";") ≡ Bad 0)
unfolding first_of token_front chars
bads = (refl, refl, refl, refl, refl, refl, refl)

-- lines of a project
class_line : tokens_of (codes "class A") ≡ Some (word (codes "class") ∷ word (codes "A") ∷ [])
unfolding tokens_behind token_front chars word
class_line = refl

assoc_line : tokens_of (codes "assoc writes Person 1..* -> Work 0..1") ≡ Some (word (codes "assoc") ∷ word (codes "writes") ∷ word (codes "Person") ∷ number (codes "1") ∷ sign (codes "..") ∷ sign (codes "*") ∷ sign (codes "->") ∷ word (codes "Work") ∷ number (codes "0") ∷ sign (codes "..") ∷ number (codes "1") ∷ [])
unfolding tokens_behind token_front chars word number sign
assoc_line = refl

map_line : tokens_of (codes "map m from t x where x.a<>\"# 1\"then A(iri\"http://e/{x.a}\") # \"c") ≡ Some (word (codes "map") ∷ word (codes "m") ∷ word (codes "from") ∷ word (codes "t") ∷ word (codes "x") ∷ word (codes "where") ∷ word (codes "x") ∷ sign (codes ".") ∷ word (codes "a") ∷ sign (codes "<>") ∷ quoted (codes "\"# 1\"") ∷ word (codes "then") ∷ word (codes "A") ∷ sign (codes "(") ∷ word (codes "iri") ∷ quoted (codes "\"http://e/{x.a}\"") ∷ sign (codes ")") ∷ [])
unfolding tokens_behind token_front chars word quoted sign
map_line = refl

query_line : tokens_of (codes "query Q () where p(x,_)") ≡ Some (word (codes "query") ∷ word (codes "Q") ∷ sign (codes "(") ∷ sign (codes ")") ∷ word (codes "where") ∷ word (codes "p") ∷ sign (codes "(") ∷ word (codes "x") ∷ sign (codes ",") ∷ word (codes "_") ∷ sign (codes ")") ∷ [])
unfolding tokens_behind token_front chars word sign
query_line = refl

step_line : tokens_of (codes "12 rule 3 from 11") ≡ Some (number (codes "12") ∷ word (codes "rule") ∷ number (codes "3") ∷ word (codes "from") ∷ number (codes "11") ∷ [])
unfolding tokens_behind token_front chars word number
step_line = refl

touching : tokens_of (codes "1ab2") ≡ Some (number (codes "1") ∷ word (codes "ab2") ∷ [])
unfolding tokens_behind token_front chars word number
touching = refl

dots : tokens_of (codes "a....b") ≡ Some (word (codes "a") ∷ sign (codes "..") ∷ sign (codes "..") ∷ word (codes "b") ∷ [])
unfolding tokens_behind token_front chars word sign
dots = refl

silent : (tokens_of [] ≡ Some []) × (tokens_of (9 ∷ 32 ∷ 9 ∷ []) ≡ Some []) × (tokens_of (codes "# class A") ≡ Some [])
unfolding tokens_behind token_front chars
silent = (refl, refl, refl)

broken : (tokens_of (codes "class A;") ≡ None) × (tokens_of (codes "table t \"a") ≡ None) × (tokens_of (codes "a < b") ≡ None) × (tokens_of (codes "class A" ++ 13 ∷ []) ≡ None) × (tokens_of (codes "class A # ;") ≡ Some (word (codes "class") ∷ word (codes "A") ∷ []))
unfolding tokens_behind token_front chars word
broken = (refl, refl, refl, refl, refl)

-- the lines of a text
line_feeds : (lines_of [] ≡ []) × (lines_of (codes "a") ≡ codes "a" ∷ []) × (lines_of (codes "a" ++ 10 ∷ []) ≡ codes "a" ∷ []) × (lines_of (97 ∷ 10 ∷ 10 ∷ 98 ∷ []) ≡ codes "a" ∷ [] ∷ codes "b" ∷ []) × (lines_of (10 ∷ []) ≡ [] ∷ [])
line_feeds = (refl, refl, refl, refl, refl)

carriage_returns : (lines_of (97 ∷ 13 ∷ 10 ∷ 98 ∷ 13 ∷ 10 ∷ []) ≡ codes "a" ∷ codes "b" ∷ []) × (lines_of (97 ∷ 13 ∷ 13 ∷ 10 ∷ []) ≡ (97 ∷ 13 ∷ []) ∷ []) × (lines_of (97 ∷ 13 ∷ []) ≡ (97 ∷ 13 ∷ []) ∷ []) × (lines_of (97 ∷ 13 ∷ 98 ∷ []) ≡ (97 ∷ 13 ∷ 98 ∷ []) ∷ []) × (lines_of (13 ∷ 10 ∷ []) ≡ [] ∷ [])
carriage_returns = (refl, refl, refl, refl, refl)

marks : (lines_of (0xEF ∷ 0xBB ∷ 0xBF ∷ 97 ∷ 10 ∷ []) ≡ codes "a" ∷ []) × (lines_of (0xEF ∷ 0xBB ∷ 0xBF ∷ []) ≡ []) × (lines_of (0xEF ∷ 0xBB ∷ 0xBF ∷ 0xEF ∷ 0xBB ∷ 0xBF ∷ []) ≡ (0xEF ∷ 0xBB ∷ 0xBF ∷ []) ∷ []) × (lines_of (97 ∷ 0xEF ∷ 0xBB ∷ 0xBF ∷ []) ≡ (97 ∷ 0xEF ∷ 0xBB ∷ 0xBF ∷ []) ∷ [])
marks = (refl, refl, refl, refl)

-- quoted texts and numbers
insides : (inside (codes "\"\"") ≡ []) × (inside (codes "\"a b\"") ≡ codes "a b")
insides = (refl, refl)

decimals : (decimal (codes "0") ≡ 0) × (decimal (codes "007") ≡ 7) × (decimal (codes "4294967296") ≡ 4294967296) × (decimal (codes "18446744073709551616") ≡ 18446744073709551616)
decimals = (refl, refl, refl, refl)

-- the pieces of the grammar
expected : (expect (codes "where") (word (codes "where") ∷ sign (codes "(") ∷ []) ≡ Some (sign (codes "(") ∷ [])) × (expect (codes "1") (number (codes "1") ∷ []) ≡ Some []) × (expect (codes "\"a\"") (quoted (codes "\"a\"") ∷ []) ≡ None) × (expect (codes "a") [] ≡ None) × (expect (codes "a") (word (codes "ab") ∷ []) ≡ None)
unfolding word quoted number sign
expected = (refl, refl, refl, refl, refl)

names : (name (word (codes "case") ∷ []) ≡ Some (codes "case", [])) × (name (word (codes "from") ∷ []) ≡ None) × (name (word (codes "_") ∷ []) ≡ None) × (any_word (word (codes "_") ∷ []) ≡ Some (codes "_", [])) × (name (number (codes "1") ∷ []) ≡ None) × (name (quoted (codes "\"a\"") ∷ []) ≡ None)
unfolding word quoted number
names = (refl, refl, refl, refl, refl, refl)

all_reserved : (is_reserved (codes "where") ≡ true) × (is_reserved (codes "then") ≡ true) × (is_reserved (codes "and") ≡ true) × (is_reserved (codes "is") ≡ true) × (is_reserved (codes "not") ≡ true) × (is_reserved (codes "null") ≡ true) × (is_reserved (codes "iri") ≡ true) × (is_reserved (codes "offset") ≡ true) × (is_reserved (codes "header") ≡ true) × (is_reserved (codes "rows") ≡ false) × (is_reserved (codes "From") ≡ false)
all_reserved = (refl, refl, refl, refl, refl, refl, refl, refl, refl, refl, refl)

readings : (any_quoted (quoted (codes "\"a\"") ∷ word (codes "b") ∷ []) ≡ Some (codes "a", word (codes "b") ∷ [])) × (any_quoted (word (codes "a") ∷ []) ≡ None) × (any_number (number (codes "18446744073709551615") ∷ []) ≡ Some (18446744073709551615, [])) × (any_number (number (codes "18446744073709551616") ∷ []) ≡ None) × (any_number (word (codes "a") ∷ []) ≡ None) × (ended [] ≡ true) × (ended (word (codes "a") ∷ []) ≡ false)
unfolding word quoted number
readings = (refl, refl, refl, refl, refl, refl, refl)
