-- The grammar of annotation lines, over the tokens of a line.
use Rattle.std.specs.Prelude.{ℕ, List, [], ◌∷◌, Option, Some, None, if◌then◌else◌, option_map, codes}
use Rattle.std.specs.Str.{bytes_eq}
use Rattle.line_lexer.specs.Tokens.{Seen}
use Rattle.line_lexer.specs.Grammar.{◌>>=◌, either, expect, any_word, any_quoted, name, ended}
use Rattle.line_lexer.specs.Separated.{separated}
use Rattle.uml_model.specs.Lines.{kind_of}
use Rattle.annotation_language.specs.declared.notes.Rule.{Rule}
use Rattle.annotation_language.specs.declared.notes.Rule.TheVariants.{Mandatory, Single, Many}
use Rattle.annotation_language.specs.Written.{Argument, Blank, Variable, Constant, Iri, Atom, One, Two, Asked, Source, Answers, Is, Line, Case, CaseName, Event, Cases, Key, Query}

-- the rule that a word names
abbrev pub rule_of : List ℕ → Option Rule
rule_of word =
    if bytes_eq word (codes "mandatory") then Some Mandatory
    else (if bytes_eq word (codes "single") then Some Single
    else (if bytes_eq word (codes "many") then Some Many else None))

-- ARG
abbrev pub argument : List Seen → Option (Argument × List Seen)
argument tokens =
    either (any_quoted tokens) (λ text. Some (Constant text.0, text.1))
    (either (expect (codes "iri") tokens) (λ rest. any_quoted rest >>= (λ text. Some (Iri text.0, text.1)))
    (either (expect (codes "_") tokens) (λ rest. Some (Blank, rest))
    (name tokens >>= (λ v. Some (Variable v.0, v.1)))))

-- `A(ARG)` or `P(ARG, ARG)`
unfoldable pub atom : List Seen → Option (Atom × List Seen)
atom tokens = do
  p ← name tokens
  rest ← expect (codes "(") p.1
  a ← argument rest
  either (expect (codes ",") a.1)
      (λ rest. argument rest >>= (λ b. expect (codes ")") b.1 >>= (λ rest. Some (Two p.0 a.0 b.0, rest))))
      (expect (codes ")") a.1 >>= (λ rest. Some (One p.0 a.0, rest)))

-- behind a head: `where ATOMS` and nothing more
abbrev pub asked : List (List ℕ) → List Seen → Option Asked
asked head tokens = do
  rest ← expect (codes "where") tokens
  atoms ← separated (codes ",") atom rest
  if ended atoms.1 then Some (record { head = head; atoms = atoms.0 }) else None

-- `v where ATOMS`
unfoldable pub of_one : List Seen → Option Asked
of_one tokens = do
  v ← name tokens
  asked (v.0 ∷ []) v.1

-- `(v, w)`
unfoldable pub pair : List Seen → Option (List ℕ × List ℕ × List Seen)
pair tokens = do
  rest ← expect (codes "(") tokens
  v ← name rest
  rest ← expect (codes ",") v.1
  w ← name rest
  rest ← expect (codes ")") w.1
  Some (v.0, w.0, rest)

-- `(v, w) where ATOMS`
unfoldable pub of_two : List Seen → Option Asked
of_two tokens = do
  p ← pair tokens
  asked (p.0 ∷ p.1 ∷ []) p.2

-- variables and a closing parenthesis, then `where ATOMS`
abbrev pub of_some : List Seen → Option Asked
of_some tokens = do
  head ← separated (codes ",") name tokens
  rest ← expect (codes ")") head.1
  asked head.0 rest

-- variables in parentheses, maybe none, then `where ATOMS`
unfoldable pub of_any : List Seen → Option Asked
of_any tokens = do
  rest ← expect (codes "(") tokens
  either (expect (codes ")") rest) (λ rest. asked [] rest) (of_some rest)

-- behind `is`: `KIND "TEXT"` and nothing more
abbrev pub fixed : List Seen → Option Source
fixed tokens = do
  word ← any_word tokens
  k ← kind_of word.0
  text ← any_quoted word.1
  if ended text.1 then Some (Is k text.0) else None

-- behind a rule: `is KIND "TEXT"`, or a query of two variables
abbrev pub source : List Seen → Option Source
source tokens = either (expect (codes "is") tokens) fixed (option_map Answers (of_two tokens))

-- a name, and the query behind it
abbrev pub named : (List ℕ → Asked → Line) → (List Seen → Option Asked) → List Seen → Option Line
named line query tokens = do
  n ← name tokens
  q ← query n.1
  Some (line n.0 q)

-- the event, the key and the rule
unfoldable pub key_front : List Seen → Option (List ℕ × List ℕ × Rule × List Seen)
key_front tokens = do
  event ← name tokens
  key ← any_quoted event.1
  word ← any_word key.1
  rule ← rule_of word.0
  Some (event.0, key.0, rule, word.1)

-- behind `set`: the event, the key, the rule and the source
unfoldable pub key_line : List Seen → Option Line
key_line tokens = do
  front ← key_front tokens
  from ← source front.3
  Some (Key front.0 front.1 front.2 from)

-- the annotation line that the tokens are, by their first word; None where they are none
unfoldable pub annotation_line : List Seen → Option Line
annotation_line tokens =
    either (expect (codes "case") tokens) (λ rest. option_map Case (of_one rest))
    (either (expect (codes "casename") tokens) (λ rest. option_map CaseName (of_two rest))
    (either (expect (codes "event") tokens) (named Event of_one)
    (either (expect (codes "cases") tokens) (named Cases of_two)
    (either (expect (codes "set") tokens) key_line
    (expect (codes "query") tokens >>= named Query of_any)))))
