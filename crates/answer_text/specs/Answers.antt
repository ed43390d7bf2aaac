-- Answers as they are printed.
use Rattle.std.specs.Prelude.{◌≡◌, ℕ, ◌==◌, List, [], ◌∷◌, ◌++◌, if◌then◌else◌, length, map, flat_map, codes, decimal}
use Rattle.vocabulary.specs.Lists.{IsListOf}
use Rattle.vocabulary.specs.declared.term.Term.{Term, Named, Value, New'}
use Rattle.queries.specs.Order.{tuple_cmp}

-- a byte of a value: a backslash before `\` and `"`, and `\t`, `\n` and `\r` for these three
abbrev pub escaped_byte : ℕ → List ℕ
escaped_byte b =
    if b == 92 then 92 ∷ 92 ∷ []
    else (if b == 34 then 92 ∷ 34 ∷ []
    else (if b == 9 then 92 ∷ 116 ∷ []
    else (if b == 10 then 92 ∷ 110 ∷ []
    else (if b == 13 then 92 ∷ 114 ∷ [] else b ∷ []))))

-- a value in double quotes
abbrev pub quoted : List ℕ → List ℕ
quoted text = 34 ∷ (flat_map escaped_byte text ++ 34 ∷ [])

-- `<IRI>`, or a value; a fresh term is in no answer
abbrev pub term_text : Term → List ℕ
term_text (Named iri) = 60 ∷ (iri ++ 62 ∷ [])
term_text (Value kind text) = quoted text
term_text (New' p d s r) = []

-- texts behind the first, each with this text before it
abbrev pub each_behind : List ℕ → List (List ℕ) → List ℕ
each_behind between texts = flat_map (λ text. between ++ text) texts

-- texts with this text between each two
abbrev pub joined : List ℕ → List (List ℕ) → List ℕ
joined between [] = []
joined between (text ∷ texts) = text ++ each_behind between texts

-- the terms of a tuple with spaces between, or `()`
abbrev pub tuple_text : List Term → List ℕ
tuple_text [] = codes "()"
tuple_text (t ∷ ts) = joined (codes " ") (map term_text (t ∷ ts))

abbrev pub lines_text : List (List ℕ) → List ℕ
lines_text texts = flat_map (λ text. text ++ codes "\n") texts

-- one line for each tuple
abbrev pub answers_text : List (List Term) → List ℕ
answers_text tuples = lines_text (map tuple_text tuples)

abbrev pub answers_report : List (List Term) → List ℕ
answers_report tuples = codes "answers " ++ decimal (length tuples) ++ codes "\n"

-- the answer that is explained
abbrev pub why_report : List Term → List ℕ
why_report tuple = codes "why " ++ tuple_text tuple ++ codes "\n"

-- the text is that of the answers, one line for each tuple of which P holds; the report counts them
pub record AreAnswers (P : List Term → Type 0) (out report : List ℕ) : Type 0 where
  pub tuples : List (List Term)
  pub listed : IsListOf tuple_cmp P tuples
  pub text : out ≡ answers_text tuples
  pub count : report ≡ answers_report tuples
