-- How answers and queries are printed, computed.
use Rattle.std.proofs.Common.{◌≡◌, refl, sym, ℕ, List, [], ◌∷◌, codes, map, Some}
use Rattle.std.specs.Fmt.{digits}
use Rattle.std.specs.List.Sorted.{IsStrictlySortedBy}
use Rattle.vocabulary.specs.Lists.{In, here, there}
use Rattle.vocabulary.specs.declared.ids.ValueKind.TheVariants.{Text}
use Rattle.vocabulary.specs.declared.term.Term.{Term, Named, Value}
use Rattle.queries.specs.declared.query.Arg.{Arg}
use Rattle.queries.specs.declared.query.Arg.TheVariants.{Blank, Var, Fixed}
use Rattle.queries.specs.declared.query.Atom.TheVariants.{InClass, Linked}
use Rattle.queries.specs.declared.query.Query.{Query}
use Rattle.answer_text.specs.Answers.{AreAnswers, answers_text, tuple_text}
use Rattle.answer_text.specs.Queries.{queries_report, queries_text, query_text}
use Rattle.answer_text.specs.Containment.{containment_text}
use Rattle.answer_text.specs.Voids.{void_lines, voids_text}
use Rattle.model_lint.specs.declared.element.Void.TheVariants.{Class, Link}
use Rattle.model_lint.specs.declared.element.VoidProof.{VoidProof}

answers : map tuple_text ([] ∷ (Named (codes "e:p/1") ∷ Value Text (codes "a\\b\"c\t\n\r'") ∷ []) ∷ [])
    ≡ codes "()" ∷ codes "<e:p/1> \"a\\\\b\\\"c\\t\\n\\r'\"" ∷ []
answers = refl

abbrev var : ℕ → Arg
var n = Var (record { 0 = n })

queries : map (query_text (codes "x" ∷ codes "y" ∷ []) (codes "A" ∷ []) (codes "p" ∷ []))
    (record { head = var 0 ∷ var 1 ∷ []; atoms = InClass (record { 0 = 0 }) (var 0) ∷ Linked (record { 0 = 0 }) (var 1) Blank ∷ [] }
    ∷ record { head = []; atoms = Linked (record { 0 = 0 }) (Fixed (Named (codes "e:p"))) (Fixed (Value Text (codes "a\"b"))) ∷ [] } ∷ [])
    ≡ codes "(x, y) where A(x), p(y, _)" ∷ codes "() where p(iri \"e:p\", \"a\\\"b\")" ∷ []
queries = refl

-- two queries of one variable: of reviews, and of what is about something
abbrev reviews : List Query
reviews = record { head = var 0 ∷ []; atoms = InClass (record { 0 = 1 }) (var 0) ∷ [] } ∷ record { head = var 0 ∷ []; atoms = Linked (record { 0 = 0 }) (var 0) Blank ∷ [] } ∷ []

review_lines : queries_text (codes "x" ∷ codes "y" ∷ []) (codes "Paper" ∷ codes "Review" ∷ []) (codes "about" ∷ []) reviews ≡ codes "(x) where Review(x)\n(x) where about(x, _)\n"
review_lines = refl

review_count : queries_report reviews ≡ codes "queries 2\n"
unfolding digits
review_count = refl

-- a question without variables has the empty tuple for an answer, or none
yes_or_no : AreAnswers (λ t. t ≡ []) (codes "()\n") (codes "answers 1\n") × AreAnswers (λ t. ⊥) [] (codes "answers 0\n")
unfolding digits IsStrictlySortedBy
yes_or_no = (
  record { tuples = [] ∷ []; listed = record { ordered = (tt, tt); each = λ t m. elim m [ here e ↦ sym e | there m ↦ elim m [ ] ]; all = λ t e. here (sym e) }; text = refl; count = refl },
  record { tuples = []; listed = record { ordered = tt; each = λ t m. elim m [ ]; all = λ t p. absurd p }; text = refl; count = refl },
)

-- where nothing is an answer, no text of one is that of the answers
no_answer_left : AreAnswers (λ t. ⊥) (codes "()\n") (codes "answers 1\n") → ⊥
no_answer_left a = by a.tuples a.listed.each a.text
  where
    by : (tuples : List (List Term)) → ((t : List Term) → In t tuples → ⊥) → codes "()\n" ≡ answers_text tuples → ⊥
    by [] each same = absurd cc
    by (t ∷ tuples) each same = each t (here refl)

-- each A leads by p to a B, each B is a C, and nothing is both; q joins nothing
abbrev void : List VoidProof
void = record { what = Class (record { 0 = 0 }); constraint = 1; rules = (3, 1) ∷ (2, 2) ∷ (4, 3) ∷ []; first = 3; second = 4 }
    ∷ record { what = Link (record { 0 = 1 }); constraint = 2; rules = []; first = 1; second = 1 } ∷ []

void_text : voids_text (codes "A" ∷ codes "B" ∷ []) (codes "p" ∷ codes "q" ∷ []) void
    ≡ codes "void class A\n1 fact\n2 rule 3 from 1\n3 rule 2 from 2\n4 rule 4 from 3\nclash 1 3 4\nvoid link q\n1 fact\nclash 2 1 1\nend\n"
unfolding digits void_lines
void_text = refl

covered : containment_text (Some 12) ≡ codes "contained by 12\n"
unfolding digits
covered = refl
