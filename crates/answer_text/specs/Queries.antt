-- Queries as they are printed, by the names of variables, classes and links.
use Rattle.std.specs.Prelude.{ℕ, List, [], ◌∷◌, ◌++◌, length, map, get_or, codes, decimal}
use Rattle.vocabulary.specs.declared.term.Term.{Term, Named, Value, New'}
use Rattle.queries.specs.declared.query.Arg.{Arg}
use Rattle.queries.specs.declared.query.Arg.TheVariants.{Blank, Var, Fixed}
use Rattle.queries.specs.declared.query.Atom.{Atom}
use Rattle.queries.specs.declared.query.Atom.TheVariants.{InClass, Linked}
use Rattle.queries.specs.declared.query.Query.{Query}
use Rattle.answer_text.specs.Answers.{joined, lines_text, quoted}

-- a constant of a query: `iri "TEXT"`, or a value
abbrev pub constant_text : Term → List ℕ
constant_text (Named iri) = codes "iri \"" ++ iri ++ codes "\""
constant_text (Value kind text) = quoted text
constant_text (New' p d s r) = []

-- an argument, by the names of the variables
abbrev pub argument_text : List (List ℕ) → Arg → List ℕ
argument_text names Blank = codes "_"
argument_text names (Var v) = get_or names v.0 []
argument_text names (Fixed t) = constant_text t

-- arguments in parentheses
abbrev pub arguments_text : List (List ℕ) → List Arg → List ℕ
arguments_text names args = codes "(" ++ joined (codes ", ") (map (argument_text names) args) ++ codes ")"

-- an atom, by the names of variables, classes and links
abbrev pub atom_text : List (List ℕ) → List (List ℕ) → List (List ℕ) → Atom → List ℕ
atom_text names classes links (InClass c x) = get_or classes c.0 [] ++ arguments_text names (x ∷ [])
atom_text names classes links (Linked p x y) = get_or links p.0 [] ++ arguments_text names (x ∷ y ∷ [])

-- `(x, y) where ATOM, ATOM`
abbrev pub query_text : List (List ℕ) → List (List ℕ) → List (List ℕ) → Query → List ℕ
query_text names classes links q = arguments_text names q.head ++ codes " where " ++ joined (codes ", ") (map (atom_text names classes links) q.atoms)

-- the kept queries, one on each line, and the report that counts them
abbrev pub queries_text : List (List ℕ) → List (List ℕ) → List (List ℕ) → List Query → List ℕ
queries_text names classes links qs = lines_text (map (query_text names classes links) qs)

abbrev pub queries_report : List Query → List ℕ
queries_report qs = codes "queries " ++ decimal (length qs) ++ codes "\n"
