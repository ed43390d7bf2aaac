-- Certain answers over the chase.
use Rattle.std.specs.Prelude.{ℕ, List, [], ◌∷◌}
use Rattle.vocabulary.specs.declared.term.Term.{Term}
use Rattle.vocabulary.specs.declared.term.Fact.{Fact}
use Rattle.vocabulary.specs.Terms.{IsKnown}
use Rattle.dllite_axioms.specs.declared.axioms.Axiom.{Axiom}
use Rattle.dllite_axioms.specs.Chase.{chase}
use Rattle.queries.specs.declared.query.Query.{Query}
use Rattle.queries.specs.Matches.{Terms, IsMatch}

-- the terms of the tuple are known
abbrev pub TermsKnown : List Term → Type 0
TermsKnown [] = Unit {0}
TermsKnown (t ∷ tuple) = IsKnown t × TermsKnown tuple

-- a tuple of known terms to which a match of the query in some round of the chase sends the head
pub record IsCertain (axioms : List Axiom) (facts : List Fact) (q : Query) (tuple : List Term) : Type 0 where
  pub known : TermsKnown tuple
  pub round : ℕ
  pub terms : Terms
  pub matched : IsMatch (chase axioms facts round) q tuple terms
