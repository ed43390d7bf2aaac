-- Certain answers and what is true in models.
use Rattle.std.specs.Prelude.{List}
use Rattle.vocabulary.specs.declared.term.Term.{Term}
use Rattle.vocabulary.specs.declared.term.Fact.{Fact}
use Rattle.vocabulary.specs.Lists.{In}
use Rattle.dllite_axioms.specs.declared.axioms.Axiom.{Axiom}
use Rattle.dllite_axioms.specs.Worlds.{Holds, IsModel, World}
use Rattle.queries.specs.declared.query.Atom.{Atom}
use Rattle.queries.specs.declared.query.Query.{Query}
use Rattle.queries.specs.Matches.{Terms, AtomIs, HeadIs}

-- the terms match the query in what is true, and send its head to the tuple
pub record IsTrueMatch (holds : Fact → Type 0) (q : Query) (tuple : List Term) (σ : Terms) : Type 0 where
  pub atoms : (a : Atom) → In a q.atoms → (f : Fact) × holds f × AtomIs σ a f
  pub head : HeadIs σ q.head tuple

-- in every model of the facts the tuple is the image of the head under a match
abbrev pub IsTrueInModels : List Axiom → List Fact → Query → List Term → Type 0
IsTrueInModels axioms facts q tuple = (world : World) → IsModel axioms facts world → (σ : Terms) × IsTrueMatch (Holds world) q tuple σ
