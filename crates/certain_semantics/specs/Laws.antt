-- The laws of certain answers, as the functions of `laws` state them.
use Rattle.std.specs.Prelude.{◌↔◌, List}
use Rattle.vocabulary.specs.declared.term.Term.{Term}
use Rattle.vocabulary.specs.declared.term.Fact.{Fact}
use Rattle.dllite_axioms.specs.declared.axioms.Axiom.{Axiom}
use Rattle.queries.specs.declared.query.Query.{Query}
use Rattle.dllite_axioms.specs.Chase.{AreKnown}
use Rattle.dllite_axioms.specs.Models.{IsFiniteModel}
use Rattle.queries.specs.Matches.{Terms, HeadIs, IsMatch}
use Rattle.queries.specs.Occurrences.{KnownConstants}
use Rattle.certain_semantics.specs.Certain.{TermsKnown, IsCertain}
use Rattle.certain_semantics.specs.Truth.{IsTrueInModels}
use Rattle.certain_semantics.specs.Witnesses.{Held}

-- a certain answer is a known tuple to which a match in derived facts sends the head
abbrev pub CertainIsDerived : Type 0
CertainIsDerived = (axioms : List Axiom) (facts : List Fact) (q : Query) (tuple : List Term) →
    IsCertain axioms facts q tuple ↔ (TermsKnown tuple × ((σ : Terms) × Held axioms facts σ q.atoms × HeadIs σ q.head tuple))

-- over known facts a tuple of known terms is a certain answer exactly where this is so
abbrev pub CertainIsTrueInModels : Type 0
CertainIsTrueInModels = (axioms : List Axiom) (facts : List Fact) → AreKnown facts → (q : Query) → KnownConstants q → (tuple : List Term) →
    IsCertain axioms facts q tuple ↔ (TermsKnown tuple × IsTrueInModels axioms facts q tuple)

-- and so each certain answer is the image of the head under a match in each finite model
abbrev pub CertainIsTrueInFiniteModels : Type 0
CertainIsTrueInFiniteModels = (axioms : List Axiom) (facts : List Fact) → AreKnown facts → (q : Query) → KnownConstants q → (tuple : List Term) → IsCertain axioms facts q tuple →
    (model : List Fact) → IsFiniteModel axioms facts model → (σ : Terms) × IsMatch model q tuple σ
