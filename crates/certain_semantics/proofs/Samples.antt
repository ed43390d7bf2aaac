-- Certain answers of a small query.
use Rattle.std.proofs.Common.{ℕ, refl, List, [], ◌∷◌}
use Rattle.vocabulary.specs.declared.ids.ClassId.{ClassId}
use Rattle.vocabulary.specs.declared.ids.LinkId.{LinkId}
use Rattle.vocabulary.specs.declared.ids.Dir.TheVariants.{Fwd}
use Rattle.vocabulary.specs.declared.term.Term.{Term, New, Named}
use Rattle.vocabulary.specs.declared.term.Fact.{Fact}
use Rattle.vocabulary.specs.declared.term.Fact.TheVariants.{InClass as ClassFact, Linked as LinkFact}
use Rattle.vocabulary.specs.Lists.{In, here, there}
use Rattle.vocabulary.proofs.Fresh.{new_unknown}
use Rattle.dllite_axioms.specs.declared.axioms.Basic.TheVariants.{Class, Has}
use Rattle.dllite_axioms.specs.declared.axioms.Axiom.{Axiom}
use Rattle.dllite_axioms.specs.declared.axioms.Axiom.TheVariants.{Sub}
use Rattle.dllite_axioms.specs.Chase.{chase}
use Rattle.queries.specs.declared.query.Arg.TheVariants.{Blank, Var}
use Rattle.queries.specs.declared.query.Atom.{Atom}
use Rattle.queries.specs.declared.query.Atom.TheVariants.{Linked}
use Rattle.queries.specs.declared.query.Query.{Query}
use Rattle.queries.specs.Matches.{AtomIs}
use Rattle.certain_semantics.specs.Certain.{IsCertain}

abbrev class : ℕ → ClassId
class n = record { 0 = n }

abbrev link : ℕ → LinkId
link n = record { 0 = n }

abbrev a : Term
a = Named (97 ∷ [])

-- each review is about something
abbrev reviews : List Axiom
reviews = Sub (Class (class 0)) (Has (link 0) Fwd) ∷ []

abbrev given : List Fact
given = ClassFact (class 0) a ∷ []

-- what is about something: a, by the fresh filler
abbrev about_some : Query
about_some = record { head = Var (record { 0 = 0 }) ∷ []; atoms = Linked (link 0) (Var (record { 0 = 0 })) Blank ∷ [] }

a_is_certain : IsCertain reviews given about_some (a ∷ [])
a_is_certain = record { known = (tt, tt); round = 1; terms = λ v. a; matched = record { atoms = each; head = (refl, tt) } }
  where
    each : (k : Atom) → In k about_some.atoms → (f : Fact) × In f (chase reviews given 1) × AtomIs (λ v. a) k f
    each k (here e) = (LinkFact (link 0) a (New (link 0) Fwd a), there (here refl), rw (← e) (refl, refl, tt))
    each k (there m) = elim m [ ]

-- the filler itself is no answer
never_fresh : (q : Query) → IsCertain reviews given q (New (link 0) Fwd a ∷ []) → ⊥
never_fresh q c = new_unknown (link 0) Fwd a c.known.0
