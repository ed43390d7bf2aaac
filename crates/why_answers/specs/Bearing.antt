-- What the birth of a fold step gives: where it is asked for, the facts, and the leads to them.
use Rattle.std.specs.Prelude.{◌≡◌, ℕ, ◌⊎◌, List, ◌++◌, Option, Some, None, slice_get}
use Rattle.std.specs.Option.{option_and_then}
use Rattle.vocabulary.specs.declared.ids.LinkId.{LinkId}
use Rattle.vocabulary.specs.declared.ids.VarId.{VarId}
use Rattle.vocabulary.specs.declared.ids.Dir.{Dir}
use Rattle.vocabulary.specs.declared.term.Term.{New, Term}
use Rattle.vocabulary.specs.declared.term.Fact.{Fact}
use Rattle.vocabulary.specs.declared.term.Fact.TheVariants.{InClass as ClassFact}
use Rattle.vocabulary.specs.Lists.{In, item}
use Rattle.dllite_axioms.specs.declared.axioms.Axiom.{Axiom}
use Rattle.dllite_axioms.specs.declared.axioms.Basic.TheVariants.{Class, Has}
use Rattle.dllite_axioms.specs.Basics.{link_fact, match_at, other}
use Rattle.queries.specs.declared.query.Arg.{Arg}
use Rattle.queries.specs.declared.query.Arg.TheVariants.{Blank, Var, Fixed}
use Rattle.queries.specs.declared.query.Atom.{Atom}
use Rattle.queries.specs.declared.query.Atom.TheVariants.{InClass, Linked}
use Rattle.queries.specs.declared.query.Query.{Query}
use Rattle.negative_closure.specs.Chains.{IsLinkPath, IsPath}
use Rattle.fold_rewriting.specs.declared.steps.FoldStep.{FoldStep as Told}
use Rattle.fold_rewriting.specs.Places.{IsBorn, arg_at}
use Rattle.why_answers.specs.declared.showing.Lead.{Lead}
use Rattle.why_answers.specs.declared.showing.Mark.{Mark}
use Rattle.why_answers.specs.Showing.{AreLed, AreMarked, lead_facts}

-- the fact that the birth at a term gives for an atom with the fresh term at this end
abbrev pub born : LinkId → Dir → Term → Atom → Dir → Fact
born p d t (InClass a x) e = ClassFact a (New p d t)
born p d t (Linked q x y) e = link_fact q e t (New p d t)

abbrev pub arg_var : Option Arg → Option VarId
arg_var None = None
arg_var (Some Blank) = None
arg_var (Some (Var v)) = Some v
arg_var (Some (Fixed t)) = None

-- the variable at this end of the atom at this place
abbrev pub var_at : Query → ℕ → Dir → Option VarId
var_at q i e = option_and_then (λ a. arg_var (arg_at a e)) (slice_get q.atoms i)

-- the fold step's place, or one with its variable
abbrev pub IsPlace : Query → Told → ℕ → Dir → Type 0
IsPlace q s i e = ((i ≡ s.atom) × (e ≡ s.end)) ⊎ ((v : VarId) × (var_at q s.atom s.end ≡ Some v) × (var_at q i e ≡ Some v))

-- axioms with these numbers lead from the birth at (p, d) to the atom's class at the fresh term, or to its link with the fresh term at this end
abbrev pub BirthLeads : List Axiom → LinkId → Dir → Atom → Dir → List ℕ → Type 0
BirthLeads axioms p d (InClass a x) e chain = IsPath axioms (Has p (other d)) (Class a) chain
BirthLeads axioms p d (Linked q x y) e chain = IsLinkPath axioms (p, d) (q, e) chain

-- leads from a step's fact, where it matches the left side at the term, to what the birth gives at the places of which P holds
pub record AddsBorn (P : ℕ → Dir → Type 0) (axioms : List Axiom) (q : Query) (s : Told) (from : ℕ) (t : Term) (old new : List Lead) : Type 0 where
  pub more : List Lead
  pub made : new ≡ old ++ more
  pub led : (facts : List Fact) (g : Fact) → item facts from ≡ Some g → match_at s.left g ≡ Some t → AreLed axioms facts more
  pub has : (i : ℕ) (e : Dir) (a : Atom) → P i e → IsPlace q s i e → slice_get q.atoms i ≡ Some a → IsBorn axioms s.link s.dir a e → In (born s.link s.dir t a e) (lead_facts more)

-- the same from a mark, at the term at which its fact matches the left side, if it does
pub record AddsFrom (axioms : List Axiom) (q : Query) (s : Told) (m : Mark) (old new : List Lead) : Type 0 where
  pub more : List Lead
  pub made : new ≡ old ++ more
  pub led : (facts : List Fact) → item facts m.step ≡ Some m.fact → AreLed axioms facts more
  pub has : (t : Term) → match_at s.left m.fact ≡ Some t → (i : ℕ) (e : Dir) (a : Atom) → IsPlace q s i e → slice_get q.atoms i ≡ Some a → IsBorn axioms s.link s.dir a e → In (born s.link s.dir t a e) (lead_facts more)

-- leads from marks: to their own facts, and to what the birth gives at the terms at which the first n of them match the left side
pub record LeadOn (axioms : List Axiom) (q : Query) (s : Told) (front marks : List Mark) (leads : List Lead) : Type 0 where
  pub keeps : (m : Mark) → In m marks → In m.fact (lead_facts leads)
  pub led : (facts : List Fact) → AreMarked facts marks → AreLed axioms facts leads
  pub has : (m : Mark) → In m front → (t : Term) → match_at s.left m.fact ≡ Some t → (i : ℕ) (e : Dir) (a : Atom) → IsPlace q s i e → slice_get q.atoms i ≡ Some a → IsBorn axioms s.link s.dir a e → In (born s.link s.dir t a e) (lead_facts leads)
