-- Derivations of a known fact: one mapped step, and rules one after the other.
use Rattle.std.specs.Prelude.{◌≡◌, ◌<◌, ◌≤◌, ◌+◌, ℕ, List, [], ◌∷◌, ◌++◌, length, Some}
use Rattle.vocabulary.specs.declared.ids.LinkId.{LinkId}
use Rattle.vocabulary.specs.declared.ids.Dir.{Dir}
use Rattle.vocabulary.specs.declared.ids.Dir.TheVariants.{Fwd}
use Rattle.vocabulary.specs.declared.term.Term.{Term}
use Rattle.vocabulary.specs.declared.term.Fact.{Fact}
use Rattle.vocabulary.specs.declared.term.Fact.TheVariants.{InClass, Linked}
use Rattle.vocabulary.specs.Lists.{In}
use Rattle.dllite_axioms.specs.declared.axioms.Axiom.{Axiom}
use Rattle.dllite_axioms.specs.declared.axioms.Basic.{Basic}
use Rattle.dllite_axioms.specs.Basics.{link_fact, match_at}
use Rattle.dllite_axioms.specs.Chains.{Chain}
use Rattle.dllite_axioms.specs.Chase.{chase}
use Rattle.negative_closure.specs.Chains.{IsUnder}
pub use Rattle.negative_closure.specs.Short.{IsUnturned}
use Rattle.source_tables.specs.Tables.{Loaded}
use Rattle.mapping_facts.specs.declared.mapping.Mapping.{Mapping}
use Rattle.mapping_facts.specs.Facts.{mapped_facts}
use Rattle.conflict_checker.specs.declared.derivation.Step.{Step}
use Rattle.conflict_checker.specs.declared.derivation.Step.TheVariants.{Mapped, Rule}
use Rattle.conflict_checker.specs.Derivations.{facts_from}

-- the class or the link of the fact is one of so many
abbrev pub IsFactWithin : ℕ → ℕ → Fact → Type 0
IsFactWithin classes links (InClass a t) = a.0 < classes
IsFactWithin classes links (Linked p s t) = p.0 < links

-- the rules by axioms with these numbers, counted from 0, the first at this step and each further one at the step before
abbrev pub rule_steps : List ℕ → ℕ → List Step
rule_steps [] j = []
rule_steps (k ∷ numbers) j = Rule (k + 1) j ∷ rule_steps numbers (j + 1)

-- no round of the chase of the mapped facts holds the fact
abbrev pub IsUnderivable : List Axiom → List Mapping → List Loaded → Fact → Type 0
IsUnderivable axioms mappings tables f = (k : ℕ) → In f (chase axioms (mapped_facts mappings tables) k) → ⊥

-- a mapped step and at most 1,600 rules have their facts, the last step has this fact, and a round of the chase of the mapped facts holds it
pub record IsDeriving (axioms : List Axiom) (mappings : List Mapping) (tables : List Loaded) (f : Fact) (steps : List Step) : Type 0 where
  pub mapping : ℕ
  pub target : ℕ
  pub rows : List ℕ
  pub numbers : List ℕ
  pub are : steps ≡ Mapped mapping target rows ∷ rule_steps numbers 1
  pub few : length numbers ≤ 1600
  pub before : List Fact
  pub facts : facts_from axioms mappings tables [] steps ≡ Some (before ++ f ∷ [])
  pub round : ℕ
  pub stands : In f (chase axioms (mapped_facts mappings tables) round)

-- a mapped step and at most 600 rules, where no fact of a link gives one of the fact's link with its ends exchanged, as none gives an attribute's
abbrev pub IsShort : List Axiom → Fact → List Step → Type 0
IsShort axioms (InClass a t) steps = Unit {0}
IsShort axioms (Linked p s t) steps = IsUnturned axioms p → length steps ≤ 601

-- no mapped fact matches the basic at the term, or the basic does not lead to the other
abbrev pub NoneBelow : List Axiom → List Mapping → List Loaded → Basic → Term → Basic → Type 0
NoneBelow axioms mappings tables to t from = (f : Fact) → In f (mapped_facts mappings tables) → match_at from f ≡ Some t → Chain axioms from to → ⊥

-- no mapped fact of the link joins the terms, or the link is not under the other
abbrev pub NoneUnder : List Axiom → List Mapping → List Loaded → LinkId → Term → Term → LinkId × Dir → Type 0
NoneUnder axioms mappings tables to s t from = In (link_fact from.0 from.1 s t) (mapped_facts mappings tables) → IsUnder axioms from (to, Fwd) → ⊥
