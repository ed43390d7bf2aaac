-- Steps with facts that are marked, and what can be led from them.
use Rattle.std.specs.Prelude.{◌≡◌, List, ◌++◌, map, Some}
use Rattle.vocabulary.specs.declared.term.Fact.{Fact}
use Rattle.vocabulary.specs.Lists.{In, Pairwise, item}
use Rattle.dllite_axioms.specs.declared.axioms.Axiom.{Axiom}
use Rattle.queries.specs.declared.query.Atom.{Atom}
use Rattle.queries.specs.Matches.{AtomIs, Terms}
use Rattle.source_tables.specs.Tables.{Loaded}
use Rattle.mapping_facts.specs.declared.mapping.Mapping.{Mapping}
use Rattle.why_answers.specs.declared.showing.Lead.{Lead}
use Rattle.why_answers.specs.declared.showing.Mark.{Mark}
use Rattle.why_answers.specs.declared.showing.Shown.{Shown}
use Rattle.why_answers.specs.Applying.{Applies, Runs}

abbrev pub mark_facts : List Mark → List Fact
mark_facts marks = map (λ m. m.fact) marks

abbrev pub lead_facts : List Lead → List Fact
lead_facts leads = map (λ l. l.fact) leads

-- each mark has the fact of its step
abbrev pub AreMarked : List Fact → List Mark → Type 0
AreMarked facts marks = (m : Mark) → In m marks → item facts m.step ≡ Some m.fact

-- each lead comes from the fact of its step
abbrev pub AreLed : List Axiom → List Fact → List Lead → Type 0
AreLed axioms facts leads = (l : Lead) → In l leads → (f : Fact) × (item facts l.step ≡ Some f) × Applies axioms l.chain f l.fact

-- where these steps run and each mark has its fact, the others run on, each mark with its fact, provided that P holds
abbrev pub GoesOn : (List Axiom → List Fact → Type 0) → Shown → Shown → Type 0
GoesOn P old new = (axioms : List Axiom) (mappings : List Mapping) (tables : List Loaded) (facts : List Fact) → Runs axioms mappings tables old.steps facts → AreMarked facts old.marks → P axioms facts →
    (more : List Fact) × Runs axioms mappings tables new.steps (facts ++ more) × AreMarked (facts ++ more) new.marks

-- every step has its fact, and each mark the fact of its step
pub record IsShown (axioms : List Axiom) (mappings : List Mapping) (tables : List Loaded) (s : Shown) : Type 0 where
  pub facts : List Fact
  pub run : Runs axioms mappings tables s.steps facts
  pub marked : AreMarked facts s.marks

-- one replacement takes the atoms, in order, to these facts
abbrev pub Read : List Atom → List Fact → Type 0
Read atoms facts = (σ : Terms) × Pairwise (AtomIs σ) atoms facts
