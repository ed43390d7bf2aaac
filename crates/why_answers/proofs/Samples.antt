-- A review that has a paper by an axiom alone, and why it is one of the reviews that are about papers.
use Rattle.std.proofs.Common.{◌≡◌, refl, sym, ◌∙◌, ap, subst, ℕ, List, [], ◌∷◌, Some, None, codes, pos, nat_eq, if◌then◌else◌}
use Rattle.percent_encoding.specs.Percent.{percent_encode_byte}
use Rattle.vocabulary.specs.declared.ids.ClassId.{ClassId}
use Rattle.vocabulary.specs.declared.ids.LinkId.{LinkId}
use Rattle.vocabulary.specs.declared.ids.Dir.TheVariants.{Fwd, Back}
use Rattle.vocabulary.specs.declared.term.Term.{Term, Named, New}
use Rattle.vocabulary.specs.declared.term.Fact.{Fact}
use Rattle.vocabulary.specs.declared.term.Fact.TheVariants.{InClass, Linked}
use Rattle.dllite_axioms.specs.declared.axioms.Axiom.TheVariants.{Sub}
use Rattle.dllite_axioms.specs.declared.axioms.Tbox.{Tbox}
use Rattle.dllite_axioms.specs.declared.axioms.Basic.TheVariants.{Class, Has}
use Rattle.queries.specs.declared.query.Arg.TheVariants.{Var}
use Rattle.queries.specs.declared.query.Atom.TheVariants.{InClass as ClassAtom, Linked as LinkAtom}
use Rattle.queries.specs.declared.query.Query.{Query}
use Rattle.iri_templates.specs.declared.segment.Segment.TheVariants.{Literal, Hole}
use Rattle.iri_templates.specs.Texts.{encoded_text, filled_text}
use Rattle.source_tables.specs.Tables.{Loaded}
use Rattle.mapping_facts.specs.declared.term.RowTerm.TheVariants.{Iri}
use Rattle.mapping_facts.specs.declared.mapping.Target.TheVariants.{InClass as ClassTarget}
use Rattle.mapping_facts.specs.declared.mapping.Mapping.{Mapping}
use Rattle.conflict_checker.specs.declared.derivation.Step.{Step}
use Rattle.conflict_checker.specs.declared.derivation.Step.TheVariants.{Mapped, Rule}
use Rattle.conflict_checker.specs.Derivations.{facts_of, items_at}
use Rattle.why_answers.specs.Explanations.{Explains, Reads}

abbrev class : ℕ → ClassId
class n = record { 0 = n }

abbrev about : LinkId
about = record { 0 = 0 }

-- the one row `1`
abbrev tables : List Loaded
tables = record {
  decl = record { name = codes "r"; file = codes "r.csv"; offset = pos 0; columns = []; keys = [] };
  rows = (Some (codes "1") ∷ []) ∷ [];
} ∷ []

-- `r:{..}` at its column is a review
abbrev reviews : List Mapping
reviews = record {
  name = codes "m";
  query = record { tables = record { 0 = 0 } ∷ []; conditions = [] };
  targets = ClassTarget (class 0) (Iri (record { first = Literal (codes "r"); rest = record { sign = 58; segment = Hole (codes "x") } ∷ [] }) (record { table = 0; col = record { 0 = 0 } } ∷ [])) ∷ [];
} ∷ []

-- what is about something is a review, what one is about is a paper, and each review is about something
abbrev model : Tbox
model = record { axioms = Sub (Has about Fwd) (Class (class 0)) ∷ Sub (Has about Back) (Class (class 1)) ∷ Sub (Class (class 0)) (Has about Fwd) ∷ []; constraints = [] }

abbrev review : Term
review = Named (codes "r:1")

abbrev paper : Term
paper = New about Fwd review

-- what is about a paper
abbrev two : Query
two = record { head = Var (record { 0 = 0 }) ∷ []; atoms = LinkAtom about (Var (record { 0 = 0 })) (Var (record { 0 = 1 })) ∷ ClassAtom (class 1) (Var (record { 0 = 1 })) ∷ [] }

abbrev steps : List Step
steps = Mapped 1 1 (1 ∷ []) ∷ Rule 3 1 ∷ Rule 2 2 ∷ []

abbrev facts : List Fact
facts = InClass (class 0) review ∷ Linked about review paper ∷ InClass (class 1) paper ∷ []

steps_run : facts_of model reviews tables steps ≡ Some facts
unfolding filled_text encoded_text percent_encode_byte
steps_run = refl

two_explained : Explains model reviews tables two (record { steps = steps; atoms = 2 ∷ 3 ∷ [] }) (review ∷ [])
two_explained = record {
  facts = facts;
  steps = steps_run;
  named = Linked about review paper ∷ InClass (class 1) paper ∷ [];
  numbered = refl;
  reads = record { terms = λ v. if nat_eq v.0 0 then review else paper; atoms = ((refl, refl, refl), ((refl, refl), tt)); head = (refl, tt) };
  known = (tt, tt);
}

-- not with the atoms exchanged
not_exchanged : (tuple : List Term) → Explains model reviews tables two (record { steps = steps; atoms = 3 ∷ 2 ∷ [] }) tuple → ⊥
not_exchanged tuple w =
    let one : w.facts ≡ facts = same (sym w.steps ∙ steps_run) in
    let two' : w.named ≡ InClass (class 1) paper ∷ Linked about review paper ∷ [] = same (sym w.numbered ∙ ap (λ fs. items_at fs (3 ∷ 2 ∷ [])) one) in
    (subst (λ fs. Reads two fs tuple) two' w.reads).atoms.0
  where
    same : {x y : List Fact} → Some x ≡ Some y → x ≡ y
    same e = cc

-- a rule at no earlier step has no fact
none_before : facts_of model reviews tables (Rule 1 1 ∷ []) ≡ None
none_before = refl
