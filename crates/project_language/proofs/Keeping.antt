-- What a line keeps of a project that is sound.
use Rattle.std.proofs.Common.{◌≡◌, refl, subst, arith, length-append, List, [], ◌∷◌, length, ℕ, ◌≤◌, Option, Some, None, false, is_some, inl, inr, Result, Ok, Err, OnOk}
use Rattle.line_lexer.specs.Tokens.{Begins, Seen, tokens_of}
use Rattle.line_lexer.specs.declared.fault.LineFault.{LineFault}
use Rattle.dllite_axioms.specs.declared.axioms.Tbox.{Tbox}
use Rattle.uml_model.specs.Lines.{Line, Class, Sub, Disjoint, Assoc, Attr, SubAssoc, SubAttr, DisjointAssoc, Identify}
use Rattle.uml_model.specs.Rules.{Known, grown, read_line, read_tokens as model_tokens}
use Rattle.uml_model.specs.Sorts.{IsModel}
use Rattle.mapping_facts.specs.declared.mapping.Mapping.{Mapping}
use Rattle.mapping_facts.specs.declared.mapping.Target.{Target}
use Rattle.mapping_facts.specs.declared.mapping.Target.TheVariants.{InClass, Linked}
use Rattle.mapping_language.specs.Within.{AreFew}
use Rattle.mapping_facts.specs.Within.{AreMappingsWithin, IsTargetWithin}
use Rattle.queries.specs.declared.query.Atom.{Atom}
use Rattle.queries.specs.declared.query.Atom.TheVariants as atom
use Rattle.queries.specs.declared.query.Query.{Query}
use Rattle.annotation_language.specs.declared.notes.KeySource.{KeySource}
use Rattle.annotation_language.specs.declared.notes.KeySource.TheVariants.{Fixed, Asked}
use Rattle.annotation_language.specs.declared.notes.EventNote.{EventNote}
use Rattle.annotation_language.specs.declared.notes.Annotations.{Annotations}
use Rattle.annotation_language.specs.Lines.{Noted, nothing}
use Rattle.annotation_language.specs.Askable.{OfEach, OfEvent, OfSource}
use Rattle.annotation_language.specs.Within.{AreAskedWithin}
use Rattle.queries.specs.Within.{IsAtomWithin, IsQueryWithin}
use Rattle.project_language.specs.declared.project.Project.{Project}
use Rattle.owl_functional.specs.declared.ontology.Ontology.{Ontology}
use Rattle.owl_functional.specs.Sound.{IsOntology}
use Rattle.project_language.specs.Meant.{of_lines}
use Rattle.project_language.specs.Project.{begun_with}
use Rattle.project_language.specs.Sound.{AreOver, IsSound}
use Rattle.project_language.proofs.Leaving.{Leaves, leaves}

-- no ontology gives the model
none_given : (given : Option Tbox) → false ≡ is_some given → given ≡ None
none_given None is = refl
none_given (Some t) is = absurd cc

-- what the lines of a model mean
pub model_over : (s : Known) → IsModel s → AreOver s (of_lines s)
model_over s m = record {
  few_axioms = m.few_axioms;
  few_constraints = m.few_constraints;
  axioms_within = m.axioms_within;
  constraints_within = m.constraints_within;
  functional_free = m.functional_free;
  axioms_sorted = m.axioms_sorted;
  constraints_sorted = m.constraints_sorted;
}

-- what an ontology gives
pub ontology_over : (o : Ontology) → IsOntology o → AreOver (begun_with o).model o.tbox
ontology_over o is = record {
  few_axioms = is.few_axioms;
  few_constraints = is.few_constraints;
  axioms_within = is.axioms_within;
  constraints_within = is.constraints_within;
  functional_free = is.functional_free;
  axioms_sorted = is.axioms_sorted;
  constraints_sorted = is.constraints_sorted;
}

-- no mappings are few, and over whatever classes and links
pub none_few : (ms : List Mapping) → ms ≡ [] → AreFew ms
none_few ms is = rw is (record { mappings = omega arith; targets = omega arith })

pub none_within : (classes links : ℕ) (ms : List Mapping) → ms ≡ [] → AreMappingsWithin classes links ms
none_within classes links ms is = rw is (λ m h. elim h [ ])

-- nor do they ask
pub none_asked_within : (classes links : ℕ) (s : Noted) → s ≡ nothing → AreAskedWithin classes links s.notes
none_asked_within classes links s is = rw is (record { case_query = λ q e. cc; case_name = λ q e. cc; events = λ event m. elim m [ ]; queries = λ named m. elim m [ ] })

-- with more classes and links
target_wider : (classes links classes' links' : ℕ) (g : Target) → classes ≤ classes' → links ≤ links' → IsTargetWithin classes links g → IsTargetWithin classes' links' g
target_wider classes links classes' links' (InClass a r) h k w = omega (arith, h, w)
target_wider classes links classes' links' (Linked p r s) h k w = omega (arith, k, w)

mappings_wider : (classes links classes' links' : ℕ) (ms : List Mapping) → classes ≤ classes' → links ≤ links' → AreMappingsWithin classes links ms → AreMappingsWithin classes' links' ms
mappings_wider classes links classes' links' ms h k w m i g j = target_wider classes links classes' links' g h k (w m i g j)

query_wider : (classes links classes' links' : ℕ) (q : Query) → classes ≤ classes' → links ≤ links' → IsQueryWithin classes links q → IsQueryWithin classes' links' q
query_wider classes links classes' links' q h k w a m = wider a (w a m)
  where
    wider : (a : Atom) → IsAtomWithin classes links a → IsAtomWithin classes' links' a
    wider (atom.InClass c x) w = omega (arith, h, w)
    wider (atom.Linked p x y) w = omega (arith, k, w)

-- what holds of each query holds of each, where it gives something else
module _ (P Q : Query → Type 0) (gives : (q : Query) → P q → Q q) where
  of_source : (source : KeySource) → OfSource P source → OfSource Q source
  of_source (Fixed k text) w = tt
  of_source (Asked q side) w = gives q w

  of_event : (event : EventNote) → OfEvent P event → OfEvent Q event
  of_event event w = record {
    objects = gives event.objects w.objects;
    cases = λ q is. gives q (w.cases q is);
    keys = λ key m. of_source key.source (w.keys key m);
  }

  of_each : (notes : Annotations) → OfEach P notes → OfEach Q notes
  of_each notes w = record {
    case_query = λ q is. gives q (w.case_query q is);
    case_name = λ q is. gives q (w.case_name q is);
    events = λ event m. of_event event (w.events event m);
    queries = λ named m. gives named.query (w.queries named m);
  }

asked_wider : (classes links classes' links' : ℕ) (notes : Annotations) → classes ≤ classes' → links ≤ links' → AreAskedWithin classes links notes → AreAskedWithin classes' links' notes
asked_wider classes links classes' links' notes h k w =
    of_each (IsQueryWithin classes links) (IsQueryWithin classes' links') (λ q v. query_wider classes links classes' links' q h k v) notes w

-- there are no fewer than before
pub record HasMore (s new : Known) : Type 0 where
  pub classes : length s.classes ≤ length new.classes
  pub links : length s.links ≤ length new.links

grown_more : (s : Known) (line : Line) → HasMore s (grown s line)
grown_more s (Class a) = record { classes = omega (arith, length-append s.classes (a ∷ [])); links = omega arith }
grown_more s (Sub a b) = record { classes = omega arith; links = omega arith }
grown_more s (Disjoint a b) = record { classes = omega arith; links = omega arith }
grown_more s (Assoc p a m b n) = record { classes = omega arith; links = omega (arith, length-append s.links (p ∷ [])) }
grown_more s (Attr a u k m) = record { classes = omega arith; links = omega (arith, length-append s.links (u ∷ [])) }
grown_more s (SubAssoc q d p) = record { classes = omega arith; links = omega arith }
grown_more s (SubAttr u v) = record { classes = omega arith; links = omega arith }
grown_more s (DisjointAssoc q d p) = record { classes = omega arith; links = omega arith }
grown_more s (Identify a us) = record { classes = omega arith; links = omega arith }

left_more : (s new : Known) (tokens : List Seen) → Leaves s new tokens → HasMore s new
left_more s new tokens left = elim left [ inl same ↦ subst (HasMore s) same (record { classes = omega arith; links = omega arith }) | inr line ↦ subst (HasMore s) line.2 (grown_more s line.0) ]

-- with the model of a line
pub model_kept : {T : Type 0} (r : Result T LineFault) (p : Project) (new : Known) (text : List ℕ) (tokens : List Seen) → IsSound p → p.given ≡ None → tokens_of text ≡ Some tokens
    → OnOk r (read_line p.model text ≡ Ok new) → OnOk r (IsModel new) → OnOk r (IsSound (record p { model = new }))
model_kept (Ok x) p new text tokens sound none told read model =
    let left = leaves p.model new text tokens told read in
    let more = left_more p.model new tokens left in
    record {
      offsets = sound.offsets;
      fit = sound.fit;
      few = sound.few;
      within = mappings_wider (length p.model.classes) (length p.model.links) (length new.classes) (length new.links) p.sources.mappings more.classes more.links sound.within;
      names = sound.names;
      model = model;
      tbox = rw none (model_over new model);
      askable = sound.askable;
      asked_within = asked_wider (length p.model.classes) (length p.model.links) (length new.classes) (length new.links) p.noted.notes more.classes more.links sound.asked_within;
    }
model_kept (Err fault) p new text tokens sound none told read model = tt

-- where its first token is known
pub model_kept_begun : {T : Type 0} (r : Result T LineFault) (p : Project) (new : Known) (text : List ℕ) (t : Seen) → IsSound p → false ≡ is_some p.given → Begins t (tokens_of text)
    → OnOk r (read_line p.model text ≡ Ok new) → OnOk r (IsModel new) → OnOk r (IsSound (record p { model = new }))
model_kept_begun {T} r p new text t sound none begins read model = by (tokens_of text) refl
  where
    never : (r : Result T LineFault) → tokens_of text ≡ None → OnOk r (read_line p.model text ≡ Ok new) → OnOk r (IsSound (record p { model = new }))
    never (Ok x) untold read = absurd (let e : model_tokens p.model None ≡ Ok new = subst (λ o. model_tokens p.model o ≡ Ok new) untold read in cc)
    never (Err fault) untold read = tt

    by : (o : Option (List Seen)) → tokens_of text ≡ o → OnOk r (IsSound (record p { model = new }))
    by None told = never r told read
    by (Some tokens) told = model_kept r p new text tokens sound (none_given p.given none) told read model
