-- From a certain answer to its explanation.
use Rattle.std.proofs.Common.{◌≡◌, refl, sym, ◌∙◌, ap, subst, List, [], ◌∷◌, map, Some}
use Rattle.std.specs.Prelude.{option_and_then, option_map}
use Rattle.vocabulary.specs.declared.term.Term.{Term}
use Rattle.vocabulary.specs.declared.term.Fact.{Fact}
use Rattle.vocabulary.specs.Lists.{In, here, there, Pairwise}
use Rattle.dllite_axioms.specs.declared.axioms.Axiom.{Axiom}
use Rattle.dllite_axioms.specs.declared.axioms.Axiom.TheVariants.{Sub}
use Rattle.dllite_axioms.specs.declared.axioms.Basic.TheVariants.{Has}
use Rattle.dllite_axioms.specs.declared.axioms.Tbox.{Tbox}
use Rattle.dllite_axioms.specs.Basics.{match_at}
use Rattle.dllite_axioms.specs.Chase.{Derived, chase}
use Rattle.dllite_axioms.proofs.ChaseLaws.{stands_where_derived}
use Rattle.queries.specs.declared.query.Atom.{Atom}
use Rattle.queries.specs.declared.query.Query.{Query}
use Rattle.queries.specs.Matches.{AtomIs, Matched, Terms}
use Rattle.queries.specs.Normal.{normal_form}
use Rattle.queries.specs.Occurrences.{KnownConstants}
use Rattle.certain_semantics.specs.Certain.{IsCertain}
use Rattle.certain_semantics.proofs.Witnessing.{certain_derived, matched_held}
use Rattle.source_tables.specs.Tables.{Loaded}
use Rattle.mapping_facts.specs.declared.mapping.Mapping.{Mapping}
use Rattle.mapping_facts.specs.Facts.{mapped_facts}
use Rattle.mapping_facts.specs.Fits.{AreFit}
use Rattle.mapping_facts.specs.Within.{AreTargetsWithin}
use Rattle.mapping_saturation.specs.Saturation.{GiveTheKnown}
use Rattle.dllite_axioms.specs.Within.{IsAxiomWithin}
use Rattle.negative_closure.specs.Chains.{Hierarchy}
use Rattle.mapping_saturation.proofs.Known.{mapped_known}
use Rattle.mapping_saturation.proofs.Knowing.{have_the_chase, hold_their_known}
use Rattle.conflict_checker.specs.Derivations.{facts_of, items_at}
use Rattle.fold_rewriting.specs.declared.steps.FoldStep.{FoldStep as Told}
use Rattle.fold_rewriting.specs.Steps.{FoldAt, at_blank, at_var}
use Rattle.fold_rewriting.proofs.Folding.{folds_exact}
use Rattle.why_answers.specs.declared.explanation.Why.{Why}
use Rattle.why_answers.specs.declared.showing.Lead.{Lead}
use Rattle.why_answers.specs.declared.showing.Mark.{Mark}
use Rattle.why_answers.specs.declared.showing.Shown.{Shown}
use Rattle.why_answers.specs.Asking.{put_tuple}
use Rattle.why_answers.specs.Bearing.{LeadOn}
use Rattle.why_answers.specs.Explanations.{Explains}
use Rattle.why_answers.specs.Folding.{SomeMatches}
use Rattle.why_answers.specs.Applying.{Runs}
use Rattle.why_answers.specs.Showing.{AreLed, AreMarked, IsShown, Read, lead_facts, mark_facts}
use Rattle.why_answers.proofs.Tupled.{tuple_back, tuple_known, tuple_on}
use Rattle.why_answers.specs.Unwinding.{IsDerivable}
use Rattle.why_answers.proofs.Deriving.{derived_within}
use Rattle.why_answers.proofs.Unfolding.{normal_back, unfolds}

-- facts in order are facts of the list
pub read_matched : (atoms : List Atom) (facts : List Fact) (r : Read atoms facts) → Matched facts r.0 atoms
read_matched atoms facts (σ, p) a i = by atoms facts p a i
  where
    by : (atoms : List Atom) (facts : List Fact) → Pairwise (AtomIs σ) atoms facts → (a : Atom) → In a atoms → (f : Fact) × In f facts × AtomIs σ a f
    by [] facts p a i = elim i [ ]
    by (b ∷ atoms) [] p a i = absurd p
    by (b ∷ atoms) (f ∷ facts) p a (here e) = (f, here refl, subst (λ x. AtomIs σ x f) e p.0)
    by (b ∷ atoms) (f ∷ facts) p a (there i) = let r = by atoms facts p.1 a i in (r.0, there r.1, r.2)

-- the axiom of a fold step
pub by_axiom : {axioms : List Axiom} {q : Query} {s : Told} {r : Query} → FoldAt axioms q s r → In (Sub s.left (Has s.link s.dir)) axioms
by_axiom (at_var v by h first parts meet) = by
by_axiom (at_blank a by is at b) = by

mark_in : (marks : List Mark) (f : Fact) → In f (mark_facts marks) → (m : Mark) × In m marks × (m.fact ≡ f)
mark_in [] f i = elim i [ ]
mark_in (m ∷ marks) f (here e) = (m, here refl, e)
mark_in (m ∷ marks) f (there i) = let r = mark_in marks f i in (r.0, there r.1, r.2)

-- the leads have a match of what the fold step was taken from
pub leads_match : (axioms : List Axiom) (q : Query) (s : Told) (r : Query) (marks : List Mark) (leads : List Lead) → q.head ≡ [] → FoldAt axioms q s r → Read r.atoms (mark_facts marks) → LeadOn axioms q s marks marks leads →
    (σ : Terms) × Matched (lead_facts leads) σ q.atoms
leads_match axioms q s r marks leads none fold read w =
    let u = unfolds axioms q s r none fold (mark_facts marks) read.0 (read_matched r.atoms (mark_facts marks) read) in
    let m = mark_in marks u.0 u.2 in
    u.4 (lead_facts leads)
    (λ f i. (let n = mark_in marks f i in subst (λ x. In x (lead_facts leads)) n.2 (w.keeps n.0 n.1)))
    (λ i e a place is born. w.has m.0 m.1 u.1 (ap (match_at s.left) m.2 ∙ u.3) i e a place is born)

-- the leads of marks alone have a match of a query of whose normal form the marks have one
pub plain_match : (q : Query) (facts : List Fact) (marks : List Mark) → q.head ≡ [] → facts ≡ mark_facts marks → Read (normal_form q).atoms (mark_facts marks) → (σ : Terms) × Matched facts σ q.atoms
plain_match q facts marks none same read =
    subst (λ fs. (σ : Terms) × Matched fs σ q.atoms) (sym same) (normal_back (mark_facts marks) q read.0 none (read_matched (normal_form q).atoms (mark_facts marks) read))

-- some fold of the query that asks for the tuple has a match in the facts of the saturated mappings
pub some_matches : (axioms : List Axiom) (mappings saturated : List Mapping) (tables : List Loaded) → AreFit mappings → AreFit saturated → GiveTheKnown axioms mappings saturated → (q asked : Query) (tuple : List Term) → KnownConstants q → IsCertain axioms (mapped_facts mappings tables) q tuple →
    asked ≡ record { head = []; atoms = put_tuple q.head tuple q.atoms } → SomeMatches axioms asked (mapped_facts saturated tables)
some_matches axioms mappings saturated tables fit saturated_fit same q asked tuple known certain made =
    subst (λ x. SomeMatches axioms x (mapped_facts saturated tables)) (sym made) (
    let one : Query = record { head = []; atoms = put_tuple q.head tuple q.atoms } in
    let on = tuple_on (chase axioms (mapped_facts mappings tables) certain.round) certain.terms q.head tuple certain.matched.head q.atoms certain.matched.atoms in
    let held = matched_held {axioms = axioms} {facts = mapped_facts mappings tables} certain.round on in
    let sure : IsCertain axioms (mapped_facts saturated tables) one [] = (certain_derived axioms (mapped_facts saturated tables) one []).1 (tt, (certain.terms, (λ a i. (let h = held a i in (h.0, more h.1, h.2))), tt)) in
    let f = (folds_exact axioms (mapped_facts saturated tables) (mapped_known saturated tables saturated_fit) (λ g d k. hold_their_known axioms mappings saturated same tables g d k) one
    (tuple_known q.head tuple certain.known q.atoms known) [] tt).0 sure in
    (f.0, f.1, f.2, f.3.atoms))
  where
    more : {f : Fact} → Derived axioms (mapped_facts mappings tables) f → Derived axioms (mapped_facts saturated tables) f
    more {f} d = (stands_where_derived axioms (mapped_facts saturated tables) f).0 ((have_the_chase axioms mappings saturated fit same tables f).0 ((stands_where_derived axioms (mapped_facts mappings tables) f).1 d))

numbers_are : (facts : List Fact) (marks : List Mark) → AreMarked facts marks → items_at facts (map (λ m. m.step) marks) ≡ Some (mark_facts marks)
numbers_are facts [] are = refl
numbers_are facts (m ∷ marks) are =
    ap (option_and_then (λ f. option_map (λ fs. f ∷ fs) (items_at facts (map (λ x. x.step) marks)))) (are m (here refl)) ∙ ap (option_map (λ fs. m.fact ∷ fs)) (numbers_are facts marks (λ n i. are n (there i)))

-- the marks explain the tuple
pub explained : (tbox : Tbox) (mappings : List Mapping) (tables : List Loaded) (q : Query) (tuple : List Term) (s : Shown) (why : Why) → IsCertain tbox.axioms (mapped_facts mappings tables) q tuple → IsShown tbox.axioms mappings tables s →
    Read (put_tuple q.head tuple q.atoms) (mark_facts s.marks) → why.steps ≡ s.steps → why.atoms ≡ map (λ m. m.step) s.marks → Explains tbox mappings tables q why tuple
explained tbox mappings tables q tuple s why certain shown read steps atoms =
    let r = tuple_back certain.terms q.head tuple certain.matched.head q.atoms (mark_facts s.marks) read.0 read.1 in
    record {
      facts = shown.facts;
      steps = ap (facts_of tbox mappings tables) steps ∙ shown.run;
      named = mark_facts s.marks;
      numbered = ap (items_at shown.facts) atoms ∙ numbers_are shown.facts s.marks shown.marked;
      reads = record { terms = r.0; atoms = r.1; head = r.2 };
      known = certain.known;
    }

-- what is led from the marks is shown
pub shown_on : (axioms : List Axiom) (old : Shown) (leads items : List Lead) (new : Shown) → leads ≡ items → ((facts : List Fact) → AreMarked facts old.marks → AreLed axioms facts leads) →
    ((mappings : List Mapping) (tables : List Loaded) (facts : List Fact) → Runs axioms mappings tables old.steps facts → AreLed axioms facts items → IsShown axioms mappings tables new) →
    (mappings : List Mapping) (tables : List Loaded) → IsShown axioms mappings tables old → IsShown axioms mappings tables new
shown_on axioms old leads items new same led settled mappings tables w = settled mappings tables w.facts w.run (subst (AreLed axioms w.facts) same (led w.facts w.marked))

-- known facts of the chase can be derived
pub derivable : (h : Hierarchy) (mappings saturated : List Mapping) (tables : List Loaded) → GiveTheKnown h.axioms mappings saturated → ((a : Axiom) → In a h.axioms → IsAxiomWithin h.classes h.links a) → ((m : Mapping) → In m mappings → AreTargetsWithin h.classes h.links m.targets) →
    (f : Fact) → In f (mapped_facts saturated tables) → IsDerivable h mappings tables f
derivable h mappings saturated tables know within targets f i =
    let k = (know tables f).0 i in
    let d = (stands_where_derived h.axioms (mapped_facts mappings tables) f).0 k.0 in
    record { known = k.1; within = derived_within h.axioms mappings tables h.classes h.links within targets d; derived = d }
