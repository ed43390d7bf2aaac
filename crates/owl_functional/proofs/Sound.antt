-- What is read is an ontology: its names differ and are names, and what its axioms and constraints name is there, in places of its sort.
use Rattle.std.proofs.Common.{◌≡◌, refl, sym, subst, ap, ◌∙◌, ℕ, ◌<◌, ◌≤◌, Bool, true, false, cond, ◌==◌, List, [], ◌∷◌, ◌++◌, inl, inr, Option, Some, None, Result, Ok, Err, IfOk, length, map, slice_get, nat_lt, arith}
use Rattle.std.specs.List.{flat_map, list_any}
use Rattle.std.specs.Str.{is_utf8}
use Rattle.std.proofs.lemmas.Bool.Decides.{nat_tests}
use Rattle.line_lexer.specs.Grammar.{is_name}
use Rattle.line_lexer.specs.Lines.{unmarked}
use Rattle.line_lexer.specs.declared.fault.Counted.{Counted}
use Rattle.line_lexer.specs.declared.fault.Counted.TheVariants as counted
use Rattle.vocabulary.specs.declared.ids.LinkId.{LinkId}
use Rattle.vocabulary.specs.declared.ids.Dir.{Dir}
use Rattle.vocabulary.specs.declared.ids.Dir.TheVariants.{Fwd, Back}
use Rattle.vocabulary.specs.declared.ids.Side.TheVariants.{Object, Value}
use Rattle.vocabulary.specs.declared.ids.ValueKind.{ValueKind}
use Rattle.vocabulary.specs.declared.ids.ValueKind.TheVariants.{Text, Int, Bool as Boolean, Time}
use Rattle.vocabulary.specs.Lists.{In, here, there}
use Rattle.vocabulary.proofs.Lists.{In-append_cases}
use Rattle.dllite_axioms.specs.declared.axioms.Basic.{Basic}
use Rattle.dllite_axioms.specs.declared.axioms.Axiom.{Axiom as Inclusion}
use Rattle.dllite_axioms.specs.declared.axioms.Axiom.TheVariants as inclusion
use Rattle.dllite_axioms.specs.declared.axioms.Constraint.{Constraint}
use Rattle.dllite_axioms.specs.declared.axioms.Constraint.TheVariants as constraint
use Rattle.dllite_axioms.specs.Within.{IsWithin, IsAxiomWithin, IsConstraintWithin}
use Rattle.uml_model.specs.Bounds.{AreFunctionalFree}
use Rattle.uml_model.specs.Sorts.{HasSide, IsTurnSorted, IsBasicSorted, AreLinksSorted, IsAxiomSorted, IsConstraintSorted, AreDifferent}
use Rattle.owl_functional.specs.declared.fault.OwlFault.{OwlFault}
use Rattle.owl_functional.specs.declared.fault.OwlFault.TheVariants as fault
use Rattle.owl_functional.specs.declared.ontology.Ontology.{Ontology}
use Rattle.owl_functional.specs.declared.tree.Sort.{Sort}
use Rattle.owl_functional.specs.declared.tree.Sort.TheVariants.{Class as ClassSort, ObjectProperty, DataProperty}
use Rattle.owl_functional.specs.declared.tree.Entity.{Entity}
use Rattle.owl_functional.specs.declared.tree.Concept.{Concept}
use Rattle.owl_functional.specs.declared.tree.Concept.TheVariants.{Class, Has}
use Rattle.owl_functional.specs.declared.tree.Form.{Form}
use Rattle.owl_functional.specs.declared.tree.Form.TheVariants.{Unsupported, Silent, Declaration, Sub, Disjoint, Kind, SubLink, Func}
use Rattle.owl_functional.specs.declared.tree.Axiom.{Axiom}
use Rattle.owl_functional.specs.Tokens.{tokens_from}
use Rattle.owl_functional.specs.Grammar.{◌>>=◌, document}
use Rattle.owl_functional.specs.Rules.{name_of, sort_rank, same, entity_in, entities, kind_in, differ, is_unsupported, is_bad, or_else, first_fault, makes_functional, specialises, first_specialised}
use Rattle.owl_functional.specs.Ontology.{side_of, numbered, or_zero, class_id, link_id, basic_of, axioms_of, pairs, constraints_of, given, passed_limit, within_limits, judged, read_text, read_ontology}
use Rattle.owl_functional.specs.Sound.{IsOntology}
use Rattle.owl_functional.proofs.Pieces.{either}
use Rattle.owl_functional.proofs.Formed.{IsFollowed, IsFormedConcept, AreLinked, IsFormed, AreFormed, read_formed}
use Rattle.owl_functional.proofs.Clean.{no_first, second_fails, not_false, not_then, none_of, same_itself, Declares, AreClean, clean, one_entity, named_declared}
use Rattle.owl_functional.proofs.Numbering.{some_is, place_of, a_number, all_different, same_length, pair_at, pair_of, IsLinkOf, all_numbered, class_there, link_there}

kind_is : (k l : ValueKind) → differ k l ≡ false → k ≡ l
kind_is Text Text e = refl
kind_is Int Int e = refl
kind_is Boolean Boolean e = refl
kind_is Time Time e = refl
kind_is k l e = cc

class_rank : (s : Sort) → s ≡ ClassSort → (sort_rank s == 0) ≡ true
class_rank s e = ap (λ x. sort_rank x == 0) e

followed_rank : (s : Sort) (d : Dir) → IsFollowed s d → (sort_rank s == 0) ≡ false
followed_rank ClassSort d h = elim h [ ]
followed_rank ObjectProperty d h = refl
followed_rank DataProperty d h = refl

turned_back : (s : Sort) → IsFollowed s Back → s ≡ ObjectProperty
turned_back ClassSort h = elim h [ ]
turned_back ObjectProperty h = refl
turned_back DataProperty h = elim h [ ]

both_ranks : {A : Type 0} (b : Bool) → b ≡ true → b ≡ false → A
both_ranks true e h = absurd cc
both_ranks false e h = absurd cc

-- what is gathered comes from one of the items
gathered_from : {X Y : Type 0} (f : X → List Y) (y : Y) (xs : List X) → In y (flat_map f xs) → (x : X) × In x xs × In y (f x)
gathered_from f y [] m = elim m [ ]
gathered_from f y (x ∷ xs) m = elim (In-append_cases (f x) (flat_map f xs) m) [ inl h ↦ (x, here refl, h) | inr h ↦ (let r = gathered_from f y xs h in (r.0, there r.1, r.2)) ]

mapped_from : {X Y : Type 0} (f : X → Y) (y : Y) (xs : List X) → In y (map f xs) → (x : X) × In x xs × (f x ≡ y)
mapped_from f y [] m = elim m [ ]
mapped_from f y (x ∷ xs) (here h) = (x, here refl, h)
mapped_from f y (x ∷ xs) (there m) = let r = mapped_from f y xs m in (r.0, there r.1, r.2)

entity_there : (cs : List Concept) (x : Concept) → In x cs → In (entity_in x) (map entity_in cs)
entity_there [] x m = elim m [ ]
entity_there (y ∷ ys) x (here e) = here (ap entity_in e)
entity_there (y ∷ ys) x (there k) = there (entity_there ys x k)

-- a pair is of two that stand there
pair_from : (c : Constraint) (bs : List Basic) → In c (pairs bs) → (b d : Basic) × In b bs × In d bs × (constraint.Disjoint b d ≡ c)
pair_from c [] m = elim m [ ]
pair_from c (b ∷ bs) m = elim (In-append_cases (map (constraint.Disjoint b) bs) (pairs bs) m) [
  | inl h ↦ (let r = mapped_from (constraint.Disjoint b) c bs h in (b, r.0, here refl, there r.1, r.2))
  | inr h ↦ (let r = pair_from c bs h in (r.0, r.1, there r.2, there r.3, r.4))
]

module _ (all : List Axiom) (good : AreClean all) (formed : AreFormed all) where
  class_found : (e : Entity) → Declares all e → (sort_rank e.sort == 0) ≡ true → (class_id (numbered all) e).0 < length (numbered all).classes
  class_found e d class =
      let k = a_number (numbered all).classes (name_of e.iri) (class_there all e d class) in
      subst (λ o. or_zero o < length (numbered all).classes) (sym k.1) (place_of (numbered all).classes (name_of e.iri) k.0 k.1).0

  link_found : (e : Entity) → Declares all e → (sort_rank e.sort == 0) ≡ false → ((link_id (numbered all) e).0 < length (numbered all).links) × HasSide (numbered all).sides (link_id (numbered all) e) (side_of all e)
  link_found e d link =
      let k = a_number (numbered all).links (name_of e.iri) (link_there all e d link) in
      let at = place_of (numbered all).links (name_of e.iri) k.0 k.1 in
      let pair = pair_at (IsLinkOf all) (numbered all).links (numbered all).sides k.0 (name_of e.iri) (all_numbered all).each_link at.1 in
      let other = pair.2 in
      let one : other.link ≡ e = one_entity all good other.link e other.told d other.named in
      let side : pair.0 ≡ side_of all e = sym other.sided ∙ ap (side_of all) one in (
        subst (λ o. or_zero o < length (numbered all).links) (sym k.1) at.0,
        subst (λ o. slice_get (numbered all).sides (or_zero o) ≡ Some (side_of all e)) (sym k.1) (pair.1 ∙ ap Some side),
      )

  turn_sorted : (p : Entity) → Declares all p → (d : Dir) → IsFollowed p.sort d → IsTurnSorted (numbered all).sides (link_id (numbered all) p) d
  turn_sorted p q Fwd h = (side_of all p, (link_found p q (followed_rank p.sort Fwd h)).1)
  turn_sorted p q Back h =
      let object : side_of all p ≡ Object = ap (λ s. cond (sort_rank s == 2) (Value (kind_in all p.iri)) Object) (turned_back p.sort h) in
      (link_found p q (followed_rank p.sort Back h)).1 ∙ ap Some object

  basic_within : (c : Concept) → IsFormedConcept c → Declares all (entity_in c) → IsWithin (length (numbered all).classes) (length (numbered all).links) (basic_of (numbered all) c)
  basic_within (Class a) h d = class_found a d (class_rank a.sort h)
  basic_within (Has p e) h d = (link_found p d (followed_rank p.sort e h)).0

  basic_sorted : (c : Concept) → IsFormedConcept c → Declares all (entity_in c) → IsBasicSorted (numbered all).sides (basic_of (numbered all) c)
  basic_sorted (Class a) h d = tt
  basic_sorted (Has p e) h d = turn_sorted p d e h

  -- two links, each of its sort
  objects_sorted : (q p : Entity) (d : Dir) → Declares all q → Declares all p → q.sort ≡ ObjectProperty → p.sort ≡ ObjectProperty → AreLinksSorted (numbered all).sides (link_id (numbered all) q) d (link_id (numbered all) p)
  objects_sorted q p d i j s t = by d
    where
      object : (e : Entity) → Declares all e → e.sort ≡ ObjectProperty → HasSide (numbered all).sides (link_id (numbered all) e) Object
      object e k u =
          let side : side_of all e ≡ Object = ap (λ s. cond (sort_rank s == 2) (Value (kind_in all e.iri)) Object) u in
          (link_found e k (ap (λ s. sort_rank s == 0) u)).1 ∙ ap Some side

      by : (d : Dir) → AreLinksSorted (numbered all).sides (link_id (numbered all) q) d (link_id (numbered all) p)
      by Fwd = (Object, object q i s, object p j t)
      by Back = (object q i s, object p j t)

  values_sorted : (q p : Entity) → Declares all q → Declares all p → q.sort ≡ DataProperty → p.sort ≡ DataProperty → is_unsupported all (SubLink q Fwd p) ≡ false → AreLinksSorted (numbered all).sides (link_id (numbered all) q) Fwd (link_id (numbered all) p)
  values_sorted q p i j s t h =
      let one : kind_in all q.iri ≡ kind_in all p.iri = kind_is (kind_in all q.iri) (kind_in all p.iri) (second_fails (sort_rank q.sort == 2) (differ (kind_in all q.iri) (kind_in all p.iri)) (ap (λ s. sort_rank s == 2) s) h) in
      (Value (kind_in all p.iri), valued q i s ∙ ap (λ k. Some (Value k)) one, valued p j t)
    where
      valued : (e : Entity) → Declares all e → e.sort ≡ DataProperty → HasSide (numbered all).sides (link_id (numbered all) e) (Value (kind_in all e.iri))
      valued e k u =
          let side : side_of all e ≡ Value (kind_in all e.iri) = ap (λ s. cond (sort_rank s == 2) (Value (kind_in all e.iri)) Object) u in
          (link_found e k (ap (λ s. sort_rank s == 0) u)).1 ∙ ap Some side

  links_sorted : (q p : Entity) (d : Dir) → Declares all q → Declares all p → AreLinked q.sort d p.sort → is_unsupported all (SubLink q d p) ≡ false → AreLinksSorted (numbered all).sides (link_id (numbered all) q) d (link_id (numbered all) p)
  links_sorted q p d i j h u = by q.sort p.sort d refl refl h u
    where
      by : (s t : Sort) (d : Dir) → q.sort ≡ s → p.sort ≡ t → AreLinked s d t → is_unsupported all (SubLink q d p) ≡ false → AreLinksSorted (numbered all).sides (link_id (numbered all) q) d (link_id (numbered all) p)
      by ObjectProperty ObjectProperty d a b h u = objects_sorted q p d i j a b
      by DataProperty DataProperty Fwd a b h u = values_sorted q p i j a b u
      by DataProperty DataProperty Back a b h u = elim h [ ]
      by ClassSort t d a b h u = elim h [ ]
      by ObjectProperty ClassSort d a b h u = elim h [ ]
      by ObjectProperty DataProperty d a b h u = elim h [ ]
      by DataProperty ClassSort Fwd a b h u = elim h [ ]
      by DataProperty ClassSort Back a b h u = elim h [ ]
      by DataProperty ObjectProperty Fwd a b h u = elim h [ ]
      by DataProperty ObjectProperty Back a b h u = elim h [ ]

  linked_ranks : (s t : Sort) (d : Dir) → AreLinked s d t → ((sort_rank s == 0) ≡ false) × ((sort_rank t == 0) ≡ false)
  linked_ranks ObjectProperty ObjectProperty d h = (refl, refl)
  linked_ranks DataProperty DataProperty Fwd h = (refl, refl)
  linked_ranks DataProperty DataProperty Back h = elim h [ ]
  linked_ranks ClassSort t d h = elim h [ ]
  linked_ranks ObjectProperty ClassSort d h = elim h [ ]
  linked_ranks ObjectProperty DataProperty d h = elim h [ ]
  linked_ranks DataProperty ClassSort Fwd h = elim h [ ]
  linked_ranks DataProperty ClassSort Back h = elim h [ ]
  linked_ranks DataProperty ObjectProperty Fwd h = elim h [ ]
  linked_ranks DataProperty ObjectProperty Back h = elim h [ ]

  -- an axiom of the text, by its form
  abbrev stated : ℕ → Form → Axiom
  stated line x = record { line = line; form = x }

  IsAxiomGood : Inclusion → Type 0
  IsAxiomGood ax = IsAxiomWithin (length (numbered all).classes) (length (numbered all).links) ax × IsAxiomSorted (numbered all).sides ax

  IsConstraintGood : Constraint → Type 0
  IsConstraintGood c = IsConstraintWithin (length (numbered all).classes) (length (numbered all).links) c × IsConstraintSorted (numbered all).sides c

  axiom_good : (line : ℕ) (x : Form) → In (stated line x) all → (ax : Inclusion) → In ax (axioms_of (numbered all) (stated line x)) → IsAxiomGood ax
  unfolding IsAxiomGood
  axiom_good line Unsupported m ax g = elim g [ ]
  axiom_good line Silent m ax g = elim g [ ]
  axiom_good line (Declaration e) m ax g = elim g [ ]
  axiom_good line (Sub b None) m ax g = elim g [ ]
  axiom_good line (Sub b (Some c)) m ax (here e) =
      let f = formed (stated line (Sub b (Some c))) m in
      let i = named_declared all good (stated line (Sub b (Some c))) m (entity_in b) (here refl) in
      let j = named_declared all good (stated line (Sub b (Some c))) m (entity_in c) (there (here refl)) in
      subst IsAxiomGood e ((basic_within b f.0 i, basic_within c f.1 j), (basic_sorted b f.0 i, basic_sorted c f.1 j))
  axiom_good line (Sub b (Some c)) m ax (there k) = elim k [ ]
  axiom_good line (Disjoint cs) m ax g = elim g [ ]
  axiom_good line (Kind u k) m ax g = elim g [ ]
  axiom_good line (SubLink q d p) m ax (here e) =
      let f = formed (stated line (SubLink q d p)) m in
      let i = named_declared all good (stated line (SubLink q d p)) m q (here refl) in
      let j = named_declared all good (stated line (SubLink q d p)) m p (there (here refl)) in
      let ranks = linked_ranks q.sort p.sort d f in
      subst IsAxiomGood e (((link_found q i ranks.0).0, (link_found p j ranks.1).0), links_sorted q p d i j f (good.each (stated line (SubLink q d p)) m).supported)
  axiom_good line (SubLink q d p) m ax (there k) = elim k [ ]
  axiom_good line (Func p d) m ax g = elim g [ ]

  constraint_good : (line : ℕ) (x : Form) → In (stated line x) all → (c : Constraint) → In c (constraints_of (numbered all) (stated line x)) → IsConstraintGood c
  unfolding IsConstraintGood
  constraint_good line Unsupported m c g = elim g [ ]
  constraint_good line Silent m c g = elim g [ ]
  constraint_good line (Declaration e) m c g = elim g [ ]
  constraint_good line (Sub b d) m c g = elim g [ ]
  constraint_good line (Disjoint cs) m c g =
      let two = pair_from c (map (basic_of (numbered all)) cs) g in
      let f = formed (stated line (Disjoint cs)) m in
      let one = mapped_from (basic_of (numbered all)) two.0 cs two.2 in
      let other = mapped_from (basic_of (numbered all)) two.1 cs two.3 in
      let i = named_declared all good (stated line (Disjoint cs)) m (entity_in one.0) (entity_there cs one.0 one.1) in
      let j = named_declared all good (stated line (Disjoint cs)) m (entity_in other.0) (entity_there cs other.0 other.1) in
      let is_first : constraint.Disjoint (basic_of (numbered all) one.0) (basic_of (numbered all) other.0) ≡ c = ap (λ b. constraint.Disjoint b (basic_of (numbered all) other.0)) one.2 ∙ ap (λ b. constraint.Disjoint two.0 b) other.2 ∙ two.4 in
      subst IsConstraintGood is_first ((basic_within one.0 (f one.0 one.1) i, basic_within other.0 (f other.0 other.1) j), (basic_sorted one.0 (f one.0 one.1) i, basic_sorted other.0 (f other.0 other.1) j))
  constraint_good line (Kind u k) m c g = elim g [ ]
  constraint_good line (SubLink q d p) m c g = elim g [ ]
  constraint_good line (Func p d) m c (here e) =
      let f = formed (stated line (Func p d)) m in
      let i = named_declared all good (stated line (Func p d)) m p (here refl) in
      subst IsConstraintGood e ((link_found p i (followed_rank p.sort d f)).0, turn_sorted p i d f)
  constraint_good line (Func p d) m c (there k) = elim k [ ]

  axioms_good : (ax : Inclusion) → In ax (flat_map (axioms_of (numbered all)) all) → IsAxiomGood ax
  axioms_good ax m = let r = gathered_from (axioms_of (numbered all)) ax all m in axiom_good r.0.line r.0.form r.1 ax r.2

  constraints_good : (c : Constraint) → In c (flat_map (constraints_of (numbered all)) all) → IsConstraintGood c
  constraints_good c m = let r = gathered_from (constraints_of (numbered all)) c all m in constraint_good r.0.line r.0.form r.1 c r.2

  -- what makes a link functional, and what puts one below it
  IsFunc : Constraint → LinkId → Type 0
  IsFunc (constraint.Func q d) p = q ≡ p
  IsFunc (constraint.Disjoint b c) p = ⊥
  IsFunc (constraint.Apart q d r) p = ⊥
  IsFunc (constraint.Identified a us) p = ⊥

  IsBelow : Inclusion → LinkId → Type 0
  IsBelow (inclusion.Sub b c) p = ⊥
  IsBelow (inclusion.SubLink q d r) p = r ≡ p

  functional_from : (p : LinkId) (line : ℕ) (x : Form) (c : Constraint) → In c (constraints_of (numbered all) (stated line x)) → IsFunc c p → (e : Entity) × (d : Dir) × (x ≡ Func e d) × (link_id (numbered all) e ≡ p)
  unfolding IsFunc
  functional_from p line Unsupported c g h = elim g [ ]
  functional_from p line Silent c g h = elim g [ ]
  functional_from p line (Declaration e) c g h = elim g [ ]
  functional_from p line (Sub b d) c g h = elim g [ ]
  functional_from p line (Disjoint cs) c g h = let two = pair_from c (map (basic_of (numbered all)) cs) g in elim (subst (λ x. IsFunc x p) (sym two.4) h) [ ]
  functional_from p line (Kind u k) c g h = elim g [ ]
  functional_from p line (SubLink q d r) c g h = elim g [ ]
  functional_from p line (Func q d) c (here e) h = (q, d, refl, subst (λ x. IsFunc x p) (sym e) h)
  functional_from p line (Func q d) c (there k) h = elim k [ ]

  below_from : (p : LinkId) (line : ℕ) (x : Form) (ax : Inclusion) → In ax (axioms_of (numbered all) (stated line x)) → IsBelow ax p → (q : Entity) × (d : Dir) × (r : Entity) × (x ≡ SubLink q d r) × (link_id (numbered all) r ≡ p)
  unfolding IsBelow
  below_from p line Unsupported ax g h = elim g [ ]
  below_from p line Silent ax g h = elim g [ ]
  below_from p line (Declaration e) ax g h = elim g [ ]
  below_from p line (Sub b None) ax g h = elim g [ ]
  below_from p line (Sub b (Some c)) ax (here e) h = elim (subst (λ x. IsBelow x p) (sym e) h) [ ]
  below_from p line (Sub b (Some c)) ax (there k) h = elim k [ ]
  below_from p line (Disjoint cs) ax g h = elim g [ ]
  below_from p line (Kind u k) ax g h = elim g [ ]
  below_from p line (SubLink q d r) ax (here e) h = (q, d, r, refl, subst (λ x. IsBelow x p) (sym e) h)
  below_from p line (SubLink q d r) ax (there k) h = elim k [ ]
  below_from p line (Func q d) ax g h = elim g [ ]

  -- links of one number are one
  one_link : (e f : Entity) → Declares all e → Declares all f → (sort_rank e.sort == 0) ≡ false → (sort_rank f.sort == 0) ≡ false → link_id (numbered all) e ≡ link_id (numbered all) f → e ≡ f
  one_link e f i j a b same_number =
      let k = a_number (numbered all).links (name_of e.iri) (link_there all e i a) in
      let l = a_number (numbered all).links (name_of f.iri) (link_there all f j b) in
      let numbers : k.0 ≡ l.0 = sym (ap or_zero k.1) ∙ ap (λ (p : LinkId). p.0) same_number ∙ ap or_zero l.1 in
      let first = (place_of (numbered all).links (name_of e.iri) k.0 k.1).1 in
      let second = (place_of (numbered all).links (name_of f.iri) l.0 l.1).1 in
      let names : Some (name_of e.iri) ≡ Some (name_of f.iri) = sym first ∙ ap (λ m. slice_get (numbered all).links m) numbers ∙ second in
      one_entity all good e f i j (some_is (name_of e.iri) (name_of f.iri) names)

  free : AreFunctionalFree (flat_map (axioms_of (numbered all)) all) (flat_map (constraints_of (numbered all)) all)
  unfolding IsFunc IsBelow
  free p d m q x k =
      let a = gathered_from (constraints_of (numbered all)) (constraint.Func p d) all m in
      let b = gathered_from (axioms_of (numbered all)) (inclusion.SubLink q x p) all k in
      let func = functional_from p a.0.line a.0.form (constraint.Func p d) a.2 refl in
      let low = below_from p b.0.line b.0.form (inclusion.SubLink q x p) b.2 refl in
      let upper = low.2 in
      by a.0 a.1 b.0 b.1 func.0 func.1 func.2 low.0 low.1 upper low.3 (func.3 ∙ sym low.4)
    where
      by : (a : Axiom) → In a all → (b : Axiom) → In b all → (e : Entity) (d : Dir) → a.form ≡ Func e d → (q : Entity) (y : Dir) (r : Entity) → b.form ≡ SubLink q y r → link_id (numbered all) e ≡ link_id (numbered all) r → ⊥
      by a m b k e d i q y r j numbers =
          let formed_a : IsFollowed e.sort d = subst IsFormed i (formed a m) in
          let formed_b : AreLinked q.sort y r.sort = subst IsFormed j (formed b k) in
          let declared_e = named_declared all good a m e (subst (λ x. In e (entities x)) (sym i) (here refl)) in
          let declared_r = named_declared all good b k r (subst (λ x. In r (entities x)) (sym j) (there (here refl))) in
          let one = one_link e r declared_e declared_r (followed_rank e.sort d formed_a) (linked_ranks q.sort r.sort y formed_b).1 numbers in
          let none : list_any (makes_functional r) all ≡ false = subst (λ x. specialises all x ≡ false) j (good.free b k) in
          let fails : makes_functional r a ≡ false = none_of (makes_functional r) a all none m in
          let fails_too : same e r ≡ false = subst (λ x. makes_functional r (record { line = a.line; form = x }) ≡ false) i fails in
          let holds : same e r ≡ true = subst (λ x. same e x ≡ true) one (same_itself e) in
          both_ranks (same e r) holds fails_too

  -- names
  name_good : (e : Entity) → Declares all e → is_name (name_of e.iri) ≡ true
  name_good e d =
      let bad : is_bad e ≡ false = none_of is_bad e (entities d.said.form) (good.each d.said d.stands).good (subst (λ x. In e (entities x)) (sym d.says) (here refl)) in
      not_false (is_name (name_of e.iri)) bad

  names_good : (name : List ℕ) → In name ((numbered all).classes ++ (numbered all).links) → is_name name ≡ true
  names_good name m = elim (In-append_cases (numbered all).classes (numbered all).links m) [
    | inl h ↦ (let c = (all_numbered all).each_class name h in subst (λ x. is_name x ≡ true) c.named (name_good c.class c.told))
    | inr h ↦ (let l = (pair_of (IsLinkOf all) (numbered all).links (numbered all).sides name (all_numbered all).each_link h).1 in subst (λ x. is_name x ≡ true) l.named (name_good l.link l.told))
  ]

  names_differ : AreDifferent ((numbered all).classes ++ (numbered all).links)
  names_differ = all_different (numbered all).classes (numbered all).links (all_numbered all).classes_differ (all_numbered all).links_differ (λ name m k.
      let c = (all_numbered all).each_class name m in
      let l = (pair_of (IsLinkOf all) (numbered all).links (numbered all).sides name (all_numbered all).each_link k).1 in
      let one : c.class ≡ l.link = one_entity all good c.class l.link c.told l.told (c.named ∙ sym l.named) in
      both_ranks (sort_rank l.link.sort == 0) (subst (λ (e : Entity). (sort_rank e.sort == 0) ≡ true) one c.rank) l.rank)

  pub given_good : passed_limit (given (numbered all) all) ≡ None → IsOntology (given (numbered all) all)
  unfolding IsAxiomGood IsConstraintGood
  given_good limits =
      let o = given (numbered all) all in
      let classes = not_then (nat_lt 400 (length o.classes)) counted.Classes _ limits in
      let links = not_then (nat_lt 600 (length o.links)) counted.Links _ classes.1 in
      let axioms = not_then (nat_lt 6000 (length o.tbox.axioms)) counted.Axioms _ links.1 in
      let constraints = not_then (nat_lt 3000 (length o.tbox.constraints)) counted.Constraints _ axioms.1 in
      record {
        named = names_good;
        differ = names_differ;
        each_side = same_length (IsLinkOf all) (numbered all).links (numbered all).sides (all_numbered all).each_link;
        few_classes = within 400 (length o.classes) classes.0;
        few_links = within 600 (length o.links) links.0;
        few_axioms = within 6000 (length o.tbox.axioms) axioms.0;
        few_constraints = within 3000 (length o.tbox.constraints) constraints.0;
        axioms_within = λ ax m. (axioms_good ax m).0;
        constraints_within = λ c m. (constraints_good c m).0;
        functional_free = free;
        axioms_sorted = λ ax m. (axioms_good ax m).1;
        constraints_sorted = λ c m. (constraints_good c m).1;
      }
    where
      within : (most count : ℕ) → nat_lt most count ≡ false → count ≤ most
      within most count h = grind (arith, nat_tests, h)

-- the text
abbrev answers : Ontology → Result Ontology OwlFault
answers x = Ok x

ok_is : (x o : Ontology) → answers x ≡ answers o → x ≡ o
ok_is x o e = cc

limits_kept : (x o : Ontology) → within_limits x ≡ Ok o → (passed_limit x ≡ None) × (x ≡ o)
limits_kept x o h = by (passed_limit x) refl h
  where
    by : (r : Option Counted) → passed_limit x ≡ r → ◌≡◌ {A = Result Ontology OwlFault} (elim r [ None ↦ Ok x | Some what ↦ Err (fault.Limit what) ]) (Ok o) → (passed_limit x ≡ None) × (x ≡ o)
    by None e k = (e, ok_is x o k)
    by (Some what) e k = absurd cc

judged_good : (all : List Axiom) (o : Ontology) → AreFormed all → judged all ≡ Ok o → IsOntology o
unfolding judged
judged_good all o formed h = by (or_else (first_fault all [] all) (first_specialised all all)) refl h
  where
    by : (r : Option OwlFault) → or_else (first_fault all [] all) (first_specialised all all) ≡ r → ◌≡◌ {A = Result Ontology OwlFault} (elim r [ None ↦ within_limits (given (numbered all) all) | Some e ↦ Err e ]) (Ok o) → IsOntology o
    by None e k =
        let parts = no_first (first_fault all [] all) (first_specialised all all) e in
        let kept = limits_kept (given (numbered all) all) o k in
        subst IsOntology kept.1 (given_good all (clean all parts.0 parts.1) formed kept.0)
    by (Some f) e k = absurd cc

text_good : (text : List ℕ) (o : Ontology) → read_text text ≡ Ok o → IsOntology o
text_good text o h = by (document (length text) (tokens_from 1 text)) (read_formed (length text) (tokens_from 1 text)) h
  where
    by : (r : Result (List Axiom) OwlFault) → IfOk r AreFormed → (r >>= judged) ≡ Ok o → IsOntology o
    by (Ok all) formed k = judged_good all o formed k
    by (Err f) formed k = absurd cc

pub text_sound : (text : List ℕ) (r : Result Ontology OwlFault) → IfOk r (λ o. read_text text ≡ Ok o) → IfOk r IsOntology
text_sound text (Ok o) read = text_good text o read
text_sound text (Err e) read = tt

-- what is read is an ontology
pub sound : (bytes : List ℕ) (o : Ontology) → read_ontology bytes ≡ Ok o → IsOntology o
unfolding read_ontology
sound bytes o = either (λ (r : Result Ontology OwlFault). r ≡ Ok o → IsOntology o) (is_utf8 bytes) _ _ (λ _ h. text_good (unmarked bytes) o h) (λ _ h. absurd cc)
