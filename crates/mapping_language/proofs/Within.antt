-- A mapping line keeps the mappings few, and over the classes and links of the model.
use Rattle.std.proofs.Common.{◌≡◌, refl, subst, ◌∙◌, ap, ◌+◌, ◌*◌, ◌<◌, ◌≤◌, ℕ, Bool, true, false, nat_lt, if◌then◌else◌, List, [], ◌∷◌, ◌++◌, Option, Some, None, Result, Ok, Err, OnOk, inl, inr, map, length, option_map, arith, length-append}
use Rattle.std.specs.List.{list_any}
use Rattle.std.proofs.lemmas.Bool.{ltb-false}
use Rattle.std.proofs.lemmas.Grind.{flat_map-append}
use Rattle.std.proofs.lemmas.List.{length-map, append-nil}
use Rattle.line_lexer.specs.Faults.{limit_of}
use Rattle.line_lexer.specs.Judging.{first_broken, first_passed}
use Rattle.line_lexer.specs.Tokens.{tokens_of}
use Rattle.line_lexer.specs.declared.fault.LineFault.{LineFault}
use Rattle.line_lexer.specs.declared.fault.LineFault.TheVariants.{Unknown, Double, TypeMismatch, BadTemplate, NotBounded, Limit}
use Rattle.line_lexer.specs.declared.fault.Counted.{Counted}
use Rattle.line_lexer.specs.declared.fault.Counted.TheVariants.{Mappings, TablesOfMapping, Conditions, Targets}
use Rattle.vocabulary.specs.declared.ids.ClassId.{ClassId}
use Rattle.vocabulary.specs.declared.ids.LinkId.{LinkId}
use Rattle.vocabulary.specs.declared.ids.Side.{Side}
use Rattle.vocabulary.specs.Lists.{In, here, there}
use Rattle.vocabulary.proofs.Lists.{In-append_cases}
use Rattle.iri_templates.specs.Templates.{template_of}
use Rattle.uml_model.specs.Rules.{Known, class_named, link_named}
use Rattle.uml_model.proofs.Below.{class_below, link_below}
use Rattle.mapping_facts.specs.declared.mapping.Mapping.{Mapping}
use Rattle.mapping_language.specs.declared.sources.Sources.{Sources}
use Rattle.mapping_language.specs.Grammar.{map_line}
use Rattle.mapping_language.specs.Written.{MapLine}
use Rattle.mapping_language.specs.Mappings.{unknown, mismatch, double, is_bad, is_unbounded, all_templates, broken, mapping_of, grown, read_mapping_line}
use Rattle.mapping_language.specs.Within.{AreFew}
use Rattle.mapping_facts.specs.Within.{AreTargetsWithin, AreMappingsWithin, with_targets}
use Rattle.mapping_language.proofs.Read.{leaves}
use Rattle.mapping_language.proofs.Targets.{as_many, targets_within}

-- where no rule is broken, no count passes its number
unpassed : (rules : List (Bool × LineFault)) (counts : List (Counted × ℕ)) → first_broken rules counts ≡ None → first_passed counts ≡ None
unpassed [] counts e = by (first_passed counts) e
  where
    by : (o : Option Counted) → option_map Limit o ≡ None → o ≡ None
    by None e = refl
    by (Some what) e = cc
unpassed ((test, fault) ∷ rules) counts e = by test (unpassed rules counts) e
  where
    by : (t : Bool) → (first_broken rules counts ≡ None → first_passed counts ≡ None) → (if t then Some fault else first_broken rules counts) ≡ None → first_passed counts ≡ None
    by true behind e = cc
    by false behind e = behind e

not_passed : (c : Counted) (n : ℕ) (rest : List (Counted × ℕ)) → first_passed ((c, n) ∷ rest) ≡ None → (n ≤ limit_of c) × (first_passed rest ≡ None)
not_passed c n rest e = by (nat_lt (limit_of c) n) refl e
  where
    by : (t : Bool) → nat_lt (limit_of c) n ≡ t → (if t then Some c else first_passed rest) ≡ None → (n ≤ limit_of c) × (first_passed rest ≡ None)
    by true is e = cc
    by false is e = (ltb-false (limit_of c) n is, e)

module _ (class_of : List ℕ → Option ClassId) (link_of : List ℕ → Option (LinkId × Side)) (s : Sources) (m : MapLine) where
  grown_within : (classes links : ℕ) → ((text : List ℕ) (c : ClassId) → class_of text ≡ Some c → c.0 < classes) → ((text : List ℕ) (p : LinkId) (side : Side) → link_of text ≡ Some (p, side) → p.0 < links)
      → AreMappingsWithin classes links s.mappings → AreMappingsWithin classes links (grown class_of link_of s m).mappings
  unfolding grown
  grown_within classes links by_class by_link old n h = elim (In-append_cases s.mappings (mapping_of class_of link_of s m ∷ []) h) [ inl k ↦ old n k | inr k ↦ last k ]
    where
      last : In n (mapping_of class_of link_of s m ∷ []) → AreTargetsWithin classes links n.targets
      last (here e) = subst (λ (z : Mapping). AreTargetsWithin classes links z.targets) e (targets_within s m class_of link_of classes links by_class by_link m.targets)
      last (there k) = elim k [ ]

  within_limits : broken class_of link_of s m ≡ None → (length s.mappings + 1 ≤ 500) × (length m.targets ≤ 32)
  unfolding broken
  within_limits e =
      let all : List (Counted × ℕ) = (Conditions, length m.conditions) ∷ (Targets, length m.targets) ∷ [] in
      let none = unpassed ((unknown class_of link_of s m, Unknown) ∷ (double s m, Double) ∷ (mismatch class_of link_of s m, TypeMismatch)
      ∷ (list_any (λ text. is_bad (template_of text)) (all_templates m), BadTemplate) ∷ (list_any (λ text. is_unbounded (template_of text)) (all_templates m), NotBounded) ∷ [])
      ((Mappings, length s.mappings + 1) ∷ (TablesOfMapping, length m.sources) ∷ all) e in
      let a = not_passed Mappings (length s.mappings + 1) ((TablesOfMapping, length m.sources) ∷ all) none in
      let b = not_passed TablesOfMapping (length m.sources) all a.1 in
      let c = not_passed Conditions (length m.conditions) ((Targets, length m.targets) ∷ []) b.1 in
      (a.0, (not_passed Targets (length m.targets) [] c.1).0)

  grown_few : broken class_of link_of s m ≡ None → AreFew s.mappings → AreFew (grown class_of link_of s m).mappings
  unfolding grown
  grown_few e few =
      let new : Mapping = mapping_of class_of link_of s m in
      let limits = within_limits e in
      let written = as_many s m class_of link_of m.targets in
      let one_more : length (s.mappings ++ new ∷ []) ≡ length s.mappings + 1 = length-append s.mappings (new ∷ []) in
      let its : length (with_targets (new ∷ [])) ≡ length new.targets = ap length (append-nil (map (λ g. (new, g)) new.targets)) ∙ length-map new.targets (λ g. (new, g)) in
      let together : length (with_targets (s.mappings ++ new ∷ [])) ≡ length (with_targets s.mappings) + length (with_targets (new ∷ []))
      = ap length (flat_map-append (λ m. map (λ g. (m, g)) m.targets) s.mappings (new ∷ [])) ∙ length-append (with_targets s.mappings) (with_targets (new ∷ [])) in
      let old : length (with_targets s.mappings) ≤ 32 * length s.mappings = few.targets in
      let all : length (with_targets (s.mappings ++ new ∷ [])) ≤ 32 * length (s.mappings ++ new ∷ []) = omega (arith, together, its, written, limits.1, old, one_more) in
      record { mappings = omega (arith, one_more, limits.0); targets = all }

-- what is read
pub few_on : {T : Type 0} (r : Result T LineFault) (class_of : List ℕ → Option ClassId) (link_of : List ℕ → Option (LinkId × Side)) (s after : Sources) (text : List ℕ) → OnOk r (read_mapping_line class_of link_of s text ≡ Ok after) → AreFew s.mappings → OnOk r (AreFew after.mappings)
few_on (Ok x) class_of link_of s after text e few = elim (leaves map_line (broken class_of link_of s) (grown class_of link_of s) s after (tokens_of text) e) [
  | inl same ↦ subst (λ (z : Sources). AreFew z.mappings) same few
  | inr line ↦ subst (λ (z : Sources). AreFew z.mappings) line.2 (grown_few class_of link_of s line.0 line.1 few)
]
few_on (Err fault) class_of link_of s after text e few = tt

pub within_on : {T : Type 0} (r : Result T LineFault) (model : Known) (s after : Sources) (text : List ℕ) → OnOk r (read_mapping_line (class_named model) (link_named model) s text ≡ Ok after)
    → AreMappingsWithin (length model.classes) (length model.links) s.mappings → OnOk r (AreMappingsWithin (length model.classes) (length model.links) after.mappings)
within_on (Ok x) model s after text e old = elim (leaves map_line (broken (class_named model) (link_named model) s) (grown (class_named model) (link_named model) s) s after (tokens_of text) e) [
  | inl same ↦ subst (λ (z : Sources). AreMappingsWithin (length model.classes) (length model.links) z.mappings) same old
  | inr line ↦ subst (λ (z : Sources). AreMappingsWithin (length model.classes) (length model.links) z.mappings) line.2
      (grown_within (class_named model) (link_named model) s line.0 (length model.classes) (length model.links) (class_below model) (link_below model) old)
]
within_on (Err fault) model s after text e old = tt
