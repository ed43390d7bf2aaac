-- That the mapping of a line fits its tables.
use Rattle.std.proofs.Common.{◌≡◌, refl, ◌+◌, ◌<◌, ◌≤◌, ℕ, zero, suc, List, [], ◌∷◌, ◌++◌, Option, Some, None, Result, Ok, Err, OnOk, All, length, get_or, arith, length-append}
use Rattle.std.specs.List.{flat_map}
use Rattle.std.specs.Str.{bytes_eq}
use Rattle.std.proofs.lemmas.List.{length-map}
use Rattle.std.proofs.lemmas.List.Elements.{All-map, All-push, All-append}
use Rattle.std.proofs.lemmas.List.Quantifiers.{position-Some}
use Rattle.vocabulary.specs.declared.ids.ClassId.{ClassId}
use Rattle.vocabulary.specs.declared.ids.LinkId.{LinkId}
use Rattle.vocabulary.specs.declared.ids.Side.{Side}
use Rattle.iri_templates.specs.Templates.{hole_texts, template_of}
use Rattle.mapping_facts.specs.declared.mapping.Mapping.{Mapping}
use Rattle.mapping_facts.specs.Fits.{PlaceFits, ConditionFits, TermFits, TargetFits, MappingFits, AreFit}
use Rattle.mapping_language.specs.declared.sources.Sources.{Sources}
use Rattle.mapping_language.specs.Written.{Cell, OfCell, OfText, Condition, Same, Differs, Null, NotNull, Term, Iri, Column, Constant, Target, One, Two, MapLine}
use Rattle.vocabulary.specs.declared.ids.Side.TheVariants.{Object}
use Rattle.line_lexer.specs.Judging.{or_zero}
use Rattle.mapping_language.specs.Mappings.{class_places, link_places, class_targets, link_targets, place_of, place_at, cell_of_hole, condition_of, template_or, row_term_of, tables_of, targets_of, mapping_of}
use Rattle.mapping_language.specs.Built.{IsWithinLimits}
use Rattle.mapping_language.proofs.Targets.{as_many}

all_none : {X : Type 0} (P : X → Type 0) → All P []
all_none P k d lt = absurd (omega arith)

all_one : {X : Type 0} (P : X → Type 0) (x : X) → P x → All P (x ∷ [])
all_one P x p zero d lt = p
all_one P x p (suc k) d lt = absurd (omega arith)

module _ (s : Sources) (m : MapLine) (some : 0 < length m.sources) where
  place_fits : (cell : Cell) → or_zero (place_of m cell.alias) < length m.sources
  place_fits cell = by (place_of m cell.alias) refl
    where
      by : (o : Option ℕ) → place_of m cell.alias ≡ o → or_zero o < length m.sources
      by None e = some
      by (Some i) e = (position-Some (λ source. bytes_eq source.alias cell.alias) m.sources i (record { table = []; alias = [] }) e).0

  condition_fits : (c : Condition) → ConditionFits (length m.sources) (condition_of s m c)
  condition_fits (Same a (OfCell b)) = (place_fits a, place_fits b)
  condition_fits (Same a (OfText text)) = place_fits a
  condition_fits (Differs a (OfCell b)) = (place_fits a, place_fits b)
  condition_fits (Differs a (OfText text)) = place_fits a
  condition_fits (Null a) = place_fits a
  condition_fits (NotNull a) = place_fits a

  term_fits : (t : Term) (side : Side) → TermFits (length m.sources) (row_term_of s m (record { term = t; side = side }))
  term_fits (Iri text) side =
      let holes : List (List ℕ) = hole_texts (template_or (template_of text)) in (
        length-map holes (λ hole. place_at s m (cell_of_hole hole)),
        All-map (PlaceFits (length m.sources)) (λ hole. place_at s m (cell_of_hole hole)) holes (λ k d lt. place_fits (cell_of_hole (get_or holes k d))),
      )
  term_fits (Column cell) side = place_fits cell
  term_fits (Constant text) side = tt

  module _ (class_of : List ℕ → Option ClassId) (link_of : List ℕ → Option (LinkId × Side)) where
    target_fits : (t : Target) → All (TargetFits (length m.sources)) (targets_of class_of link_of s m t)
    target_fits (One p a) = by (class_of p)
      where
        by : (o : Option ClassId) → All (TargetFits (length m.sources)) (class_targets class_of link_of s m o (class_places o a))
        by None = all_none (TargetFits (length m.sources))
        by (Some c) = all_one (TargetFits (length m.sources)) _ (term_fits a Object)
    target_fits (Two p a b) = by (link_of p)
      where
        by : (o : Option (LinkId × Side)) → All (TargetFits (length m.sources)) (link_targets class_of link_of s m o (link_places o a b))
        by None = all_none (TargetFits (length m.sources))
        by (Some (q, side)) = all_one (TargetFits (length m.sources)) _ (term_fits a Object, term_fits b side)

    targets_fit : (ts : List Target) → All (TargetFits (length m.sources)) (flat_map (targets_of class_of link_of s m) ts)
    targets_fit [] = all_none (TargetFits (length m.sources))
    targets_fit (t ∷ ts) = All-append (TargetFits (length m.sources)) (targets_of class_of link_of s m t) (flat_map (targets_of class_of link_of s m) ts) (target_fits t) (targets_fit ts)

    pub mapping_fits : IsWithinLimits s m → MappingFits (mapping_of class_of link_of s m)
    mapping_fits within =
        let n : length (tables_of s m) ≡ length m.sources = length-map m.sources _ in
        let few : length (flat_map (targets_of class_of link_of s m) m.targets) ≤ length m.targets = as_many s m class_of link_of m.targets in
        record {
          some = rw n (omega (arith, some));
          tables = rw n within.tables;
          query = rw n (All-map (ConditionFits (length m.sources)) (condition_of s m) m.conditions (λ k d lt. condition_fits (get_or m.conditions k d)));
          targets = rw n (targets_fit m.targets);
          count = omega (arith, within.targets);
        }

-- one mapping more
pub pushed_fit : {T E : Type 0} (r : Result T E) (mappings new : List Mapping) (mapping : Mapping) → AreFit mappings → length mappings + 1 ≤ 500 → MappingFits mapping
    → OnOk r (new ≡ mappings ++ mapping ∷ []) → OnOk r (AreFit new)
pushed_fit (Ok x) mappings new mapping fit few one is = rw is (record { each = All-push MappingFits mappings mapping fit.each one; count = rw length-append (omega arith) })
pushed_fit (Err e) mappings new mapping fit few one is = tt
