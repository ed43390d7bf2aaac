-- The targets that a mapping line gives: at most one for each that it writes, and over the names of the model.
use Rattle.std.proofs.Common.{◌≡◌, refl, subst, ◌<◌, ◌≤◌, ℕ, List, [], ◌∷◌, Option, Some, None, inl, inr, length, arith, length-append}
use Rattle.std.specs.List.{flat_map}
use Rattle.vocabulary.specs.declared.ids.ClassId.{ClassId}
use Rattle.vocabulary.specs.declared.ids.LinkId.{LinkId}
use Rattle.vocabulary.specs.declared.ids.Side.{Side}
use Rattle.vocabulary.specs.Lists.{In, here, there}
use Rattle.vocabulary.proofs.Lists.{In-append_cases}
use Rattle.mapping_language.specs.declared.sources.Sources.{Sources}
use Rattle.mapping_language.specs.Written.{Target, One, Two, MapLine}
use Rattle.mapping_language.specs.Mappings.{class_places, link_places, class_targets, link_targets, targets_of}
use Rattle.mapping_facts.specs.Within.{IsTargetWithin, AreTargetsWithin}

module _ (s : Sources) (m : MapLine) (class_of : List ℕ → Option ClassId) (link_of : List ℕ → Option (LinkId × Side)) where
  target_alone : (t : Target) → length (targets_of class_of link_of s m t) ≤ 1
  target_alone (One p a) = by (class_of p)
    where
      by : (o : Option ClassId) → length (class_targets class_of link_of s m o (class_places o a)) ≤ 1
      by None = omega arith
      by (Some c) = omega arith
  target_alone (Two p a b) = by (link_of p)
    where
      by : (o : Option (LinkId × Side)) → length (link_targets class_of link_of s m o (link_places o a b)) ≤ 1
      by None = omega arith
      by (Some (q, side)) = omega arith

  pub as_many : (ts : List Target) → length (flat_map (targets_of class_of link_of s m) ts) ≤ length ts
  as_many [] = omega arith
  as_many (t ∷ ts) =
      let one : length (targets_of class_of link_of s m t) ≤ 1 = target_alone t in
      let more : length (flat_map (targets_of class_of link_of s m) ts) ≤ length ts = as_many ts in
      rw length-append (omega arith)

  module _ (classes links : ℕ) (class_below : (text : List ℕ) (c : ClassId) → class_of text ≡ Some c → c.0 < classes) (link_below : (text : List ℕ) (p : LinkId) (side : Side) → link_of text ≡ Some (p, side) → p.0 < links) where
    target_within : (t : Target) → AreTargetsWithin classes links (targets_of class_of link_of s m t)
    target_within (One p a) g h = by (class_of p) refl h
      where
        by : (o : Option ClassId) → class_of p ≡ o → In g (class_targets class_of link_of s m o (class_places o a)) → IsTargetWithin classes links g
        by None e h = elim h [ ]
        by (Some c) e (here is) = subst (IsTargetWithin classes links) is (class_below p c e)
        by (Some c) e (there h) = elim h [ ]
    target_within (Two p a b) g h = by (link_of p) refl h
      where
        by : (o : Option (LinkId × Side)) → link_of p ≡ o → In g (link_targets class_of link_of s m o (link_places o a b)) → IsTargetWithin classes links g
        by None e h = elim h [ ]
        by (Some (q, side)) e (here is) = subst (IsTargetWithin classes links) is (link_below p q side e)
        by (Some (q, side)) e (there h) = elim h [ ]

    pub targets_within : (ts : List Target) → AreTargetsWithin classes links (flat_map (targets_of class_of link_of s m) ts)
    targets_within [] g h = elim h [ ]
    targets_within (t ∷ ts) g h =
        elim (In-append_cases (targets_of class_of link_of s m t) (flat_map (targets_of class_of link_of s m) ts) h) [ inl k ↦ target_within t g k | inr k ↦ targets_within ts g k ]
