-- What the names of a line that mismatches nothing stand for.
use Rattle.std.proofs.Common.{ℕ, ◌≡◌, refl, sym, ◌∙◌, ap, subst, ◌<◌, Bool, true, false, not, ◌||◌, List, [], ◌∷◌, get_or, length, map, Option, Some, None, is_some, option_map, option_and_then}
use Rattle.std.specs.List.{list_any, slice_get}
use Rattle.std.specs.Str.{bytes_eq}
use Rattle.std.proofs.lemmas.List.Quantifiers.{position-Some}
use Rattle.std.proofs.lemmas.Slice.Eq.{bytes_eq-Decides}
use Rattle.line_lexer.specs.Judging.{has_twice, or_zero}
use Rattle.vocabulary.specs.declared.ids.LinkId.{LinkId}
use Rattle.vocabulary.specs.declared.ids.Side.{Side}
use Rattle.vocabulary.specs.declared.ids.Side.TheVariants.{Object, Value}
use Rattle.vocabulary.specs.declared.ids.ValueKind.{ValueKind}
use Rattle.vocabulary.specs.declared.ids.ValueKind.TheVariants.{Text, Int, Bool as Boolean, Time}
use Rattle.vocabulary.specs.Lists.{In}
use Rattle.vocabulary.specs.Texts.{number_of}
use Rattle.uml_model.specs.Rules.{Known, is_class, class_of, link_of, side_named, is_object, is_value, is_association, is_attribute, are_of_one_kind, same_kind}
use Rattle.uml_model.specs.Sorts.{HasSide, AreDifferent}
use Rattle.uml_model.proofs.Lists.{neither, none_of, item_of_map}
use Rattle.uml_model.proofs.Numbering.{numbered}

abbrev pub link : ℕ → LinkId
link n = record { 0 = n }

pub not_told : (b : Bool) → not b ≡ false → b ≡ true
not_told true h = refl
not_told false h = cc

-- the class of a name that is one
pub numbered_class : (s : Known) (text : List ℕ) → is_class s text ≡ true → (class_of s text).0 < length s.classes
numbered_class s text h = some_numbered (number_of s.classes text) refl h
  where
    some_numbered : (o : Option ℕ) → number_of s.classes text ≡ o → is_some (number_of s.classes text) ≡ true → or_zero (number_of s.classes text) < length s.classes
    some_numbered None e h = (let wrong : false ≡ true = sym (ap is_some e) ∙ h in cc)
    some_numbered (Some n) e h = subst (λ x. or_zero x < length s.classes) (sym e) (numbered s.classes text n e)

-- the link of a name that has a sort
pub record IsLink (s : Known) (text : List ℕ) (side : Side) : Type 0 where
  pub number : number_of s.links text ≡ Some (link_of s text).0
  pub within : (link_of s text).0 < length s.links
  pub sorted : HasSide s.sides (link_of s text) side

link_there : (s : Known) (text : List ℕ) (side : Side) → side_named s text ≡ Some side → IsLink s text side
link_there s text side h = by_number (number_of s.links text) refl
  where
    named : Option ℕ → Option Side
    named o = option_map (λ (l : LinkId × Side). l.1) (option_and_then (λ n. option_map (λ (side : Side). (link n, side)) (slice_get s.sides n)) o)

    by_side : (n : ℕ) (o : Option Side) → option_map (λ (l : LinkId × Side). l.1) (option_map (λ (side : Side). (link n, side)) o) ≡ Some side → o ≡ Some side
    by_side n None e = cc
    by_side n (Some other) e = e

    by_number : (o : Option ℕ) → number_of s.links text ≡ o → IsLink s text side
    by_number None e = (let wrong : None ≡ Some side = sym (ap named e) ∙ h in cc)
    by_number (Some n) e =
        let is : or_zero (number_of s.links text) ≡ n = ap or_zero e in
        record {
          number = e ∙ ap Some (sym is);
          within = subst (λ k. k < length s.links) (sym is) (numbered s.links text n e);
          sorted = subst (λ k. slice_get s.sides k ≡ Some side) (sym is) (by_side n (slice_get s.sides n) (sym (ap named e) ∙ h));
        }

pub an_association : (s : Known) (text : List ℕ) → is_association s text ≡ true → IsLink s text Object
an_association s text h = by_side (side_named s text) refl h
  where
    by_side : (o : Option Side) → side_named s text ≡ o → is_object o ≡ true → IsLink s text Object
    by_side None e t = cc
    by_side (Some Object) e t = link_there s text Object e
    by_side (Some (Value k)) e t = cc

pub an_attribute : (s : Known) (text : List ℕ) → is_attribute s text ≡ true → (k : ValueKind) × IsLink s text (Value k)
an_attribute s text h = by_side (side_named s text) refl h
  where
    by_side : (o : Option Side) → side_named s text ≡ o → is_value o ≡ true → (k : ValueKind) × IsLink s text (Value k)
    by_side None e t = cc
    by_side (Some Object) e t = cc
    by_side (Some (Value k)) e t = (k, link_there s text (Value k) e)

one_kind : (k l : ValueKind) → same_kind k l ≡ true → k ≡ l
one_kind Text Text h = refl
one_kind Int Int h = refl
one_kind Boolean Boolean h = refl
one_kind Time Time h = refl
one_kind k l h = cc

pub two_attributes : (s : Known) (u v : List ℕ) → are_of_one_kind (side_named s u) (side_named s v) ≡ true → (k : ValueKind) × IsLink s u (Value k) × IsLink s v (Value k)
two_attributes s u v h = by_sides (side_named s u) (side_named s v) refl refl h
  where
    by_sides : (a b : Option Side) → side_named s u ≡ a → side_named s v ≡ b → are_of_one_kind a b ≡ true → (k : ValueKind) × IsLink s u (Value k) × IsLink s v (Value k)
    by_sides (Some (Value k)) (Some (Value l)) e i t =
        (k, link_there s u (Value k) e, link_there s v (Value k) (i ∙ ap (λ m. Some (Value m)) (sym (one_kind k l t))))
    by_sides a b e i t = cc

-- names of one number are one text
one_text : (texts : List (List ℕ)) (u v : List ℕ) (n : ℕ) → number_of texts u ≡ Some n → number_of texts v ≡ Some n → u ≡ v
one_text texts u v n e i =
    let a : u ≡ get_or texts n [] = (bytes_eq-Decides u (get_or texts n [])).0 (position-Some (bytes_eq u) texts n [] e).1 in
    let b : v ≡ get_or texts n [] = (bytes_eq-Decides v (get_or texts n [])).0 (position-Some (bytes_eq v) texts n [] i).1 in
    a ∙ sym b

-- attributes that are named once each are different
pub different : (s : Known) (names : List (List ℕ)) → list_any (λ u. not (is_attribute s u)) names ≡ false → has_twice names ≡ false → AreDifferent (map (link_of s) names)
different s [] some once = tt
different s (u ∷ names) some once =
    let w = neither (not (is_attribute s u)) (list_any (λ u. not (is_attribute s u)) names) some in
    let o = neither (list_any (bytes_eq u) names) (has_twice names) once in
    (λ m. again w o (item_of_map (link_of s) (link_of s u) names m), different s names w.1 o.1)
  where
    again : (not (is_attribute s u) ≡ false) × (list_any (λ u. not (is_attribute s u)) names ≡ false) → (list_any (bytes_eq u) names ≡ false) × (has_twice names ≡ false) → (v : List ℕ) × In v names × (link_of s v ≡ link_of s u) → ⊥
    again w o (v, m, e) =
        let a = (an_attribute s u (not_told (is_attribute s u) w.0)).1 in
        let b = (an_attribute s v (not_told (is_attribute s v) (none_of (λ u. not (is_attribute s u)) v names w.1 m))).1 in
        let same : u ≡ v = one_text s.links u v (link_of s u).0 a.number (b.number ∙ ap (λ p. Some (p.0)) e) in
        let found : bytes_eq u v ≡ true = (bytes_eq-Decides u v).1 same in
        let none : bytes_eq u v ≡ false = none_of (bytes_eq u) v names o.0 m in
        cc

-- each of them is an attribute
pub each_attribute : (s : Known) (names : List (List ℕ)) (u : LinkId) → list_any (λ u. not (is_attribute s u)) names ≡ false → In u (map (link_of s) names) →
    (u.0 < length s.links) × ((k : ValueKind) × HasSide s.sides u (Value k))
each_attribute s names u some m = of_name (item_of_map (link_of s) u names m)
  where
    of_name : (v : List ℕ) × In v names × (link_of s v ≡ u) → (u.0 < length s.links) × ((k : ValueKind) × HasSide s.sides u (Value k))
    of_name (v, i, e) =
        let a = an_attribute s v (not_told (is_attribute s v) (none_of (λ u. not (is_attribute s u)) v names some i)) in
        (subst (λ p. p.0 < length s.links) e a.1.within, (a.0, subst (λ p. HasSide s.sides p (Value a.0)) e a.1.sorted))
