-- The numbers that names stand for are below the counts of the model.
use Rattle.std.proofs.Common.{subst, ap, ◌≡◌, refl, ℕ, ◌<◌, List, [], Option, Some, None, length, slice_get, option_map, option_and_then}
use Rattle.std.specs.Str.{bytes_eq}
use Rattle.std.proofs.lemmas.List.Quantifiers.{position-Some}
use Rattle.vocabulary.specs.declared.ids.ClassId.{ClassId}
use Rattle.vocabulary.specs.declared.ids.LinkId.{LinkId}
use Rattle.vocabulary.specs.declared.ids.Side.{Side}
use Rattle.vocabulary.specs.Texts.{number_of}
use Rattle.uml_model.specs.Rules.{Known, class_named, link_named}

-- the numbers of names are below how many names there are
number_below : (names : List (List ℕ)) (text : List ℕ) (n : ℕ) → number_of names text ≡ Some n → n < length names
number_below names text n e = (position-Some (bytes_eq text) names n [] e).0

pub class_below : (model : Known) (text : List ℕ) (c : ClassId) → class_named model text ≡ Some c → c.0 < length model.classes
class_below model text c e = by (number_of model.classes text) refl e
  where
    by : (o : Option ℕ) → number_of model.classes text ≡ o → option_map (λ n. record { 0 = n }) o ≡ Some c → c.0 < length model.classes
    by None f e = cc
    by (Some n) f e = subst (λ (d : ClassId). d.0 < length model.classes) (is e) (number_below model.classes text n f)
      where
        is : option_map (λ n. record { 0 = n }) (Some n) ≡ Some c → record { 0 = n } ≡ c
        is e = cc

pub link_below : (model : Known) (text : List ℕ) (p : LinkId) (side : Side) → link_named model text ≡ Some (p, side) → p.0 < length model.links
link_below model text p side e = by (number_of model.links text) refl e
  where
    sided : ℕ → Option Side → Option (LinkId × Side)
    sided n o = option_map (λ side. (record { 0 = n }, side)) o

    of_side : (n : ℕ) (o : Option Side) → sided n o ≡ Some (p, side) → n ≡ p.0
    of_side n None e = cc
    of_side n (Some other) e = ap (λ (l : LinkId × Side). l.0.0) (is e)
      where
        pair : ℕ → LinkId × Side
        pair k = (record { 0 = k }, other)

        is : Some (pair n) ≡ Some (p, side) → pair n ≡ (p, side)
        is e = cc

    by : (o : Option ℕ) → number_of model.links text ≡ o → option_and_then (λ n. sided n (slice_get model.sides n)) o ≡ Some (p, side) → p.0 < length model.links
    by None f e = cc
    by (Some n) f e = subst (λ k. k < length model.links) (of_side n (slice_get model.sides n) e) (number_below model.links text n f)
