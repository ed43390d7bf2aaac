-- The pairs of two lists, one more at a time.
use Rattle.std.proofs.Common.{◌≡◌, ◌∙◌, sym, ap, map, ℕ, ◌+◌, ◌<◌, ◌≤◌, List, [], ◌∷◌, ◌++◌, length, get_or, take, arith, ◌⊎◌, inl, inr}
use Rattle.std.specs.List.{flat_map, zip}
use Rattle.std.proofs.lemmas.List.{flat_map_more, take_more, take_all, map-append}
use Rattle.std.proofs.lemmas.Slice.Zip.{length-zip, get_or-zip}

pub zip_more : {K X : Type 0} (ks : List K) (vs : List X) (i : ℕ) (d : K) (e : X) → i < length ks → i < length vs → take (i + 1) (zip ks vs) ≡ take i (zip ks vs) ++ (get_or ks i d, get_or vs i e) ∷ []
zip_more ks vs i d e l m =
    let low : i < length (zip ks vs) = omega (arith, length-zip ks vs, l, m) in
    take_more (zip ks vs) i (d, e) low ∙ ap (λ p. take i (zip ks vs) ++ p ∷ []) (get_or-zip ks vs i (d, e) l m)

pub zip_whole : {K X : Type 0} (ks : List K) (vs : List X) (i : ℕ) → (length ks ≤ i) ⊎ (length vs ≤ i) → take i (zip ks vs) ≡ zip ks vs
zip_whole ks vs i (inl h) = let high : length (zip ks vs) ≤ i = omega (arith, length-zip ks vs, h) in take_all i (zip ks vs) high
zip_whole ks vs i (inr h) = let high : length (zip ks vs) ≤ i = omega (arith, length-zip ks vs, h) in take_all i (zip ks vs) high

pub zip_map_more : {K X Y : Type 0} (f : K × X → Y) (ks : List K) (vs : List X) (i : ℕ) (k : K) (v : X) (out : List Y) → i < length ks → i < length vs → k ≡ get_or ks i k → v ≡ get_or vs i v
    → out ≡ map f (take i (zip ks vs)) → out ++ f (k, v) ∷ [] ≡ map f (take (i + 1) (zip ks vs))
zip_map_more f ks vs i k v out l m is_k is_v so_far =
    (λ n. so_far n ++ f (is_k n, is_v n) ∷ []) ∙ sym (ap (map f) (zip_more ks vs i k v l m) ∙ map-append f (take i (zip ks vs)) ((get_or ks i k, get_or vs i v) ∷ []))

pub zip_flat_map_more : {K X Y : Type 0} (f : K × X → List Y) (ks : List K) (vs : List X) (i : ℕ) (k : K) (v : X) (old out : List Y) → i < length ks → i < length vs → k ≡ get_or ks i k → v ≡ get_or vs i v
    → out ≡ old ++ flat_map f (take i (zip ks vs)) → out ++ f (k, v) ≡ old ++ flat_map f (take (i + 1) (zip ks vs))
zip_flat_map_more f ks vs i k v old out l m is_k is_v so_far =
    let ps = take i (zip ks vs) in
    (λ n. so_far n ++ f (is_k n, is_v n)) ∙ flat_map_more f old ps (get_or ks i k, get_or vs i v) ∙ ap (λ qs. old ++ flat_map f qs) (sym (zip_more ks vs i k v l m))
