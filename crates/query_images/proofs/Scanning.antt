-- Looking for an item of a list.
use Rattle.std.proofs.Common.{ℕ, zero, suc, arith, ◌≡◌, refl, sym, subst, ◌+◌, ◌<◌, ◌≤◌, List, [], ◌∷◌, length, get_or, take, inl, inr}
use Rattle.std.proofs.lemmas.List.{take_all}
use Rattle.vocabulary.specs.Lists.{In}
use Rattle.vocabulary.proofs.Members.{In-from_Contains}
use Rattle.query_images.proofs.Imaged.{earlier_or_latest}

-- no item of the list is one
abbrev pub NoneIs : {X : Type 0} → (X → Type 0) → List X → Type 0
NoneIs {X} P list = (z : X) → In z list → P z → ⊥

module _ {X : Type 0} (P : X → Type 0) (list : List X) where
  pub none_start : NoneIs P (take 0 list)
  none_start z i p = elim i [ ]

  pub none_all : (i : ℕ) → length list ≤ i → NoneIs P (take i list) → NoneIs P list
  none_all i l none = subst (NoneIs P) (take_all i list l) none

  module _ (i : ℕ) (x : X) (l : i < length list) (is : x ≡ get_or list i x) where
    pub none_more : NoneIs P (take i list) → (P x → ⊥) → NoneIs P (take (i + 1) list)
    none_more none is_not z k p = elim (earlier_or_latest list i x l is z k) [ inl m ↦ none z m p | inr e ↦ is_not (subst P e p) ]

    pub among : In x list
    among = In-from_Contains list (i, l, sym is)

-- within a list, what stands at a place does not depend on what would stand past its end
pub get_or_any : {X : Type 0} (list : List X) (i : ℕ) (d e : X) → i < length list → get_or list i d ≡ get_or list i e
get_or_any [] i d e l = absurd (omega (arith, l))
get_or_any (x ∷ list) zero d e l = refl
get_or_any (x ∷ list) (suc i) d e l = get_or_any list i d e (omega (arith, l))
