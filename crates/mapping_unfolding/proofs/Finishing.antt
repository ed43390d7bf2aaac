-- Drafts as row queries.
use Rattle.std.proofs.Common.{ℕ, ◌≡◌, sym, ◌∙◌, ap, subst, ◌+◌, ◌<◌, List, [], ◌∷◌, ◌++◌, length, map, filter_map, take, get_or, Option}
use Rattle.std.specs.Prelude.{IfOk, Result, Ok, Err}
use Rattle.std.proofs.lemmas.List.{take_more}
use Rattle.std.proofs.lemmas.List.Elements.{filter_map-append}
use Rattle.queries.specs.declared.query.Arg.{Arg}
use Rattle.mapping_unfolding.specs.declared.draft.Draft.{Draft}
use Rattle.mapping_unfolding.specs.declared.unfolded.Unfolded.{Unfolded}
use Rattle.mapping_unfolding.specs.Drafts.{unfolded_of}

-- the items that a partial function makes, one item further
pub made_more : {A B : Type 0} (f : A → Option B) (xs : List A) (i : ℕ) (x : A) (old new : List B) → i < length xs → x ≡ get_or xs i x → old ≡ filter_map f (take i xs) → new ≡ old ++ filter_map f (x ∷ []) → new ≡ filter_map f (take (i + 1) xs)
made_more f xs i x old new l is o n =
    n ∙ (ap (λ z. z ++ filter_map f (x ∷ [])) o ∙ sym (ap (filter_map f) (take_more xs i x l) ∙ (filter_map-append f (take i xs) (get_or xs i x ∷ []) ∙ ap (λ z. filter_map f (take i xs) ++ filter_map f (z ∷ [])) (sym is))))

-- what holds of the row queries of the drafts holds of the list
pub finished : {E : Type 0} (r : Result (List Unfolded) E) (P : List Unfolded → Type 0) (given head : List Arg) (drafts : List Draft) → given ≡ head → IfOk r (λ l. l ≡ map (unfolded_of given) drafts) → P (map (unfolded_of head) drafts) → IfOk r P
finished (Ok l) P given head drafts e h p = subst P (sym (h ∙ ap (λ z. map (unfolded_of z) drafts) e)) p
finished (Err x) P given head drafts e h p = tt
