-- Fields of a record that are text.
use Rattle.std.proofs.Common.{◌≡◌, refl, ℕ, zero, suc, true, List, [], ◌∷◌, length, get_or, None, inl, inr, ltb}
use borrow.Author.Tests.{ltb-true, ltb-false}
use Rattle.std.specs.List.{list_all}
use Rattle.std.specs.Str.{is_utf8}
use Rattle.std.proofs.lemmas.Bool.{and_parts, cases_Bool}
use Rattle.std.proofs.lemmas.List.{get_or_past}
use Rattle.std.proofs.lemmas.Str.{is_utf8-from_IsUtf8}
use Rattle.csv.specs.Records.{field_at}
use Rattle.csv.proofs.RecordFacts.{field-there}

pub no_field : (fs : List (List ℕ)) (i : ℕ) → field_at fs i ≡ None → get_or fs i [] ≡ []
no_field fs i e = elim (cases_Bool (ltb i (length fs))) [
  | inl t ↦ absurd (field-there fs i (ltb-true i (length fs) t) e)
  | inr f ↦ get_or_past fs i [] (ltb-false i (length fs) f)
]

empty_text : is_utf8 [] ≡ true
empty_text = is_utf8-from_IsUtf8 [] ([], (refl, refl))

pub text_at : (fs : List (List ℕ)) (p : ℕ) → list_all is_utf8 fs ≡ true → is_utf8 (get_or fs p []) ≡ true
text_at [] p h = empty_text
text_at (f ∷ fs) zero h = (and_parts (is_utf8 f) (list_all is_utf8 fs) h).0
text_at (f ∷ fs) (suc p) h = text_at fs p (and_parts (is_utf8 f) (list_all is_utf8 fs) h).1
