-- What is asked of one more item of a list, and which queries are too wide.
use Rattle.std.proofs.Common.{ℕ, ◌≡◌, refl, sym, ◌∙◌, ap, subst, ◌+◌, ◌<◌, List, [], ◌∷◌, ◌++◌, length, get_or, take, Option, Some, None, filter_map, zero, suc, arith, Result, Ok, Err, IfErr, inl, inr}
use Rattle.std.specs.Prelude.{option_to_list}
use Rattle.std.specs.Result.{IsErrAnd}
use Rattle.std.specs.List.{flat_map}
use Rattle.std.proofs.lemmas.List.{take_more}
use Rattle.std.specs.List.Sorted.{IsStrictlySortedBy}
use Rattle.vocabulary.specs.declared.term.Term.{Term}
use Rattle.vocabulary.specs.Lists.{In, here, there, IsListOf, Pairwise}
use Rattle.vocabulary.proofs.Lists.{In-append_left, In-append_right, In-append_cases, In-filter_map, from_filter_map}
use Rattle.mapping_facts.proofs.Members.{In-flat_map, from_flat_map}
use Rattle.dllite_axioms.specs.declared.axioms.Axiom.{Axiom}
use Rattle.queries.specs.declared.query.Query.{Query}
use Rattle.queries.specs.Order.{tuple_cmp}
use Rattle.perfect_rewriting.specs.declared.members.RewriteFault.{RewriteFault}
use Rattle.perfect_rewriting.specs.declared.members.RewriteFault.TheVariants.{TooWide}
use Rattle.fold_rewriting.specs.Listing.{IsTooWide}
use Rattle.annotation_language.specs.declared.notes.KeyNote.{KeyNote}
use Rattle.annotation_language.specs.declared.notes.EventNote.{EventNote}
use Rattle.annotation_language.specs.declared.notes.Annotations.{Annotations}
use Rattle.log_assembly.specs.Asked.{Certain, IsAnswer}
use Rattle.log_assembly.specs.declared.asked.Asked.{Asked}
use Rattle.log_assembly.specs.Answered.{AreAnswersOf, AsksTooWide, EventIsTooWide, HasOne, IsEventAsked, IsInOrder, KeyIsTooWide, MayBeTooWide, event_queries, query_of}
use Rattle.log_assembly.proofs.InOrder.{asked_in_order}

-- a fault that is passed on
pub kept_fault : {X P : Type 0} (r : Result X RewriteFault) (e : RewriteFault) → IsErrAnd r (λ f. f ≡ e) → (e ≡ TooWide → P) → IfErr r (λ f. f ≡ TooWide → P)
kept_fault (Ok x) e h p = tt
kept_fault (Err f) e h p = λ w. p (sym h ∙ w)

-- where there is no query there is no answer
pub none_asked : (certain : Certain) (o : Option Query) (xs : List (List Term)) → o ≡ None → xs ≡ [] → IsListOf tuple_cmp (IsAnswer certain o) xs
unfolding IsStrictlySortedBy
none_asked certain o xs none empty = rw (none, empty) (record { ordered = tt; each = λ x i. absurd (elim i [ ]); all = λ x p. absurd p })

-- lists that are related, one item further
pub Pairwise-push : {A B : Type 0} (R : A → B → Type 0) (xs : List A) (ys : List B) (x : A) (y : B) → Pairwise R xs ys → R x y → Pairwise R (xs ++ x ∷ []) (ys ++ y ∷ [])
Pairwise-push R [] [] x y p r = (r, tt)
Pairwise-push R [] (b ∷ ys) x y p r = absurd p
Pairwise-push R (a ∷ xs) [] x y p r = absurd p
Pairwise-push R (a ∷ xs) (b ∷ ys) x y p r = (p.0, Pairwise-push R xs ys x y p.1 r)

next_front : {A : Type 0} (xs : List A) (i : ℕ) (x : A) → i < length xs → x ≡ get_or xs i x → take (i + 1) xs ≡ take i xs ++ x ∷ []
next_front xs i x l is = take_more xs i x l ∙ ap (λ z. take i xs ++ z ∷ []) (sym is)

pub asked_more : {A B : Type 0} (R : A → B → Type 0) (xs : List A) (i : ℕ) (x : A) (old new : List B) (y : B) → i < length xs → x ≡ get_or xs i x → Pairwise R (take i xs) old → R x y → new ≡ old ++ y ∷ [] → Pairwise R (take (i + 1) xs) new
asked_more R xs i x old new y l is p r e = rw (next_front xs i x l is, e) (Pairwise-push R (take i xs) old x y p r)

pub none_more : {A : Type 0} (P : A → Type 0) (xs : List A) (i : ℕ) (x : A) → i < length xs → x ≡ get_or xs i x → (HasOne P (take i xs) → ⊥) → (P x → ⊥) → HasOne P (take (i + 1) xs) → ⊥
none_more {A = A} P xs i x l is none not h = elim (In-append_cases (take i xs) (x ∷ []) (subst (In h.0) (next_front xs i x l is) h.1)) [
  | inl k ↦ none (h.0, k, h.2)
  | inr k ↦ not (subst P (only k) h.2)
]
  where
    only : {z : A} → In z (x ∷ []) → z ≡ x
    only (here e) = sym e
    only (there k) = elim k [ ]

pub in_get_or : {A : Type 0} (xs : List A) (i : ℕ) (d x : A) → i < length xs → x ≡ get_or xs i d → In x xs
in_get_or [] i d x l is = absurd (omega (arith, l))
in_get_or (y ∷ ys) zero d x l is = here (sym is)
in_get_or (y ∷ ys) (suc i) d x l is = there (in_get_or ys i d x (omega (arith, l)) is)

in_option : {A : Type 0} (o : Option A) (x : A) → In x (option_to_list o) → o ≡ Some x
in_option None x i = elim i [ ]
in_option (Some y) x (here e) = ap Some e
in_option (Some y) x (there i) = elim i [ ]

option_in : {A : Type 0} (o : Option A) (x : A) → o ≡ Some x → In x (option_to_list o)
option_in None x e = cc
option_in (Some y) x e = here cc

module _ (axioms : List Axiom) where
  may_be : (o : Option Query) → HasOne (IsTooWide axioms) (option_to_list o) → MayBeTooWide axioms o
  may_be o h = (h.0, in_option o h.0 h.1, h.2)

  -- the queries of an event
  pub event_narrow : (event : EventNote) → (IsTooWide axioms event.objects → ⊥) → (MayBeTooWide axioms event.cases → ⊥) → (HasOne (KeyIsTooWide axioms) event.keys → ⊥) → EventIsTooWide axioms event → ⊥
  event_narrow event objects cases keys h = elim (In-append_cases (event.objects ∷ option_to_list event.cases) (filter_map (λ (key : KeyNote). query_of key.source) event.keys) h.1) [
    | inl k ↦ elim (In-append_cases (event.objects ∷ []) (option_to_list event.cases) k) [
      | inl o ↦ objects (subst (IsTooWide axioms) (only o) h.2)
      | inr m ↦ cases (may_be event.cases (h.0, m, h.2))
    ]
    | inr k ↦ (let f = from_filter_map (λ (key : KeyNote). query_of key.source) event.keys k in keys (f.0, f.1, (h.0, f.2, h.2)))
  ]
    where
      only : {q : Query} → In q (event.objects ∷ []) → q ≡ event.objects
      only (here e) = sym e
      only (there i) = elim i [ ]

  pub objects_wide : (event : EventNote) → IsTooWide axioms event.objects → EventIsTooWide axioms event
  objects_wide event h = (event.objects, In-append_left (filter_map (λ (key : KeyNote). query_of key.source) event.keys) (here refl), h)

  pub cases_wide : (event : EventNote) → MayBeTooWide axioms event.cases → EventIsTooWide axioms event
  cases_wide event h = (h.0, In-append_left (filter_map (λ (key : KeyNote). query_of key.source) event.keys) (there (option_in event.cases h.0 h.1)), h.2)

  pub keys_wide : (event : EventNote) → HasOne (KeyIsTooWide axioms) event.keys → EventIsTooWide axioms event
  keys_wide event h = (h.2.0, In-append_right (event.objects ∷ option_to_list event.cases) (In-filter_map (λ (key : KeyNote). query_of key.source) h.1 h.2.1), h.2.2)

  -- the queries of annotations
  pub all_narrow : (notes : Annotations) → (MayBeTooWide axioms notes.case_query → ⊥) → (MayBeTooWide axioms notes.case_name → ⊥) → (HasOne (EventIsTooWide axioms) notes.events → ⊥) → AsksTooWide axioms notes → ⊥
  all_narrow notes cases names events h = elim (In-append_cases (option_to_list notes.case_query ++ option_to_list notes.case_name) (flat_map event_queries notes.events) h.1) [
    | inl k ↦ elim (In-append_cases (option_to_list notes.case_query) (option_to_list notes.case_name) k) [
      | inl m ↦ cases (may_be notes.case_query (h.0, m, h.2))
      | inr m ↦ names (may_be notes.case_name (h.0, m, h.2))
    ]
    | inr k ↦ (let e = from_flat_map event_queries notes.events k in events (e.0, e.1, (h.0, e.2, h.2)))
  ]

  pub case_query_wide : (notes : Annotations) → MayBeTooWide axioms notes.case_query → AsksTooWide axioms notes
  case_query_wide notes h = (h.0, In-append_left (flat_map event_queries notes.events) (In-append_left (option_to_list notes.case_name) (option_in notes.case_query h.0 h.1)), h.2)

  pub case_name_wide : (notes : Annotations) → MayBeTooWide axioms notes.case_name → AsksTooWide axioms notes
  case_name_wide notes h = (h.0, In-append_left (flat_map event_queries notes.events) (In-append_right (option_to_list notes.case_query) (option_in notes.case_name h.0 h.1)), h.2)

  pub events_wide : (notes : Annotations) → HasOne (EventIsTooWide axioms) notes.events → AsksTooWide axioms notes
  events_wide notes h = (h.2.0, In-append_right (option_to_list notes.case_query ++ option_to_list notes.case_name) (In-flat_map event_queries notes.events h.1 h.2.1), h.2.2)

pub answers_in_order : (certain : Certain) (cases names : Option Query) (events : List EventNote) (asked : Asked) → AreAnswersOf certain cases asked.cases → AreAnswersOf certain names asked.names → Pairwise (IsEventAsked certain) events asked.events → IsInOrder asked
answers_in_order certain cases names events asked c n e =
    let notes : Annotations = record { case_query = cases; case_name = names; events = events; queries = [] } in
    asked_in_order certain notes asked (record { cases = c; names = n; events = e })
