-- Lists of answers in order.
use Rattle.std.proofs.Common.{◌≡◌, refl, sym, ◌∙◌, ap, subst, ℕ, suc, ◌+◌, ◌<◌, Bool, true, false, IsTrue, ◌↔◌, List, [], ◌∷◌, length, get_or, arith}
use Rattle.std.specs.declared.cmp.Ordering.{Ordering}
use Rattle.std.specs.declared.cmp.Ordering.TheVariants.{Less, Equal, Greater}
use Rattle.std.specs.Ordering.{is_lt}
use Rattle.std.specs.Cmp.{IsTotalOrder}
use Rattle.std.specs.List.{All, AllByRecursion, IsAllAdjacentAnswer}
use Rattle.std.specs.List.Sorted.{IsStrictlySortedBy}
use Rattle.std.proofs.lemmas.List.Elements.{All-cons, All-nil}
use Rattle.vocabulary.specs.Lists.{Pairwise}
use Rattle.annotation_language.specs.declared.notes.KeyNote.{KeyNote}
use Rattle.annotation_language.specs.declared.notes.EventNote.{EventNote}
use Rattle.annotation_language.specs.declared.notes.Annotations.{Annotations}
use Rattle.certain_answers.specs.declared.answer_list.Answers.{Answers}
use Rattle.log_assembly.specs.declared.asked.AskedEvent.{AskedEvent}
use Rattle.log_assembly.specs.declared.asked.Asked.{Asked}
use Rattle.log_assembly.specs.Answered.{AreAnswersOf, AreAsked, InOrder, IsEventAsked, IsEventInOrder, IsInOrder, query_of}
use Rattle.log_assembly.specs.Asked.{Certain}
use Rattle.log_assembly.proofs.Runs.{below_at}

less_is : (r : Ordering) → true ≡ is_lt r → r ≡ Less
less_is Less e = refl
less_is Equal e = cc
less_is Greater e = cc

module _ {X : Type 0} (ord : X → X → Ordering) (o : IsTotalOrder ord) where
  above : (x y : X) (zs : List X) → ord x y ≡ Less → AllByRecursion (λ z. ord y z ≡ Less) zs → AllByRecursion (λ z. ord x z ≡ Less) zs
  above x y [] l all = tt
  above x y (z ∷ zs) l all = (o.trans x y z l all.0, above x y zs l all.1)

  -- each below the next
  sorted_from_next : (xs : List X) → ((k m : ℕ) (d : X) → m ≡ k + 1 → m < length xs → ord (get_or xs k d) (get_or xs m d) ≡ Less) → IsStrictlySortedBy ord xs
  unfolding IsStrictlySortedBy
  sorted_from_next [] h = tt
  sorted_from_next (x ∷ []) h = (tt, tt)
  sorted_from_next (x ∷ y ∷ ys) h =
      let rest : IsStrictlySortedBy ord (y ∷ ys) = sorted_from_next (y ∷ ys) (λ k m d e l. h (suc k) (suc m) d (omega (arith, e)) (omega (arith, l))) in
      let first : ord x y ≡ Less = h 0 1 x (omega arith) (omega arith) in
      ((first, above x y ys first rest.0), rest)

  -- what the test of neighbours answers
  pub sorted_answer : (xs : List X) (r : Bool) → IsAllAdjacentAnswer (λ x y b. b ≡ is_lt (ord x y)) xs r → IsTrue r ↔ IsStrictlySortedBy ord xs
  sorted_answer xs true h =
      (λ t. sorted_from_next xs (λ k m d e l. subst (λ n. ord (get_or xs k d) (get_or xs n d) ≡ Less) (sym e) (less_is (ord (get_or xs k d) (get_or xs (k + 1) d)) (h k d (omega (arith, e, l))))), λ s. refl)
  sorted_answer [] false h = absurd (omega (arith, h.1))
  sorted_answer (x ∷ xs) false h = (λ t. absurd cc, λ s. absurd (no (below_at ord (x ∷ xs) h.0 (h.0 + 1) x s (omega arith) h.1)))
    where
      no : ord (get_or (x ∷ xs) h.0 x) (get_or (x ∷ xs) (h.0 + 1) x) ≡ Less → ⊥
      no e = let never : false ≡ is_lt Less = h.2 x ∙ ap is_lt e in absurd cc

keys_in_order : (certain : Certain) (keys : List KeyNote) (answers : List Answers) → Pairwise (λ (key : KeyNote) (answers : Answers). AreAnswersOf certain (query_of key.source) answers) keys answers → All InOrder answers
keys_in_order certain [] [] p = All-nil InOrder
keys_in_order certain [] (a ∷ answers) p = absurd p
keys_in_order certain (k ∷ keys) [] p = absurd p
keys_in_order certain (k ∷ keys) (a ∷ answers) p = All-cons InOrder a answers p.0.ordered (keys_in_order certain keys answers p.1)

events_in_order : (certain : Certain) (events : List EventNote) (asked : List AskedEvent) → Pairwise (IsEventAsked certain) events asked → All IsEventInOrder asked
events_in_order certain [] [] p = All-nil IsEventInOrder
events_in_order certain [] (a ∷ asked) p = absurd p
events_in_order certain (e ∷ events) [] p = absurd p
events_in_order certain (e ∷ events) (a ∷ asked) p =
    let here : IsEventInOrder a = record { objects = p.0.objects.ordered; cases = p.0.cases.ordered; keys = keys_in_order certain e.keys a.keys p.0.keys } in
    All-cons IsEventInOrder a asked here (events_in_order certain events asked p.1)

pub asked_in_order : (certain : Certain) (notes : Annotations) (asked : Asked) → AreAsked certain notes asked → IsInOrder asked
asked_in_order certain notes asked all = record { cases = all.cases.ordered; names = all.names.ordered; events = events_in_order certain notes.events asked.events all.events }
