-- There is one log.
use Rattle.std.proofs.Common.{◌≡◌, ◌∙◌, sym, ap, refl, ℕ, List, [], ◌∷◌, Some, ◌⊎◌, inl, inr, codes}
use Rattle.std.specs.List.{flat_map}
use Rattle.std.specs.Cmp.{IsTotalOrder}
use Rattle.std.specs.Cmp.Lexicographic.{on_texts}
use Rattle.std.proofs.lemmas.Cmp.{nat_cmp_total, nat_list_cmp_total, on_total, then_total}
use Rattle.vocabulary.specs.declared.term.Term.{Term, Named}
use Rattle.vocabulary.specs.Lists.{Pairwise}
use Rattle.vocabulary.specs.Texts.{text_cmp}
use Rattle.vocabulary.proofs.OneList.{one_list}
use Rattle.queries.specs.Order.{term_cmp}
use Rattle.queries.proofs.Ordered.{tuples_ordered}
use Rattle.xes_writer.specs.declared.log.Entry.{Entry}
use Rattle.xes_writer.specs.declared.log.EventRow.{EventRow}
use Rattle.xes_writer.specs.declared.log.TraceRow.{TraceRow}
use Rattle.xes_writer.specs.declared.log.Log.{Log}
use Rattle.annotation_language.specs.declared.notes.Rule.{Rule}
use Rattle.annotation_language.specs.declared.notes.Rule.TheVariants.{Mandatory, Single, Many}
use Rattle.annotation_language.specs.declared.notes.KeyNote.{KeyNote}
use Rattle.annotation_language.specs.declared.notes.EventNote.{EventNote}
use Rattle.annotation_language.specs.declared.notes.Annotations.{Annotations}
use Rattle.log_assembly.specs.Asked.{Certain, IsOne, HasNone, HasSeveral, IsCase, IsValue, IsName}
use Rattle.log_assembly.specs.TheLog.{Moment, moment_cmp, entry_of, numbered, IsEntries, IsEntriesBy, IsMoment, IsEvent, IsTitle, IsTrace, IsLog, WritesOne}

-- the second list of two that are related item by item is fixed, where each item is
pub pairwise_fixes : {A B : Type 0} (R : A → B → Type 0) → ((x : A) (y z : B) → R x y → R x z → y ≡ z) → (xs : List A) (ys zs : List B) → Pairwise R xs ys → Pairwise R xs zs → ys ≡ zs
pairwise_fixes R one [] [] [] h k = refl
pairwise_fixes R one [] [] (z ∷ zs) h k = absurd k
pairwise_fixes R one [] (y ∷ ys) zs h k = absurd h
pairwise_fixes R one (x ∷ xs) [] zs h k = absurd h
pairwise_fixes R one (x ∷ xs) (y ∷ ys) [] h k = absurd k
pairwise_fixes R one (x ∷ xs) (y ∷ ys) (z ∷ zs) h k = λ i. one x y z h.0 k.0 i ∷ pairwise_fixes R one xs ys zs h.1 k.1 i

pub moment_total : IsTotalOrder moment_cmp
moment_total = then_total (on_texts (λ (m : Moment). m.instant)) (then_total (on_texts (λ (m : Moment). m.object)) (on_total (λ (m : Moment). m.place) nat_cmp_total))

-- none or several contradict exactly one
not_one : {A : Type 0} (P : A → Type 0) (x : A) → IsOne P x → HasNone P ⊎ HasSeveral P → ⊥
not_one P x one (inl none) = none x one.0
not_one P x one (inr s) = s.4 (one.1 s.0 s.2 ∙ sym (one.1 s.1 s.3))

some_is : {A : Type 0} (x y : A) → Some x ≡ Some y → x ≡ y
some_is x y e = cc

module _ (certain : Certain) where
  two_ones : (key : KeyNote) (o : List ℕ) (p q : List (Entry (List ℕ))) → WritesOne certain key o p → WritesOne certain key o q → p ≡ q
  two_ones key o p q h k = h.2 ∙ ap (λ v. entry_of key.key v ∷ []) (k.1.1 h.0 h.1.0) ∙ sym k.2

  entries_by : (rule : Rule) (key : KeyNote) (o : List ℕ) (p q : List (Entry (List ℕ))) → IsEntriesBy certain rule key o p → IsEntriesBy certain rule key o q → p ≡ q
  entries_by Mandatory key o p q h k = two_ones key o p q h k
  entries_by Single key o p q (inl h) (inl k) = two_ones key o p q h k
  entries_by Single key o p q (inl h) (inr k) = absurd (not_one (IsValue certain key o) h.0 h.1 k.0)
  entries_by Single key o p q (inr h) (inl k) = absurd (not_one (IsValue certain key o) k.0 k.1 h.0)
  entries_by Single key o p q (inr h) (inr k) = h.1 ∙ sym k.1
  entries_by Many key o p q h k = h.2 ∙ ap (numbered key.key 1) (one_list term_cmp tuples_ordered.terms (IsValue certain key o) h.0 k.0 h.1 k.1) ∙ sym k.2

  same_title : (notes : Annotations) (c : List ℕ) (t u : Term) → IsTitle certain notes c t → IsTitle certain notes c u → t ≡ u
  same_title notes c t u (inl h) (inl k) = k.1 t h.0
  same_title notes c t u (inl h) (inr k) = absurd (not_one (IsName certain notes c) t h k.0)
  same_title notes c t u (inr h) (inl k) = absurd (not_one (IsName certain notes c) u k h.0)
  same_title notes c t u (inr h) (inr k) = h.1 ∙ sym k.1

  -- the parts of an event under one annotation
  same_parts : (event : EventNote) (o : List ℕ) (ps qs : List (List (Entry (List ℕ)))) → Pairwise (IsEntries certain o) event.keys ps → Pairwise (IsEntries certain o) event.keys qs → ps ≡ qs
  same_parts event o ps qs h k = pairwise_fixes (IsEntries certain o) (λ key p q. entries_by key.rule key o p q) event.keys ps qs h k

  same_event : (notes : Annotations) (m : Moment) (r s : EventRow (List ℕ)) → IsEvent certain notes m r → IsEvent certain notes m s → r ≡ s
  same_event notes m r s h k =
      let event : h.event ≡ k.event = some_is h.event k.event (sym h.placed ∙ k.placed) in
      let parts : h.parts ≡ k.parts = same_parts k.event m.object h.parts k.parts (rw event at h.keys) k.keys in
      let entries : r.entries ≡ s.entries = h.entries ∙ ap (λ ps. entry_of (codes "object") (Named m.object) ∷ flat_map (λ part. part) ps) parts ∙ sym k.entries in
      λ i. record { entries = entries i }

  same_trace : (notes : Annotations) (c : List ℕ) (t u : TraceRow (List ℕ)) → IsTrace certain notes c t → IsTrace certain notes c u → t ≡ u
  same_trace notes c t u h k =
      let title : h.title ≡ k.title = same_title notes c h.title k.title h.named k.named in
      let entries : t.entries ≡ u.entries = h.entries ∙ ap (λ n. entry_of (codes "object") (Named c) ∷ entry_of (codes "concept:name") n ∷ []) title ∙ sym k.entries in
      let moments : h.moments ≡ k.moments = one_list moment_cmp moment_total (IsMoment certain notes c) h.moments k.moments h.listed k.listed in
      let events : t.events ≡ u.events = pairwise_fixes (IsEvent certain notes) (same_event notes) k.moments t.events u.events (rw moments at h.events) k.events in
      λ i. record { entries = entries i; events = events i }

  pub one_log : (notes : Annotations) (a b : Log (List ℕ)) → IsLog certain notes a → IsLog certain notes b → a ≡ b
  one_log notes a b h k =
      let cases : h.cases ≡ k.cases = one_list text_cmp nat_list_cmp_total (IsCase certain notes) h.cases k.cases h.listed k.listed in
      let traces : a.traces ≡ b.traces = pairwise_fixes (IsTrace certain notes) (same_trace notes) k.cases a.traces b.traces (rw cases at h.traces) k.traces in
      λ i. record { traces = traces i }
