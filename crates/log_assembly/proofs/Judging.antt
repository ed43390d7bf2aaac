-- What the lists of an object's values say of it: met and dropped keys, times, attributes.
use Rattle.std.proofs.Common.{◌≡◌, refl, sym, ◌∙◌, ap, subst, ℕ, ◌==◌, Bool, true, false, not, cond, List, [], ◌∷◌, Some, None, codes, filter, filter_map, length, inl, inr, map, arith}
use Rattle.std.specs.List.Sorted.{IsStrictlySortedBy}
use Rattle.std.specs.Str.{bytes_eq}
use Rattle.std.proofs.lemmas.Slice.Eq.{bytes_eq-Decides}
use borrow.Author.Tests.{eqb-true, ltb-true, ltb-false}
use Rattle.vocabulary.specs.declared.ids.ValueKind.TheVariants.{Text, Int, Bool as BoolKind, Time}
use Rattle.vocabulary.specs.declared.term.Term.{Term, New', Named, Value}
use Rattle.vocabulary.specs.Lists.{In, here, there, IsListOf, Pairwise}
use Rattle.vocabulary.proofs.Lists.{In-append_left, In-append_right, In-append_cases, In-filter_map, from_filter_map}
use Rattle.queries.specs.Order.{term_cmp}
use Rattle.certain_answers.specs.declared.answer_list.Answers.{Answers}
use Rattle.annotation_language.specs.declared.notes.Rule.{Rule}
use Rattle.annotation_language.specs.declared.notes.Rule.TheVariants.{Mandatory, Single, Many}
use Rattle.annotation_language.specs.declared.notes.KeySource.{KeySource}
use Rattle.annotation_language.specs.declared.notes.KeySource.TheVariants.{Fixed, Asked as OfQuery}
use Rattle.annotation_language.specs.declared.notes.KeyNote.{KeyNote}
use Rattle.log_assembly.specs.declared.attributes.Attribute.{Attribute}
use Rattle.log_assembly.specs.declared.verdict.Why.TheVariants.{NoValue, SeveralValues}
use Rattle.log_assembly.specs.Answered.{query_of, AreAnswersOf}
use Rattle.log_assembly.specs.Asked.{Certain, IsOne, HasSeveral, IsValue, IsValueFrom}
use Rattle.log_assembly.specs.Found.{attribute_of, attributes_of, values_from}
use Rattle.log_assembly.specs.Judged.{dropped, dropped_by, entries_at, entries_by, first_unmet, is_dropped, is_met, met_by, time_of, times_at, times_of, why_of}
use Rattle.log_assembly.specs.TheLog.{IsMet, IsEntries, IsEntriesBy}
use Rattle.log_assembly.specs.TheReport.{IsFirstUnmet, has_none, has_several, beyond, AreDropped}
use Rattle.log_assembly.proofs.Homes.{none_of, one_of, several_of, not_one, not_several}
use Rattle.log_assembly.proofs.Sections.{values_listed}

-- by how many values there are
module _ (P : Term → Type 0) where
  met_means : (rule : Rule) (vs : List Term) → IsListOf term_cmp P vs → met_by rule vs ≡ true → rule ≡ Mandatory → (v : Term) × IsOne P v
  met_means Mandatory [] l h e = cc
  met_means Mandatory (v ∷ []) l h e = (v, one_of P v l)
  met_means Mandatory (v ∷ w ∷ vs) l h e = absurd (omega (arith, eqb-true (length (v ∷ w ∷ vs)) 1 h))
  met_means Single vs l h e = cc
  met_means Many vs l h e = cc

  met_back : (rule : Rule) (vs : List Term) → IsListOf term_cmp P vs → (rule ≡ Mandatory → (v : Term) × IsOne P v) → met_by rule vs ≡ true
  met_back Mandatory [] l h = absurd (let o = h refl in none_of P l o.0 o.1.0)
  met_back Mandatory (v ∷ []) l h = refl
  met_back Mandatory (v ∷ w ∷ vs) l h = absurd (let o = h refl in not_one P v w vs l o.0 o.1)
  met_back Single vs l h = refl
  met_back Many vs l h = refl

  dropped_means : (rule : Rule) (vs : List Term) → IsListOf term_cmp P vs → dropped_by rule vs ≡ true → (rule ≡ Single) × HasSeveral P
  dropped_means Mandatory vs l h = cc
  dropped_means Single [] l h = cc
  dropped_means Single (v ∷ []) l h = absurd (omega (arith, ltb-true 1 (length (v ∷ [])) h))
  dropped_means Single (v ∷ w ∷ vs) l h = (refl, several_of P v w vs l)
  dropped_means Many vs l h = cc

  not_dropped : (rule : Rule) (vs : List Term) → IsListOf term_cmp P vs → dropped_by rule vs ≡ false → (rule ≡ Single) × HasSeveral P → ⊥
  not_dropped Mandatory vs l h d = let e : Mandatory ≡ Single = d.0 in absurd cc
  not_dropped Single [] l h d = none_of P l d.1.0 d.1.2
  not_dropped Single (v ∷ []) l h d = not_several P v l d.1
  not_dropped Single (v ∷ w ∷ vs) l h d = absurd (omega (arith, ltb-false 1 (length (v ∷ w ∷ vs)) h))
  not_dropped Many vs l h d = let e : Many ≡ Single = d.0 in absurd cc

module _ (certain : Certain) (o : List ℕ) where
  -- the values of a key are listed
  values_from_listed : (source : KeySource) (answers : Answers) → AreAnswersOf certain (query_of source) answers → IsListOf term_cmp (IsValueFrom certain source o) (values_from source (Named o) answers)
  unfolding IsStrictlySortedBy
  values_from_listed (Fixed kind text) answers l = record { ordered = (tt, tt); each = λ v m. elim m [ here e ↦ sym e | there m ↦ elim m [ ] ]; all = λ v e. here (sym e) }
  values_from_listed (OfQuery query side) answers l = values_listed (Named o) (certain query) answers.tuples l

  abbrev KeysAsked : List KeyNote → List Answers → Type 0
  KeysAsked keys answers = Pairwise (λ (key : KeyNote) (answers : Answers). AreAnswersOf certain (query_of key.source) answers) keys answers

  listed : (key : KeyNote) (answers : Answers) → AreAnswersOf certain (query_of key.source) answers → IsListOf term_cmp (IsValue certain key o) (values_from key.source (Named o) answers)
  listed key answers l = values_from_listed key.source answers l

  abbrev found : List KeyNote → List Answers → List Attribute
  found keys answers = attributes_of (Named o) keys answers

  -- all keys are met, where none is found that is not
  pub none_unmet : (keys : List KeyNote) (answers : List Answers) → KeysAsked keys answers → first_unmet (found keys answers) ≡ None → (key : KeyNote) → In key keys → IsMet certain o key
  none_unmet [] answers asked e key m = elim m [ ]
  none_unmet (k ∷ keys) [] asked e key m = absurd asked
  none_unmet (k ∷ keys) (a ∷ answers) asked e key m = by (λ h n. none_unmet keys answers asked.1 h key n) (is_met (attribute_of (Named o) k a)) refl e m
    where
      by : (first_unmet (found keys answers) ≡ None → In key keys → IsMet certain o key) → (b : Bool) → is_met (attribute_of (Named o) k a) ≡ b
          → cond (not b) (Some (attribute_of (Named o) k a)) (first_unmet (found keys answers)) ≡ None → In key (k ∷ keys) → IsMet certain o key
      by rest true h e (here same) = subst (IsMet certain o) same (met_means (IsValue certain k o) k.rule (values_from k.source (Named o) a) (listed k a asked.0) h)
      by rest true h e (there m) = rest e m
      by rest false h e m = cc

  pub all_met : (keys : List KeyNote) (answers : List Answers) → KeysAsked keys answers → ((key : KeyNote) → In key keys → IsMet certain o key) → first_unmet (found keys answers) ≡ None
  all_met [] answers asked met = refl
  all_met (k ∷ keys) [] asked met = absurd asked
  all_met (k ∷ keys) (a ∷ answers) asked met =
      let here_met : is_met (attribute_of (Named o) k a) ≡ true = met_back (IsValue certain k o) k.rule (values_from k.source (Named o) a) (listed k a asked.0) (met k (here refl)) in
      rw here_met (all_met keys answers asked.1 (λ key m. met key (there m)))

  -- the first key that is not met, and why
  why_means : (k : KeyNote) (keys : List KeyNote) (vs : List Term) (rule : Rule) → k.rule ≡ rule → IsListOf term_cmp (IsValue certain k o) vs → met_by rule vs ≡ false → IsFirstUnmet certain o (k ∷ keys) (why_of (record { key = k.key; rule = rule; values = vs }))
  why_means k keys [] Mandatory e l h = has_none e (none_of (IsValue certain k o) l)
  why_means k keys (v ∷ []) Mandatory e l h = cc
  why_means k keys (v ∷ w ∷ vs) Mandatory e l h = by (length (v ∷ w ∷ vs) == 0) refl
    where
      by : (b : Bool) → (length (v ∷ w ∷ vs) == 0) ≡ b → IsFirstUnmet certain o (k ∷ keys) (cond b (NoValue k.key) (SeveralValues k.key))
      by true z = absurd (omega (arith, eqb-true (length (v ∷ w ∷ vs)) 0 z))
      by false z = has_several e (several_of (IsValue certain k o) v w vs l)
  why_means k keys vs Single e l h = cc
  why_means k keys vs Many e l h = cc

  pub some_unmet : (keys : List KeyNote) (answers : List Answers) (a : Attribute) → KeysAsked keys answers → first_unmet (found keys answers) ≡ Some a → IsFirstUnmet certain o keys (why_of a)
  some_unmet [] answers a asked e = cc
  some_unmet (k ∷ keys) [] a asked e = absurd asked
  some_unmet (k ∷ keys) (b ∷ answers) a asked e = by (λ h. some_unmet keys answers a asked.1 h) (is_met (attribute_of (Named o) k b)) refl e
    where
      by : (first_unmet (found keys answers) ≡ Some a → IsFirstUnmet certain o keys (why_of a)) → (t : Bool) → is_met (attribute_of (Named o) k b) ≡ t
          → cond (not t) (Some (attribute_of (Named o) k b)) (first_unmet (found keys answers)) ≡ Some a → IsFirstUnmet certain o (k ∷ keys) (why_of a)
      by rest true h e = beyond (met_means (IsValue certain k o) k.rule (values_from k.source (Named o) b) (listed k b asked.0) h) (rest e)
      by rest false h e =
          let same : attribute_of (Named o) k b ≡ a = cc in
          subst (λ w. IsFirstUnmet certain o (k ∷ keys) (why_of w)) same (why_means k keys (values_from k.source (Named o) b) k.rule refl (listed k b asked.0) h)

  -- the keys that are dropped
  pub are_dropped : (keys : List KeyNote) (answers : List Answers) → KeysAsked keys answers → AreDropped certain o keys (dropped (found keys answers))
  are_dropped [] answers asked = refl
  are_dropped (k ∷ keys) [] asked = absurd asked
  are_dropped (k ∷ keys) (a ∷ answers) asked = by (are_dropped keys answers asked.1) (is_dropped (attribute_of (Named o) k a)) refl
    where
      by : AreDropped certain o keys (dropped (found keys answers)) → (b : Bool) → is_dropped (attribute_of (Named o) k a) ≡ b
          → AreDropped certain o (k ∷ keys) (map (λ a. a.key) (cond b (attribute_of (Named o) k a ∷ filter is_dropped (found keys answers)) (filter is_dropped (found keys answers))))
      by rest true h = inl (dropped_means (IsValue certain k o) k.rule (values_from k.source (Named o) a) (listed k a asked.0) h, dropped (found keys answers), refl, rest)
      by rest false h = inr (not_dropped (IsValue certain k o) k.rule (values_from k.source (Named o) a) (listed k a asked.0) h, rest)

  -- the attributes of keys that are met
  entries_by_are : (key : KeyNote) (rule : Rule) (vs : List Term) → IsListOf term_cmp (IsValue certain key o) vs → (rule ≡ Mandatory → (v : Term) × IsOne (IsValue certain key o) v) → IsEntriesBy certain rule key o (entries_by rule key.key vs)
  entries_by_are key Mandatory [] l met = absurd (let one = met refl in none_of (IsValue certain key o) l one.0 one.1.0)
  entries_by_are key Mandatory (v ∷ []) l met = (v, one_of (IsValue certain key o) v l, refl)
  entries_by_are key Mandatory (v ∷ w ∷ vs) l met = absurd (let one = met refl in not_one (IsValue certain key o) v w vs l one.0 one.1)
  entries_by_are key Single [] l met = inr (inl (none_of (IsValue certain key o) l), refl)
  entries_by_are key Single (v ∷ []) l met = inl (v, one_of (IsValue certain key o) v l, refl)
  entries_by_are key Single (v ∷ w ∷ vs) l met = inr (inr (several_of (IsValue certain key o) v w vs l), refl)
  entries_by_are key Many vs l met = (vs, l, refl)

  pub entries_are : (keys : List KeyNote) (answers : List Answers) → KeysAsked keys answers → ((key : KeyNote) → In key keys → IsMet certain o key) → Pairwise (IsEntries certain o) keys (map entries_at (found keys answers))
  entries_are [] answers asked met = tt
  entries_are (k ∷ keys) [] asked met = absurd asked
  entries_are (k ∷ keys) (a ∷ answers) asked met =
      (entries_by_are k k.rule (values_from k.source (Named o) a) (listed k a asked.0) (met k (here refl)), entries_are keys answers asked.1 (λ key m. met key (there m)))

  -- times
  time_back : (v : Term) (t : List ℕ) → time_of v ≡ Some t → v ≡ Value Time t
  time_back (Named n) t e = cc
  time_back (Value Text n) t e = cc
  time_back (Value Int n) t e = cc
  time_back (Value BoolKind n) t e = cc
  time_back (Value Time n) t e = cc
  time_back (New' p d s r) t e = cc

  abbrev HasTime : List KeyNote → List ℕ → Type 0
  HasTime keys t = (key : KeyNote) × In key keys × (key.key ≡ codes "time:timestamp") × IsValue certain key o (Value Time t)

  later_time : (k : KeyNote) (keys : List KeyNote) (t : List ℕ) → HasTime keys t → HasTime (k ∷ keys) t
  later_time k keys t h = (h.0, there h.1, h.2, h.3)

  pub times_to : (keys : List KeyNote) (answers : List Answers) → KeysAsked keys answers → (t : List ℕ) → In t (times_of (found keys answers)) → HasTime keys t
  times_to [] answers asked t m = elim m [ ]
  times_to (k ∷ keys) [] asked t m = absurd asked
  times_to (k ∷ keys) (a ∷ answers) asked t m =
      elim (In-append_cases (times_at (attribute_of (Named o) k a)) (times_of (found keys answers)) m) [
        | inl h ↦ by (bytes_eq k.key (codes "time:timestamp")) refl h
        | inr h ↦ later_time k keys t (times_to keys answers asked.1 t h)
      ]
    where
      by : (b : Bool) → bytes_eq k.key (codes "time:timestamp") ≡ b → In t (cond b (filter_map time_of (values_from k.source (Named o) a)) []) → HasTime (k ∷ keys) t
      by true e h =
          let r = from_filter_map time_of (values_from k.source (Named o) a) h in
          (k, here refl, (bytes_eq-Decides k.key (codes "time:timestamp")).0 e, subst (IsValue certain k o) (time_back r.0 t r.2) ((listed k a asked.0).each r.0 r.1))
      by false e h = elim h [ ]

  pub times_from : (keys : List KeyNote) (answers : List Answers) → KeysAsked keys answers → (t : List ℕ) (key : KeyNote) → In key keys → key.key ≡ codes "time:timestamp" → IsValue certain key o (Value Time t) → In t (times_of (found keys answers))
  times_from [] answers asked t key m e v = elim m [ ]
  times_from (k ∷ keys) [] asked t key m e v = absurd asked
  times_from (k ∷ keys) (a ∷ answers) asked t key (here same) e v =
      let is : bytes_eq k.key (codes "time:timestamp") ≡ true = (bytes_eq-Decides k.key (codes "time:timestamp")).1 (ap (λ w. w.key) same ∙ e) in
      let value : IsValue certain k o (Value Time t) = subst (λ w. IsValue certain w o (Value Time t)) (sym same) v in
      let m : In t (filter_map time_of (values_from k.source (Named o) a)) = In-filter_map time_of ((listed k a asked.0).all (Value Time t) value) refl in
      let first : In t (times_at (attribute_of (Named o) k a)) = subst (λ b. In t (cond b (filter_map time_of (values_from k.source (Named o) a)) [])) (sym is) m in
      In-append_left (times_of (found keys answers)) first
  times_from (k ∷ keys) (a ∷ answers) asked t key (there m) e v = In-append_right (times_at (attribute_of (Named o) k a)) (times_from keys answers asked.1 t key m e v)
