-- The log and the report that are computed are those of the certain answers.
use Rattle.std.proofs.Common.{◌≡◌, refl, sym, ◌∙◌, ap, subst, ℕ, ◌==◌, Bool, true, false, cond, List, [], ◌∷◌, Option, Some, None, codes, filter, length, map, nat_lt, inl, inr, arith}
use Rattle.std.specs.List.{zip}
use Rattle.std.proofs.lemmas.List.Folds.{flat_map-map}
use Rattle.std.proofs.lemmas.List.Kept.{IsStrictlySortedBy-filter}
use borrow.Author.Tests.{lt-ltb, ltb-true}
use Rattle.vocabulary.specs.declared.term.Term.{Term, Named}
use Rattle.vocabulary.specs.Lists.{In, here, there, IsListOf, Pairwise}
use Rattle.vocabulary.specs.Texts.{text_cmp}
use Rattle.vocabulary.proofs.Lists.{In-map}
use Rattle.queries.specs.Order.{term_cmp}
use Rattle.xes_writer.specs.declared.log.Log.{Log}
use Rattle.annotation_language.specs.declared.notes.EventNote.{EventNote}
use Rattle.annotation_language.specs.declared.notes.Annotations.{Annotations}
use Rattle.log_assembly.specs.declared.asked.AskedEvent.{AskedEvent}
use Rattle.log_assembly.specs.declared.asked.Asked.{Asked}
use Rattle.log_assembly.specs.declared.attributes.Attribute.{Attribute}
use Rattle.log_assembly.specs.declared.verdict.Why.TheVariants.{NoValue, SeveralValues}
use Rattle.log_assembly.specs.declared.verdict.Judgement.{Judgement}
use Rattle.log_assembly.specs.Answered.{AreAsked, IsEventAsked}
use Rattle.log_assembly.specs.Asked.{Certain, HasSeveral, IsAnswer, IsCase, IsCaseOf, IsName, IsObject}
use Rattle.log_assembly.specs.Found.{homes_at, keys_at, names_of, values_at}
use Rattle.log_assembly.specs.Judged.{entries_at, first_unmet, has_names, judgement_of, judgements_of, verdict_by, verdict_of, why_of}
use Rattle.log_assembly.specs.Gathered.{Occurrence, at_case, log_of, moment_of, occurrence_cmp, row_by, row_of, title_of, trace_of}
use Rattle.log_assembly.specs.TheLog.{IsEvent, IsLog, IsMoment, IsTitle, IsTrace, entry_of}
use Rattle.log_assembly.specs.TheReport.{AreVerdicts, IsFirstUnmet, IsReport, IsVerdict, IsWhy, report_text}
use Rattle.log_assembly.proofs.Homes.{from_filter, from_map, in_filter, none_of, not_several, one_of, several_of}
use Rattle.log_assembly.proofs.Judging.{are_dropped, entries_are, none_unmet, some_unmet}
use Rattle.log_assembly.proofs.Moments.{asked_at, gathered, home_from, home_to, moments_listed, objects_listed}
use Rattle.log_assembly.proofs.Sections.{names_listed, values_listed}

-- a list and what is made of each of its items
pairwise_made : {A B C : Type 0} (R : B → C → Type 0) (f : A → B) (g : A → C) (xs : List A) → ((x : A) → In x xs → R (f x) (g x)) → Pairwise R (map f xs) (map g xs)
pairwise_made R f g [] h = tt
pairwise_made R f g (x ∷ xs) h = (h x (here refl), pairwise_made R f g xs (λ y m. h y (there m)))

pairwise_each : {A C : Type 0} (R : A → C → Type 0) (g : A → C) (xs : List A) → ((x : A) → In x xs → R x (g x)) → Pairwise R xs (map g xs)
pairwise_each R g [] h = tt
pairwise_each R g (x ∷ xs) h = (h x (here refl), pairwise_each R g xs (λ y m. h y (there m)))

module _ (certain : Certain) (notes : Annotations) (asked : Asked) (all : AreAsked certain notes asked) where
  cases_listed : IsListOf text_cmp (IsCase certain notes) (names_of asked.cases.tuples)
  cases_listed = names_listed (IsAnswer certain notes.case_query) asked.cases.tuples all.cases

  case_names_listed : (c : List ℕ) → IsListOf term_cmp (IsName certain notes c) (values_at (Named c) asked.names.tuples)
  case_names_listed c = values_listed (Named c) (IsAnswer certain notes.case_name) asked.names.tuples all.names

  title_is : (c : List ℕ) (vs : List Term) → IsListOf term_cmp (IsName certain notes c) vs → IsTitle certain notes c (title_of c vs)
  title_is c [] l = inr (inl (none_of (IsName certain notes c) l), refl)
  title_is c (v ∷ []) l = inl (one_of (IsName certain notes c) v l)
  title_is c (v ∷ w ∷ vs) l = inr (inr (several_of (IsName certain notes c) v w vs l), refl)

  -- the row of an event
  row_is : (c : List ℕ) (x : Occurrence) → IsMoment certain notes c (moment_of x) → IsEvent certain notes (moment_of x) (row_of notes.events asked.events x)
  row_is c x h =
      let event : EventNote = h.event in
      let r = asked_at certain notes asked all notes.events asked.events all.events x.place event h.placed in
      let a : AskedEvent = r.0 in
      let keys : List Attribute = keys_at event a x.object in
      record {
        event = event;
        placed = h.placed;
        parts = map entries_at keys;
        keys = entries_are certain x.object event.keys a.keys r.2.keys h.kept.keys;
        entries = (λ i. (row_by x.object (h.placed i) (r.1 i)).entries) ∙ ap (λ es. entry_of (codes "object") (Named x.object) ∷ es) (sym (flat_map-map (λ part. part) entries_at keys));
      }

  trace_is : (xs : List Occurrence) → IsListOf occurrence_cmp (λ x. In x (gathered certain notes asked all)) xs → (c : List ℕ) → IsTrace certain notes c (trace_of notes asked xs c)
  trace_is xs l c =
      let listed = moments_listed certain notes asked all xs l c in
      record {
        title = title_of c (values_at (Named c) asked.names.tuples);
        named = title_is c (values_at (Named c) asked.names.tuples) (case_names_listed c);
        entries = refl;
        moments = map moment_of (at_case c xs);
        listed = listed;
        events = pairwise_made (IsEvent certain notes) moment_of (row_of notes.events asked.events) (at_case c xs) (λ x m. row_is c x (listed.each (moment_of x) (In-map moment_of m)));
      }

  pub log_is : (xs : List Occurrence) → IsListOf occurrence_cmp (λ x. In x (gathered certain notes asked all)) xs → IsLog certain notes (log_of notes asked xs)
  log_is xs l = record { cases = names_of asked.cases.tuples; listed = cases_listed; traces = pairwise_each (IsTrace certain notes) (trace_of notes asked xs) (names_of asked.cases.tuples) (λ c m. trace_is xs l c) }

  -- the cases with several names
  has_means : (c : List ℕ) (vs : List Term) → IsListOf term_cmp (IsName certain notes c) vs → nat_lt 1 (length vs) ≡ true → HasSeveral (IsName certain notes c)
  has_means c [] l h = cc
  has_means c (v ∷ []) l h = absurd (omega (arith, ltb-true 1 (length (v ∷ [])) h))
  has_means c (v ∷ w ∷ vs) l h = several_of (IsName certain notes c) v w vs l

  has_where : (c : List ℕ) (vs : List Term) → IsListOf term_cmp (IsName certain notes c) vs → HasSeveral (IsName certain notes c) → nat_lt 1 (length vs) ≡ true
  has_where c [] l s = absurd (none_of (IsName certain notes c) l s.0 s.2)
  has_where c (v ∷ []) l s = absurd (not_several (IsName certain notes c) v l s)
  has_where c (v ∷ w ∷ vs) l s = lt-ltb 1 (length (v ∷ w ∷ vs)) (omega arith)

  several_listed : IsListOf text_cmp (λ c. IsCase certain notes c × HasSeveral (IsName certain notes c)) (filter (has_names asked.names.tuples) (names_of asked.cases.tuples))
  several_listed = record {
    ordered = IsStrictlySortedBy-filter text_cmp (has_names asked.names.tuples) (names_of asked.cases.tuples) cases_listed.ordered;
    each = λ c m. let r = from_filter (has_names asked.names.tuples) (names_of asked.cases.tuples) m in (cases_listed.each c r.0, has_means c (values_at (Named c) asked.names.tuples) (case_names_listed c) r.1);
    all = λ c h. in_filter (has_names asked.names.tuples) (names_of asked.cases.tuples) (cases_listed.all c h.0) (has_where c (values_at (Named c) asked.names.tuples) (case_names_listed c) h.1);
  }

  -- verdicts
  why_is : (event : EventNote) (o : List ℕ) (a : Attribute) → ((c : List ℕ) × IsCaseOf certain notes event o c) → IsFirstUnmet certain o event.keys (why_of a) → IsWhy certain notes event o (why_of a)
  why_is event o a c h = by (length a.values == 0) h
    where
      by : (b : Bool) → IsFirstUnmet certain o event.keys (cond b (NoValue a.key) (SeveralValues a.key)) → IsWhy certain notes event o (cond b (NoValue a.key) (SeveralValues a.key))
      by true h = (c, h)
      by false h = (c, h)

  verdict_is : (event : EventNote) (a : AskedEvent) → IsEventAsked certain event a → (o : List ℕ) → IsObject certain event o → IsVerdict certain notes event o (verdict_of (keys_at event a o) (homes_at asked.cases.tuples a o))
  verdict_is event a ea o object = by (homes_at asked.cases.tuples a o) (home_to certain notes asked all event a ea o) (home_from certain notes asked all event a ea o)
    where
      by : (homes : List (List ℕ)) → ((c : List ℕ) → In c homes → IsCaseOf certain notes event o c) → ((c : List ℕ) → IsCaseOf certain notes event o c → In c homes) → IsVerdict certain notes event o (verdict_of (keys_at event a o) homes)
      by [] to from = λ c h. elim (from c h) [ ]
      by (c ∷ cs) to from = found (first_unmet (keys_at event a o)) refl
        where
          found : (u : Option Attribute) → first_unmet (keys_at event a o) ≡ u → IsVerdict certain notes event o (verdict_by (keys_at event a o) u)
          found None e = (record { object = object; case = (c, to c (here refl)); keys = none_unmet certain o event.keys a.keys ea.keys e }, are_dropped certain o event.keys a.keys ea.keys)
          found (Some b) e = why_is event o b (c, to c (here refl)) (some_unmet certain o event.keys a.keys b ea.keys e)

  objects_of : (event : EventNote) (a : AskedEvent) (os : List (List ℕ)) → map (λ (j : Judgement). j.object) (map (judgement_of asked.cases.tuples event a) os) ≡ os
  objects_of event a [] = refl
  objects_of event a (o ∷ os) = ap (λ xs. o ∷ xs) (objects_of event a os)

  verdicts_are : (event : EventNote) (a : AskedEvent) → IsEventAsked certain event a → AreVerdicts certain notes event (judgements_of asked.cases.tuples (event, a))
  verdicts_are event a ea =
      let os : List (List ℕ) = names_of a.objects.tuples in
      record {
        objects = subst (IsListOf text_cmp (IsObject certain event)) (sym (objects_of event a os)) (objects_listed certain notes asked all event a ea);
        each = λ j m.
            let r = from_map (judgement_of asked.cases.tuples event a) os m in
            subst (λ k. IsVerdict certain notes event k.object k.verdict) r.2 (verdict_is event a ea r.0 ((objects_listed certain notes asked all event a ea).each r.0 r.1));
      }

  judged_are : (es : List EventNote) (us : List AskedEvent) → Pairwise (IsEventAsked certain) es us → Pairwise (AreVerdicts certain notes) es (map (judgements_of asked.cases.tuples) (zip es us))
  judged_are [] us p = tt
  judged_are (e ∷ es) [] p = absurd p
  judged_are (e ∷ es) (a ∷ us) p = (verdicts_are e a p.0, judged_are es us p.1)

  pub report_is : (log : Log (List ℕ)) (text : List ℕ) → text ≡ report_text notes.events log (filter (has_names asked.names.tuples) (names_of asked.cases.tuples)) (map (judgements_of asked.cases.tuples) (zip notes.events asked.events)) → IsReport certain notes log text
  report_is log text says = record { several = filter (has_names asked.names.tuples) (names_of asked.cases.tuples); several_listed = several_listed; verdicts = map (judgements_of asked.cases.tuples) (zip notes.events asked.events); judged = judged_are notes.events asked.events all.events; says = says }
