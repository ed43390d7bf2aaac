-- The occurrences that are computed are the events of the cases.
use Rattle.std.proofs.Common.{◌≡◌, refl, sym, ◌∙◌, ap, subst, ℕ, zero, suc, ◌+◌, Bool, true, false, not, cond, List, [], ◌∷◌, Option, Some, None, filter_map, is_some, map, inl, inr, slice_get, arith}
use Rattle.std.specs.declared.cmp.Ordering.TheVariants.{Less}
use Rattle.std.specs.Ordering.{is_eq, ordering_then}
use Rattle.std.specs.Cmp.{Equal-is}
use Rattle.std.specs.List.{zip}
use Rattle.std.proofs.lemmas.Cmp.{nat_list_cmp_total, tied_itself}
use Rattle.vocabulary.specs.declared.term.Term.{Term, Named}
use Rattle.vocabulary.specs.Lists.{In, here, IsListOf, Pairwise}
use Rattle.vocabulary.specs.Texts.{text_cmp}
use Rattle.vocabulary.proofs.Lists.{In-append_left, In-append_right, In-append_cases, In-map}
use Rattle.annotation_language.specs.declared.notes.EventNote.{EventNote}
use Rattle.annotation_language.specs.declared.notes.Annotations.{Annotations}
use Rattle.log_assembly.specs.declared.asked.AskedEvent.{AskedEvent}
use Rattle.log_assembly.specs.declared.asked.Asked.{Asked}
use Rattle.log_assembly.specs.declared.attributes.Attribute.{Attribute}
use Rattle.log_assembly.specs.Answered.{AreAsked, IsEventAsked}
use Rattle.log_assembly.specs.Asked.{Certain, IsAnswer, IsCaseOf, IsObject}
use Rattle.log_assembly.specs.Found.{homes_at, keys_at, names_of}
use Rattle.log_assembly.specs.Judged.{first_unmet, is_kept, times_of}
use Rattle.log_assembly.specs.Gathered.{Occurrence, at_case, event_occurrences, moment_of, object_occurrences, occurrence, occurrence_cmp, occurrences_from, occurrences_if}
use Rattle.log_assembly.specs.TheLog.{IsKept, IsMoment, Moment, moment_cmp}
use Rattle.log_assembly.proofs.Homes.{from_flat_map, from_map, homes_from, homes_to, in_flat_map}
use Rattle.log_assembly.proofs.Judging.{all_met, none_unmet, times_from, times_to}
use Rattle.log_assembly.proofs.Occurring.{text_level}
use Rattle.log_assembly.proofs.Sections.{fused, listed_by, names_listed, section}

pub some_is : {A : Type 0} (x y : A) → Some x ≡ Some y → x ≡ y
some_is x y e = cc

-- kept: in a case, and with no key that is not met
kept_means : (attributes : List Attribute) (homes : List (List ℕ)) → is_kept attributes homes ≡ true → ((c : List ℕ) × In c homes) × (first_unmet attributes ≡ None)
kept_means attributes [] e = cc
kept_means attributes (c ∷ cs) e = ((c, here refl), by (first_unmet attributes) e)
  where
    by : (o : Option Attribute) → not (is_some o) ≡ true → o ≡ None
    by None e = refl
    by (Some a) e = cc

kept_where : (attributes : List Attribute) (homes : List (List ℕ)) (c : List ℕ) → In c homes → first_unmet attributes ≡ None → is_kept attributes homes ≡ true
kept_where attributes [] c m e = elim m [ ]
kept_where attributes (d ∷ ds) c m e = rw e refl

-- what an occurrence of an object is
occurrence_means : (kept : Bool) (o : List ℕ) (n : ℕ) (attributes : List Attribute) (homes : List (List ℕ)) (x : Occurrence) → In x (occurrences_if kept o n attributes homes)
    → (kept ≡ true) × (c : List ℕ) × (t : List ℕ) × In c homes × In t (times_of attributes) × (occurrence c o n t ≡ x)
occurrence_means false o n attributes homes x m = elim m [ ]
occurrence_means true o n attributes homes x m =
    let r = from_flat_map (λ c. map (occurrence c o n) (times_of attributes)) homes m in
    let s = from_map (occurrence r.0 o n) (times_of attributes) r.2 in
    (refl, r.0, s.0, r.1, s.1, s.2)

occurrence_in : (kept : Bool) (o : List ℕ) (n : ℕ) (attributes : List Attribute) (homes : List (List ℕ)) (c t : List ℕ) → kept ≡ true → In c homes → In t (times_of attributes)
    → In (occurrence c o n t) (occurrences_if kept o n attributes homes)
occurrence_in false o n attributes homes c t e m k = cc
occurrence_in true o n attributes homes c t e m k = in_flat_map (λ c. map (occurrence c o n) (times_of attributes)) homes m (In-map (occurrence c o n) k)

-- of the part of a list at a case, the moments
all_some : {X Y : Type 0} (f : X → Y) (xs : List X) → filter_map (λ x. Some (f x)) xs ≡ map f xs
all_some f [] = refl
all_some f (x ∷ xs) = ap (λ ys. f x ∷ ys) (all_some f xs)

abbrev occurrence_of : List ℕ → Moment → Occurrence
occurrence_of c m = record { case = c; instant = m.instant; object = m.object; place = m.place }

abbrev moment_at : List ℕ → Occurrence → Option Moment
moment_at c x = cond (is_eq (text_cmp x.case c)) (Some (moment_of x)) None

moment_back : (c : List ℕ) (x : Occurrence) (m : Moment) → moment_at c x ≡ Some m → x ≡ occurrence_of c m
moment_back c x m e = by (is_eq (text_cmp x.case c)) refl e
  where
    by : (b : Bool) → is_eq (text_cmp x.case c) ≡ b → cond b (Some (moment_of x)) None ≡ Some m → x ≡ occurrence_of c m
    by true k e =
        let same : x.case ≡ c = text_level x.case c ((Equal-is (text_cmp x.case c)).0 k) in
        let is : moment_of x ≡ m = some_is (moment_of x) m e in
        λ i. record { case = same i; instant = (is i).instant; object = (is i).object; place = (is i).place }
    by false k e = cc

case_itself : (c : List ℕ) → is_eq (text_cmp c c) ≡ true
case_itself c = ap is_eq (tied_itself nat_list_cmp_total c)

pub part_listed : (c : List ℕ) (P : Occurrence → Type 0) (xs : List Occurrence) → IsListOf occurrence_cmp P xs → IsListOf moment_cmp (λ m. P (occurrence_of c m)) (map moment_of (at_case c xs))
part_listed c P xs l =
    let made = section occurrence_cmp moment_cmp (moment_at c) (occurrence_of c) (moment_back c) (λ m. ap (λ b. cond b (Some m) None) (case_itself c)) (λ y z e. subst (λ o. ordering_then o (moment_cmp y z) ≡ Less) (tied_itself nat_list_cmp_total c) e) P xs l in
    let is : filter_map (moment_at c) xs ≡ map moment_of (at_case c xs) = fused (λ x. is_eq (text_cmp x.case c)) (λ x. Some (moment_of x)) xs ∙ all_some moment_of (at_case c xs) in
    subst (IsListOf moment_cmp (λ m. P (occurrence_of c m))) is made

module _ (certain : Certain) (notes : Annotations) (asked : Asked) (all : AreAsked certain notes asked) where
  -- the answers of the annotation at a place
  pub asked_at : (es : List EventNote) (us : List AskedEvent) → Pairwise (IsEventAsked certain) es us → (n : ℕ) (event : EventNote) → slice_get es n ≡ Some event → (a : AskedEvent) × (slice_get us n ≡ Some a) × IsEventAsked certain event a
  asked_at [] us p n event e = cc
  asked_at (x ∷ es) [] p n event e = absurd p
  asked_at (x ∷ es) (y ∷ us) p zero event e = (y, refl, subst (λ w. IsEventAsked certain w y) (some_is x event e) p.0)
  asked_at (x ∷ es) (y ∷ us) p (suc n) event e = asked_at es us p.1 n event e

  abbrev cases : List (List Term)
  cases = asked.cases.tuples

  pub home_to : (event : EventNote) (a : AskedEvent) → IsEventAsked certain event a → (o c : List ℕ) → In c (homes_at cases a o) → IsCaseOf certain notes event o c
  home_to event a ea o c m = homes_to (IsAnswer certain notes.case_query) (IsAnswer certain event.cases) cases a.cases.tuples all.cases ea.cases (Named o) c m

  pub home_from : (event : EventNote) (a : AskedEvent) → IsEventAsked certain event a → (o c : List ℕ) → IsCaseOf certain notes event o c → In c (homes_at cases a o)
  home_from event a ea o c h = homes_from (IsAnswer certain notes.case_query) (IsAnswer certain event.cases) cases a.cases.tuples all.cases ea.cases (Named o) c h.0 h.1

  pub objects_listed : (event : EventNote) (a : AskedEvent) → IsEventAsked certain event a → IsListOf text_cmp (IsObject certain event) (names_of a.objects.tuples)
  objects_listed event a ea = names_listed (certain event.objects) a.objects.tuples ea.objects

  kept_is : (event : EventNote) (a : AskedEvent) → IsEventAsked certain event a → (o : List ℕ) → In o (names_of a.objects.tuples) → is_kept (keys_at event a o) (homes_at cases a o) ≡ true → IsKept certain notes event o
  kept_is event a ea o m e =
      let k = kept_means (keys_at event a o) (homes_at cases a o) e in
      record { object = (objects_listed event a ea).each o m; case = (k.0.0, home_to event a ea o k.0.0 k.0.1); keys = none_unmet certain o event.keys a.keys ea.keys k.1 }

  is_kept_where : (event : EventNote) (a : AskedEvent) → IsEventAsked certain event a → (o c : List ℕ) → IsKept certain notes event o → IsCaseOf certain notes event o c → is_kept (keys_at event a o) (homes_at cases a o) ≡ true
  is_kept_where event a ea o c k h = kept_where (keys_at event a o) (homes_at cases a o) c (home_from event a ea o c h) (all_met certain o event.keys a.keys ea.keys k.keys)

  -- of which annotation an occurrence is: that at the place k of these, which is m in all
  record IsFrom (es : List EventNote) (us : List AskedEvent) (n : ℕ) (x : Occurrence) (k m : ℕ) : Type 0 where
    event : EventNote
    answers : AskedEvent
    place : m ≡ n + k
    event_placed : slice_get es k ≡ Some event
    answers_placed : slice_get us k ≡ Some answers
    event_asked : IsEventAsked certain event answers
    within : In x (event_occurrences cases m (event, answers))

  from_which : (es : List EventNote) (us : List AskedEvent) → Pairwise (IsEventAsked certain) es us → (n : ℕ) (x : Occurrence) → In x (occurrences_from cases n (zip es us)) → (k : ℕ) × (m : ℕ) × IsFrom es us n x k m
  from_which [] us p n x h = elim h [ ]
  from_which (e ∷ es) [] p n x h = absurd p
  from_which (e ∷ es) (a ∷ us) p n x h =
      elim (In-append_cases (event_occurrences cases n (e, a)) (occurrences_from cases (n + 1) (zip es us)) h) [
        | inl m ↦ (0, n, record { event = e; answers = a; place = omega arith; event_placed = refl; answers_placed = refl; event_asked = p.0; within = m })
        | inr m ↦ (let r = from_which es us p.1 (n + 1) x m in later r.0 r.1 r.2)
      ]
    where
      later : (k m : ℕ) → IsFrom es us (n + 1) x k m → (k : ℕ) × (m : ℕ) × IsFrom (e ∷ es) (a ∷ us) n x k m
      later k m r = (suc k, m, record { event = r.event; answers = r.answers; place = omega (arith, r.place); event_placed = r.event_placed; answers_placed = r.answers_placed; event_asked = r.event_asked; within = r.within })

  in_which : (es : List EventNote) (us : List AskedEvent) (n k m : ℕ) (x : Occurrence) (event : EventNote) (a : AskedEvent) → m ≡ n + k → slice_get es k ≡ Some event → slice_get us k ≡ Some a → In x (event_occurrences cases m (event, a))
      → In x (occurrences_from cases n (zip es us))
  in_which [] us n k m x event a e p q h = cc
  in_which (d ∷ es) [] n k m x event a e p q h = cc
  in_which (d ∷ es) (b ∷ us) n zero m x event a e p q h =
      let same_event : event ≡ d = sym (some_is d event p) in
      let same_answers : a ≡ b = sym (some_is b a q) in
      let same_place : m ≡ n = omega (arith, e) in
      let first : In x (event_occurrences cases n (d, b)) = subst (λ w. In x (event_occurrences cases n (d, w))) same_answers (subst (λ w. In x (event_occurrences cases n (w, a))) same_event (subst (λ w. In x (event_occurrences cases w (event, a))) same_place h)) in
      In-append_left (occurrences_from cases (n + 1) (zip es us)) first
  in_which (d ∷ es) (b ∷ us) n (suc k) m x event a e p q h = In-append_right (event_occurrences cases n (d, b)) (in_which es us (n + 1) k m x event a (omega (arith, e)) p q h)

  abbrev pub gathered : List Occurrence
  gathered = occurrences_from cases 0 (zip notes.events asked.events)

  -- an occurrence is an event of its case
  moment_by : (x : Occurrence) (k m : ℕ) → IsFrom notes.events asked.events 0 x k m → IsMoment certain notes x.case (moment_of x)
  moment_by x k m r =
      let event : EventNote = r.event in
      let a : AskedEvent = r.answers in
      let s = from_flat_map (object_occurrences cases event a m) (names_of a.objects.tuples) r.within in
      let o : List ℕ = s.0 in
      let t = occurrence_means (is_kept (keys_at event a o) (homes_at cases a o)) o m (keys_at event a o) (homes_at cases a o) x s.2 in
      let same_place : k ≡ m = omega (arith, r.place) in
      let placed : slice_get notes.events m ≡ Some event = subst (λ n. slice_get notes.events n ≡ Some event) same_place r.event_placed in
      let is_moment : IsMoment certain notes t.1 (moment_of (occurrence t.1 o m t.2)) = record {
        event = event;
        placed = placed;
        kept = kept_is event a r.event_asked o s.1 t.0;
        case = home_to event a r.event_asked o t.1 t.3;
        time = times_to certain o event.keys a.keys r.event_asked.keys t.2 t.4;
      } in
      subst (λ y. IsMoment certain notes y.case (moment_of y)) t.5 is_moment

  pub moment_to : (x : Occurrence) → In x gathered → IsMoment certain notes x.case (moment_of x)
  moment_to x h = let r = from_which notes.events asked.events all.events 0 x h in moment_by x r.0 r.1 r.2

  pub moment_from : (c : List ℕ) (m : Moment) → IsMoment certain notes c m → In (occurrence_of c m) gathered
  moment_from c m h =
      let event : EventNote = h.event in
      let o : List ℕ = m.object in
      let r = asked_at notes.events asked.events all.events m.place event h.placed in
      let a : AskedEvent = r.0 in
      let object = (objects_listed event a r.2).all o h.kept.object in
      let kept = is_kept_where event a r.2 o c h.kept h.case in
      let home = home_from event a r.2 o c h.case in
      let time = times_from certain o event.keys a.keys r.2.keys m.instant h.time.0 h.time.1 h.time.2 h.time.3 in
      let within = occurrence_in (is_kept (keys_at event a o) (homes_at cases a o)) o m.place (keys_at event a o) (homes_at cases a o) c m.instant kept home time in
      in_which notes.events asked.events 0 m.place m.place (occurrence_of c m) event a (omega arith) h.placed r.1 (in_flat_map (object_occurrences cases event a m.place) (names_of a.objects.tuples) object within)

  -- the moments of a case
  pub moments_listed : (xs : List Occurrence) → IsListOf occurrence_cmp (λ x. In x gathered) xs → (c : List ℕ) → IsListOf moment_cmp (IsMoment certain notes c) (map moment_of (at_case c xs))
  moments_listed xs l c =
      listed_by moment_cmp (λ m. In (occurrence_of c m) gathered) (IsMoment certain notes c) (map moment_of (at_case c xs)) (λ m h. moment_to (occurrence_of c m) h) (λ m h. moment_from c m h)
      (part_listed c (λ x. In x gathered) xs l)
