-- Marks that are added have their facts.
use Rattle.std.proofs.Common.{◌≡◌, refl, sym, ◌∙◌, ap, subst, ℕ, zero, suc, ◌<◌, List, [], ◌∷◌, ◌++◌, All, length, get_or, append_assoc, map, filter_map, ◌⊎◌, inl, inr, Some, arith}
use Rattle.std.specs.Prelude.{slice_get}
use Rattle.std.proofs.lemmas.List.{append-nil}
use Rattle.std.proofs.lemmas.List.Elements.{All-head}
use Rattle.vocabulary.specs.declared.term.Fact.{Fact}
use Rattle.vocabulary.specs.Lists.{In, here, there, Pairwise, item}
use Rattle.vocabulary.proofs.Lists.{In-append_cases}
use Rattle.dllite_axioms.specs.declared.axioms.Axiom.{Axiom}
use Rattle.queries.specs.declared.query.Atom.{Atom}
use Rattle.queries.specs.Matches.{AtomIs, Matched, Terms}
use Rattle.source_tables.specs.Tables.{Loaded}
use Rattle.mapping_facts.specs.declared.mapping.Mapping.{Mapping}
use Rattle.mapping_facts.proofs.Members.{In-All, from_map}
use Rattle.negative_closure.proofs.Places.{In-from_place}
use Rattle.conflict_checker.specs.declared.derivation.Step.{Step}
use Rattle.why_answers.specs.declared.showing.Lead.{Lead}
use Rattle.why_answers.specs.declared.showing.Mark.{Mark}
use Rattle.why_answers.specs.declared.showing.Shown.{Shown}
use Rattle.why_answers.specs.Applying.{Applies, Runs, RunsOn, applied}
use Rattle.why_answers.specs.Finding.{AreAt, ReadAt}
use Rattle.why_answers.specs.Putting.{PutsChain}
use Rattle.why_answers.specs.Showing.{AreLed, AreMarked, GoesOn, IsShown, Read, lead_facts, mark_facts}
use Rattle.why_answers.proofs.Assigning.{place_low, place_there}
use Rattle.why_answers.proofs.OneReading.{one_reads}
use Rattle.why_answers.proofs.Running.{chain_gives, item_kept}

-- marks keep their facts when facts are added
pub marks_kept : (facts more : List Fact) (marks : List Mark) → AreMarked facts marks → AreMarked (facts ++ more) marks
marks_kept facts more marks are m i = item_kept facts more m.step m.fact (are m i)

pub leads_kept : (axioms : List Axiom) (facts more : List Fact) (leads : List Lead) → AreLed axioms facts leads → AreLed axioms (facts ++ more) leads
leads_kept axioms facts more leads are l i = let f = are l i in (f.0, item_kept facts more l.step f.0 f.1, f.2)

-- one mark further
pub mark_goes_on : (l : Lead) (old new : Shown) (n : ℕ) → PutsChain l.chain l.step old.steps new.steps n → new.marks ≡ old.marks ++ record { step = n; fact = l.fact } ∷ [] →
    GoesOn (λ axioms facts. (f : Fact) × (item facts l.step ≡ Some f) × Applies axioms l.chain f l.fact) old new
mark_goes_on l old new n puts marks axioms mappings tables facts run are (f, at, leads) =
    let r = chain_gives axioms mappings tables puts facts run at leads in
    (r.more, r.run, λ m i. by r m (In-append_cases old.marks (record { step = n; fact = l.fact } ∷ []) (subst (In m) marks i)))
  where
    by : (r : RunsOn axioms mappings tables new.steps facts n l.fact) (m : Mark) → In m old.marks ⊎ In m (record { step = n; fact = l.fact } ∷ []) → item (facts ++ r.more) m.step ≡ Some m.fact
    by r m (inl i) = marks_kept facts r.more old.marks are m i
    by r m (inr (here e)) = subst (λ k. item (facts ++ r.more) k.step ≡ Some k.fact) e r.at
    by r m (inr (there i)) = elim i [ ]

-- nothing is marked
pub stays_on : (P : List Axiom → List Fact → Type 0) (s : Shown) → GoesOn P s s
stays_on P s axioms mappings tables facts run are p =
    let none = append-nil facts in
    ([], run ∙ ap Some (sym none), subst (λ fs. AreMarked fs s.marks) (sym none) are)

-- one lead after the other
pub goes_further : (leads : List Lead) (l : Lead) (old between new : Shown) → In l leads → GoesOn (λ axioms facts. (f : Fact) × (item facts l.step ≡ Some f) × Applies axioms l.chain f l.fact) old between →
    GoesOn (λ axioms facts. AreLed axioms facts leads) between new → GoesOn (λ axioms facts. AreLed axioms facts leads) old new
goes_further leads l old between new i one rest axioms mappings tables facts run are led =
    let a = one axioms mappings tables facts run are (led l i) in
    let b = rest axioms mappings tables (facts ++ a.0) a.1 a.2 (leads_kept axioms facts a.0 leads led) in
    let all = append_assoc facts a.0 b.0 in
    (a.0 ++ b.0, b.1 ∙ ap Some all, subst (λ fs. AreMarked fs new.marks) all b.2)

pub place_of_lead : (leads : List Lead) (k : ℕ) (l : Lead) → slice_get leads k ≡ Some l → slice_get (lead_facts leads) k ≡ Some l.fact
place_of_lead [] k l e = cc
place_of_lead (x ∷ leads) zero l e = let same : x ≡ l = cc in ap (λ y. Some y.fact) same
place_of_lead (x ∷ leads) (suc k) l e = place_of_lead leads k l e

-- the places of facts
pub places_within : (leads : List Lead) (places : List ℕ) (named : List Fact) → AreAt (lead_facts leads) places named → All (λ k. k < length leads) places
places_within leads places named at = In-All (λ k. k < length leads) places (each places named at)
  where
    long : (ls : List Lead) → length (lead_facts ls) ≡ length ls
    long [] = refl
    long (l ∷ ls) = ap suc (long ls)

    each : (places : List ℕ) (named : List Fact) → AreAt (lead_facts leads) places named → (k : ℕ) → In k places → k < length leads
    each [] named at k i = elim i [ ]
    each (p ∷ places) [] at k i = absurd at
    each (p ∷ places) (f ∷ named) at k (here e) = let low = place_low (lead_facts leads) p f at.0 in let same = long leads in omega (arith, low, same, e)
    each (p ∷ places) (f ∷ named) at k (there i) = each places named at.1 k i

named_are : (facts : List Fact) (places : List ℕ) (named : List Fact) → AreAt facts places named → filter_map (slice_get facts) places ≡ named
named_are facts [] [] at = refl
named_are facts [] (f ∷ named) at = absurd at
named_are facts (k ∷ places) [] at = absurd at
named_are facts (k ∷ places) (f ∷ named) at = first ∙ ap (λ fs. f ∷ fs) (named_are facts places named at.1)
  where
    first : filter_map (slice_get facts) (k ∷ places) ≡ f ∷ filter_map (slice_get facts) places
    first = rw at.0 refl

-- the marks are read
pub read_marks : (atoms : List Atom) (facts : List Fact) (places : List ℕ) (marks : List Mark) → ReadAt atoms facts [] places → mark_facts marks ≡ filter_map (slice_get facts) places → Read atoms (mark_facts marks)
read_marks atoms facts places marks r e =
    let one = one_reads atoms r.more r.reads in
    (one.0, subst (Pairwise (AtomIs one.0) atoms) (sym (e ∙ named_are facts places r.more r.at)) one.1)

pub none_read : (atoms : List Atom) (facts : List Fact) (σ : Terms) → Matched facts σ atoms → ((σ : Terms) → Unit {0} → Matched facts σ atoms → ⊥) → ⊥
none_read atoms facts σ m none = none σ tt m

-- nothing was marked before
pub is_shown : (axioms : List Axiom) (leads : List Lead) (steps : List Step) (old new : Shown) → old.steps ≡ steps → old.marks ≡ [] → GoesOn (λ axioms facts. AreLed axioms facts leads) old new →
    (mappings : List Mapping) (tables : List Loaded) (facts : List Fact) → Runs axioms mappings tables steps facts → AreLed axioms facts leads → IsShown axioms mappings tables new
is_shown axioms leads steps old new same none on mappings tables facts run led =
    let a = on axioms mappings tables facts (subst (λ ss. Runs axioms mappings tables ss facts) (sym same) run) (λ m i. (let j = subst (In m) none i in elim j [ ])) led in
    record { facts = facts ++ a.0; run = a.1; marked = a.2 }

-- marks as leads
abbrev pub lead_of : Mark → Lead
lead_of m = record { step = m.step; chain = []; fact = m.fact }

pub plain_facts : (marks : List Mark) (leads : List Lead) → leads ≡ map lead_of marks → lead_facts leads ≡ mark_facts marks
plain_facts marks leads e = ap lead_facts e ∙ each marks
  where
    each : (ms : List Mark) → lead_facts (map lead_of ms) ≡ mark_facts ms
    each [] = refl
    each (m ∷ ms) = ap (λ fs. m.fact ∷ fs) (each ms)

pub plain_led : (marks : List Mark) (leads : List Lead) → leads ≡ map lead_of marks → (axioms : List Axiom) (facts : List Fact) → AreMarked facts marks → AreLed axioms facts leads
plain_led marks leads e axioms facts are l i =
    let o = from_map lead_of marks (subst (In l) e i) in
    subst (λ x. (f : Fact) × (item facts x.step ≡ Some f) × Applies axioms x.chain f x.fact) o.2 (o.0.fact, are o.0 o.1, applied refl)

-- the fact of one more place
pub named_more : (leads : List Lead) (places rest : List ℕ) (k : ℕ) (l : Lead) (old between new : List Mark) → places ≡ k ∷ rest → k < length leads → l ≡ get_or leads k l → mark_facts between ≡ mark_facts old ++ l.fact ∷ [] →
    mark_facts new ≡ mark_facts between ++ filter_map (slice_get (lead_facts leads)) rest → mark_facts new ≡ mark_facts old ++ filter_map (slice_get (lead_facts leads)) places
named_more leads places rest k l old between new split low is one more =
    more ∙ ap (λ fs. fs ++ filter_map (slice_get (lead_facts leads)) rest) one
    ∙ append_assoc (mark_facts old) (l.fact ∷ []) (filter_map (slice_get (lead_facts leads)) rest)
    ∙ ap (λ fs. mark_facts old ++ fs) (sym (first ∙ refl))
    ∙ ap (λ ps. mark_facts old ++ filter_map (slice_get (lead_facts leads)) ps) (sym split)
  where
    there_is : slice_get (lead_facts leads) k ≡ Some l.fact
    there_is = place_of_lead leads k l (place_there leads k l low ∙ ap Some (sym is))

    first : filter_map (slice_get (lead_facts leads)) (k ∷ rest) ≡ l.fact ∷ filter_map (slice_get (lead_facts leads)) rest
    first = rw there_is refl

pub lead_in : (leads : List Lead) (k : ℕ) (l : Lead) → k < length leads → l ≡ get_or leads k l → In l leads
lead_in leads k l low is = In-from_place leads k (place_there leads k l low ∙ ap Some (sym is))

pub first_low : (P : ℕ → Type 0) (places rest : List ℕ) (k : ℕ) → places ≡ k ∷ rest → All P places → P k
first_low P places rest k split all = All-head P k rest (subst (All P) split all)
