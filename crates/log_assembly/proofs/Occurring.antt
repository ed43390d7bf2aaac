-- The order of occurrences, and that they are put in order; those of more and more annotations.
use Rattle.std.proofs.Common.{◌≡◌, refl, sym, ◌∙◌, ap, ℕ, ◌+◌, ◌<◌, ◌≤◌, Bool, List, [], ◌∷◌, ◌++◌, length, get_or, take, arith, append_assoc, append-nil}
use Rattle.std.specs.declared.cmp.Ordering.{Ordering}
use Rattle.std.specs.declared.cmp.Ordering.TheVariants.{Less, Equal, Greater}
use Rattle.std.specs.Ordering.{is_eq, nat_cmp, ordering_index, ordering_then}
use Rattle.std.specs.Cmp.{IsTotalOrder, Equal-is, ranked}
use Rattle.std.specs.Cmp.Lexicographic.{on_texts}
use Rattle.std.specs.List.{dedup, zip}
use Rattle.std.specs.List.Sorted.{IsPermutation, IsSorted}
use Rattle.std.proofs.lemmas.Cmp.{nat_list_cmp_total, on_total, then_total, eq_by_cmp_equiv}
use Rattle.std.proofs.lemmas.Map.Text.{is_eq-slice_cmp}
use Rattle.std.proofs.lemmas.Slice.Eq.{bytes_eq-Decides}
use Rattle.std.proofs.lemmas.Slice.Zip.{length-zip}
use Rattle.std.proofs.lemmas.List.{length-take-le}
use Rattle.std.proofs.lemmas.List.Kept.{Contains-dedup, Contains-from_dedup, IsStrictlySortedBy-dedup}
use Rattle.std.proofs.lemmas.List.Sorted.{Contains-permutation, IsPermutation-sym}
use Rattle.vocabulary.specs.declared.term.Term.{Term}
use Rattle.vocabulary.specs.Lists.{In, IsListOf}
use Rattle.vocabulary.specs.Texts.{text_cmp}
use Rattle.vocabulary.proofs.Members.{In-from_Contains, Contains-from_In}
use Rattle.annotation_language.specs.declared.notes.EventNote.{EventNote}
use Rattle.log_assembly.specs.declared.asked.AskedEvent.{AskedEvent}
use Rattle.log_assembly.specs.Gathered.{Occurrence, event_occurrences, moment_of, occurrence_cmp, occurrences_from}
use Rattle.log_assembly.specs.TheLog.{moment_cmp}
use Rattle.log_assembly.proofs.OneLog.{moment_total}
use Rattle.log_assembly.proofs.Runs.{rises}
use Rattle.log_assembly.proofs.Tuples.{not_above}
use Rattle.log_assembly.proofs.Walking.{zip_more}

pub occurrence_total : IsTotalOrder occurrence_cmp
occurrence_total = then_total (on_texts (λ (x : Occurrence). x.case)) (on_total moment_of moment_total)

pub text_level : (xs ys : List ℕ) → text_cmp xs ys ≡ Equal → xs ≡ ys
text_level xs ys e = (bytes_eq-Decides xs ys).0 (sym (is_eq-slice_cmp xs ys) ∙ ap is_eq e)

pub then_equal : (a b : Ordering) → ordering_then a b ≡ Equal → (a ≡ Equal) × (b ≡ Equal)
then_equal Less b e = cc
then_equal Equal b e = (refl, e)
then_equal Greater b e = cc

occurrence_level : (x y : Occurrence) → occurrence_cmp x y ≡ Equal → x ≡ y
occurrence_level x y e =
    let a = then_equal (text_cmp x.case y.case) (moment_cmp (moment_of x) (moment_of y)) e in
    let b = then_equal (text_cmp x.instant y.instant) (ordering_then (text_cmp x.object y.object) (nat_cmp x.place y.place)) a.1 in
    let c = then_equal (text_cmp x.object y.object) (nat_cmp x.place y.place) b.1 in
    let case = text_level x.case y.case a.0 in
    let instant = text_level x.instant y.instant b.0 in
    let object = text_level x.object y.object c.0 in
    let place = ranked x.place y.place Equal (sym c.1) in
    λ i. record { case = case i; instant = instant i; object = object i; place = place i }

-- the case of what comes earlier stands no later
pub case_rises : (c : List ℕ) (x y : Occurrence) → occurrence_cmp x y ≡ Less → ordering_index (text_cmp x.case c) ≤ ordering_index (text_cmp y.case c)
case_rises c x y e = rises text_cmp nat_list_cmp_total x.case y.case c (not_above (text_cmp x.case y.case) (moment_cmp (moment_of x) (moment_of y)) e)

abbrev pub alike : Occurrence → Occurrence → Bool
alike x y = is_eq (occurrence_cmp x y)

-- what is sorted, without repeats
pub put_in_order : (xs ys zs : List Occurrence) → IsPermutation xs ys → IsSorted occurrence_cmp ys → zs ≡ dedup alike ys → IsListOf occurrence_cmp (λ x. In x xs) zs
put_in_order xs ys zs moved sorted is = rw is (record {
  ordered = IsStrictlySortedBy-dedup occurrence_total (λ x y. refl) ys sorted;
  each = λ x h. In-from_Contains xs (Contains-permutation ys xs x (IsPermutation-sym xs ys moved) (Contains-from_dedup alike ys x (Contains-from_In h)));
  all = λ x h. In-from_Contains (dedup alike ys) (Contains-dedup (eq_by_cmp_equiv occurrence_total) (λ a b e. occurrence_level a b ((Equal-is (occurrence_cmp a b)).0 e)) ys x (Contains-permutation xs ys x moved (Contains-from_In h)));
})

-- one annotation more
occurrences_last : (cases : List (List Term)) (n m : ℕ) (ps : List (EventNote × AskedEvent)) (p : EventNote × AskedEvent) → m ≡ n + length ps → occurrences_from cases n (ps ++ p ∷ []) ≡ occurrences_from cases n ps ++ event_occurrences cases m p
occurrences_last cases n m [] p e = let same : n ≡ m = omega (arith, e) in rw same (append-nil (event_occurrences cases m p))
occurrences_last cases n m (q ∷ ps) p e = ap (λ xs. event_occurrences cases n q ++ xs) (occurrences_last cases (n + 1) m ps p (omega (arith, e))) ∙ sym (append_assoc (event_occurrences cases n q) (occurrences_from cases (n + 1) ps) (event_occurrences cases m p))

pub gathered_more : (cases : List (List Term)) (events : List EventNote) (asked : List AskedEvent) (i : ℕ) (e : EventNote) (a : AskedEvent) (out : List Occurrence) → i < length events → i < length asked → e ≡ get_or events i e → a ≡ get_or asked i a
    → out ≡ occurrences_from cases 0 (take i (zip events asked)) → out ++ event_occurrences cases i (e, a) ≡ occurrences_from cases 0 (take (i + 1) (zip events asked))
gathered_more cases events asked i e a out l m is_e is_a so_far =
    let within : i ≤ length (zip events asked) = omega (arith, length-zip events asked, l, m) in
    let last = occurrences_last cases 0 i (take i (zip events asked)) (get_or events i e, get_or asked i a) (omega (arith, length-take-le i (zip events asked) within)) in
    (λ n. so_far n ++ event_occurrences cases i (is_e n, is_a n)) ∙ sym last ∙ ap (occurrences_from cases 0) (sym (zip_more events asked i e a l m))
