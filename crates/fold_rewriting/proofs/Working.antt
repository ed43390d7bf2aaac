-- The work list of the folds.
use Rattle.std.proofs.Common.{ℕ, ◌≡◌, ◌↔◌, refl, sym, ◌∙◌, ap, subst, ◌<◌, ◌≤◌, ◌+◌, ◌*◌, ◌-◌, List, [], ◌∷◌, ◌++◌, map, length, length-append, ◌⊎◌, inl, inr, arith}
use Rattle.std.specs.List.Sorted.{IsStrictlySortedBy}
use Rattle.std.proofs.lemmas.List.{map-append}
use Rattle.vocabulary.specs.Lists.{In, here, IsListOf}
use Rattle.vocabulary.proofs.Lists.{In-append_left, In-append_right, In-append_cases, In-map}
use Rattle.dllite_axioms.specs.declared.axioms.Axiom.{Axiom}
use Rattle.queries.specs.declared.query.Query.{Query}
use Rattle.queries.specs.Normal.{normal_form}
use Rattle.queries.specs.Order.{query_cmp}
use Rattle.negative_closure.proofs.Places.{only_item}
use Rattle.perfect_rewriting.specs.Listing.{Added, Overflows}
use Rattle.perfect_rewriting.specs.Reach.{query_at}
use Rattle.perfect_rewriting.proofs.Sound.{from_map}
use Rattle.fold_rewriting.specs.declared.steps.FoldStep.{FoldStep as Told}
use Rattle.fold_rewriting.specs.Folds.{Folds, unfolded, by_fold}
use Rattle.fold_rewriting.specs.Listing.{IsTooWide}
use Rattle.fold_rewriting.specs.Steps.{IsFold, AreFoldSteps}
use Rattle.fold_rewriting.proofs.Gathering.{Found}
use Rattle.perfect_rewriting.proofs.Placed.{no_longer}
use Rattle.fold_rewriting.proofs.Telling.{told_step, steps_told}

-- what each fold step of a query gives is among those that were found
abbrev pub Closed : List Axiom → List Query → Query → Type 0
Closed axioms found m = (r : Query) → IsFold axioms m r → In r found

-- the list has what the fold steps give, and nothing else
abbrev pub AreFoldsOf : List Axiom → Query → List Query → Type 0
AreFoldsOf axioms m steps = (r : Query) → In r steps ↔ IsFold axioms m r

pub record Working (axioms : List Axiom) (q : Query) (found pending : List Query) : Type 0 where
  pub sorted : IsStrictlySortedBy query_cmp found
  pub small : length found ≤ 4000
  pub folded : (m : Query) → In m found → Folds axioms q m
  pub started : In (normal_form q) found
  pub open_found : (m : Query) → In m pending → In m found
  pub closed : (m : Query) → In m found → In m pending ⊎ Closed axioms found m

-- what the steps give
abbrev pub queries : List Found → List Query
queries steps = map (λ step. step.1) steps

pub last_query : (steps left : List Found) (s : Told) (r : Query) → steps ≡ left ++ (s, r) ∷ [] → queries steps ≡ queries left ++ r ∷ []
last_query steps left s r e = ap {A = List Found} queries e ∙ map-append {A = Found} (λ step. step.1) left ((s, r) ∷ [])

pub steps_are : (axioms : List Axiom) (m : Query) (list steps : List Found) → AreFoldSteps axioms m list → steps ≡ list → AreFoldsOf axioms m (queries steps)
steps_are axioms m list steps are same r =
    subst {A = List Found} (λ xs. In r (queries xs) ↔ IsFold axioms m r) (sym same) (to, from)
  where
    to : In r (queries list) → IsFold axioms m r
    to i = let o = from_map {X = Found} (λ step. step.1) list i in subst (IsFold axioms m) o.2 (told_step ((are.each o.0.0 o.0.1).0 o.1))

    from : IsFold axioms m r → In r (queries list)
    from f = let t = (steps_told axioms m r).1 f in In-map {X = Found} (λ step. step.1) ((are.each t.0 r).1 t.1)

fold_reached : (axioms : List Axiom) (q m : Query) → Folds axioms q m → (r : Query) → IsFold axioms m r → Folds axioms q r
fold_reached axioms q m f r s = subst (Folds axioms q) (sym s.3) (by_fold f s.2)

-- a list that holds the start and what the steps of each of its members give holds the folds
all_folds : (axioms : List Axiom) (q : Query) (found : List Query) → In (normal_form q) found → ((m : Query) → In m found → Closed axioms found m) → (m : Query) → Folds axioms q m → In m found
all_folds axioms q found s c m f = walk f
  where
    walk : {m : Query} → Folds axioms q m → In m found
    walk unfolded = s
    walk (by_fold {m = m} {head = head} {result = result} r k) = c m (walk r) (normal_form (query_at head result)) (head, result, k, refl)

one_sorted : (q : Query) → IsStrictlySortedBy query_cmp (q ∷ [])
unfolding IsStrictlySortedBy
one_sorted q = (tt, tt)

working_one : (axioms : List Axiom) (q : Query) → Working axioms q (normal_form q ∷ []) (normal_form q ∷ [])
working_one axioms q = record {
  sorted = one_sorted (normal_form q);
  small = omega arith;
  folded = λ m k. subst (Folds axioms q) (only_item k) unfolded;
  started = here refl;
  open_found = λ m k. k;
  closed = λ m k. inl k;
}

pub working_start : (axioms : List Axiom) (q n : Query) (found pending : List Query) → n ≡ normal_form q → found ≡ n ∷ [] → pending ≡ n ∷ [] → Working axioms q found pending
working_start axioms q n found pending e f o =
    let g : found ≡ normal_form q ∷ [] = f ∙ ap (λ x. x ∷ []) e in
    let p : pending ≡ normal_form q ∷ [] = o ∙ ap (λ x. x ∷ []) e in
    subst (λ fs. Working axioms q fs pending) (sym g) (subst (λ os. Working axioms q (normal_form q ∷ []) os) (sym p) (working_one axioms q))

-- the last open member
pub last_found : (axioms : List Axiom) (q : Query) (found pending left : List Query) (m : Query) → pending ≡ left ++ m ∷ [] → Working axioms q found pending → In m found
last_found axioms q found pending left m e w = w.open_found m (subst (In m) (sym e) (In-append_right left (here refl)))

pub working_on : (axioms : List Axiom) (q : Query) (found pending left steps found' pending' : List Query) (m : Query) → pending ≡ left ++ m ∷ [] → AreFoldsOf axioms m steps →
    Working axioms q found pending → Added found left steps found' pending' → Working axioms q found' pending'
working_on axioms q found pending left steps found' pending' m e s w a = record {
  sorted = a.sorted;
  small = a.small;
  folded = λ x k. elim (a.from x k) [ inl n ↦ w.folded x n | inr n ↦ fold_reached axioms q m (w.folded m (last_found axioms q found pending left m e w)) x ((s x).0 n) ];
  started = a.keeps (normal_form q) w.started;
  open_found = λ x k. elim (a.open_from x k) [ inl n ↦ a.keeps x (w.open_found x (subst (In x) (sym e) (In-append_left (m ∷ []) n))) | inr n ↦ n ];
  closed = λ x k. elim (a.opens x k) [
    | inl n ↦ elim (w.closed x n) [
      | inl o ↦ elim (In-append_cases left (m ∷ []) (subst (In x) e o)) [
        | inl l ↦ inl (a.stays x l)
        | inr l ↦ inr (subst (Closed axioms found') (only_item l) (λ r h. a.holds r ((s r).1 h)))
      ]
      | inr c ↦ inr (λ r h. a.keeps r (c r h))
    ]
    | inr n ↦ inl n
  ];
}

abbrev pub work_left : List Query → List Query → ℕ
work_left found pending = 2 * (4000 - length found) + length pending

pub less_left : (found pending left steps found' pending' : List Query) (m : Query) → pending ≡ left ++ m ∷ [] → Added found left steps found' pending' → work_left found' pending' < work_left found pending
less_left found pending left steps found' pending' m e a = omega (arith, ap length e, length-append left (m ∷ []), a.balance, a.grows, a.small)

pub working_end : (axioms : List Axiom) (q : Query) (found pending : List Query) → length pending ≡ 0 → Working axioms q found pending → IsListOf query_cmp (Folds axioms q) found
working_end axioms q found pending l w = record {
  ordered = w.sorted;
  each = w.folded;
  all = all_folds axioms q found w.started (λ m k. elim (w.closed m k) [ inl o ↦ absurd (none pending l o) | inr c ↦ c ]);
}
  where
    none : (xs : List Query) → length xs ≡ 0 → {m : Query} → In m xs → ⊥
    none [] l m = elim m [ ]
    none (x ∷ xs) l m = omega (arith, l)

pub working_wide : (axioms : List Axiom) (q : Query) (found pending left steps : List Query) (m : Query) → pending ≡ left ++ m ∷ [] → AreFoldsOf axioms m steps →
    Working axioms q found pending → Overflows found steps → IsTooWide axioms q
working_wide axioms q found pending left steps m e s w o = record {
  members = o.members;
  different = o.different;
  folded = λ x k. elim (o.from x k) [ inl n ↦ w.folded x n | inr n ↦ fold_reached axioms q m (w.folded m (last_found axioms q found pending left m e w)) x ((s x).0 n) ];
  many = o.many;
}

-- a list of all folds that is not too long
pub not_wide : (axioms : List Axiom) (q : Query) (list : List Query) → IsListOf query_cmp (Folds axioms q) list → length list ≤ 4000 → IsTooWide axioms q → ⊥
not_wide axioms q list is l w = omega (arith, l, w.many, no_longer w.members list w.different is.ordered (λ z m. is.all z (w.folded z m)))
