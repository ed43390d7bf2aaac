-- The search goes through all folds.
use Rattle.std.proofs.Common.{◌≡◌, refl, sym, ◌∙◌, ap, subst, ℕ, zero, suc, ◌+◌, ◌<◌, ◌≤◌, List, [], ◌∷◌, ◌++◌, length, take, get_or, append_assoc, ◌⊎◌, inl, inr, Bool, true, false, ◌||◌, Option, Some, None, arith}
use Rattle.std.specs.Prelude.{slice_get}
use Rattle.std.proofs.lemmas.List.{append-nil, take_more}
use Rattle.vocabulary.specs.declared.term.Fact.{Fact}
use Rattle.vocabulary.specs.Lists.{In, here, there}
use Rattle.vocabulary.proofs.Lists.{In-append_cases, In-append_left, In-append_right, In-map}
use Rattle.negative_closure.proofs.Places.{In-from_place, kept_place, place_of_In}
use Rattle.dllite_axioms.specs.declared.axioms.Axiom.{Axiom}
use Rattle.mapping_facts.proofs.Members.{from_map}
use Rattle.queries.specs.declared.query.Query.{Query}
use Rattle.queries.specs.Matches.{Matched}
use Rattle.queries.specs.Normal.{normal_form}
use Rattle.queries.specs.Order.{query_cmp}
use Rattle.queries.proofs.Ordered.{queries_ordered}
use Rattle.std.specs.List.{list_any}
use Rattle.std.specs.Ordering.{is_eq}
use Rattle.std.specs.declared.cmp.Ordering.{Ordering}
use Rattle.std.specs.declared.cmp.Ordering.TheVariants.{Less, Equal, Greater}
use Rattle.fold_rewriting.proofs.Shaping.{folds_atoms, folds_head}
use Rattle.perfect_rewriting.specs.Reach.{query_at}
use Rattle.fold_rewriting.specs.declared.steps.FoldStep.{FoldStep as Told}
use Rattle.fold_rewriting.specs.Folds.{Folds, by_fold, unfolded}
use Rattle.fold_rewriting.specs.Steps.{AreFoldSteps, IsFold}
use Rattle.fold_rewriting.proofs.Telling.{steps_told}
use Rattle.why_answers.specs.declared.folding.Node.{Node}
use Rattle.why_answers.specs.Folding.{AddsFolds, AreNodes, ComesFrom, Searched, SomeMatches, has_query, node_queries}
use Rattle.why_answers.specs.Matching.{NoMatch}

-- an item by its place
pub node_place : (nodes items : List Node) (at : ℕ) (n : Node) → items ≡ nodes → at < length items → n ≡ get_or items at n → slice_get nodes at ≡ Some n
node_place nodes items at n same low is = ap (λ ns. slice_get ns at) (sym same) ∙ by items at low is
  where
    by : (xs : List Node) (k : ℕ) → k < length xs → n ≡ get_or xs k n → slice_get xs k ≡ Some n
    by [] k l e = absurd (omega (arith, l))
    by (x ∷ xs) zero l e = ap Some (sym e)
    by (x ∷ xs) (suc k) l e = by xs k (omega (arith, l)) e

empty : {X : Type 0} (xs : List X) → length xs ≡ 0 → xs ≡ []
empty [] e = refl
empty (x ∷ xs) e = absurd (omega (arith, e))

pub member_head : (axioms : List Axiom) (q : Query) (nodes : List Node) (at : ℕ) (n : Node) → AreNodes axioms q nodes → q.head ≡ [] → slice_get nodes at ≡ Some n → n.query.head ≡ []
member_head axioms q nodes at n are none is = empty n.query.head (folds_head (are.folds n (In-from_place nodes at is)) ∙ ap length none)

pub member_few : (axioms : List Axiom) (q : Query) (nodes : List Node) (at : ℕ) (n : Node) → AreNodes axioms q nodes → length q.atoms ≤ 16 → slice_get nodes at ≡ Some n → length n.query.atoms ≤ 16
member_few axioms q nodes at n are few is = let fewer = folds_atoms (are.folds n (In-from_place nodes at is)) in omega (arith, few, fewer)

-- a query that is found among the nodes
pub query_among : (q : Query) (nodes : List Node) → list_any (has_query q) nodes ≡ true → In q (node_queries nodes)
query_among q [] e = cc
query_among q (n ∷ nodes) e = by (has_query q n) refl (λ h. query_among q nodes h)
  where
    same : (o : Ordering) → is_eq o ≡ true → o ≡ Equal
    same Less h = cc
    same Equal h = refl
    same Greater h = cc

    by : (b : Bool) → has_query q n ≡ b → (list_any (has_query q) nodes ≡ true → In q (node_queries nodes)) → In q (node_queries (n ∷ nodes))
    by true h rest = here ((queries_ordered.level n.query q).0 (same (query_cmp n.query q) h))
    by false h rest = there (rest (left (has_query q n) h e))
      where
        left : (b : Bool) → b ≡ false → (b || list_any (has_query q) nodes) ≡ true → list_any (has_query q) nodes ≡ true
        left true f g = cc
        left false f g = g

-- nothing is added
pub adds_none : (from : ℕ) (s : Told) (r : Query) (nodes : List Node) → In r (node_queries nodes) → AddsFolds from ((s, r) ∷ []) nodes nodes
adds_none from s r nodes i = record {
  more = [];
  made = sym (append-nil nodes);
  each = λ n j. elim j [ ];
  all = λ z q j. elim j [ here e ↦ (let same : r ≡ q = (λ k. (e k).1) in subst (λ x. In x (node_queries nodes)) same i) | there k ↦ elim k [ ] ];
}

-- one is added
pub adds_one : (from : ℕ) (s : Told) (r : Query) (n : Node) (old new : List Node) → n.query ≡ r → n.from ≡ Some (from, s) → new ≡ old ++ n ∷ [] → AddsFolds from ((s, r) ∷ []) old new
adds_one from s r n old new is origin made = record {
  more = n ∷ [];
  made = made;
  each = λ m j. elim j [ here e ↦ subst (λ x. (z : Told) × (x.from ≡ Some (from, z)) × In {X = Told × Query} (z, x.query) ((s, r) ∷ [])) e (s, origin, here (λ k. (s, sym is k))) | there k ↦ elim k [ ] ];
  all = λ z q j. elim j [ here e ↦ (let same : r ≡ q = (λ k. (e k).1) in subst (λ ns. In q (node_queries ns)) (sym made) (subst (λ x. In x (node_queries (old ++ n ∷ []))) (is ∙ same) (last old))) | there k ↦ elim k [ ] ];
}
  where
    last : (ns : List Node) → In n.query (node_queries (ns ++ n ∷ []))
    last [] = here refl
    last (m ∷ ns) = there (last ns)

queries_more : (old more : List Node) (q : Query) → In q (node_queries old) → In q (node_queries (old ++ more))
queries_more old more q i = let o = from_map (λ n. n.query) old i in subst (λ x. In x (node_queries (old ++ more))) o.2 (In-map (λ n. n.query) (In-append_left more o.1))

pub adds_start : (from : ℕ) (nodes : List Node) → AddsFolds from [] nodes nodes
adds_start from nodes = record { more = []; made = sym (append-nil nodes); each = λ n j. elim j [ ]; all = λ z q j. elim j [ ] }

-- one step further
pub adds_more : (from : ℕ) (steps : List (Told × Query)) (i : ℕ) (step : Told × Query) (old between new : List Node) → i < length steps → step ≡ get_or steps i step → AddsFolds from (take i steps) old between → AddsFolds from ((step.0, step.1) ∷ []) between new →
    AddsFolds from (take (i + 1) steps) old new
adds_more from steps i step old between new low is a b = subst (λ ss. AddsFolds from ss old new) (sym (take_more steps i step low ∙ ap (λ x. take i steps ++ x ∷ []) (sym is))) (record {
  more = a.more ++ b.more;
  made = b.made ∙ ap (λ ns. ns ++ b.more) a.made ∙ append_assoc old a.more b.more;
  each = λ n j. elim (In-append_cases a.more b.more j) [
    | inl k ↦ (let e = a.each n k in (e.0, e.1, In-append_left (step ∷ []) e.2))
    | inr k ↦ (let e = b.each n k in (e.0, e.1, In-append_right (take i steps) (only e.0 n.query e.2)))
  ];
  all = λ z q j. elim (In-append_cases (take i steps) (step ∷ []) j) [
    | inl k ↦ subst (λ ns. In q (node_queries ns)) (sym b.made) (queries_more between b.more q (a.all z q k))
    | inr k ↦ b.all z q (back z q k)
  ];
})
  where
    only : (z : Told) (q : Query) → In {X = Told × Query} (z, q) ((step.0, step.1) ∷ []) → In {X = Told × Query} (z, q) (step ∷ [])
    only z q j = j

    back : (z : Told) (q : Query) → In {X = Told × Query} (z, q) (step ∷ []) → In {X = Told × Query} (z, q) ((step.0, step.1) ∷ [])
    back z q j = j

module _ (axioms : List Axiom) (q : Query) (facts : List Fact) where
  -- nothing but the normal form
  pub searched_start : (n : Node) (nodes : List Node) → n.query ≡ normal_form q → n.from ≡ None → nodes ≡ n ∷ [] → Searched axioms q facts nodes 0
  searched_start n nodes is from are = subst (λ ns. Searched axioms q facts ns 0) (sym are) (record {
    are = record {
      folds = λ m i. elim i [ here e ↦ subst (λ x. Folds axioms q x.query) e (subst (Folds axioms q) (sym is) unfolded) | there j ↦ elim j [ ] ];
      from = first;
    };
    started = here is;
    done = λ i m low e. absurd (omega (arith, low));
  })
    where
      first : (i : ℕ) (m : Node) → slice_get (n ∷ []) i ≡ Some m → ComesFrom axioms q (n ∷ []) i m.query m.from
      first zero m e = let same : n ≡ m = cc in subst (λ x. ComesFrom axioms q (n ∷ []) 0 x.query x.from) same (rw from is)
      first (suc i) m e = cc

  from_kept : (old more : List Node) (i : ℕ) (query : Query) (o : Option (ℕ × Told)) → ComesFrom axioms q old i query o → ComesFrom axioms q (old ++ more) i query o
  from_kept old more i query None h = h
  from_kept old more i query (Some (j, s)) h = (h.0, (h.1.0, kept_place old more j h.1.0 h.1.1, h.1.2))

  -- the folds of one more
  pub searched_on : (nodes new : List Node) (at : ℕ) (n : Node) (steps : List (Told × Query)) → slice_get nodes at ≡ Some n → Searched axioms q facts nodes at → NoMatch facts n.query.atoms → AreFoldSteps axioms n.query steps → AddsFolds at steps nodes new →
      Searched axioms q facts new (at + 1)
  searched_on nodes new at n steps is w none are a = subst (λ ns. Searched axioms q facts ns (at + 1)) (sym a.made) (record {
    are = record {
      folds = λ m i. elim (In-append_cases nodes a.more i) [ inl j ↦ w.are.folds m j | inr j ↦ (let e = a.each m j in told_fold m.query ((steps_told axioms n.query m.query).0 (e.0, (are.each e.0 m.query).0 e.2))) ];
      from = λ i m e. comes i m e;
    };
    started = queries_more nodes a.more (normal_form q) w.started;
    done = λ i m low e. each i m low e;
  })
    where
      told_fold : (r : Query) → IsFold axioms n.query r → Folds axioms q r
      told_fold r (head, result, k, made) = subst (Folds axioms q) (sym made) (by_fold (w.are.folds n (In-from_place nodes at is)) k)

      placed : (i : ℕ) (m : Node) → slice_get (nodes ++ a.more) i ≡ Some m → (slice_get nodes i ≡ Some m) ⊎ (In m a.more × (length nodes ≤ i))
      placed = split nodes a.more
        where
          split : (xs ys : List Node) (i : ℕ) (m : Node) → slice_get (xs ++ ys) i ≡ Some m → (slice_get xs i ≡ Some m) ⊎ (In m ys × (length xs ≤ i))
          split [] ys i m e = inr (In-from_place ys i e, omega arith)
          split (x ∷ xs) ys zero m e = inl e
          split (x ∷ xs) ys (suc i) m e = elim (split xs ys i m e) [ inl h ↦ inl h | inr h ↦ (let long = h.1 in inr (h.0, omega (arith, long))) ]

      low_place : (xs : List Node) (k : ℕ) (m : Node) → slice_get xs k ≡ Some m → k < length xs
      low_place [] k m e = cc
      low_place (x ∷ xs) zero m e = omega arith
      low_place (x ∷ xs) (suc k) m e = let low = low_place xs k m e in omega (arith, low)

      comes : (i : ℕ) (m : Node) → slice_get (nodes ++ a.more) i ≡ Some m → ComesFrom axioms q (nodes ++ a.more) i m.query m.from
      comes i m e = elim (placed i m e) [
        | inl h ↦ from_kept nodes a.more i m.query m.from (w.are.from i m h)
        | inr h ↦ (
            let k = a.each m h.0 in
            let low = low_place nodes at n is in
            let long = h.1 in
            subst (ComesFrom axioms q (nodes ++ a.more) i m.query) (sym k.1) (omega (arith, low, long), (n, kept_place nodes a.more at n is, (are.each k.0 m.query).0 k.2)))
      ]

      fold_there : (r : Query) → IsFold axioms n.query r → In r (node_queries (nodes ++ a.more))
      fold_there r f = let t = (steps_told axioms n.query r).1 f in subst (λ ns. In r (node_queries ns)) a.made (a.all t.0 r ((are.each t.0 r).1 t.1))

      each : (i : ℕ) (m : Node) → i < at + 1 → slice_get (nodes ++ a.more) i ≡ Some m → NoMatch facts m.query.atoms × ((r : Query) → IsFold axioms m.query r → In r (node_queries (nodes ++ a.more)))
      each i m low e = elim (placed i m e) [
        | inl h ↦ by i m low h
        | inr h ↦ (let long = h.1 in let short = low_place nodes at n is in absurd (omega (arith, low, long, short)))
      ]
        where
          by : (i : ℕ) (m : Node) → i < at + 1 → slice_get nodes i ≡ Some m → NoMatch facts m.query.atoms × ((r : Query) → IsFold axioms m.query r → In r (node_queries (nodes ++ a.more)))
          by i m low h = elim (less i at low) [
            | inl l ↦ (let d = w.done i m l h in (d.0, λ r f. queries_more nodes a.more r (d.1 r f)))
            | inr s ↦ (
                let same : n ≡ m = some_same (sym is ∙ ap (slice_get nodes) (sym s) ∙ h) in
                subst (λ x. NoMatch facts x.query.atoms × ((r : Query) → IsFold axioms x.query r → In r (node_queries (nodes ++ a.more)))) same (none, fold_there))
          ]
            where
              less : (i at : ℕ) → i < at + 1 → (i < at) ⊎ (i ≡ at)
              less zero zero l = inr refl
              less zero (suc at) l = inl (omega arith)
              less (suc i) zero l = absurd (omega (arith, l))
              less (suc i) (suc at) l = elim (less i at (omega (arith, l))) [ inl h ↦ inl (omega (arith, h)) | inr h ↦ inr (ap suc h) ]

              some_same : {a b : Node} → Some a ≡ Some b → a ≡ b
              some_same h = cc

  -- all folds were gone through
  pub none_left : (nodes : List Node) (at : ℕ) → length nodes ≤ at → Searched axioms q facts nodes at → SomeMatches axioms q facts → ⊥
  none_left nodes at all w (m, σ, f, matched) =
      let o = from_map (λ n. n.query) nodes (there_too m f) in
      let p = place_of_In o.1 in
      (w.done p.0 o.0 (omega (arith, low nodes p.0 o.0 p.1, all)) p.1).0 σ (subst (λ x. Matched facts σ x.atoms) (sym o.2) matched)
    where
      low : (xs : List Node) (k : ℕ) (n : Node) → slice_get xs k ≡ Some n → k < length xs
      low [] k n e = cc
      low (x ∷ xs) zero n e = omega arith
      low (x ∷ xs) (suc k) n e = let l = low xs k n e in omega (arith, l)

      there_too : (r : Query) → Folds axioms q r → In r (node_queries nodes)
      there_too _ unfolded = w.started
      there_too _ (by_fold {m = n} {head = head} {result = result} g k) =
          let o = from_map (λ x. x.query) nodes (there_too n g) in
          let p = place_of_In o.1 in
          let l = low nodes p.0 o.0 p.1 in
          (w.done p.0 o.0 (omega (arith, l, all)) p.1).1 (normal_form (query_at head result)) (subst (λ x. IsFold axioms x (normal_form (query_at head result))) (sym o.2) (head, result, k, refl))

pub low_place : (nodes items : List Node) (count at : ℕ) → items ≡ nodes → count ≡ length nodes → at < count → at < length items
low_place nodes items count at same long low = let other = ap length same in omega (arith, low, long, other)
