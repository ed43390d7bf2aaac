-- Fold steps are added, none twice.
use Rattle.std.proofs.Common.{ℕ, zero, suc, ◌≡◌, ◌↔◌, refl, sym, ◌∙◌, ap, subst, ◌≤◌, ◌<◌, ◌+◌, false, List, [], ◌∷◌, ◌++◌, map, take, length, append_assoc, ◌⊎◌, inl, inr, Some, slice_get, arith}
use Rattle.std.proofs.lemmas.Bool.{false≢true}
use Rattle.std.proofs.lemmas.List.{append-nil, map-append}
use Rattle.std.proofs.lemmas.Option.{same_Some, slice_get_within}
use Rattle.vocabulary.specs.declared.ids.LinkId.{LinkId}
use Rattle.vocabulary.specs.declared.ids.VarId.{VarId}
use Rattle.vocabulary.specs.declared.ids.Dir.{Dir}
use Rattle.vocabulary.specs.declared.ids.Dir.TheVariants.{Fwd, Back}
use Rattle.vocabulary.specs.Lists.{In, here, there}
use Rattle.vocabulary.proofs.Lists.{In-append_left, In-append_right, In-append_cases, In-map}
use Rattle.dllite_axioms.specs.declared.axioms.Basic.{Basic}
use Rattle.dllite_axioms.specs.declared.axioms.Basic.TheVariants.{Has}
use Rattle.dllite_axioms.specs.declared.axioms.Axiom.{Axiom}
use Rattle.dllite_axioms.specs.declared.axioms.Axiom.TheVariants.{Sub}
use Rattle.dllite_axioms.specs.Within.{IsAxiomWithin}
use Rattle.queries.specs.declared.query.Arg.{Arg}
use Rattle.queries.specs.declared.query.Arg.TheVariants.{Blank, Var, Fixed}
use Rattle.queries.specs.declared.query.Atom.{Atom}
use Rattle.queries.specs.declared.query.Atom.TheVariants.{InClass, Linked}
use Rattle.queries.specs.declared.query.Query.{Query}
use Rattle.negative_closure.specs.Chains.{NoneTwice}
use Rattle.perfect_rewriting.proofs.Sound.{from_map}
use Rattle.fold_rewriting.specs.declared.cutting.Cut.{Cut}
use Rattle.fold_rewriting.specs.declared.steps.FoldStep.{FoldStep as Told}
use Rattle.fold_rewriting.specs.Cutting.{is_var, cut_of, folded}
use Rattle.fold_rewriting.specs.Found.{AreBorn, IsFree, IsCut, IsFound, AreAdded, IsBy, told}
use Rattle.fold_rewriting.specs.Places.{arg_at, beside, IsBorn}
use Rattle.fold_rewriting.specs.Steps.{AreFoldSteps}
use Rattle.fold_rewriting.proofs.Telling.{place_in, found_told, told_found}
use Rattle.fold_rewriting.proofs.Variables.{the_var, at_end_in}

-- none stands twice
pub none_twice_append : {X : Type 0} (xs ys : List X) → NoneTwice xs → NoneTwice ys → ((x : X) → In x xs → In x ys → ⊥) → NoneTwice (xs ++ ys)
none_twice_append [] ys n k apart = k
none_twice_append (x ∷ xs) ys n k apart = (
  (λ m. elim (In-append_cases xs ys m) [ inl i ↦ n.0 i | inr i ↦ apart x (here refl) i ]),
  none_twice_append xs ys n.1 k (λ z i j. apart z (there i) j),
)

pub none_twice_map : {X Y : Type 0} (f : X → Y) → ((x y : X) → f x ≡ f y → x ≡ y) → (xs : List X) → NoneTwice xs → NoneTwice (map f xs)
none_twice_map f same [] n = tt
none_twice_map f same (x ∷ xs) n =
    ((λ m. (let o = from_map f xs m in n.0 (subst (λ z. In z xs) (same o.0 x o.2) o.1))), none_twice_map f same xs n.1)

abbrev pub Found : Type 0
Found = Told × Query

abbrev step_of : Found → Told
step_of step = step.0

with_step : {s : Told} (more : List Found) → In s (map step_of more) → (r : Query) × In {X = Found} (s, r) more
with_step {s} more m =
    let o = from_map step_of more m in
    (o.0.1, subst {A = Told} (λ z. In {X = Found} (z, o.0.1) more) o.2 o.1)

module _ (axioms : List Axiom) (q : Query) where
  pub added_none : (C : Told → Type 0) (old : List Found) → ((s : Told) (r : Query) → C s → IsFound axioms q s r → ⊥) → AreAdded C axioms q old old
  added_none C old none = record {
    more = [];
    made = sym (append-nil old);
    each = λ s r. ((λ m. elim m [ ]), (λ p. absurd (none s r p.0 p.1)));
    once = tt;
  }

  pub added_both : (C D : Told → Type 0) (old mid new : List Found) → ((s : Told) → C s → D s → ⊥) → AreAdded C axioms q old mid → AreAdded D axioms q mid new → AreAdded (λ s. C s ⊎ D s) axioms q old new
  added_both C D old mid new apart a b = record {
    more = a.more ++ b.more;
    made = b.made ∙ ap (λ xs. xs ++ b.more) a.made ∙ append_assoc old a.more b.more;
    each = λ s r. (
      (λ m. elim (In-append_cases a.more b.more m) [
        | inl i ↦ (let p = (a.each s r).0 i in (inl p.0, p.1))
        | inr i ↦ (let p = (b.each s r).0 i in (inr p.0, p.1))
      ]),
      (λ p. elim p.0 [ inl c ↦ In-append_left b.more ((a.each s r).1 (c, p.1)) | inr d ↦ In-append_right a.more ((b.each s r).1 (d, p.1)) ]),
    );
    once = subst NoneTwice (sym (map-append step_of a.more b.more)) (none_twice_append (map step_of a.more) (map step_of b.more) a.once b.once
        (λ s i j. (let x = with_step a.more i in let y = with_step b.more j in apart s ((a.each s x.0).0 x.1).0 ((b.each s y.0).0 y.1).0)));
  }

  pub added_as : (C D : Told → Type 0) (old new : List Found) → ((s : Told) (r : Query) → IsFound axioms q s r → C s ↔ D s) → AreAdded C axioms q old new → AreAdded D axioms q old new
  added_as C D old new same a = record {
    more = a.more;
    made = a.made;
    each = λ s r. (
      (λ m. (let p = (a.each s r).0 m in ((same s r p.1).0 p.0, p.1))),
      (λ p. (a.each s r).1 ((same s r p.1).1 p.0, p.1)),
    );
    once = a.once;
  }

  -- what is left is one
  pub one_cut : (birth birth' : LinkId × Dir) (i : ℕ) (e : Dir) (c c' : Cut) → IsCut axioms birth q i e c → IsCut axioms birth' q i e c' → c ≡ c'
  one_cut birth birth' i e c c' x y =
      let a : x.spot.atom ≡ y.spot.atom = same_Some x.spot.atom y.spot.atom (sym x.spot.is ∙ y.spot.is) in
      let g : x.spot.arg ≡ y.spot.arg = same_Some x.spot.arg y.spot.arg (sym x.spot.stands ∙ ap (λ z. arg_at z e) a ∙ y.spot.stands) in
      same_Some c c' (sym x.rest ∙ (λ j. cut_of q i (beside (a j) e) (g j)) ∙ y.rest)

  -- by each left side
  one_left : (birth : LinkId × Dir) (i : ℕ) (e : Dir) (x y : Basic) → ◌≡◌ {A = Told} (record { link = birth.0; dir = birth.1; left = x; atom = i; end = e }) (record { link = birth.0; dir = birth.1; left = y; atom = i; end = e }) → x ≡ y
  one_left birth i e x y h = ap {A = Told} (λ s. s.left) h

  steps_of_lefts : (birth : LinkId × Dir) (i : ℕ) (e : Dir) (c : Cut) (lefts : List Basic) → map step_of (map (told birth i e c) lefts) ≡ map (λ l. record { link = birth.0; dir = birth.1; left = l; atom = i; end = e }) lefts
  steps_of_lefts birth i e c [] = refl
  steps_of_lefts birth i e c (l ∷ lefts) = λ j. record { link = birth.0; dir = birth.1; left = l; atom = i; end = e } ∷ steps_of_lefts birth i e c lefts j

  same_step : (birth : LinkId × Dir) (i : ℕ) (e : Dir) (c : Cut) (s : Told) (r : Query) → IsBy birth i e s → r ≡ folded c s.left → ◌≡◌ {A = Found} (told birth i e c s.left) (s, r)
  same_step birth i e c s r b made =
      λ j. (record { link = sym b.0 j; dir = sym b.1 j; left = s.left; atom = sym b.2 j; end = sym b.3 j }, sym made j)

  pub added_lefts : (birth : LinkId × Dir) (i : ℕ) (e : Dir) (c : Cut) (lefts : List Basic) (old new : List Found) → IsCut axioms birth q i e c → NoneTwice lefts → ((x : Basic) → In x lefts ↔ In (Sub x (Has birth.0 birth.1)) axioms) →
      new ≡ old ++ map (told birth i e c) lefts → AreAdded (IsBy birth i e) axioms q old new
  added_lefts birth i e c lefts old new cut once listed made = record {
    more = map (told birth i e c) lefts;
    made = made;
    each = λ s r. (
      (λ m. (let o = from_map (told birth i e c) lefts m in
          subst {A = Found} (λ z. IsBy birth i e z.0 × IsFound axioms q z.0 z.1) o.2 ((refl, refl, refl, refl), record { by = (listed o.0).0 o.1; cut = c; rest = cut; made = refl }))),
      (λ p. back s r p.0 p.1),
    );
    once = subst NoneTwice (sym (steps_of_lefts birth i e c lefts)) (none_twice_map (λ l. record { link = birth.0; dir = birth.1; left = l; atom = i; end = e }) (one_left birth i e) lefts once);
  }
    where
      back : (s : Told) (r : Query) → IsBy birth i e s → IsFound axioms q s r → In {X = Found} (s, r) (map (told birth i e c) lefts)
      back s r b f =
          let by : In (Sub s.left (Has birth.0 birth.1)) axioms = subst {A = LinkId × Dir} (λ z. In (Sub s.left (Has z.0 z.1)) axioms) (λ j. (b.0 j, b.1 j)) f.by in
          let here' : IsCut axioms (s.link, s.dir) q i e f.cut = subst (λ k. IsCut axioms (s.link, s.dir) q k e f.cut) b.2 (subst (λ d. IsCut axioms (s.link, s.dir) q s.atom d f.cut) b.3 f.rest) in
          let one : f.cut ≡ c = one_cut (s.link, s.dir) birth i e f.cut c here' cut in
          subst {A = Found} (λ z. In z (map (told birth i e c) lefts)) (same_step birth i e c s r b (f.made ∙ ap (λ z. folded z s.left) one)) (In-map (told birth i e c) ((listed s.left).1 by))

  -- no cut, no step
  pub added_uncut : (birth : LinkId × Dir) (i : ℕ) (e : Dir) (old : List Found) → ((c : Cut) → IsCut axioms birth q i e c → ⊥) → AreAdded (IsBy birth i e) axioms q old old
  added_uncut birth i e old none = added_none (IsBy birth i e) old
      (λ s r b f. none f.cut (subst (λ z. IsCut axioms z q i e f.cut) (λ j. (b.0 j, b.1 j)) (subst (λ k. IsCut axioms (s.link, s.dir) q k e f.cut) b.2 (subst (λ d. IsCut axioms (s.link, s.dir) q s.atom d f.cut) b.3 f.rest))))

  pub added_no_lefts : (birth : LinkId × Dir) (i : ℕ) (e : Dir) (old : List Found) → ((x : Basic) → In (Sub x (Has birth.0 birth.1)) axioms → ⊥) → AreAdded (IsBy birth i e) axioms q old old
  added_no_lefts birth i e old none = added_none (IsBy birth i e) old
      (λ s r b f. none s.left (subst {A = LinkId × Dir} (λ z. In (Sub s.left (Has z.0 z.1)) axioms) (λ j. (b.0 j, b.1 j)) f.by))

-- by the births so far
abbrev pub BySome : ℕ → Dir → List (LinkId × Dir) → Told → Type 0
BySome i e births s = (s.atom ≡ i) × (s.end ≡ e) × In {X = LinkId × Dir} (s.link, s.dir) births

abbrev pub AtEnd : ℕ → Dir → Told → Type 0
AtEnd i e s = (s.atom ≡ i) × (s.end ≡ e)

none_twice_take : {X : Type 0} (n : ℕ) (xs : List X) → NoneTwice xs → NoneTwice (take n xs)
none_twice_take zero xs h = tt
none_twice_take (suc n) [] h = tt
none_twice_take (suc n) (x ∷ xs) h = ((λ m. h.0 (in_take n xs m)), none_twice_take n xs h.1)
  where
    in_take : {X : Type 0} {x : X} (n : ℕ) (xs : List X) → In x (take n xs) → In x xs
    in_take zero xs m = elim m [ ]
    in_take (suc n) [] m = elim m [ ]
    in_take (suc n) (y ∷ xs) (here e) = here e
    in_take (suc n) (y ∷ xs) (there m) = there (in_take n xs m)

not_before : {X : Type 0} (xs : List X) (x : X) → NoneTwice (xs ++ x ∷ []) → In x xs → ⊥
not_before [] x h m = elim m [ ]
not_before (y ∷ xs) x h (here e) = h.0 (In-append_right xs (here (sym e)))
not_before (y ∷ xs) x h (there m) = not_before xs x h.1 m

module _ (axioms : List Axiom) (q : Query) (i : ℕ) (e : Dir) where
  pub births_begun : (old : List Found) → AreAdded (BySome i e []) axioms q old old
  births_begun old = added_none axioms q (BySome i e []) old (λ s r c f. elim c.2 [ ])

  pub births_on : (births : List (LinkId × Dir)) (n : ℕ) (birth : LinkId × Dir) (old mid new : List Found) → NoneTwice births → take (n + 1) births ≡ take n births ++ birth ∷ [] →
      AreAdded (BySome i e (take n births)) axioms q old mid → AreAdded (IsBy birth i e) axioms q mid new → AreAdded (BySome i e (take (n + 1) births)) axioms q old new
  births_on births n birth old mid new once next a b =
      added_as axioms q (λ s. BySome i e (take n births) s ⊎ IsBy birth i e s) (BySome i e (take (n + 1) births)) old new (λ s r f. (to s, from s))
      (added_both axioms q (BySome i e (take n births)) (IsBy birth i e) old mid new apart a b)
    where
      apart : (s : Told) → BySome i e (take n births) s → IsBy birth i e s → ⊥
      apart s c d = not_before (take n births) birth (subst NoneTwice next (none_twice_take (n + 1) births once)) (subst {A = LinkId × Dir} (λ z. In z (take n births)) (λ j. (d.0 j, d.1 j)) c.2)

      to : (s : Told) → BySome i e (take n births) s ⊎ IsBy birth i e s → BySome i e (take (n + 1) births) s
      to s (inl c) = (c.0, c.1, subst (λ xs. In {X = LinkId × Dir} (s.link, s.dir) xs) (sym next) (In-append_left (birth ∷ []) c.2))
      to s (inr d) = (d.2, d.3, subst (λ xs. In {X = LinkId × Dir} (s.link, s.dir) xs) (sym next) (In-append_right (take n births) (here (λ j. (sym d.0 j, sym d.1 j)))))

      last : (s : Told) → In {X = LinkId × Dir} (s.link, s.dir) (birth ∷ []) → (s.atom ≡ i) × (s.end ≡ e) → IsBy birth i e s
      last s (here h) c = (ap {A = LinkId × Dir} (λ z. z.0) (sym h), ap {A = LinkId × Dir} (λ z. z.1) (sym h), c.0, c.1)
      last s (there m) c = elim m [ ]

      from : (s : Told) → BySome i e (take (n + 1) births) s → BySome i e (take n births) s ⊎ IsBy birth i e s
      from s c = elim (In-append_cases (take n births) (birth ∷ []) (subst (λ xs. In {X = LinkId × Dir} (s.link, s.dir) xs) next c.2)) [
        | inl m ↦ inl (c.0, c.1, m)
        | inr m ↦ inr (last s m (c.0, c.1))
      ]

-- what is born has the end at which the argument stands
one_end : (v : VarId) (a : Atom) (e e' : Dir) → arg_at a e ≡ Some (Var v) → arg_at a e' ≡ Some (Var v) → is_var v (beside a e') ≡ false → e' ≡ e
one_end v (InClass n x) Fwd Fwd h k o = refl
one_end v (InClass n x) Fwd Back h k o = cc
one_end v (InClass n x) Back e' h k o = cc
one_end v (Linked q x y) Fwd Fwd h k o = refl
one_end v (Linked q x y) Fwd Back h k o = absurd (false≢true (sym o ∙ the_var v y (same_Some y (Var v) h)))
one_end v (Linked q x y) Back Fwd h k o = absurd (false≢true (sym o ∙ the_var v x (same_Some x (Var v) h)))
one_end v (Linked q x y) Back Back h k o = refl

pub born_at : (axioms : List Axiom) (p : LinkId) (d : Dir) (q : Query) (i : ℕ) (a : Atom) (e : Dir) (x : Arg) → slice_get q.atoms i ≡ Some a → arg_at a e ≡ Some x → AreBorn axioms p d q a e x → IsBorn axioms p d a e
born_at axioms p d q i a e Blank is at born = born
born_at axioms p d q i a e (Var v) is at born =
    elim (born a (place_in q.atoms i is)) [
      | inl none ↦ absurd (false≢true (sym none ∙ at_end_in v a e at))
      | inr part ↦ subst (IsBorn axioms p d a) (one_end v a e part.0 at part.1 part.2) part.3
    ]
born_at axioms p d q i a e (Fixed t) is at born = absurd born

module _ (axioms : List Axiom) (q : Query) where
  pub births_end : (classes links : ℕ) → ((ax : Axiom) → In ax axioms → IsAxiomWithin classes links ax) → (i : ℕ) (e : Dir) (births all : List (LinkId × Dir)) (old new : List Found) (a : Atom) → slice_get q.atoms i ≡ Some a →
      ((p : LinkId) (d : Dir) → p.0 < links → IsBorn axioms p d a e → In {X = LinkId × Dir} (p, d) births) → all ≡ births → AreAdded (BySome i e all) axioms q old new → AreAdded (AtEnd i e) axioms q old new
  births_end classes links within i e births all old new a is listed same added =
      added_as axioms q (BySome i e all) (AtEnd i e) old new (λ s r f. ((λ c. (c.0, c.1)), (λ c. (c.0, c.1, subst (λ xs. In {X = LinkId × Dir} (s.link, s.dir) xs) (sym same) (found s r f c))))) added
    where
      found : (s : Told) (r : Query) → IsFound axioms q s r → AtEnd i e s → In {X = LinkId × Dir} (s.link, s.dir) births
      found s r f c =
          let p = f.rest.spot in
          let here' : p.atom ≡ a = same_Some p.atom a (sym p.is ∙ ap (slice_get q.atoms) c.0 ∙ is) in
          let born = born_at axioms s.link s.dir q s.atom p.atom s.end p.arg p.is p.stands f.rest.born in
          listed s.link s.dir (within (Sub s.left (Has s.link s.dir)) f.by).1 (subst (λ z. IsBorn axioms s.link s.dir z e) here' (subst (IsBorn axioms s.link s.dir p.atom) c.1 born))

  pub not_free : (i : ℕ) (e : Dir) (old : List Found) → (IsFree q i e → ⊥) → AreAdded (AtEnd i e) axioms q old old
  not_free i e old none = added_none axioms q (AtEnd i e) old (λ s r c f. none (subst (λ k. IsFree q k e) c.0 (subst (IsFree q s.atom) c.1 f.rest.spot)))

  both_ends : (i : ℕ) (s : Told) → AtEnd i Fwd s ⊎ AtEnd i Back s → s.atom ≡ i
  both_ends i s (inl c) = c.0
  both_ends i s (inr c) = c.0

  some_end : (i : ℕ) (s : Told) (e : Dir) → s.end ≡ e → s.atom ≡ i → AtEnd i Fwd s ⊎ AtEnd i Back s
  some_end i s Fwd h k = inl (k, h)
  some_end i s Back h k = inr (k, h)

  ends_apart : {P : Type 0} {e : Dir} → e ≡ Fwd → e ≡ Back → P
  ends_apart h k = cc

  pub ends_on : (i : ℕ) (old mid new : List Found) → AreAdded (AtEnd i Fwd) axioms q old mid → AreAdded (AtEnd i Back) axioms q mid new → AreAdded (λ s. s.atom ≡ i) axioms q old new
  ends_on i old mid new a b =
      added_as axioms q (λ s. AtEnd i Fwd s ⊎ AtEnd i Back s) (λ s. s.atom ≡ i) old new (λ s r f. (both_ends i s, some_end i s s.end refl)) (added_both axioms q (AtEnd i Fwd) (AtEnd i Back) old mid new (λ s c d. ends_apart c.1 d.1) a b)

  pub atoms_begun : (old : List Found) → AreAdded (λ s. s.atom < 0) axioms q old old
  atoms_begun old = added_none axioms q (λ s. s.atom < 0) old (λ s r c f. omega (arith, c))

  below_or_at : (m n : ℕ) → m < n + 1 → (m < n) ⊎ (m ≡ n)
  below_or_at m n l = grind arith

  below_more : (m n : ℕ) → (m < n) ⊎ (m ≡ n) → m < n + 1
  below_more m n (inl l) = omega (arith, l)
  below_more m n (inr e) = omega (arith, e)

  pub atoms_on : (n : ℕ) (old mid new : List Found) → AreAdded (λ s. s.atom < n) axioms q old mid → AreAdded (λ s. s.atom ≡ n) axioms q mid new → AreAdded (λ s. s.atom < n + 1) axioms q old new
  atoms_on n old mid new a b =
      added_as axioms q (λ s. (s.atom < n) ⊎ (s.atom ≡ n)) (λ s. s.atom < n + 1) old new (λ s r f. (below_more s.atom n, below_or_at s.atom n))
      (added_both axioms q (λ s. s.atom < n) (λ s. s.atom ≡ n) old mid new (λ s c d. omega (arith, c, d)) a b)

  pub atoms_end : (n : ℕ) (new : List Found) → length q.atoms ≤ n → AreAdded (λ s. s.atom < n) axioms q [] new → AreFoldSteps axioms q new
  atoms_end n new l a =
      let same : new ≡ a.more = a.made in
      record {
        each = λ s r. (
          (λ m. found_told axioms q s r ((a.each s r).0 (subst {A = List Found} (λ xs. In {X = Found} (s, r) xs) same m)).1),
          (λ f. (let g = told_found f in
              let low = slice_get_within q.atoms s.atom g.rest.spot.atom g.rest.spot.is in
              subst {A = List Found} (λ xs. In {X = Found} (s, r) xs) (sym same) ((a.each s r).1 (omega (arith, low, l), g)))),
        );
        once = subst {A = List Found} (λ xs. NoneTwice (map step_of xs)) (sym same) a.once;
      }
