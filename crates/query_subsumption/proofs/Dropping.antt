-- For each query of a list one that is kept stands, and none that is kept stands for another.
use Rattle.std.proofs.Common.{◌≡◌, ◌≢◌, sym, subst, ap, refl, ◌∙◌, ℕ, zero, suc, ◌+◌, ◌<◌, ◌≤◌, List, [], ◌∷◌, ◌++◌, length, map, drop, get_or, slice_get, Some, ◌⊎◌, inl, inr, append_assoc, arith}
use Rattle.std.specs.List.{AllByRecursion}
use Rattle.std.specs.List.Sorted.{IsStrictlySortedBy}
use Rattle.std.specs.declared.cmp.Ordering.TheVariants.{Less}
use Rattle.std.proofs.Math.Nat.{eq-or-lt_of_le}
use Rattle.std.proofs.lemmas.Bool.{cases_lt}
use Rattle.std.proofs.lemmas.List.{drop_more}
use Rattle.std.proofs.lemmas.Option.{get_or_from_slice_get, slice_get_cases, slice_get_read, slice_get_within}
use Rattle.vocabulary.specs.Lists.{In, here, there}
use Rattle.queries.specs.declared.query.Arg.{Arg}
use Rattle.queries.specs.declared.query.Arg.TheVariants.{Blank, Var, Fixed}
use Rattle.queries.specs.declared.query.Atom.{Atom}
use Rattle.queries.specs.declared.query.Atom.TheVariants.{InClass, Linked}
use Rattle.queries.specs.declared.query.Query.{Query}
use Rattle.queries.specs.Order.{query_cmp}
use Rattle.query_subsumption.specs.Kept.{AreAmong, NoneMaps, SameImages}
use Rattle.query_subsumption.specs.Subsumption.{AreKept, IsDropped, KeptFrom, MapsInto, Replacement, apart, arg_image, atom_image}
use Rattle.query_subsumption.proofs.Matching.{maps_soundly}
use Rattle.query_subsumption.proofs.Places.{In-place}

-- a query maps into itself, and mappings join
itself_arg : (x : Arg) → arg_image Var x ≡ x
itself_arg Blank = refl
itself_arg (Var v) = refl
itself_arg (Fixed t) = refl

itself_args : (xs : List Arg) → map (arg_image Var) xs ≡ xs
itself_args [] = refl
itself_args (x ∷ xs) = λ i. itself_arg x i ∷ itself_args xs i

itself_atom : (a : Atom) → a ≡ atom_image Var a
itself_atom (InClass c x) = λ i. InClass c (sym (itself_arg x) i)
itself_atom (Linked p x y) = λ i. Linked p (sym (itself_arg x) i) (sym (itself_arg y) i)

maps_itself : (q : Query) → MapsInto q q
maps_itself q = (Var, record { heads = itself_args (apart q).head; atoms = λ a m. subst (λ b. In b (apart q).atoms) (itself_atom a) m })

abbrev after : Replacement → Replacement → Replacement
after φ θ v = arg_image φ (θ v)

after_arg : (φ θ : Replacement) (x : Arg) → arg_image (after φ θ) x ≡ arg_image φ (arg_image θ x)
after_arg φ θ Blank = refl
after_arg φ θ (Var v) = refl
after_arg φ θ (Fixed t) = refl

after_args : (φ θ : Replacement) (xs : List Arg) → map (arg_image (after φ θ)) xs ≡ map (arg_image φ) (map (arg_image θ) xs)
after_args φ θ [] = refl
after_args φ θ (x ∷ xs) = λ i. after_arg φ θ x i ∷ after_args φ θ xs i

after_atom : (φ θ : Replacement) (a : Atom) → atom_image φ (atom_image θ a) ≡ atom_image (after φ θ) a
after_atom φ θ (InClass c x) = λ i. InClass c (sym (after_arg φ θ x) i)
after_atom φ θ (Linked p x y) = λ i. Linked p (sym (after_arg φ θ x) i) (sym (after_arg φ θ y) i)

maps_on : (g m s : Query) → MapsInto g m → MapsInto m s → MapsInto g s
maps_on g m s a b = (
  after b.0 a.0,
  record {
    heads = after_args b.0 a.0 (apart g).head ∙ ap (map (arg_image b.0)) a.1.heads ∙ b.1.heads;
    atoms = λ x k. subst (λ y. In y (apart s).atoms) (after_atom b.0 a.0 x) (b.1.atoms (atom_image a.0 x) (a.1.atoms x k));
  },
)

-- places
one_there : {X : Type 0} (xs : List X) (i : ℕ) (x y : X) → slice_get xs i ≡ Some x → slice_get xs i ≡ Some y → x ≡ y
one_there xs i x y a b = let e : Some x ≡ Some y = sym a ∙ b in cc

is_there : {X : Type 0} (xs : List X) (i : ℕ) (x : X) → slice_get xs i ≡ Some x → In x xs
is_there xs i x e = In-place xs i x (slice_get_within xs i x e) (sym (get_or_from_slice_get xs i x x e))

front_of : {X : Type 0} (xs : List X) (n : ℕ) (x : X) (rest : List X) → drop n xs ≡ x ∷ rest → (n < length xs) × (x ≡ get_or xs n x)
front_of [] zero x rest e = absurd (cc)
front_of [] (suc n) x rest e = absurd (cc)
front_of (y ∷ ys) zero x rest e = (omega arith, cc)
front_of (y ∷ ys) (suc n) x rest e = let r = front_of ys n x rest e in let low = r.0 in (omega arith, r.1)

at_front : {X : Type 0} (xs : List X) (n : ℕ) (x : X) (rest : List X) → drop n xs ≡ x ∷ rest → slice_get xs n ≡ Some x
at_front xs n x rest e = let r = front_of xs n x rest e in slice_get_read xs (length xs) n x refl r.0 r.1

past_front : {X : Type 0} (xs : List X) (n : ℕ) (x : X) (rest : List X) → drop n xs ≡ x ∷ rest → drop (n + 1) xs ≡ rest
past_front xs n x rest e =
    let r = front_of xs n x rest e in
    let k : get_or xs n x ∷ drop (n + 1) xs ≡ x ∷ rest = sym (drop_more xs n x r.0) ∙ e in cc

-- a kept query has a place at which none is dropped
kept_place : (queries : List Query) (at : ℕ) (rest kept : List Query) → drop at queries ≡ rest → KeptFrom queries at rest kept → (q : Query) → In q kept →
    (i : ℕ) × (slice_get queries i ≡ Some q) × (IsDropped queries i → ⊥)
kept_place queries at [] kept d k q m = elim (subst (λ ks. In q ks) k m) [ ]
kept_place queries at (x ∷ rest) kept d k q m = elim k [
  | inl w ↦ kept_place queries (at + 1) rest kept (past_front queries at x rest d) w.1 q m
  | inr w ↦ elim (subst (λ ks. In q ks) w.2 m) [
    | here e ↦ (at, at_front queries at x rest d ∙ ap Some e, w.0)
    | there n ↦ kept_place queries (at + 1) rest w.1 (past_front queries at x rest d) w.3 q n
  ]
]

-- and what stands at a place is dropped or kept
place_kept : (queries : List Query) (at : ℕ) (rest kept : List Query) → KeptFrom queries at rest kept → (k : ℕ) (q : Query) → k < length rest → q ≡ get_or rest k q →
    IsDropped queries (at + k) ⊎ In q kept
place_kept queries at [] kept h k q low is = absurd (omega (arith, low))
place_kept queries at (x ∷ rest) kept h zero q low is = elim h [
  | inl w ↦ (let e : at ≡ at + 0 = omega arith in inl (subst (IsDropped queries) e w.0))
  | inr w ↦ inr (subst (λ ks. In q ks) (sym w.2) (here (sym is)))
]
place_kept queries at (x ∷ rest) kept h (suc k) q low is =
    let e : at + 1 + k ≡ at + suc k = omega arith in
    let low' : k < length rest = omega (arith, low) in
    elim h [
      | inl w ↦ elim (place_kept queries (at + 1) rest kept w.1 k q low' is) [ inl d ↦ inl (subst (IsDropped queries) e d) | inr m ↦ inr m ]
      | inr w ↦ elim (place_kept queries (at + 1) rest w.1 w.3 k q low' is) [ inl d ↦ inl (subst (IsDropped queries) e d) | inr m ↦ inr (subst (λ ks. In q ks) (sym w.2) (there m)) ]
    ]

dropped_or_kept : (queries kept : List Query) → AreKept queries kept → (i : ℕ) (q : Query) → slice_get queries i ≡ Some q → IsDropped queries i ⊎ In q kept
dropped_or_kept queries kept h i q is =
    let e : 0 + i ≡ i = omega arith in
    elim (place_kept queries 0 queries kept h i q (slice_get_within queries i q is) (sym (get_or_from_slice_get queries i q q is))) [ inl d ↦ inl (subst (IsDropped queries) e d) | inr m ↦ inr m ]

-- the query at one place stands for that at another
record Beats (queries : List Query) (other at : ℕ) : Type 0 where
  general : Query
  special : Query
  other_is : slice_get queries other ≡ Some general
  this_is : slice_get queries at ≡ Some special
  differs : other ≢ at
  maps : MapsInto general special
  sooner : (MapsInto special general → ⊥) ⊎ (other < at)

beats_of : (queries : List Query) (at : ℕ) (d : IsDropped queries at) → Beats queries d.other at
beats_of queries at d = record { general = d.general; special = d.special; other_is = d.other_is; this_is = d.this_is; differs = d.differs; maps = d.maps; sooner = d.sooner }

-- two do not stand for one another
not_both : (queries : List Query) (a b : ℕ) → Beats queries a b → Beats queries b a → ⊥
not_both queries a b x y =
    let e : x.general ≡ y.special = one_there queries a x.general y.special x.other_is y.this_is in
    let f : x.special ≡ y.general = one_there queries b x.special y.general x.this_is y.other_is in
    let back : MapsInto x.special x.general = subst (λ q. MapsInto x.special q) (sym e) (subst (λ q. MapsInto q y.special) (sym f) y.maps) in
    let forth : MapsInto y.special y.general = subst (λ q. MapsInto y.special q) f (subst (λ q. MapsInto q x.special) e x.maps) in
    elim x.sooner [
      | inl never ↦ never back
      | inr l ↦ elim y.sooner [ inl never ↦ never forth | inr k ↦ omega (arith, l, k) ]
    ]

-- and what stands for what stands for a query stands for it
beats_on : (queries : List Query) (a b c : ℕ) → Beats queries a b → Beats queries b c → Beats queries a c
beats_on queries a b c x y =
    let f : x.special ≡ y.general = one_there queries b x.special y.general x.this_is y.other_is in
    let first : MapsInto x.general y.general = subst (λ q. MapsInto x.general q) f x.maps in
    let second : MapsInto x.special y.special = subst (λ q. MapsInto q y.special) (sym f) y.maps in
    record {
      general = x.general;
      special = y.special;
      other_is = x.other_is;
      this_is = y.this_is;
      differs = λ e. not_both queries a b x (subst (λ k. Beats queries b k) (sym e) y);
      maps = maps_on x.general y.general y.special first y.maps;
      sooner = elim x.sooner [
        | inl never ↦ inl (λ back. never (maps_on x.special y.special x.general second back))
        | inr l ↦ elim y.sooner [
          | inl never ↦ inl (λ back. never (maps_on y.special x.general y.general back first))
          | inr k ↦ inr (omega (arith, l, k))
        ]
      ];
    }

-- a list without one of its items
without : {X : Type 0} (x : X) (xs : List X) → In x xs → (rest : List X) × (length xs ≡ length rest + 1) × ((y : X) → In y xs → (y ≡ x) ⊎ In y rest)
without x [] m = elim m [ ]
without x (z ∷ xs) (here e) = (xs, omega arith, λ y n. elim n [ here f ↦ inl (sym f ∙ e) | there k ↦ inr k ])
without x (z ∷ xs) (there m) =
    let r = without x xs m in
    let size = r.1 in
    (z ∷ r.0, omega arith, λ y n. elim n [ here f ↦ inr (here f) | there k ↦ elim (r.2 y k) [ inl e ↦ inl e | inr j ↦ inr (there j) ] ])

-- where all that stand for a query are among n places, a kept one does
one_stands : (queries kept : List Query) → AreKept queries kept → (n : ℕ) (todo : List ℕ) → length todo ≡ n → (c : ℕ) (q : Query) → slice_get queries c ≡ Some q →
    ((j : ℕ) → Beats queries j c → In j todo) → (k : Query) × In k kept × MapsInto k q
one_stands queries kept h zero todo size c q is all = elim (dropped_or_kept queries kept h c q is) [
  | inl d ↦ (let r = without d.other todo (all d.other (beats_of queries c d)) in let more = r.1 in absurd (omega (arith, more, size)))
  | inr m ↦ (q, m, maps_itself q)
]
one_stands queries kept h (suc n) todo size c q is all = elim (dropped_or_kept queries kept h c q is) [
  | inl d ↦ (let b = beats_of queries c d in
      let r = without d.other todo (all d.other b) in
      let more = r.1 in
      let size' : length r.0 ≡ n = omega (arith, more, size) in
      let rest : (j : ℕ) → Beats queries j d.other → In j r.0 = λ j w. elim (r.2 j (all j (beats_on queries j d.other c w b))) [ inl e ↦ absurd (w.differs e) | inr m ↦ m ] in
      let k = one_stands queries kept h n r.0 size' d.other d.general d.other_is rest in
      let e : d.special ≡ q = one_there queries c d.special q d.this_is is in
      (k.0, k.1, maps_on k.0 d.general q k.2 (subst (λ s. MapsInto d.general s) e d.maps)))
  | inr m ↦ (q, m, maps_itself q)
]

abbrev places : ℕ → List ℕ
places zero = []
places (suc n) = n ∷ places n

in_places : (n j : ℕ) → j < n → In j (places n)
in_places zero j low = absurd (omega (arith, low))
in_places (suc n) j low =
    let l : j ≤ n = omega (arith, low) in
    elim (eq-or-lt_of_le {n = j} {m = n} l) [ inl e ↦ here (sym e) | inr k ↦ there (in_places n j k) ]

kept_stands : (queries kept : List Query) → AreKept queries kept → (c : ℕ) (q : Query) → slice_get queries c ≡ Some q → (k : Query) × In k kept × MapsInto k q
kept_stands queries kept h c q is =
    one_stands queries kept h (length (places (length queries))) (places (length queries)) refl c q is
    (λ j b. in_places (length queries) j (slice_get_within queries j b.general b.other_is))

-- the consequences
place_of : {X : Type 0} (xs : List X) (x : X) → In x xs → (i : ℕ) × (slice_get xs i ≡ Some x)
place_of [] x m = elim m [ ]
place_of (y ∷ ys) x (here e) = (0, slice_get_read (y ∷ ys) (length (y ∷ ys)) 0 x refl (omega arith) (sym e))
place_of (y ∷ ys) x (there m) =
    let r = place_of ys x m in
    let low = slice_get_within ys r.0 x r.1 in
    (suc r.0, slice_get_read (y ∷ ys) (length (y ∷ ys)) (suc r.0) x refl (omega arith) (sym (get_or_from_slice_get ys r.0 x x r.1)))

pub kept_among : (queries kept : List Query) → AreKept queries kept → AreAmong queries kept
kept_among queries kept h q m = let r = kept_place queries 0 queries kept refl h q m in is_there queries r.0 q r.1

pub kept_none_maps : (queries kept : List Query) → AreKept queries kept → NoneMaps kept
kept_none_maps queries kept h g s mg ms ne forth =
    let a = kept_place queries 0 queries kept refl h g mg in
    let b = kept_place queries 0 queries kept refl h s ms in
    let apart_places : a.0 ≢ b.0 = λ e. ne (one_there queries b.0 g s (subst (λ i. slice_get queries i ≡ Some g) e a.1) b.1) in
    b.2 (record {
      other = a.0;
      general = g;
      special = s;
      other_is = a.1;
      this_is = b.1;
      differs = apart_places;
      maps = forth;
      sooner = elim (cases_lt a.0 b.0) [
        | inl l ↦ inr l
        | inr k ↦ (let turned : b.0 ≢ a.0 = λ e. apart_places (sym e) in
            let low : b.0 < a.0 = omega arith in
            inl (λ back. a.2 (record { other = b.0; general = s; special = g; other_is = b.1; this_is = a.1; differs = turned; maps = back; sooner = inr low })))
      ];
    })

pub kept_images : (queries kept : List Query) → AreKept queries kept → SameImages queries kept
kept_images queries kept h facts tuple = (
  λ w. let p = place_of queries w.0 w.1 in
      let k = kept_stands queries kept h p.0 w.0 p.1 in
      (k.0, k.1, maps_soundly facts k.0 w.0 tuple k.2 w.2.0 w.2.1),
  λ w. (w.0, kept_among queries kept h w.0 w.1, w.2),
)

all_kept : (P : Query → Type 0) (queries : List Query) (at : ℕ) (rest kept : List Query) → KeptFrom queries at rest kept → AllByRecursion P rest → AllByRecursion P kept
all_kept P queries at [] kept k all = subst (AllByRecursion P) (sym k) all
all_kept P queries at (q ∷ rest) kept k all = elim k [
  | inl w ↦ all_kept P queries (at + 1) rest kept w.1 all.1
  | inr w ↦ (let h : AllByRecursion P (q ∷ w.1) = (all.0, all_kept P queries (at + 1) rest w.1 w.3 all.1) in subst (AllByRecursion P) (sym w.2) h)
]

pub kept_ordered : (queries : List Query) (at : ℕ) (rest kept : List Query) → KeptFrom queries at rest kept → IsStrictlySortedBy query_cmp rest → IsStrictlySortedBy query_cmp kept
unfolding IsStrictlySortedBy
kept_ordered queries at [] kept k s = subst (IsStrictlySortedBy query_cmp) (sym k) s
kept_ordered queries at (q ∷ rest) kept k s = elim k [
  | inl w ↦ kept_ordered queries (at + 1) rest kept w.1 s.1
  | inr w ↦ (let h : IsStrictlySortedBy query_cmp (q ∷ w.1) = (all_kept (λ r. query_cmp q r ≡ Less) queries (at + 1) rest w.1 w.3 s.0, kept_ordered queries (at + 1) rest w.1 w.3 s.1) in
      subst (IsStrictlySortedBy query_cmp) (sym w.2) h)
]

-- one step of the walk
pub keeps : (queries : List Query) (at : ℕ) (q : Query) (out : List Query) → at < length queries → q ≡ get_or queries at q → (IsDropped queries at → ⊥) →
    ((more : List Query) → KeptFrom queries at (drop at queries) more → AreKept queries (out ++ more)) →
    (more : List Query) → KeptFrom queries (at + 1) (drop (at + 1) queries) more → AreKept queries ((out ++ q ∷ []) ++ more)
keeps queries at q out low is stays so_far more k =
    let e : drop at queries ≡ q ∷ drop (at + 1) queries = drop_more queries at q low ∙ (λ i. sym is i ∷ drop (at + 1) queries) in
    let h : KeptFrom queries at (drop at queries) (q ∷ more) = subst (λ rest. KeptFrom queries at rest (q ∷ more)) (sym e) (inr (stays, more, refl, k)) in
    subst (AreKept queries) (sym (append_assoc out (q ∷ []) more)) (so_far (q ∷ more) h)

pub drops : (queries : List Query) (at : ℕ) (out : List Query) → at < length queries → IsDropped queries at →
    ((more : List Query) → KeptFrom queries at (drop at queries) more → AreKept queries (out ++ more)) →
    (more : List Query) → KeptFrom queries (at + 1) (drop (at + 1) queries) more → AreKept queries (out ++ more)
drops queries at out low goes so_far more k = elim (slice_get_cases queries at).1 [
  | inl w ↦ (let e : drop at queries ≡ w.0 ∷ drop (at + 1) queries = drop_more queries at w.0 low ∙ (λ i. w.3 i ∷ drop (at + 1) queries) in
      so_far more (subst (λ rest. KeptFrom queries at rest more) (sym e) (inl (goes, k))))
  | inr w ↦ (let past = w.0 in absurd (omega (arith, past, low)))
]
