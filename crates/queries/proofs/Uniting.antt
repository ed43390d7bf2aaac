-- The relation of unifying, and its computation.
use Rattle.std.proofs.Common.{ℕ, zero, suc, ◌≡◌, ◌≢◌, refl, sym, ◌∙◌, ap, subst, ◌<◌, true, false, List, [], ◌∷◌, map, length, ◌⊎◌, inl, inr, nat_eq, if◌then◌else◌, slice_get, Option, Some, None, option_map, arith}
use Rattle.std.specs.List.{remove}
use Rattle.std.specs.Option.{option_and_then}
use Rattle.std.specs.Ordering.{is_eq}
use Rattle.std.specs.declared.cmp.Ordering.{Ordering}
use Rattle.std.specs.declared.cmp.Ordering.TheVariants.{Less, Equal, Greater}
use Rattle.std.proofs.lemmas.Bool.{cases_Bool, eqb-true, eq-eqb, lt-ltb, le-ltb}
use Rattle.vocabulary.specs.declared.ids.ClassId.{ClassId}
use Rattle.vocabulary.specs.declared.ids.LinkId.{LinkId}
use Rattle.vocabulary.specs.declared.ids.VarId.{VarId}
use Rattle.vocabulary.specs.declared.term.Term.{Term}
use Rattle.vocabulary.specs.Lists.{Picks, first, later}
use Rattle.queries.specs.declared.query.Arg.{Arg}
use Rattle.queries.specs.declared.query.Arg.TheVariants.{Blank, Var, Fixed}
use Rattle.queries.specs.declared.query.Atom.{Atom}
use Rattle.queries.specs.declared.query.Atom.TheVariants.{InClass, Linked}
use Rattle.queries.specs.declared.query.Query.{Query}
use Rattle.queries.specs.declared.unify.Meeting.{Meeting}
use Rattle.queries.specs.declared.unify.Union.{Union}
use Rattle.queries.specs.declared.unify.Change.{Change}
use Rattle.queries.specs.declared.unify.Change.TheVariants.{Keep, Put}
use Rattle.queries.specs.Changes.{changed, changed_atom, Meets, blank_left, blank_right, same_var, left_lower, right_lower, var_left, var_right, same_fixed, AtomsMeet, class_meet, link_meet, UnifyStep, unify}
use Rattle.queries.specs.Laws.{UnifyingIsComputed}
use Rattle.queries.specs.Order.{term_cmp}
use Rattle.queries.specs.Unifying.{changed_both, changed_both_atom, kept_arg, lower, met, class_met, link_met, further_met, links_met, atoms_met, others, joined, unify_at}
use Rattle.queries.proofs.Ordered.{tuples_ordered}

abbrev meeting : Change → Arg → Meeting
meeting c z = record { change = c; arg = z }

some_same : {X : Type 0} {x y : X} → Some x ≡ Some y → x ≡ y
some_same e = cc

none_is_some : {X : Type 0} {x : X} → None ≡ Some x → ⊥
none_is_some e = cc

apart : (m n : ℕ) → m ≢ n → nat_eq m n ≡ false
apart m n h = elim (cases_Bool (nat_eq m n)) [ inl t ↦ absurd (h (eqb-true m n t)) | inr f ↦ f ]

-- arguments
right_blank : (x : Arg) → met x Blank ≡ Some (kept_arg x)
right_blank Blank = refl
right_blank (Var v) = refl
right_blank (Fixed t) = refl

lower_same : (v w : VarId) → v ≡ w → lower v w ≡ kept_arg (Var v)
lower_same v w e = rw (eq-eqb v.0 w.0 (λ i. (e i).0))

lower_left : (v w : VarId) → v.0 < w.0 → lower v w ≡ meeting (Put w (Var v)) (Var v)
lower_left v w l = rw (apart v.0 w.0 (λ e. omega arith), lt-ltb v.0 w.0 l)

lower_right : (v w : VarId) → w.0 < v.0 → lower v w ≡ meeting (Put v (Var w)) (Var w)
lower_right v w l = rw (apart v.0 w.0 (λ e. omega arith), le-ltb v.0 w.0 (omega arith))

same_term : (t u : Term) → t ≡ u → is_eq (term_cmp t u) ≡ true
same_term t u e = ap is_eq ((tuples_ordered.term_level t u).1 e)

level : (o : Ordering) → is_eq o ≡ true → o ≡ Equal
level Less h = cc
level Equal h = refl
level Greater h = cc

meets_computed : {x y z : Arg} {c : Change} → Meets x y c z → met x y ≡ Some (meeting c z)
meets_computed blank_left = refl
meets_computed (blank_right {x = x}) = right_blank x
meets_computed (same_var {v = v} {w = w} e) = ap Some (lower_same v w e)
meets_computed (left_lower {v = v} {w = w} l) = ap Some (lower_left v w l)
meets_computed (right_lower {v = v} {w = w} l) = ap Some (lower_right v w l)
meets_computed var_left = refl
meets_computed var_right = refl
meets_computed (same_fixed {t = t} {u = u} e) = rw (same_term t u e)

abbrev MeetsAs : Arg → Arg → Meeting → Type 0
MeetsAs x y m = Meets x y m.change m.arg

three : (m n : ℕ) → (m ≡ n) ⊎ ((m < n) ⊎ (n < m))
three m n = grind arith

lower_meets : (v w : VarId) → MeetsAs (Var v) (Var w) (lower v w)
lower_meets v w = elim (three v.0 w.0) [
  | inl e ↦ (let s : v ≡ w = λ i. record { 0 = e i } in subst (MeetsAs (Var v) (Var w)) (sym (lower_same v w s)) (same_var s))
  | inr d ↦ elim d [
    | inl l ↦ subst (MeetsAs (Var v) (Var w)) (sym (lower_left v w l)) (left_lower l)
    | inr l ↦ subst (MeetsAs (Var v) (Var w)) (sym (lower_right v w l)) (right_lower l)
  ]
]

meets_back : (x y : Arg) (m : Meeting) → met x y ≡ Some m → MeetsAs x y m
meets_back Blank y m e = subst (MeetsAs Blank y) (some_same e) blank_left
meets_back (Var v) Blank m e = subst (MeetsAs (Var v) Blank) (some_same e) blank_right
meets_back (Var v) (Var w) m e = subst (MeetsAs (Var v) (Var w)) (some_same e) (lower_meets v w)
meets_back (Var v) (Fixed t) m e = subst (MeetsAs (Var v) (Fixed t)) (some_same e) var_left
meets_back (Fixed t) Blank m e = subst (MeetsAs (Fixed t) Blank) (some_same e) blank_right
meets_back (Fixed t) (Var w) m e = subst (MeetsAs (Fixed t) (Var w)) (some_same e) var_right
meets_back (Fixed t) (Fixed u) m e = elim (is_eq (term_cmp t u)) as (λ b. is_eq (term_cmp t u) ≡ b → (if b then Some (kept_arg (Fixed t)) else None) ≡ Some m → MeetsAs (Fixed t) (Fixed u) m) [
  | true ↦ (λ h k. subst (MeetsAs (Fixed t) (Fixed u)) (some_same k) (same_fixed ((tuples_ordered.term_level t u).0 (level (term_cmp t u) h))))
  | false ↦ (λ h k. absurd (none_is_some k))
] refl e

-- atoms
atoms_computed : {a b m : Atom} {c e : Change} → AtomsMeet a b c e m → atoms_met a b ≡ Some (record { first = c; second = e; atom = m })
atoms_computed (class_meet {a = a} r) = rw (eq-eqb a.0 a.0 refl) (ap (option_map (class_met a)) (meets_computed r))
atoms_computed (link_meet {p = p} {y = y} {y' = y'} {z = z} {c = c} r s) =
    rw (eq-eqb p.0 p.0 refl) (ap (option_and_then (further_met p y y')) (meets_computed r) ∙ ap (option_map (link_met p (meeting c z))) (meets_computed s))

abbrev MeetAs : Atom → Atom → Union → Type 0
MeetAs a b u = AtomsMeet a b u.first u.second u.atom

mapped : {X Y : Type 0} (f : X → Y) (o : Option X) (y : Y) → option_map f o ≡ Some y → (x : X) × (o ≡ Some x) × (f x ≡ y)
mapped f None y h = cc
mapped f (Some x) y h = (x, refl, some_same h)

then_is : {X Y : Type 0} (f : X → Option Y) (o : Option X) (y : Y) → option_and_then f o ≡ Some y → (x : X) × (o ≡ Some x) × (f x ≡ Some y)
then_is f None y h = cc
then_is f (Some x) y h = (x, refl, h)

same_class : (a b : ClassId) → nat_eq a.0 b.0 ≡ true → a ≡ b
same_class a b h = λ i. record { 0 = eqb-true a.0 b.0 h i }

same_link : (p q : LinkId) → nat_eq p.0 q.0 ≡ true → p ≡ q
same_link p q h = λ i. record { 0 = eqb-true p.0 q.0 h i }

atoms_back : (a b : Atom) (u : Union) → atoms_met a b ≡ Some u → MeetAs a b u
atoms_back (InClass a x) (InClass b y) u e = elim (nat_eq a.0 b.0) as (λ t. nat_eq a.0 b.0 ≡ t → (if t then option_map (class_met a) (met x y) else None) ≡ Some u → MeetAs (InClass a x) (InClass b y) u) [
  | true ↦ (λ h k.
      let m = mapped (class_met a) (met x y) u k in
      subst (λ d. MeetAs (InClass a x) (InClass d y) u) (same_class a b h) (subst (MeetAs (InClass a x) (InClass a y)) m.2 (class_meet (meets_back x y m.0 m.1))))
  | false ↦ (λ h k. absurd (none_is_some k))
] refl e
atoms_back (InClass a x) (Linked q z w) u e = cc
atoms_back (Linked p x y) (InClass b z) u e = cc
atoms_back (Linked p x y) (Linked q z w) u e = elim (nat_eq p.0 q.0) as (λ t. nat_eq p.0 q.0 ≡ t → (if t then links_met p x y z w else None) ≡ Some u → MeetAs (Linked p x y) (Linked q z w) u) [
  | true ↦ (λ h k.
      let m = then_is (further_met p y w) (met x z) u k in
      let n = mapped (link_met p m.0) (met (changed m.0.change y) (changed m.0.change w)) u m.2 in
      subst (λ d. MeetAs (Linked p x y) (Linked d z w) u) (same_link p q h)
      (subst (MeetAs (Linked p x y) (Linked p z w)) n.2 (link_meet (meets_back x z m.0 m.1) (meets_back (changed m.0.change y) (changed m.0.change w) n.0 n.1))))
  | false ↦ (λ h k. absurd (none_is_some k))
] refl e

-- either way round
meets_turned : {x y z : Arg} {c : Change} → Meets x y c z → Meets y x c z
meets_turned blank_left = blank_right
meets_turned blank_right = blank_left
meets_turned (same_var {v = v} {w = w} e) = subst (λ u. Meets (Var w) (Var v) Keep (Var u)) (sym e) (same_var (sym e))
meets_turned (left_lower l) = right_lower l
meets_turned (right_lower l) = left_lower l
meets_turned var_left = var_right
meets_turned var_right = var_left
meets_turned (same_fixed {t = t} {u = u} e) = subst (λ s. Meets (Fixed u) (Fixed t) Keep (Fixed s)) (sym e) (same_fixed (sym e))

atoms_turned : {a b m : Atom} {c e : Change} → AtomsMeet a b c e m → AtomsMeet b a c e m
atoms_turned (class_meet r) = class_meet (meets_turned r)
atoms_turned (link_meet r s) = link_meet (meets_turned r) (meets_turned s)

turned : (a b : Atom) → atoms_met a b ≡ atoms_met b a
turned a b = by (atoms_met a b) (atoms_met b a) refl refl
  where
    by : (o p : Option Union) → atoms_met a b ≡ o → atoms_met b a ≡ p → atoms_met a b ≡ atoms_met b a
    by None None h k = h ∙ sym k
    by (Some u) p h k = h ∙ sym (atoms_computed (atoms_turned (atoms_back a b u h)))
    by None (Some u) h k = atoms_computed (atoms_turned (atoms_back b a u k)) ∙ sym k

-- places
abbrev At : {X : Type 0} → List X → ℕ → X → Type 0
At xs i x = slice_get xs i ≡ Some x

record Two {X : Type 0} (a b : X) (xs rest : List X) : Type 0 where
  low : ℕ
  high : ℕ
  order : low < high
  within : high < length xs
  at_low : At xs low a
  at_high : At xs high b
  left : remove (remove xs high) low ≡ rest

record Place {X : Type 0} (a : X) (xs rest : List X) : Type 0 where
  place : ℕ
  within : place < length xs
  at : At xs place a
  left : remove xs place ≡ rest

picked : {X : Type 0} {a : X} {xs rest : List X} → Picks a xs rest → Place a xs rest
picked (first e) = record { place = 0; within = omega arith; at = ap Some e; left = refl }
picked (later {y = y} k) = let p = picked k in record { place = suc p.place; within = omega (arith, p.within); at = p.at; left = ap (λ zs. y ∷ zs) p.left }

two_picked : {X : Type 0} {a b : X} {xs one rest : List X} → Picks a xs one → Picks b one rest → Two a b xs rest ⊎ Two b a xs rest
two_picked (first e) k = let p = picked k in inl (record { low = 0; high = suc p.place; order = omega arith; within = omega (arith, p.within); at_low = ap Some e; at_high = p.at; left = p.left })
two_picked (later k) (first e) = let p = picked k in inr (record { low = 0; high = suc p.place; order = omega arith; within = omega (arith, p.within); at_low = ap Some e; at_high = p.at; left = p.left })
two_picked (later {y = y} k) (later l) = elim (two_picked k l) [
  | inl t ↦ inl (on t)
  | inr t ↦ inr (on t)
]
  where
    on : {X : Type 0} {y : X} {a b : X} {xs rest : List X} → Two a b xs rest → Two a b (y ∷ xs) (y ∷ rest)
    on {y = y} t = record { low = suc t.low; high = suc t.high; order = omega (arith, t.order); within = omega (arith, t.within); at_low = t.at_low; at_high = t.at_high; left = ap (λ zs. y ∷ zs) t.left }

pick : {X : Type 0} (xs : List X) (i : ℕ) → i < length xs → (x : X) × At xs i x × Picks x xs (remove xs i)
pick [] i l = absurd (omega (arith, l))
pick (x ∷ xs) zero l = (x, refl, first refl)
pick (x ∷ xs) (suc i) l = let p = pick xs i (omega (arith, l)) in (p.0, p.1, later p.2)

record Picked {X : Type 0} (xs : List X) (i j : ℕ) : Type 0 where
  low : X
  high : X
  one : List X
  at_low : At xs i low
  at_high : At xs j high
  first_pick : Picks low xs one
  second_pick : Picks high one (remove (remove xs j) i)

pick_two : {X : Type 0} (xs : List X) (i j : ℕ) → i < j → j < length xs → Picked xs i j
pick_two [] i j l k = absurd (omega (arith, k))
pick_two (x ∷ xs) i zero l k = absurd (omega (arith, l))
pick_two (x ∷ xs) zero (suc j) l k = let p = pick xs j (omega (arith, k)) in record { low = x; high = p.0; one = xs; at_low = refl; at_high = p.1; first_pick = first refl; second_pick = p.2 }
pick_two (x ∷ xs) (suc i) (suc j) l k =
    let p = pick_two xs i j (omega (arith, l)) (omega (arith, k)) in
    record { low = p.low; high = p.high; one = x ∷ p.one; at_low = p.at_low; at_high = p.at_high; first_pick = later p.first_pick; second_pick = later p.second_pick }

-- steps
there : (q : Query) (i j : ℕ) (a b : Atom) → At q.atoms i a → At q.atoms j b → unify_at q i j ≡ option_map (joined q i j) (atoms_met a b)
there q i j a b e f =
    ap (option_and_then (λ a. option_and_then (λ b. option_map (joined q i j) (atoms_met a b)) (slice_get q.atoms j))) e
    ∙ ap (option_and_then (λ b. option_map (joined q i j) (atoms_met a b))) f

others_at : {X : Type 0} (i j : ℕ) (xs : List X) → i < j → others i j xs ≡ remove (remove xs j) i
others_at i j xs l = rw (lt-ltb i j l)

abbrev result_of : List Arg → Union → List Atom → Query
result_of head u rest = record { head = map (λ x. changed u.second (changed u.first x)) head; atoms = u.atom ∷ map (λ k. changed_atom u.second (changed_atom u.first k)) rest }

stepped : (head : List Arg) (atoms rest : List Atom) (a b : Atom) (u : Union) → Two a b atoms rest → atoms_met a b ≡ Some u →
    (i : ℕ) × (j : ℕ) × (i < j) × (j < length atoms) × (unify_at (record { head = head; atoms = atoms }) i j ≡ Some (result_of head u rest))
stepped head atoms rest a b u t e =
    let q : Query = record { head = head; atoms = atoms } in (
      t.low,
      t.high,
      t.order,
      t.within,
      there q t.low t.high a b t.at_low t.at_high ∙ ap (option_map (joined q t.low t.high)) e ∙ ap (λ r. Some (result_of head u r)) (others_at t.low t.high atoms t.order ∙ t.left),
    )

step_to : {head head' : List Arg} {atoms result : List Atom} → UnifyStep head atoms head' result →
    (i : ℕ) × (j : ℕ) × (i < j) × (j < length atoms) × (unify_at (record { head = head; atoms = atoms }) i j ≡ Some (record { head = head'; atoms = result }))
step_to (unify {head = head} {a = a} {b = b} {m = m} {c = c} {e = e} {atoms = atoms} {rest = rest} k l meet) =
    let u : Union = record { first = c; second = e; atom = m } in
    elim (two_picked k l) [
      | inl t ↦ stepped head atoms rest a b u t (atoms_computed meet)
      | inr t ↦ stepped head atoms rest b a u t (atoms_computed (atoms_turned meet))
    ]

step_from : (q r : Query) (i j : ℕ) → i < j → j < length q.atoms → unify_at q i j ≡ Some r → UnifyStep q.head q.atoms r.head r.atoms
step_from q r i j l k h =
    let p = pick_two q.atoms i j l k in
    let m = mapped (joined q i j) (atoms_met p.low p.high) r (sym (there q i j p.low p.high p.at_low p.at_high) ∙ h) in
    let same : result_of q.head m.0 (remove (remove q.atoms j) i) ≡ r = ap (result_of q.head m.0) (sym (others_at i j q.atoms l)) ∙ m.2 in
    subst (λ z. UnifyStep q.head q.atoms z.head z.atoms) same (unify p.first_pick p.second_pick (atoms_back p.low p.high m.0 m.1))

-- either way round
others_turned : {X : Type 0} (i j : ℕ) (xs : List X) → others i j xs ≡ others j i xs
others_turned i j xs = elim (three i j) [
  | inl e ↦ (λ n. others (e n) (sym e n) xs)
  | inr d ↦ elim d [
    | inl l ↦ others_at i j xs l ∙ sym (rw (le-ltb j i (omega arith)))
    | inr l ↦ rw (le-ltb i j (omega arith)) (sym (others_at j i xs l))
  ]
]

abbrev with_second : Query → ℕ → ℕ → Atom → Option Query
with_second q i j a = option_and_then (λ b. option_map (joined q i j) (atoms_met a b)) (slice_get q.atoms j)

absent_first : (q : Query) (i j : ℕ) → slice_get q.atoms i ≡ None → unify_at q i j ≡ None
absent_first q i j e = ap (option_and_then (with_second q i j)) e

absent_second : (q : Query) (i j : ℕ) (o : Option Atom) → slice_get q.atoms j ≡ None → option_and_then (with_second q i j) o ≡ None
absent_second q i j None f = refl
absent_second q i j (Some a) f = ap (option_and_then (λ b. option_map (joined q i j) (atoms_met a b))) f

turned_at : (q : Query) (i j : ℕ) (o p : Option Atom) → slice_get q.atoms i ≡ o → slice_get q.atoms j ≡ p → unify_at q i j ≡ unify_at q j i
turned_at q i j None p e f = absent_first q i j e ∙ sym (absent_second q j i (slice_get q.atoms j) e)
turned_at q i j (Some a) None e f = absent_second q i j (slice_get q.atoms i) f ∙ sym (absent_first q j i f)
turned_at q i j (Some a) (Some b) e f =
    let same : option_map (joined q i j) (atoms_met a b) ≡ option_map (joined q j i) (atoms_met b a) =
    λ n. option_map (λ u. record { head = map (changed_both u) q.head; atoms = u.atom ∷ map (changed_both_atom u) (others_turned i j q.atoms n) }) (turned a b n) in
    there q i j a b e f ∙ same ∙ sym (there q j i b a f e)

pub unifying_is_computed : UnifyingIsComputed
unifying_is_computed = record {
  meets = λ a b u. (atoms_computed, atoms_back a b u);
  steps = λ q r. (step_to, λ s. step_from q r s.0 s.1 s.2 s.3 s.4);
  either_way = λ q i j. turned_at q i j (slice_get q.atoms i) (slice_get q.atoms j) refl refl;
}
