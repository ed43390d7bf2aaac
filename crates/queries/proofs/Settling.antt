-- Tidying comes to an end, where no variable is lone.
use Rattle.std.proofs.Common.{ℕ, zero, suc, ◌≡◌, ◌≢◌, refl, sym, ◌∙◌, ap, subst, ◌≤◌, ◌<◌, ◌+◌, Bool, true, false, ◌&&◌, List, [], ◌∷◌, map, length, ◌⊎◌, inl, inr, nat_eq, if◌then◌else◌, arith}
use Rattle.std.proofs.lemmas.Bool.{eqb-true, eqb-false, eq-eqb, cases_Bool}
use Rattle.vocabulary.specs.declared.ids.VarId.{VarId}
use Rattle.queries.specs.declared.query.Arg.{Arg}
use Rattle.queries.specs.declared.query.Arg.TheVariants.{Blank, Var, Fixed}
use Rattle.queries.specs.declared.query.Atom.{Atom}
use Rattle.queries.specs.declared.query.Atom.TheVariants.{InClass, Linked}
use Rattle.queries.specs.declared.query.Query.{Query}
use Rattle.queries.specs.Laws.{TidyingSettles}
use Rattle.queries.specs.Normal.{is_lone, blank_arg, blank_atom, stands_in, distinct, tidied, tidied_times, settled, put_in, in_order, normal_form}
use Rattle.queries.specs.Occurrences.{occurs, atom_occurs, count, head_count, NoLoneVariable}
use Rattle.queries.specs.Order.{atom_le}

-- removing repeated atoms makes the list shorter, or changes nothing
distinct_length : (atoms : List Atom) → length (distinct atoms) ≤ length atoms
distinct_length [] = omega arith
distinct_length (a ∷ atoms) =
    let r = distinct_length atoms in
    elim (stands_in a atoms) as (λ t. length (if t then distinct atoms else a ∷ distinct atoms) ≤ suc (length atoms)) [ true ↦ omega (arith, r) | false ↦ omega (arith, r) ]

distinct_all : (atoms : List Atom) → length (distinct atoms) ≡ length atoms → distinct atoms ≡ atoms
distinct_all [] e = refl
distinct_all (a ∷ atoms) e =
    let r = distinct_length atoms in
    let more = distinct_all atoms in
    (elim (stands_in a atoms) as (λ t. length (if t then distinct atoms else a ∷ distinct atoms) ≡ suc (length atoms) → (if t then distinct atoms else a ∷ distinct atoms) ≡ a ∷ atoms) [
      | true ↦ (λ l. absurd (omega (arith, l, r)))
      | false ↦ (λ l. ap (λ xs. a ∷ xs) (more (omega (arith, l))))
    ]) e

same_length : (f : Atom → Atom) (atoms : List Atom) → length (map f atoms) ≡ length atoms
same_length f [] = refl
same_length f (a ∷ atoms) = ap suc (same_length f atoms)

tidied_length : (head : List Arg) (atoms : List Atom) → length (tidied head atoms) ≤ length atoms
tidied_length head atoms = omega (arith, distinct_length (map (blank_atom head atoms) atoms), same_length (blank_atom head atoms) atoms)

abbrev bit : Bool → ℕ
bit b = if b then 1 else 0

-- a variable that is not lone stands as often after blanking
true_no_false : true ≡ false → ⊥
true_no_false e = cc

same_number : (v w : VarId) → nat_eq w.0 v.0 ≡ true → w ≡ v
same_number v w h = λ i. record { 0 = eqb-true w.0 v.0 h i }

kept_arg : (head : List Arg) (whole : List Atom) (v : VarId) → is_lone head whole v ≡ false → (x : Arg) → occurs v (blank_arg head whole x) ≡ occurs v x
kept_arg head whole v n Blank = refl
kept_arg head whole v n (Fixed t) = refl
kept_arg head whole v n (Var w) =
    (elim (is_lone head whole w) as (λ b. is_lone head whole w ≡ b → occurs v (if b then Blank else Var w) ≡ occurs v (Var w)) [
      | true ↦ (λ l. sym ((elim (nat_eq w.0 v.0) as (λ c. nat_eq w.0 v.0 ≡ c → bit c ≡ 0) [
        | true ↦ (λ q. absurd (true_no_false (sym l ∙ ap (is_lone head whole) (same_number v w q) ∙ n)))
        | false ↦ (λ q. refl)
      ]) refl))
      | false ↦ (λ l. refl)
    ]) refl

kept_atom : (head : List Arg) (whole : List Atom) (v : VarId) → is_lone head whole v ≡ false → (a : Atom) → atom_occurs v (blank_atom head whole a) ≡ atom_occurs v a
kept_atom head whole v n (InClass a x) = kept_arg head whole v n x
kept_atom head whole v n (Linked p x y) = omega (arith, kept_arg head whole v n x, kept_arg head whole v n y)

pub kept_count : (head : List Arg) (whole : List Atom) (v : VarId) → is_lone head whole v ≡ false → (atoms : List Atom) → count v (map (blank_atom head whole) atoms) ≡ count v atoms
kept_count head whole v n [] = refl
kept_count head whole v n (a ∷ atoms) = omega (arith, kept_atom head whole v n a, kept_count head whole v n atoms)

-- blanking once more changes nothing
still_kept : (head : List Arg) (atoms : List Atom) (v : VarId) → is_lone head atoms v ≡ false → is_lone head (map (blank_atom head atoms) atoms) v ≡ false
still_kept head atoms v n = ap (λ k. nat_eq (head_count v head) 0 && nat_eq k 1) (kept_count head atoms v n atoms) ∙ n

twice_arg : (head : List Arg) (atoms : List Atom) (x : Arg) → blank_arg head (map (blank_atom head atoms) atoms) (blank_arg head atoms x) ≡ blank_arg head atoms x
twice_arg head atoms Blank = refl
twice_arg head atoms (Fixed t) = refl
twice_arg head atoms (Var w) =
    (elim (is_lone head atoms w) as (λ b. is_lone head atoms w ≡ b → blank_arg head (map (blank_atom head atoms) atoms) (if b then Blank else Var w) ≡ (if b then Blank else Var w)) [
      | true ↦ (λ l. refl)
      | false ↦ (λ l. ap (λ b. if b then Blank else Var w) (still_kept head atoms w l))
    ]) refl

twice_atom : (head : List Arg) (atoms : List Atom) (a : Atom) → blank_atom head (map (blank_atom head atoms) atoms) (blank_atom head atoms a) ≡ blank_atom head atoms a
twice_atom head atoms (InClass a x) = ap (InClass a) (twice_arg head atoms x)
twice_atom head atoms (Linked p x y) = λ i. Linked p (twice_arg head atoms x i) (twice_arg head atoms y i)

twice_all : (head : List Arg) (atoms some : List Atom) → map (blank_atom head (map (blank_atom head atoms) atoms)) (map (blank_atom head atoms) some) ≡ map (blank_atom head atoms) some
twice_all head atoms [] = refl
twice_all head atoms (a ∷ some) = λ i. twice_atom head atoms a i ∷ twice_all head atoms some i

-- so a time in which no atom goes is the last that changes anything
last_time : (head : List Arg) (atoms : List Atom) → length (tidied head atoms) ≡ length atoms → tidied head (tidied head atoms) ≡ tidied head atoms
last_time head atoms e =
    let ys : List Atom = map (blank_atom head atoms) atoms in
    let all : distinct ys ≡ ys = distinct_all ys (e ∙ sym (same_length (blank_atom head atoms) atoms)) in
    ap (tidied head) all ∙ ap distinct (twice_all head atoms atoms)

stable : (n : ℕ) (head : List Arg) (atoms : List Atom) → tidied head atoms ≡ atoms → tidied_times n head atoms ≡ atoms
stable zero head atoms e = refl
stable (suc n) head atoms e = ap (tidied_times n head) e ∙ stable n head atoms e

settles_in : (n : ℕ) (head : List Arg) (atoms : List Atom) → length atoms ≤ n → tidied head (tidied_times (suc n) head atoms) ≡ tidied_times (suc n) head atoms
settles_in zero head [] l = refl
settles_in zero head (a ∷ atoms) l = absurd (omega (arith, l))
settles_in (suc n) head atoms l = elim (cases_Bool (nat_eq (length (tidied head atoms)) (length atoms))) [
  | inl t ↦ (let last = last_time head atoms (eqb-true (length (tidied head atoms)) (length atoms) t) in
      let s = stable (suc n) head (tidied head atoms) last in
      ap (tidied head) s ∙ last ∙ sym s)
  | inr f ↦ (let d : length (tidied head atoms) ≢ length atoms = eqb-false (length (tidied head atoms)) (length atoms) f in
      let s = tidied_length head atoms in
      settles_in n head (tidied head atoms) (omega (arith, d, s, l)))
]

one_more : (n : ℕ) → n + 1 ≡ suc n
one_more n = omega arith

settles : (head : List Arg) (atoms : List Atom) → tidied head (settled head atoms) ≡ settled head atoms
settles head atoms =
    subst (λ n. tidied head (tidied_times n head atoms) ≡ tidied_times n head atoms) (sym (one_more (length atoms))) (settles_in (length atoms) head atoms (omega arith))

settled_once : (head : List Arg) (atoms : List Atom) → settled head atoms ≡ tidied_times (length atoms) head (tidied head atoms)
settled_once head atoms = ap (λ n. tidied_times n head atoms) (one_more (length atoms))

settled_here : (head : List Arg) (atoms : List Atom) → length (tidied head atoms) ≡ length atoms → settled head atoms ≡ tidied head atoms
settled_here head atoms e = settled_once head atoms ∙ stable (length atoms) head (tidied head atoms) (last_time head atoms e)

times_more : (n k : ℕ) (head : List Arg) (atoms : List Atom) → tidied_times (n + k) head atoms ≡ tidied_times k head (tidied_times n head atoms)
times_more zero k head atoms = (let e : zero + k ≡ k = omega arith in ap (λ m. tidied_times m head atoms) e)
times_more (suc n) k head atoms = (let e : suc n + k ≡ suc (n + k) = omega arith in ap (λ m. tidied_times m head atoms) e ∙ times_more n k head (tidied head atoms))

-- and before it the next list settles to the same
settled_next : (head : List Arg) (atoms : List Atom) → length (tidied head atoms) ≢ length atoms → settled head (tidied head atoms) ≡ settled head atoms
settled_next head atoms d = by (length atoms) (tidied head atoms) (tidied_length head atoms) d ∙ sym (settled_once head atoms)
  where
    by : (n : ℕ) (ys : List Atom) → length ys ≤ n → length ys ≢ n → settled head ys ≡ tidied_times n head ys
    by n ys l d =
        let left : (k : ℕ) × ((length ys + 1) + k ≡ n) = (gap (length ys + 1) n (omega (arith, l, d))) in
        sym (ap (λ m. tidied_times m head ys) (sym left.1) ∙ times_more (length ys + 1) left.0 head ys ∙ stable left.0 head (settled head ys) (settles head ys))
      where
        gap : (m n : ℕ) → m ≤ n → (k : ℕ) × (m + k ≡ n)
        gap zero n l = (n, omega arith)
        gap (suc m) zero l = absurd (omega (arith, l))
        gap (suc m) (suc n) l = let r = gap m n (omega (arith, l)) in (r.0, omega (arith, r.1))

pub fewer : (head : List Arg) (atoms next : List Atom) → next ≡ tidied head atoms → length next ≢ length atoms → length next < length atoms
fewer head atoms next e d = omega (arith, d, ap length e, tidied_length head atoms)

pub goes_on : (head : List Arg) (atoms next : List Atom) → next ≡ tidied head atoms → length next ≢ length atoms → settled head next ≡ settled head atoms
goes_on head atoms next e d = ap (settled head) e ∙ settled_next head atoms (λ h. d (ap length e ∙ h))

pub ends : (head : List Arg) (atoms next : List Atom) → next ≡ tidied head atoms → length next ≡ length atoms → next ≡ settled head atoms
ends head atoms next e d = e ∙ sym (settled_here head atoms (sym (ap length e) ∙ d))

-- where no argument changes, no variable is lone
blank_no_var : (u : VarId) → Blank ≡ Var u → ⊥
blank_no_var u h = cc

cons_head : {X : Type 0} {x y : X} {xs ys : List X} → x ∷ xs ≡ y ∷ ys → x ≡ y
cons_head e = cc

cons_tail : {X : Type 0} {x y : X} {xs ys : List X} → x ∷ xs ≡ y ∷ ys → xs ≡ ys
cons_tail e = cc

lone_arg : (head : List Arg) (whole : List Atom) (v : VarId) → is_lone head whole v ≡ true → (x : Arg) → blank_arg head whole x ≡ x → occurs v x ≡ 0
lone_arg head whole v l Blank e = refl
lone_arg head whole v l (Fixed t) e = refl
lone_arg head whole v l (Var w) e =
    (elim (nat_eq w.0 v.0) as (λ b. nat_eq w.0 v.0 ≡ b → bit b ≡ 0) [
      | true ↦ (λ q.
          let same : is_lone head whole w ≡ true = ap (is_lone head whole) (same_number v w q) ∙ l in
          let no : Blank ≡ Var w = ap (λ b. if b then Blank else Var w) (sym same) ∙ e in
          absurd (blank_no_var w no))
      | false ↦ (λ q. refl)
    ]) refl

abbrev arg_or : Arg → Atom → Arg
arg_or z (InClass a x) = x
arg_or z (Linked p x y) = x

abbrev second_or : Arg → Atom → Arg
second_or z (InClass a x) = z
second_or z (Linked p x y) = y

lone_atom : (head : List Arg) (whole : List Atom) (v : VarId) → is_lone head whole v ≡ true → (a : Atom) → blank_atom head whole a ≡ a → atom_occurs v a ≡ 0
lone_atom head whole v l (InClass a x) e = lone_arg head whole v l x (ap (arg_or Blank) e)
lone_atom head whole v l (Linked p x y) e =
    omega (arith, lone_arg head whole v l x (ap (arg_or Blank) e), lone_arg head whole v l y (ap (second_or Blank) e))

lone_list : (head : List Arg) (whole : List Atom) (v : VarId) → is_lone head whole v ≡ true → (atoms : List Atom) → map (blank_atom head whole) atoms ≡ atoms → count v atoms ≡ 0
lone_list head whole v l [] e = refl
lone_list head whole v l (a ∷ atoms) e =
    omega (arith, lone_atom head whole v l a (cons_head e), lone_list head whole v l atoms (cons_tail e))

pos_of : (n : ℕ) → nat_eq n 0 ≡ false → 1 ≤ n
pos_of zero e = cc
pos_of (suc n) e = omega arith

lone_means : (head : List Arg) (atoms : List Atom) (v : VarId) → (1 ≤ head_count v head) ⊎ ((count v atoms ≢ 1) ⊎ (is_lone head atoms v ≡ true))
lone_means head atoms v =
    (elim (nat_eq (head_count v head) 0) as (λ b. nat_eq (head_count v head) 0 ≡ b → (1 ≤ head_count v head) ⊎ ((count v atoms ≢ 1) ⊎ ((b && nat_eq (count v atoms) 1) ≡ true))) [
      | true ↦ (λ h. (elim (nat_eq (count v atoms) 1) as (λ c. nat_eq (count v atoms) 1 ≡ c → (1 ≤ head_count v head) ⊎ ((count v atoms ≢ 1) ⊎ (c ≡ true))) [
        | true ↦ (λ q. inr (inr refl))
        | false ↦ (λ q. inr (inl (λ e. true_no_false (sym (eq-eqb (count v atoms) 1 e) ∙ q))))
      ]) refl)
      | false ↦ (λ h. inl (pos_of (head_count v head) h))
    ]) refl

fixed_no_lone : (head : List Arg) (atoms : List Atom) → tidied head atoms ≡ atoms → NoLoneVariable head atoms
fixed_no_lone head atoms e v =
    let same = same_length (blank_atom head atoms) atoms in
    let all = distinct_all (map (blank_atom head atoms) atoms) (ap length e ∙ sym same) in
    let fixed : map (blank_atom head atoms) atoms ≡ atoms = sym all ∙ e in
    elim (lone_means head atoms v) [
      | inl h ↦ inl h
      | inr q ↦ inr (elim q [
        | inl n ↦ n
        | inr l ↦ (λ one. absurd (omega (arith, one, lone_list head atoms v l atoms fixed)))
      ])
    ]

-- order keeps counts
put_count : (v : VarId) (a : Atom) (atoms : List Atom) → count v (put_in a atoms) ≡ atom_occurs v a + count v atoms
put_count v a [] = refl
put_count v a (b ∷ atoms) =
    elim (atom_le a b) as (λ t. count v (if t then a ∷ b ∷ atoms else b ∷ put_in a atoms) ≡ atom_occurs v a + (atom_occurs v b + count v atoms)) [
      | true ↦ refl
      | false ↦ omega (arith, put_count v a atoms)
    ]

pub order_count : (v : VarId) (atoms : List Atom) → count v (in_order atoms) ≡ count v atoms
order_count v [] = refl
order_count v (a ∷ atoms) = omega (arith, put_count v a (in_order atoms), order_count v atoms)

normal_no_lone : (q : Query) → NoLoneVariable (normal_form q).head (normal_form q).atoms
normal_no_lone q v =
    elim (fixed_no_lone q.head (settled q.head q.atoms) (settles q.head q.atoms) v) [
      | inl h ↦ inl h
      | inr n ↦ inr (λ e. n (sym (order_count v (settled q.head q.atoms)) ∙ e))
    ]

-- no atoms are added
times_length : (n : ℕ) (head : List Arg) (atoms : List Atom) → length (tidied_times n head atoms) ≤ length atoms
times_length zero head atoms = omega arith
times_length (suc n) head atoms = omega (arith, times_length n head (tidied head atoms), tidied_length head atoms)

put_length : (a : Atom) (atoms : List Atom) → length (put_in a atoms) ≡ suc (length atoms)
put_length a [] = refl
put_length a (b ∷ atoms) =
    elim (atom_le a b) as (λ t. length (if t then a ∷ b ∷ atoms else b ∷ put_in a atoms) ≡ suc (suc (length atoms))) [ true ↦ refl | false ↦ ap suc (put_length a atoms) ]

order_length : (atoms : List Atom) → length (in_order atoms) ≡ length atoms
order_length [] = refl
order_length (a ∷ atoms) = put_length a (in_order atoms) ∙ ap suc (order_length atoms)

pub normal_length : (q : Query) → length (normal_form q).atoms ≤ length q.atoms
normal_length q = omega (arith, order_length (settled q.head q.atoms), times_length (length q.atoms + 1) q.head q.atoms)

pub tidying_settles : TidyingSettles
tidying_settles = record { stays = settles; none_lone = normal_no_lone; no_longer = normal_length }
