-- The fold steps as the functions add them.
use Rattle.std.proofs.Common.{ℕ, zero, suc, ◌≡◌, ◌↔◌, refl, sym, ◌∙◌, ap, subst, ◌≤◌, ◌<◌, ◌+◌, Bool, true, false, not, cond, List, [], ◌∷◌, ◌++◌, map, take, length, get_or, append_assoc, Option, Some, None, slice_get, MatchOption, arith}
use Rattle.std.proofs.lemmas.Bool.{false≢true}
use Rattle.std.proofs.lemmas.List.{length-map, map_more, nil_from_length}
use Rattle.std.proofs.lemmas.Option.{none-some, same_Some, slice_get_within, slice_get_read, get_or_from_slice_get}
use Rattle.vocabulary.specs.declared.ids.LinkId.{LinkId}
use Rattle.vocabulary.specs.declared.ids.VarId.{VarId}
use Rattle.vocabulary.specs.declared.ids.Dir.{Dir}
use Rattle.vocabulary.specs.Lists.{In, IsListOf}
use Rattle.dllite_axioms.specs.declared.axioms.Basic.{Basic}
use Rattle.dllite_axioms.specs.declared.axioms.Basic.TheVariants.{Has}
use Rattle.dllite_axioms.specs.declared.axioms.Axiom.{Axiom}
use Rattle.dllite_axioms.specs.declared.axioms.Axiom.TheVariants.{Sub}
use Rattle.queries.specs.declared.query.Arg.{Arg}
use Rattle.queries.specs.declared.query.Arg.TheVariants.{Blank, Var, Fixed}
use Rattle.queries.specs.declared.query.Atom.{Atom}
use Rattle.queries.specs.declared.query.Query.{Query}
use Rattle.negative_closure.specs.Order.{basic_cmp}
use Rattle.fold_rewriting.specs.declared.cutting.Cut.{Cut}
use Rattle.fold_rewriting.specs.Cutting.{has_var, without, cut_blank, cut_of}
use Rattle.fold_rewriting.specs.Folds.{changed_all, changed_atom_all}
use Rattle.fold_rewriting.specs.Found.{AreBorn, IsFree, IsCut, AreAdded, IsBy, told}
use Rattle.fold_rewriting.specs.Places.{arg_at, beside}
use Rattle.fold_rewriting.proofs.Bearing.{once_basics}
use Rattle.fold_rewriting.proofs.Gathering.{Found, added_lefts, added_no_lefts}
use Rattle.fold_rewriting.proofs.Shaping.{picks_length}
use Rattle.fold_rewriting.proofs.Telling.{pick_at, var_cut}
use Rattle.fold_rewriting.proofs.Variables.{at_end_in}

-- what the code reads at a place is what stands there
pub atom_read : (q : Query) (i : ℕ) (e : Dir) (free : IsFree q i e) (xs : List Atom) (a : Atom) → xs ≡ q.atoms → a ≡ get_or xs i a → free.atom ≡ a
atom_read q i e free xs a same read = sym (get_or_from_slice_get q.atoms i free.atom a free.is) ∙ sym (read ∙ ap (λ ys. get_or ys i a) same)

pub arg_read : (q : Query) (i : ℕ) (e : Dir) (free : IsFree q i e) (a : Atom) (x : Arg) → free.atom ≡ a → Some x ≡ arg_at a e → free.arg ≡ x
arg_read q i e free a x same read = same_Some free.arg x (sym free.stands ∙ ap (λ b. arg_at b e) same ∙ sym read)

module _ (axioms : List Axiom) (birth : LinkId × Dir) (q : Query) (i : ℕ) (e : Dir) (free : IsFree q i e) where
  same_atom : (other : IsFree q i e) → other.atom ≡ free.atom
  same_atom other = same_Some other.atom free.atom (sym other.is ∙ free.is)

  same_arg : (other : IsFree q i e) → other.arg ≡ free.arg
  same_arg other = same_Some other.arg free.arg (sym other.stands ∙ ap (λ b. arg_at b e) (same_atom other) ∙ free.stands)

  pub unborn : (AreBorn axioms birth.0 birth.1 q free.atom e free.arg → ⊥) → (c : Cut) → IsCut axioms birth q i e c → ⊥
  unborn none c is =
      none (subst (AreBorn axioms birth.0 birth.1 q free.atom e) (same_arg is.spot) (subst (λ b. AreBorn axioms birth.0 birth.1 q b e is.spot.arg) (same_atom is.spot) is.born))

  cut_read : (c : Cut) → IsCut axioms birth q i e c → cut_of q i (beside free.atom e) free.arg ≡ Some c
  cut_read c is = (λ j. cut_of q i (beside (sym (same_atom is.spot) j) e) (sym (same_arg is.spot) j)) ∙ is.rest

  pub is_cut : AreBorn axioms birth.0 birth.1 q free.atom e free.arg → (o : Option Cut) → o ≡ cut_of q i (beside free.atom e) free.arg → MatchOption o ((c : Cut) → IsCut axioms birth q i e c → ⊥) (IsCut axioms birth q i e)
  is_cut born None h = λ c is. none-some c (h ∙ cut_read c is)
  is_cut born (Some c) h = record { spot = free; born = born; rest = sym h }

  pub is_cut_at : (a : Atom) (x : Arg) → free.atom ≡ a → free.arg ≡ x → AreBorn axioms birth.0 birth.1 q a e x → (o : Option Cut) → o ≡ cut_of q i (beside a e) x → MatchOption o ((c : Cut) → IsCut axioms birth q i e c → ⊥) (IsCut axioms birth q i e)
  is_cut_at a x h k born o made =
      is_cut (subst (AreBorn axioms birth.0 birth.1 q free.atom e) (sym k) (subst (λ b. AreBorn axioms birth.0 birth.1 q b e x) (sym h) born)) o (made ∙ (λ j. cut_of q i (beside (sym h j) e) (sym k j)))

  pub unborn_at : (a : Atom) (x : Arg) (b : Bool) → free.atom ≡ a → free.arg ≡ x → (b ≡ true) ↔ AreBorn axioms birth.0 birth.1 q a e x → b ≡ false → (c : Cut) → IsCut axioms birth q i e c → ⊥
  unborn_at a x b h k test no' =
      unborn (λ born. false≢true (sym no' ∙ test.1 (subst (AreBorn axioms birth.0 birth.1 q a e) k (subst (λ y. AreBorn axioms birth.0 birth.1 q y e free.arg) h born))))

  pub no_arg : (a : Atom) → free.atom ≡ a → None ≡ arg_at a e → (c : Cut) → IsCut axioms birth q i e c → ⊥
  no_arg a h none c is = none-some free.arg (none ∙ ap (λ b. arg_at b e) (sym h) ∙ free.stands)

pub place_read : (q : Query) (i : ℕ) (xs : List Atom) (a : Atom) → xs ≡ q.atoms → i < length q.atoms → a ≡ get_or xs i a → slice_get q.atoms i ≡ Some a
place_read q i xs a same l read = slice_get_read q.atoms (length q.atoms) i a refl l (read ∙ ap (λ ys. get_or ys i a) same)

-- how long it is
without_length : (v : VarId) (atoms : List Atom) → length (without v atoms) ≤ length atoms
without_length v [] = omega arith
without_length v (a ∷ atoms) = either (not (has_var v a)) a (without v atoms) (length atoms) (without_length v atoms)
  where
    either : (b : Bool) (a : Atom) (xs : List Atom) (n : ℕ) → length xs ≤ n → length (cond b (a ∷ xs) xs) ≤ suc n
    either true a xs n l = omega (arith, l)
    either false a xs n l = omega (arith, l)

one_less : (v : VarId) (atoms : List Atom) (i : ℕ) (a : Atom) → slice_get atoms i ≡ Some a → has_var v a ≡ true → length (without v atoms) + 1 ≤ length atoms
one_less v [] i a is h = cc
one_less v (b ∷ atoms) zero a is h =
    let e : has_var v b ≡ true = ap (has_var v) (same_Some b a is) ∙ h in
    let k : length (without v (b ∷ atoms)) ≡ length (without v atoms) = ap (λ t. length (cond (not t) (b ∷ without v atoms) (without v atoms))) e in
    omega (arith, k, without_length v atoms)
one_less v (b ∷ atoms) (suc i) a is h = either (not (has_var v b)) b (without v atoms) (length atoms) (one_less v atoms i a is h)
  where
    either : (t : Bool) (b : Atom) (xs : List Atom) (n : ℕ) → length xs + 1 ≤ n → length (cond t (b ∷ xs) xs) + 1 ≤ suc n
    either true b xs n l = omega (arith, l)
    either false b xs n l = omega (arith, l)

pub record Shorter (q : Query) (c : Cut) : Type 0 where
  pub head : length c.query.head ≡ length q.head
  pub atoms : length c.query.atoms + 1 ≤ length q.atoms

shorter_by : (q : Query) (i : ℕ) (e : Dir) (a : Atom) (z x : Arg) (c : Cut) → slice_get q.atoms i ≡ Some a → arg_at a e ≡ Some x → cut_of q i z x ≡ Some c → Shorter q c
shorter_by q i e a z Blank c is at h =
    subst (Shorter q) (same_Some (cut_blank q i z) c h) (record { head = refl; atoms = omega (arith, picks_length (pick_at q.atoms i a is)) })
shorter_by q i e a z (Var v) c is at h =
    let r = var_cut v q c h in
    record {
      head = ap length r.head ∙ length-map q.head (changed_all r.changes);
      atoms = omega (arith, ap length r.atoms, length-map (without v q.atoms) (changed_atom_all r.changes), one_less v q.atoms i a is (at_end_in v a e at));
    }
shorter_by q i e a z (Fixed t) c is at h = absurd (none-some c h)

pub shorter : {axioms : List Axiom} (birth : LinkId × Dir) (q : Query) (i : ℕ) (e : Dir) (c : Cut) → IsCut axioms birth q i e c → Shorter q c
shorter birth q i e c is = shorter_by q i e is.spot.atom (beside is.spot.atom e) is.spot.arg c is.spot.is is.spot.stands is.rest

pub place_within : (q : Query) (i : ℕ) (e : Dir) → IsFree q i e → i < length q.atoms
place_within q i e free = slice_get_within q.atoms i free.atom free.is

-- the left sides
pub folds_more : (birth : LinkId × Dir) (i : ℕ) (e : Dir) (c : Cut) (lefts : List Basic) (n : ℕ) (d : Basic) (old mid new : List Found) (item : Found) → n < length lefts → mid ≡ old ++ map (told birth i e c) (take n lefts) →
    item ≡ told birth i e c (get_or lefts n d) → new ≡ mid ++ item ∷ [] → new ≡ old ++ map (told birth i e c) (take (n + 1) lefts)
folds_more birth i e c lefts n d old mid new item within before made more =
    more ∙ ap {A = List Found} (λ xs. xs ++ item ∷ []) before ∙ append_assoc {A = Found} old (map (told birth i e c) (take n lefts)) (item ∷ [])
    ∙ (λ j. old ++ (map (told birth i e c) (take n lefts) ++ made j ∷ [])) ∙ ap {A = List Found} (λ xs. old ++ xs) (sym (map_more (told birth i e c) lefts n d within))

module _ (axioms : List Axiom) (q : Query) (birth : LinkId × Dir) (i : ℕ) (e : Dir) (lefts : List Basic) (listed : IsListOf basic_cmp (λ x. In (Sub x (Has birth.0 birth.1)) axioms) lefts) where
  pub with_lefts : (c : Cut) (old new : List Found) → IsCut axioms birth q i e c → new ≡ old ++ map (told birth i e c) lefts → AreAdded (IsBy birth i e) axioms q old new
  with_lefts c old new cut made =
      added_lefts axioms q birth i e c lefts old new cut (once_basics (λ x. In (Sub x (Has birth.0 birth.1)) axioms) lefts listed) (λ x. (listed.each x, listed.all x)) made

  pub without_lefts : (old : List Found) → length lefts ≡ 0 → AreAdded (IsBy birth i e) axioms q old old
  without_lefts old l = added_no_lefts axioms q birth i e old (λ x m. none (subst (In x) (nil_from_length lefts l) (listed.all x m)))
    where
      none : {x : Basic} → In x [] → ⊥
      none m = elim m [ ]
