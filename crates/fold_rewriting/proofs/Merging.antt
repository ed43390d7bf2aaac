-- The arguments beside a variable become one, computed and by the relation.
use Rattle.std.proofs.Common.{ℕ, zero, suc, ◌≡◌, refl, sym, ◌∙◌, ap, subst, ◌<◌, ◌+◌, ◌-◌, Bool, true, false, ◌||◌, List, [], ◌∷◌, map, drop, length, nat_eq, if◌then◌else◌, Option, Some, None, option_map, filter_map, slice_get, arith}
use Rattle.std.specs.List.{cons_option}
use Rattle.std.specs.Option.{option_and_then}
use Rattle.std.proofs.lemmas.Bool.{eqb-true}
use Rattle.std.proofs.lemmas.List.{length-map, drop-map}
use Rattle.std.proofs.lemmas.Option.{none-some, same_Some}
use Rattle.vocabulary.specs.declared.ids.ClassId.{ClassId}
use Rattle.vocabulary.specs.declared.ids.VarId.{VarId}
use Rattle.vocabulary.specs.Lists.{In, here, there}
use Rattle.vocabulary.proofs.Lists.{from_filter_map}
use Rattle.queries.specs.declared.query.Arg.{Arg}
use Rattle.queries.specs.declared.query.Arg.TheVariants.{Blank, Var, Fixed}
use Rattle.queries.specs.declared.query.Atom.{Atom}
use Rattle.queries.specs.declared.query.Atom.TheVariants.{InClass, Linked}
use Rattle.queries.specs.declared.query.Query.{Query}
use Rattle.queries.specs.declared.unify.Change.{Change}
use Rattle.queries.specs.declared.unify.Change.TheVariants.{Keep, Put}
use Rattle.queries.specs.declared.unify.Meeting.{Meeting}
use Rattle.queries.specs.Changes.{changed, changed_atom, Meets, blank_left, blank_right, same_var, left_lower, right_lower, var_left, var_right, same_fixed, AtomsMeet, class_meet, link_meet}
use Rattle.queries.specs.Unifying.{met, class_met}
use Rattle.queries.proofs.Uniting.{unifying_is_computed}
use Rattle.perfect_rewriting.specs.Reach.{query_at}
use Rattle.perfect_rewriting.proofs.Sound.{from_map}
use Rattle.fold_rewriting.specs.declared.cutting.Cut.{Cut}
use Rattle.fold_rewriting.specs.Cutting.{is_var, has_var, other_end, parent_in, changed_query, joined, taken, taken_at, merged}
use Rattle.fold_rewriting.specs.Folds.{MeetAll, met_none, met_one, changed_all, changed_atom_all}

-- arguments meet as atoms of one class do
abbrev meeting : Change → Arg → Meeting
meeting c z = record { change = c; arg = z }

abbrev some_class : ClassId
some_class = record { 0 = 0 }

pub mapped : {X Y : Type 0} (f : X → Y) (o : Option X) (y : Y) → option_map f o ≡ Some y → (x : X) × (o ≡ Some x) × (f x ≡ y)
mapped f None y h = cc
mapped f (Some x) y h = (x, refl, same_Some (f x) y h)

same_argument : {a b : ClassId} {x y : Arg} → InClass a x ≡ InClass b y → x ≡ y
same_argument e = cc

same_union : (a : ClassId) (m n : Meeting) → class_met a m ≡ class_met a n → m ≡ n
same_union a m n e =
    let c : m.change ≡ n.change = ap (λ u. u.first) e in
    let z : m.arg ≡ n.arg = same_argument (ap (λ u. u.atom) e) in
    λ i. record { change = c i; arg = z i }

pub met_of : {x y z : Arg} {c : Change} → Meets x y c z → met x y ≡ Some (meeting c z)
met_of {x} {y} {z} {c} r =
    let h = (unifying_is_computed.meets (InClass some_class x) (InClass some_class y) (class_met some_class (meeting c z))).0 (class_meet r) in
    let m = mapped (class_met some_class) (met x y) (class_met some_class (meeting c z)) h in
    m.1 ∙ ap Some (same_union some_class m.0 (meeting c z) m.2)

atoms_arguments : {a b m : Atom} {c e : Change} (k : ClassId) (x y z : Arg) → AtomsMeet a b c e m → a ≡ InClass k x → b ≡ InClass k y → m ≡ InClass k z → Meets x y c z
atoms_arguments k x y z (class_meet {x = x'} {y = y'} {z = z'} {c = c} r) h i j =
    subst (λ w. Meets w y c z) (same_argument h) (subst (λ w. Meets x' w c z) (same_argument i) (subst (λ w. Meets x' y' c w) (same_argument j) r))
atoms_arguments k x y z (link_meet r s) h i j = cc

pub of_met : (x y : Arg) (m : Meeting) → met x y ≡ Some m → Meets x y m.change m.arg
of_met x y m h =
    atoms_arguments some_class x y m.arg ((unifying_is_computed.meets (InClass some_class x) (InClass some_class y) (class_met some_class m)).1 (ap (option_map (class_met some_class)) h)) refl refl refl

-- a change leaves a variable alone
abbrev pub Avoids : VarId → Change → Type 0
Avoids v Keep = Unit {0}
Avoids v (Put w y) = (nat_eq w.0 v.0 ≡ false) × (is_var v y ≡ false)

abbrev pub AvoidAll : VarId → List Change → Type 0
AvoidAll v [] = Unit {0}
AvoidAll v (c ∷ cs) = Avoids v c × AvoidAll v cs

kept_var : (v : VarId) (c : Change) → Avoids v c → (x : Arg) → is_var v (changed c x) ≡ is_var v x
kept_var v Keep a x = refl
kept_var v (Put w y) a Blank = refl
kept_var v (Put w y) a (Fixed t) = refl
kept_var v (Put w y) a (Var u) =
    elim (nat_eq u.0 w.0) as (λ b. nat_eq u.0 w.0 ≡ b → is_var v (if b then y else Var u) ≡ nat_eq u.0 v.0) [
      | true ↦ λ e. a.1 ∙ sym (ap (λ n. nat_eq n v.0) (eqb-true u.0 w.0 e) ∙ a.0)
      | false ↦ λ e. refl
    ] refl

pub kept_atom : (v : VarId) (c : Change) → Avoids v c → (a : Atom) → has_var v (changed_atom c a) ≡ has_var v a
kept_atom v c h (InClass k x) = kept_var v c h x
kept_atom v c h (Linked p x y) = ap (λ b. b || is_var v (changed c y)) (kept_var v c h x) ∙ ap (λ b. is_var v x || b) (kept_var v c h y)

pub kept_all : (v : VarId) (cs : List Change) → AvoidAll v cs → (a : Atom) → has_var v (changed_atom_all cs a) ≡ has_var v a
kept_all v [] h a = refl
kept_all v (c ∷ cs) h a = kept_all v cs h.1 (changed_atom c a) ∙ kept_atom v c h.0 a

end_mapped : (b d : Bool) (f : Arg → Arg) (x y : Arg) → other_end b d (f x) (f y) ≡ option_map f (other_end b d x y)
end_mapped true true f x y = refl
end_mapped true false f x y = refl
end_mapped false true f x y = refl
end_mapped false false f x y = refl

kept_parent : (v : VarId) (c : Change) → Avoids v c → (a : Atom) → parent_in v (changed_atom c a) ≡ option_map (changed c) (parent_in v a)
kept_parent v c h (InClass k x) = refl
kept_parent v c h (Linked p x y) =
    ap (λ b. other_end b (is_var v (changed c y)) (changed c x) (changed c y)) (kept_var v c h x)
    ∙ ap (λ b. other_end (is_var v x) b (changed c x) (changed c y)) (kept_var v c h y) ∙ end_mapped (is_var v x) (is_var v y) (changed c) x y

-- the arguments beside the variable are not the variable
end_avoids : (v : VarId) (x y z : Arg) (b d : Bool) → is_var v x ≡ b → is_var v y ≡ d → other_end b d x y ≡ Some z → is_var v z ≡ false
end_avoids v x y z true true h k e = cc
end_avoids v x y z true false h k e = ap (is_var v) (sym (same_Some y z e)) ∙ k
end_avoids v x y z false true h k e = ap (is_var v) (sym (same_Some x z e)) ∙ h
end_avoids v x y z false false h k e = cc

pub parent_avoids : (v : VarId) (a : Atom) (z : Arg) → parent_in v a ≡ Some z → is_var v z ≡ false
parent_avoids v (InClass k x) z e = cc
parent_avoids v (Linked p x y) z e = end_avoids v x y z (is_var v x) (is_var v y) refl refl e

meets_avoid : (v : VarId) {x y z : Arg} {c : Change} → Meets x y c z → is_var v x ≡ false → is_var v y ≡ false → Avoids v c × (is_var v z ≡ false)
meets_avoid v blank_left h k = (tt, k)
meets_avoid v blank_right h k = (tt, h)
meets_avoid v (same_var e) h k = (tt, h)
meets_avoid v (left_lower l) h k = ((k, h), h)
meets_avoid v (right_lower l) h k = ((h, k), k)
meets_avoid v var_left h k = ((h, refl), refl)
meets_avoid v var_right h k = ((k, refl), refl)
meets_avoid v (same_fixed e) h k = (tt, refl)

-- the arguments beside a variable
abbrev pub parents : VarId → List Atom → List Arg
parents v atoms = filter_map (parent_in v) atoms

abbrev pub changed_by : List Change → Query → Query
changed_by cs q = query_at (map (changed_all cs) q.head) (map (changed_atom_all cs) q.atoms)

fused : {X : Type 0} (f g h : X → X) → ((x : X) → g (f x) ≡ h x) → (xs : List X) → map g (map f xs) ≡ map h xs
fused f g h e [] = refl
fused f g h e (x ∷ xs) = λ i. e x i ∷ fused f g h e xs i

keeps_atom : (a : Atom) → changed_atom Keep a ≡ a
keeps_atom (InClass k x) = refl
keeps_atom (Linked p x y) = refl

changed_first : (c : Change) (cs : List Change) (q : Query) → changed_by cs (changed_query c q) ≡ changed_by (c ∷ cs) q
changed_first Keep cs q = λ i. query_at (map (changed_all cs) q.head) (kept q.atoms i)
  where
    kept : (atoms : List Atom) → map (changed_atom_all cs) atoms ≡ map (changed_atom_all (Keep ∷ cs)) atoms
    kept [] = refl
    kept (a ∷ atoms) = λ i. changed_atom_all cs (sym (keeps_atom a) i) ∷ kept atoms i
changed_first (Put v y) cs q =
    λ i. query_at (fused (changed (Put v y)) (changed_all cs) (changed_all (Put v y ∷ cs)) (λ x. refl) q.head i) (fused (changed_atom (Put v y)) (changed_atom_all cs) (changed_atom_all (Put v y ∷ cs)) (λ x. refl) q.atoms i)

unchanged : {X : Type 0} (f : X → X) → ((x : X) → f x ≡ x) → (xs : List X) → map f xs ≡ xs
unchanged f e [] = refl
unchanged f e (x ∷ xs) = λ i. e x i ∷ unchanged f e xs i

changed_atoms : (c : Change) (q : Query) → (changed_query c q).atoms ≡ map (changed_atom c) q.atoms
changed_atoms Keep q = sym (unchanged (changed_atom Keep) keeps_atom q.atoms)
changed_atoms (Put v y) q = refl

cons_mapped : {X Y : Type 0} (f : X → Y) (o : Option X) (xs : List X) → cons_option (option_map f o) (map f xs) ≡ map f (cons_option o xs)
cons_mapped f None xs = refl
cons_mapped f (Some x) xs = refl

parents_changed : (v : VarId) (c : Change) → Avoids v c → (atoms : List Atom) → parents v (map (changed_atom c) atoms) ≡ map (changed c) (parents v atoms)
parents_changed v c h [] = refl
parents_changed v c h (a ∷ atoms) =
    ap (λ o. cons_option o (parents v (map (changed_atom c) atoms))) (kept_parent v c h a) ∙ ap (cons_option (option_map (changed c) (parent_in v a))) (parents_changed v c h atoms) ∙ cons_mapped (changed c) (parent_in v a) (parents v atoms)

-- the first of the arguments, and the others
no_more : {z w : Arg} {xs : List Arg} {cs : List Change} → MeetAll z xs cs w → xs ≡ [] → (cs ≡ []) × (z ≡ w)
no_more met_none e = (refl, refl)
no_more (met_one m r) e = cc

same_first : {x y : Arg} {xs ys : List Arg} → x ∷ xs ≡ y ∷ ys → x ≡ y
same_first e = cc

same_others : {x y : Arg} {xs ys : List Arg} → x ∷ xs ≡ y ∷ ys → xs ≡ ys
same_others e = cc

record First (z x : Arg) (xs : List Arg) (cs : List Change) (w : Arg) : Type 0 where
  c : Change
  u : Arg
  more : List Change
  meets : Meets z x c u
  others : MeetAll u (map (changed c) xs) more w
  parts : cs ≡ c ∷ more

first_met : {z w : Arg} {ys : List Arg} {cs : List Change} (x : Arg) (xs : List Arg) → MeetAll z ys cs w → ys ≡ x ∷ xs → First z x xs cs w
first_met x xs met_none e = cc
first_met {z = z} {w = w} x xs (met_one {z' = u} {c = c} {cs = more} m r) e = record {
  c = c;
  u = u;
  more = more;
  meets = subst (λ y. Meets z y c u) (same_first e) m;
  others = subst (λ ys. MeetAll u (map (changed c) ys) more w) (same_others e) r;
  parts = refl;
}

pub at_place : {X : Type 0} (xs : List X) (n : ℕ) → n < length xs → (x : X) × (slice_get xs n ≡ Some x) × (drop n xs ≡ x ∷ drop (suc n) xs)
at_place [] n l = absurd (omega (arith, l))
at_place (x ∷ xs) zero l = (x, refl, refl)
at_place (x ∷ xs) (suc n) l = at_place xs n (omega (arith, l))

-- one atom after the other
module _ (v : VarId) (q : Query) where
  pub merged_none : (k n end : ℕ) → n + k ≡ end → merged v q n ≡ None → merged v q end ≡ None
  merged_none zero n end e h = let same : n ≡ end = omega (arith, e) in subst (λ m. merged v q m ≡ None) same h
  merged_none (suc k) n end e h = merged_none k (suc n) end (omega (arith, e)) (ap (option_and_then (taken_at v n)) h)

  next : (n : ℕ) (c : Cut) (a : Atom) (o : Option Arg) → merged v q n ≡ Some c → slice_get c.query.atoms n ≡ Some a → parent_in v a ≡ o → merged v q (suc n) ≡ taken c o
  next n c a o h at p = ap (option_and_then (taken_at v n)) h ∙ ap (option_and_then (λ b. taken c (parent_in v b))) at ∙ ap (taken c) p

  -- from one place to the end
  pub record From (n : ℕ) (c e : Cut) : Type 0 where
    pub changes : List Change
    pub meets : MeetAll c.parent (parents v (drop n c.query.atoms)) changes e.parent
    pub query : e.query ≡ changed_by changes c.query
    pub avoids : AvoidAll v changes

  joined_length : (c : Cut) (m : Meeting) → length (joined c m).query.atoms ≡ length c.query.atoms
  joined_length c m = ap length (changed_atoms m.change c.query) ∙ length-map c.query.atoms (changed_atom m.change)

  joined_parents : (n : ℕ) (c : Cut) (m : Meeting) → Avoids v m.change → parents v (drop n (joined c m).query.atoms) ≡ map (changed m.change) (parents v (drop n c.query.atoms))
  joined_parents n c m h =
      ap (λ xs. parents v (drop n xs)) (changed_atoms m.change c.query) ∙ ap (parents v) (drop-map (changed_atom m.change) n c.query.atoms) ∙ parents_changed v m.change h (drop n c.query.atoms)

  past_end : {X : Type 0} (xs : List X) (n : ℕ) → n ≡ length xs → drop n xs ≡ []
  past_end [] n e = rw e
  past_end (x ∷ xs) zero e = absurd (omega (arith, e))
  past_end (x ∷ xs) (suc n) e = past_end xs n (omega (arith, e))

  itself : (p : Query) → changed_by [] p ≡ p
  itself p = λ i. query_at (unchanged (changed_all []) (λ x. refl) p.head i) (unchanged (changed_atom_all []) (λ a. refl) p.atoms i)

  ended : (n : ℕ) (c : Cut) → n ≡ length c.query.atoms → From n c c
  ended n c l = record {
    changes = [];
    meets = subst (λ xs. MeetAll c.parent (parents v xs) [] c.parent) (sym (past_end c.query.atoms n l)) met_none;
    query = sym (itself c.query);
    avoids = tt;
  }

  -- what stands at a place comes before the rest
  split_parents : (n : ℕ) (c : Cut) (a : Atom) (o : Option Arg) → drop n c.query.atoms ≡ a ∷ drop (suc n) c.query.atoms → parent_in v a ≡ o → parents v (drop n c.query.atoms) ≡ cons_option o (parents v (drop (suc n) c.query.atoms))
  split_parents n c a o d p = ap (parents v) d ∙ ap (λ x. cons_option x (parents v (drop (suc n) c.query.atoms))) p

  passed_over : (n : ℕ) (c e : Cut) (a : Atom) → drop n c.query.atoms ≡ a ∷ drop (suc n) c.query.atoms → parent_in v a ≡ None → From (suc n) c e → From n c e
  passed_over n c e a d p f = record {
    changes = f.changes;
    meets = subst (λ xs. MeetAll c.parent xs f.changes e.parent) (sym (split_parents n c a None d p)) f.meets;
    query = f.query;
    avoids = f.avoids;
  }

  taken_in : (n : ℕ) (c e : Cut) (a : Atom) (x : Arg) (m : Meeting) → drop n c.query.atoms ≡ a ∷ drop (suc n) c.query.atoms → parent_in v a ≡ Some x → met c.parent x ≡ Some m → Avoids v m.change → From (suc n) (joined c m) e → From n c e
  taken_in n c e a x m d p h avoids f = record {
    changes = m.change ∷ f.changes;
    meets = subst (λ xs. MeetAll c.parent xs (m.change ∷ f.changes) e.parent) (sym (split_parents n c a (Some x) d p))
        (met_one (of_met c.parent x m h) (subst (λ xs. MeetAll m.arg xs f.changes e.parent) (joined_parents (suc n) c m avoids) f.meets));
    query = f.query ∙ changed_first m.change f.changes c.query;
    avoids = (avoids, f.avoids);
  }

  -- one atom, where the rest is known
  sound_at : (n : ℕ) (c e : Cut) (a : Atom) → slice_get c.query.atoms n ≡ Some a → drop n c.query.atoms ≡ a ∷ drop (suc n) c.query.atoms → merged v q n ≡ Some c → is_var v c.parent ≡ false →
      ((c' : Cut) → length c'.query.atoms ≡ length c.query.atoms → merged v q (suc n) ≡ Some c' → is_var v c'.parent ≡ false → From (suc n) c' e) → (merged v q (suc n) ≡ None → ⊥) →
      (o : Option Arg) → parent_in v a ≡ o → From n c e
  sound_at n c e a is front h none more never None p = passed_over n c e a front p (more c refl (next n c a None h is p) none)
  sound_at n c e a is front h none more never (Some x) p = meet (met c.parent x) refl
    where
      meet : (o : Option Meeting) → met c.parent x ≡ o → From n c e
      meet None r = absurd (never (next n c a (Some x) h is p ∙ ap (option_map (joined c)) r))
      meet (Some m) r =
          let avoids = meets_avoid v (of_met c.parent x m r) none (parent_avoids v a x p) in
          taken_in n c e a x m front p r avoids.0 (more (joined c m) (joined_length c m) (next n c a (Some x) h is p ∙ ap (option_map (joined c)) r) avoids.1)

  pub sound : (k n end : ℕ) (c e : Cut) → n + k ≡ end → end ≡ length c.query.atoms → merged v q n ≡ Some c → is_var v c.parent ≡ false → merged v q end ≡ Some e → From n c e
  sound zero n end c e l t h none last =
      let at_end : n ≡ end = omega (arith, l) in
      let same : c ≡ e = same_Some c e (sym h ∙ ap (merged v q) at_end ∙ last) in
      subst (From n c) same (ended n c (omega (arith, l, t)))
  sound (suc k) n end c e l t h none last =
      let p = at_place c.query.atoms n (omega (arith, l, t)) in
      sound_at n c e p.0 p.1 p.2 h none
      (λ c' t' h' none'. sound k (suc n) end c' e (omega (arith, l)) (t ∙ sym t') h' none' last)
      (λ z. none-some e (sym (merged_none k (suc n) end (omega (arith, l)) z) ∙ last))
      (parent_in v p.0) refl

  complete_at : (n end : ℕ) (c : Cut) (a : Atom) {cs : List Change} {w : Arg} → slice_get c.query.atoms n ≡ Some a → drop n c.query.atoms ≡ a ∷ drop (suc n) c.query.atoms → merged v q n ≡ Some c → is_var v c.parent ≡ false →
      ((c' : Cut) (cs' : List Change) → length c'.query.atoms ≡ length c.query.atoms → merged v q (suc n) ≡ Some c' → is_var v c'.parent ≡ false → MeetAll c'.parent (parents v (drop (suc n) c'.query.atoms)) cs' w →
      merged v q end ≡ Some (record { query = changed_by cs' c'.query; parent = w })) →
      MeetAll c.parent (parents v (drop n c.query.atoms)) cs w → (o : Option Arg) → parent_in v a ≡ o → merged v q end ≡ Some (record { query = changed_by cs c.query; parent = w })
  complete_at n end c a {cs} {w} is front h none more meets None p = more c cs refl (next n c a None h is p) none (subst (λ xs. MeetAll c.parent xs cs w) (split_parents n c a None front p) meets)
  complete_at n end c a {cs} {w} is front h none more meets (Some x) p =
      let f = first_met x (parents v (drop (suc n) c.query.atoms)) meets (split_parents n c a (Some x) front p) in
      let avoids = meets_avoid v f.meets none (parent_avoids v a x p) in
      let m = meeting f.c f.u in
      let r = more (joined c m) f.more (joined_length c m) (next n c a (Some x) h is p ∙ ap (option_map (joined c)) (met_of f.meets)) avoids.1
      (subst (λ xs. MeetAll f.u xs f.more w) (sym (joined_parents (suc n) c m avoids.0)) f.others) in
      let e : changed_by f.more (changed_query f.c c.query) ≡ changed_by cs c.query = changed_first f.c f.more c.query ∙ ap (λ ds. changed_by ds c.query) (sym f.parts) in
      r ∙ (λ i. Some (record { query = e i; parent = w }))

  pub complete : (k n end : ℕ) (c : Cut) (cs : List Change) (w : Arg) → n + k ≡ end → end ≡ length c.query.atoms → merged v q n ≡ Some c → is_var v c.parent ≡ false → MeetAll c.parent (parents v (drop n c.query.atoms)) cs w →
      merged v q end ≡ Some (record { query = changed_by cs c.query; parent = w })
  complete zero n end c cs w l t h none meets =
      let z = no_more meets (ap (parents v) (past_end c.query.atoms n (omega (arith, l, t)))) in
      let same : end ≡ n = omega (arith, l) in
      let at_end : merged v q end ≡ Some c = ap (merged v q) same ∙ h in
      let e : c.query ≡ changed_by cs c.query = sym (itself c.query) ∙ ap (λ ds. changed_by ds c.query) (sym z.0) in
      at_end ∙ (λ i. Some (record { query = e i; parent = z.1 i }))
  complete (suc k) n end c cs w l t h none meets =
      let p = at_place c.query.atoms n (omega (arith, l, t)) in
      complete_at n end c p.0 p.1 p.2 h none
      (λ c' cs' t' h' none' meets'. complete k (suc n) end c' cs' w (omega (arith, l)) (t ∙ sym t') h' none' meets')
      meets (parent_in v p.0) refl

  -- as the loop goes on
  taken_length : (c c' : Cut) (o : Option Arg) → taken c o ≡ Some c' → length c'.query.atoms ≡ length c.query.atoms
  taken_length c c' None h = ap (λ z. length z.query.atoms) (sym (same_Some c c' h))
  taken_length c c' (Some x) h = let m = mapped (joined c) (met c.parent x) c' h in ap (λ z. length z.query.atoms) (sym m.2) ∙ joined_length c m.0

  pub merge_on : (n : ℕ) (c c' : Cut) (o : Option Cut) → n < length q.atoms → merged v q n ≡ Some c → length c.query.atoms ≡ length q.atoms → o ≡ taken_at v n c → o ≡ Some c' → (merged v q (n + 1) ≡ Some c') × (length c'.query.atoms ≡ length q.atoms)
  merge_on n c c' o l h long made is =
      let p = at_place c.query.atoms n (omega (arith, l, long)) in
      let t : taken c (parent_in v p.0) ≡ Some c' = sym (ap (option_and_then (λ b. taken c (parent_in v b))) p.1) ∙ sym made ∙ is in
      let one : n + 1 ≡ suc n = omega arith in
      (ap (merged v q) one ∙ ap (option_and_then (taken_at v n)) h ∙ sym made ∙ is, taken_length c c' (parent_in v p.0) t ∙ long)

  pub merge_stops : (n : ℕ) (c : Cut) (o : Option Cut) → n < length q.atoms → merged v q n ≡ Some c → o ≡ taken_at v n c → o ≡ None → None ≡ merged v q (length q.atoms)
  merge_stops n c o l h made is = sym (merged_none (length q.atoms - suc n) (suc n) (length q.atoms) (omega (arith, l)) (ap (option_and_then (taken_at v n)) h ∙ sym made ∙ is))

-- over all atoms
pub record Merged (v : VarId) (q : Query) (e : Cut) : Type 0 where
  pub changes : List Change
  pub meets : MeetAll Blank (parents v q.atoms) changes e.parent
  pub query : e.query ≡ changed_by changes q
  pub avoids : AvoidAll v changes

pub merged_sound : (v : VarId) (q : Query) (e : Cut) → merged v q (length q.atoms) ≡ Some e → Merged v q e
merged_sound v q e h =
    let f = sound v q (length q.atoms) 0 (length q.atoms) (record { query = q; parent = Blank }) e (omega arith) refl refl refl h in
    record { changes = f.changes; meets = f.meets; query = f.query; avoids = f.avoids }

pub merged_complete : (v : VarId) (q : Query) {cs : List Change} {w : Arg} → MeetAll Blank (parents v q.atoms) cs w → merged v q (length q.atoms) ≡ Some (record { query = changed_by cs q; parent = w })
merged_complete v q {cs} {w} meets = complete v q (length q.atoms) 0 (length q.atoms) (record { query = q; parent = Blank }) cs w (omega arith) refl refl refl meets

meet_all_avoid : (v : VarId) {z w : Arg} {xs : List Arg} {cs : List Change} → MeetAll z xs cs w → is_var v z ≡ false → ((x : Arg) → In x xs → is_var v x ≡ false) → AvoidAll v cs
meet_all_avoid v met_none h k = tt
meet_all_avoid v (met_one {x = x} {xs = xs} {c = c} m r) h k =
    let a = meets_avoid v m h (k x (here refl)) in
    (a.0, meet_all_avoid v r a.1 (λ y i. let o = from_map (changed c) xs i in ap (is_var v) (sym o.2) ∙ kept_var v c a.0 o.0 ∙ k o.0 (there o.1)))

-- the changes leave the variable alone
pub parents_avoid : (v : VarId) (atoms : List Atom) {cs : List Change} {w : Arg} → MeetAll Blank (parents v atoms) cs w → AvoidAll v cs
parents_avoid v atoms meets = meet_all_avoid v meets refl (λ x m. let f = from_filter_map (parent_in v) atoms m in parent_avoids v f.0 x f.2)
