-- Fold steps as they are told, as they are found, and as the relation has them.
use Rattle.std.proofs.Common.{ℕ, zero, suc, ◌≡◌, ◌↔◌, refl, sym, ◌∙◌, ap, subst, ◌≤◌, Bool, true, false, not, cond, List, [], ◌∷◌, map, take, length, Some, option_map, slice_get, arith}
use Rattle.std.specs.List.{list_any, remove}
use Rattle.std.proofs.lemmas.Bool.{and_parts, and_from, not-true, not_from_false, false≢true}
use Rattle.std.proofs.lemmas.Option.{none-some, same_Some}
use Rattle.vocabulary.specs.declared.ids.VarId.{VarId}
use Rattle.vocabulary.specs.declared.ids.Dir.{Dir}
use Rattle.vocabulary.specs.Lists.{In, here, there, Picks, first, later}
use Rattle.dllite_axioms.specs.declared.axioms.Basic.TheVariants.{Has}
use Rattle.dllite_axioms.specs.declared.axioms.Axiom.{Axiom}
use Rattle.dllite_axioms.specs.declared.axioms.Axiom.TheVariants.{Sub}
use Rattle.queries.specs.declared.query.Arg.{Arg}
use Rattle.queries.specs.declared.query.Arg.TheVariants.{Blank, Var, Fixed}
use Rattle.queries.specs.declared.query.Atom.{Atom}
use Rattle.queries.specs.declared.query.Query.{Query}
use Rattle.queries.specs.declared.unify.Change.{Change}
use Rattle.queries.specs.Normal.{normal_form}
use Rattle.queries.specs.Occurrences.{atom_occurs, count}
use Rattle.perfect_rewriting.specs.Reach.{query_at}
use Rattle.perfect_rewriting.specs.Steps.{atom_of}
use Rattle.fold_rewriting.specs.declared.cutting.Cut.{Cut}
use Rattle.fold_rewriting.specs.declared.steps.FoldStep.{FoldStep as Told}
use Rattle.fold_rewriting.specs.Cutting.{is_var, has_var, without, merged, left_out, cut_blank, cut_of, is_free, folded}
use Rattle.fold_rewriting.specs.Folds.{MeetAll, changed_all, changed_atom_all, FoldStep, fold_var, fold_blank}
use Rattle.fold_rewriting.specs.Found.{IsPart, AreBorn, IsFound}
use Rattle.fold_rewriting.specs.Places.{arg_at, beside, IsBorn}
use Rattle.fold_rewriting.specs.Steps.{IsFirst, FoldAt, at_var, at_blank, IsFold}
use Rattle.fold_rewriting.proofs.Merging.{mapped, parents, AvoidAll, kept_all, changed_by, merged_sound, merged_complete, parents_avoid}
use Rattle.fold_rewriting.proofs.Parting.{parts_are, make_parts, blank_is, make_blank}
use Rattle.fold_rewriting.proofs.Variables.{none_in_head, head_has_none, none_in_atoms, atoms_have_none, not_in, in_not, at_end_in, in_at_end}

pub place_in : {X : Type 0} (xs : List X) (i : ℕ) {x : X} → slice_get xs i ≡ Some x → In x xs
place_in [] i h = cc
place_in (y ∷ xs) zero h = here (same_Some y _ h)
place_in (y ∷ xs) (suc i) h = there (place_in xs i h)

-- the atoms of a variable stay its atoms where a change leaves it alone
without_changed : (v : VarId) (cs : List Change) → AvoidAll v cs → (atoms : List Atom) → without v (map (changed_atom_all cs) atoms) ≡ map (changed_atom_all cs) (without v atoms)
without_changed v cs h [] = refl
without_changed v cs h (a ∷ atoms) =
    ap (λ b. cond (not b) (changed_atom_all cs a ∷ without v (map (changed_atom_all cs) atoms)) (without v (map (changed_atom_all cs) atoms))) (kept_all v cs h a)
    ∙ ap (λ ys. cond (not (has_var v a)) (changed_atom_all cs a ∷ ys) ys) (without_changed v cs h atoms)
    ∙ either (not (has_var v a)) a (without v atoms)
  where
    either : (b : Bool) (a : Atom) (xs : List Atom) → cond b (changed_atom_all cs a ∷ map (changed_atom_all cs) xs) (map (changed_atom_all cs) xs) ≡ map (changed_atom_all cs) (cond b (a ∷ xs) xs)
    either true a xs = refl
    either false a xs = refl

-- what is left of a query where a variable is folded
pub record VarCut (v : VarId) (q : Query) (c : Cut) : Type 0 where
  pub changes : List Change
  pub meets : MeetAll Blank (parents v q.atoms) changes c.parent
  pub head : c.query.head ≡ map (changed_all changes) q.head
  pub atoms : c.query.atoms ≡ map (changed_atom_all changes) (without v q.atoms)

pub var_cut : (v : VarId) (q : Query) (c : Cut) → option_map (left_out v) (merged v q (length q.atoms)) ≡ Some c → VarCut v q c
var_cut v q c h =
    let m = mapped (left_out v) (merged v q (length q.atoms)) c h in
    let r = merged_sound v q m.0 m.1 in
    subst (VarCut v q) m.2 (record {
      changes = r.changes;
      meets = r.meets;
      head = ap (λ z. z.head) r.query;
      atoms = ap (λ z. without v z.atoms) r.query ∙ without_changed v r.changes r.avoids q.atoms;
    })

pub made_cut : (v : VarId) (q : Query) (cs : List Change) (w : Arg) → MeetAll Blank (parents v q.atoms) cs w →
    (c : Cut) × (option_map (left_out v) (merged v q (length q.atoms)) ≡ Some c) × (c ≡ record { query = query_at (map (changed_all cs) q.head) (map (changed_atom_all cs) (without v q.atoms)); parent = w })
made_cut v q cs w meets =
    let h = merged_complete v q meets in
    let e = without_changed v cs (parents_avoid v q.atoms meets) q.atoms in
    (left_out v (record { query = changed_by cs q; parent = w }), ap (option_map (left_out v)) h, λ i. record { query = query_at (map (changed_all cs) q.head) (e i); parent = w })

-- found, so told
module _ (axioms : List Axiom) (q : Query) (s : Told) (r : Query) where
  blank_told : (a : Atom) → slice_get q.atoms s.atom ≡ Some a → arg_at a s.end ≡ Some Blank → IsBorn axioms s.link s.dir a s.end → In (Sub s.left (Has s.link s.dir)) axioms →
      (c : Cut) → cut_blank q s.atom (beside a s.end) ≡ c → r ≡ folded c s.left → FoldAt axioms q s r
  blank_told a is stands born by c e made = subst (FoldAt axioms q s) (sym (made ∙ ap (λ x. folded x s.left) (sym e))) (at_blank a by is stands born)

  var_told : (v : VarId) (a : Atom) → slice_get q.atoms s.atom ≡ Some a → arg_at a s.end ≡ Some (Var v) → list_any (is_var v) q.head ≡ false → list_any (has_var v) (take s.atom q.atoms) ≡ false →
      ((b : Atom) → In b q.atoms → IsPart axioms s.link s.dir v b) → In (Sub s.left (Has s.link s.dir)) axioms → (c : Cut) → VarCut v q c → r ≡ folded c s.left → FoldAt axioms q s r
  var_told v a is stands none before born by c cut made =
      let e : folded c s.left ≡ normal_form (query_at (map (changed_all cut.changes) q.head) (atom_of s.left c.parent ∷ map (changed_atom_all cut.changes) (without v q.atoms))) =
      λ i. normal_form (query_at (cut.head i) (atom_of s.left c.parent ∷ cut.atoms i)) in
      subst (FoldAt axioms q s) (sym (made ∙ e))
      (at_var v by (none_in_head v q.head none) (record { atom = a; is = is; stands = stands; none_before = none_in_atoms v (take s.atom q.atoms) before }) (make_parts axioms s.link s.dir v q.atoms born) cut.meets)

  arg_told : (a : Atom) → slice_get q.atoms s.atom ≡ Some a → (x : Arg) → arg_at a s.end ≡ Some x → is_free q s.atom x ≡ true → AreBorn axioms s.link s.dir q a s.end x → In (Sub s.left (Has s.link s.dir)) axioms →
      (c : Cut) → cut_of q s.atom (beside a s.end) x ≡ Some c → r ≡ folded c s.left → FoldAt axioms q s r
  arg_told a is Blank stands free born by c e made = blank_told a is stands born by c (same_Some (cut_blank q s.atom (beside a s.end)) c e) made
  arg_told a is (Var v) stands free born by c e made =
      let f = and_parts (not (list_any (is_var v) q.head)) (not (list_any (has_var v) (take s.atom q.atoms))) free in
      var_told v a is stands (not-true (list_any (is_var v) q.head) f.0) (not-true (list_any (has_var v) (take s.atom q.atoms)) f.1) born by c (var_cut v q c e) made
  arg_told a is (Fixed t) stands free born by c e made = absurd born

  pub found_told : IsFound axioms q s r → FoldAt axioms q s r
  found_told f =
      let c = f.rest in
      let p = c.spot in
      arg_told p.atom p.is p.arg p.stands p.free c.born f.by f.cut c.rest f.made

-- told, so found
pub told_found : {axioms : List Axiom} {q : Query} {s : Told} {r : Query} → FoldAt axioms q s r → IsFound axioms q s r
told_found {axioms} {q} {s} (at_blank a by is stands born) = record {
  by = by;
  cut = cut_blank q s.atom (beside a s.end);
  rest = record { spot = record { atom = a; is = is; arg = Blank; stands = stands; free = refl }; born = born; rest = refl };
  made = refl;
}
told_found {axioms} {q} {s} (at_var {cs = cs} {z = z} v by none f parts meets) =
    let are = parts_are axioms s.link s.dir v parts in
    let m = made_cut v q cs z (subst (λ xs. MeetAll Blank xs cs z) are.up meets) in
    let free = and_from (not (list_any (is_var v) q.head)) (not (list_any (has_var v) (take s.atom q.atoms)))
    (not_from_false (list_any (is_var v) q.head) (head_has_none v q.head none)) (not_from_false (list_any (has_var v) (take s.atom q.atoms)) (atoms_have_none v (take s.atom q.atoms) f.none_before)) in
    record {
      by = by;
      cut = m.0;
      rest = record { spot = record { atom = f.atom; is = f.is; arg = Var v; stands = f.stands; free = free }; born = are.each; rest = m.1 };
      made = (λ i. normal_form (query_at (map (changed_all cs) q.head) (atom_of s.left z ∷ map (changed_atom_all cs) (are.others i)))) ∙ ap (λ c. folded c s.left) (sym m.2);
    }

-- told, so a fold step
occurs_there : (v : VarId) (a : Atom) → has_var v a ≡ true → 1 ≤ atom_occurs v a
occurs_there v a h = some (atom_occurs v a) refl
  where
    some : (n : ℕ) → atom_occurs v a ≡ n → 1 ≤ atom_occurs v a
    some zero e = absurd (false≢true (sym (in_not v a e) ∙ h))
    some (suc n) e = omega (arith, e)

count_there : (v : VarId) (atoms : List Atom) (i : ℕ) (a : Atom) → slice_get atoms i ≡ Some a → has_var v a ≡ true → 1 ≤ count v atoms
count_there v [] i a is h = cc
count_there v (b ∷ atoms) zero a is h = let e = ap (atom_occurs v) (same_Some b a is) in omega (arith, e, occurs_there v a h)
count_there v (b ∷ atoms) (suc i) a is h = omega (arith, count_there v atoms i a is h)

pub pick_at : {X : Type 0} (xs : List X) (i : ℕ) (x : X) → slice_get xs i ≡ Some x → Picks x xs (remove xs i)
pick_at [] i x e = absurd (none-some x e)
pick_at (y ∷ xs) zero x e = first (same_Some y x e)
pick_at (y ∷ xs) (suc i) x e = later (pick_at xs i x e)

pub told_step : {axioms : List Axiom} {q : Query} {s : Told} {r : Query} → FoldAt axioms q s r → IsFold axioms q r
told_step {axioms} {q} {s} (at_var {rest = rest} {cs = cs} {z = z} v by none f parts meets) =
    (map (changed_all cs) q.head, atom_of s.left z ∷ map (changed_atom_all cs) rest, fold_var s.left s.link s.dir v by none (count_there v q.atoms s.atom f.atom f.is (at_end_in v f.atom s.end f.stands)) parts meets, refl)
told_step {axioms} {q} {s} (at_blank a by is stands born) =
    (q.head, atom_of s.left (beside a s.end) ∷ remove q.atoms s.atom, fold_blank s.left s.link s.dir a (beside a s.end) by (pick_at q.atoms s.atom a is) (make_blank a s.end stands born), refl)

-- a fold step, so told
record FirstOf (v : VarId) (atoms : List Atom) : Type 0 where
  i : ℕ
  e : Dir
  at : IsFirst v atoms i e

one_before : (v : VarId) (a : Atom) (atoms : List Atom) (i : ℕ) → has_var v a ≡ false → count v (take i atoms) ≡ 0 → count v (take (suc i) (a ∷ atoms)) ≡ 0
one_before v a atoms i h k = omega (arith, not_in v a h, k)

first_of_all : (v : VarId) (atoms : List Atom) → 1 ≤ count v atoms → FirstOf v atoms
first_of_all v [] o = absurd (omega (arith, o))
first_of_all v (a ∷ atoms) o = by (has_var v a) refl (λ k. first_of_all v atoms k)
  where
    by : (b : Bool) → has_var v a ≡ b → (1 ≤ count v atoms → FirstOf v atoms) → FirstOf v (a ∷ atoms)
    by true h more = let e = in_at_end v a h in record { i = 0; e = e.0; at = record { atom = a; is = refl; stands = e.1; none_before = refl } }
    by false h more =
        let r = more (omega (arith, o, not_in v a h)) in
        record { i = suc r.i; e = r.e; at = record { atom = r.at.atom; is = r.at.is; stands = r.at.stands; none_before = one_before v a atoms r.i h r.at.none_before } }

record PlaceOf {X : Type 0} (x : X) (xs rest : List X) : Type 0 where
  i : ℕ
  is : slice_get xs i ≡ Some x
  left : remove xs i ≡ rest

place_of : {X : Type 0} {x : X} {xs rest : List X} → Picks x xs rest → PlaceOf x xs rest
place_of (first e) = record { i = 0; is = ap Some e; left = refl }
place_of (later {y = y} k) = let p = place_of k in record { i = suc p.i; is = p.is; left = ap (λ zs. y ∷ zs) p.left }

pub step_told : {axioms : List Axiom} (q : Query) {head : List Arg} {result : List Atom} → FoldStep axioms q.head q.atoms head result → (s : Told) × FoldAt axioms q s (normal_form (query_at head result))
step_told q (fold_var {parents = ps} {rest = rest} {cs = cs} {z = z} l p d v n none some parts meets) =
    let f = first_of_all v q.atoms some in
    (record { link = p; dir = d; left = l; atom = f.i; end = f.e }, at_var v n none f.at parts meets)
step_told {axioms} q (fold_blank {rest = rest} l p d a z n picks part) =
    let k = place_of picks in
    let b = blank_is part in
    let s : Told = record { link = p; dir = d; left = l; atom = k.i; end = b.0 } in
    (s, subst (FoldAt axioms q s) (λ i. normal_form (query_at q.head (atom_of l (sym b.2 i) ∷ k.left i))) (at_blank a n k.is b.1 b.3))

pub steps_told : (axioms : List Axiom) (q r : Query) → ((s : Told) × FoldAt axioms q s r) ↔ IsFold axioms q r
steps_told axioms q r = ((λ t. told_step t.1), (λ f. (let t = step_told q f.2 in (t.0, subst (FoldAt axioms q t.0) (sym f.3) t.1))))
