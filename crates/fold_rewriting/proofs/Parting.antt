-- The atoms of a variable that a birth gives, computed and by the relation.
use Rattle.std.proofs.Common.{◌≡◌, refl, sym, ◌∙◌, ap, subst, Bool, true, false, ◌||◌, not, cond, List, [], ◌∷◌, inl, inr, Option, Some, None}
use Rattle.std.specs.List.{cons_option}
use Rattle.std.proofs.lemmas.Bool.{or_parts}
use Rattle.std.proofs.lemmas.Option.{none-some, same_Some}
use Rattle.vocabulary.specs.declared.ids.ClassId.{ClassId}
use Rattle.vocabulary.specs.declared.ids.LinkId.{LinkId}
use Rattle.vocabulary.specs.declared.ids.VarId.{VarId}
use Rattle.vocabulary.specs.declared.ids.Dir.{Dir}
use Rattle.vocabulary.specs.declared.ids.Dir.TheVariants.{Fwd, Back}
use Rattle.vocabulary.specs.Lists.{In, here, there}
use Rattle.dllite_axioms.specs.declared.axioms.Axiom.{Axiom}
use Rattle.dllite_axioms.specs.Basics.{turn}
use Rattle.dllite_axioms.specs.Chains.{Under}
use Rattle.queries.specs.declared.query.Arg.{Arg}
use Rattle.queries.specs.declared.query.Arg.TheVariants.{Blank, Var}
use Rattle.queries.specs.declared.query.Atom.{Atom}
use Rattle.queries.specs.declared.query.Atom.TheVariants.{InClass, Linked}
use Rattle.certain_semantics.proofs.Witnessing.{in_cases}
use Rattle.perfect_rewriting.specs.Steps.{link_atom}
use Rattle.fold_rewriting.specs.Cutting.{is_var, has_var, other_end, parent_in, without}
use Rattle.fold_rewriting.specs.Folds.{Parts, no_parts, class_part, link_part, other_part, BlankPart, class_blank, link_blank}
use Rattle.fold_rewriting.specs.Found.{IsPart}
use Rattle.fold_rewriting.specs.Places.{arg_at, beside, IsBorn}
use Rattle.fold_rewriting.proofs.Merging.{parents}
use Rattle.fold_rewriting.proofs.Variables.{not_there, there_not, var_itself, not_in, in_not}

-- an atom without the variable has no argument beside it
no_parent : (v : VarId) (a : Atom) → has_var v a ≡ false → parent_in v a ≡ None
no_parent v (InClass c x) h = refl
no_parent v (Linked p x y) h =
    let z = or_parts (is_var v x) (is_var v y) h in
    ap (λ b. other_end b (is_var v y) x y) z.0 ∙ ap (λ b. other_end false b x y) z.1

-- a link atom with the variable at one end
one_parent : (v : VarId) (q : LinkId) (e : Dir) (x : Arg) → is_var v x ≡ false → parent_in v (link_atom q e x (Var v)) ≡ Some x
one_parent v q Fwd x h = ap (λ b. other_end b (is_var v (Var v)) x (Var v)) h ∙ ap (λ b. other_end false b x (Var v)) (var_itself v)
one_parent v q Back x h = ap (λ b. other_end (is_var v (Var v)) b (Var v) x) h ∙ ap (λ b. other_end b false (Var v) x) (var_itself v)

or_true : (b : Bool) → (b || true) ≡ true
or_true true = refl
or_true false = refl

link_has : (v : VarId) (q : LinkId) (e : Dir) (x : Arg) → has_var v (link_atom q e x (Var v)) ≡ true
link_has v q Fwd x = ap (λ b. is_var v x || b) (var_itself v) ∙ or_true (is_var v x)
link_has v q Back x = ap (λ b. b || is_var v x) (var_itself v)

link_ends : (v : VarId) (q : LinkId) (e : Dir) (x : Arg) → (arg_at (link_atom q e x (Var v)) e ≡ Some (Var v)) × (beside (link_atom q e x (Var v)) e ≡ x)
link_ends v q Fwd x = (refl, refl)
link_ends v q Back x = (refl, refl)

link_born : (axioms : List Axiom) (p : LinkId) (d : Dir) (q : LinkId) (e : Dir) (x y : Arg) → Under axioms p (turn d e) q → IsBorn axioms p d (link_atom q e x y) e
link_born axioms p d q Fwd x y u = u
link_born axioms p d q Back x y u = u

module _ (axioms : List Axiom) (p : LinkId) (d : Dir) (v : VarId) where
  pub record AreParts (atoms : List Atom) (ps : List Arg) (rest : List Atom) : Type 0 where
    pub up : ps ≡ parents v atoms
    pub others : rest ≡ without v atoms
    pub each : (a : Atom) → In a atoms → IsPart axioms p d v a

  -- one more atom, by what it has
  more : (a : Atom) (o : Option Arg) (b : Bool) {atoms rest rest' : List Atom} {ps ps' : List Arg} → parent_in v a ≡ o → has_var v a ≡ b → IsPart axioms p d v a → AreParts atoms ps rest →
      ps' ≡ cons_option o ps → rest' ≡ cond (not b) (a ∷ rest) rest → AreParts (a ∷ atoms) ps' rest'
  more a o b {atoms} {rest} {rest'} {ps} {ps'} h k part r up others = record {
    up = up ∙ ap (cons_option o) r.up ∙ ap (λ z. cons_option z (parents v atoms)) (sym h);
    others = others ∙ (λ i. cond (not b) (a ∷ r.others i) (r.others i)) ∙ ap (λ z. cond (not z) (a ∷ without v atoms) (without v atoms)) (sym k);
    each = λ x m. elim (in_cases m) [ inl e ↦ subst (IsPart axioms p d v) e part | inr n ↦ r.each x n ];
  }

  pub parts_are : {atoms rest : List Atom} {ps : List Arg} → Parts axioms p d v atoms ps rest → AreParts atoms ps rest
  parts_are no_parts = record { up = refl; others = refl; each = λ a m. elim m [ ] }
  parts_are (class_part {a = a} n e chain r) =
      more a None true (ap (parent_in v) e) (ap (has_var v) e ∙ var_itself v) (subst (IsPart axioms p d v) (sym e) (inr (Fwd, refl, refl, chain))) (parts_are r) refl refl
  parts_are (link_part {a = a} q e x u is none r) =
      let ends = link_ends v q e x in
      more a (Some x) true (ap (parent_in v) is ∙ one_parent v q e x (there_not v x none)) (ap (has_var v) is ∙ link_has v q e x)
      (subst (IsPart axioms p d v) (sym is) (inr (e, ends.0, ap (is_var v) ends.1 ∙ there_not v x none, link_born axioms p d q e x (Var v) u))) (parts_are r) refl refl
  parts_are (other_part {a = a} o r) =
      let none = in_not v a o in
      more a None false (no_parent v a none) none (inl none) (parts_are r) refl refl

  -- the other way round
  shaped : {a : Atom} {atoms : List Atom} (o : Option Arg) (b : Bool) → parent_in v a ≡ o → has_var v a ≡ b → Parts axioms p d v (a ∷ atoms) (cons_option o (parents v atoms)) (cond (not b) (a ∷ without v atoms) (without v atoms)) →
      Parts axioms p d v (a ∷ atoms) (parents v (a ∷ atoms)) (without v (a ∷ atoms))
  shaped {a} {atoms} o b h k r =
      subst (λ z. Parts axioms p d v (a ∷ atoms) (cons_option z (parents v atoms)) (without v (a ∷ atoms))) (sym h)
      (subst (λ z. Parts axioms p d v (a ∷ atoms) (cons_option o (parents v atoms)) (cond (not z) (a ∷ without v atoms) (without v atoms))) (sym k) r)

  class_made : (n : ClassId) (x : Arg) (e : Dir) {atoms : List Atom} → arg_at (InClass n x) e ≡ Some (Var v) → IsBorn axioms p d (InClass n x) e → Parts axioms p d v atoms (parents v atoms) (without v atoms) →
      Parts axioms p d v (InClass n x ∷ atoms) (parents v (InClass n x ∷ atoms)) (without v (InClass n x ∷ atoms))
  class_made n x Fwd at born r = let is : x ≡ Var v = same_Some x (Var v) at in shaped None true refl (ap (is_var v) is ∙ var_itself v) (class_part n (ap (InClass n) is) born r)
  class_made n x Back at born r = absurd (none-some (Var v) at)

  link_made : (a : Atom) (q : LinkId) (e : Dir) (x y : Arg) {atoms : List Atom} → a ≡ link_atom q e x y → y ≡ Var v → is_var v x ≡ false → Under axioms p (turn d e) q → Parts axioms p d v atoms (parents v atoms) (without v atoms) →
      Parts axioms p d v (a ∷ atoms) (parents v (a ∷ atoms)) (without v (a ∷ atoms))
  link_made a q e x y h is none u r =
      let k : a ≡ link_atom q e x (Var v) = h ∙ ap (link_atom q e x) is in
      shaped (Some x) true (ap (parent_in v) k ∙ one_parent v q e x none) (ap (has_var v) k ∙ link_has v q e x) (link_part q e x u k (not_there v x none) r)

  part_made : (a : Atom) {atoms : List Atom} → IsPart axioms p d v a → Parts axioms p d v atoms (parents v atoms) (without v atoms) → Parts axioms p d v (a ∷ atoms) (parents v (a ∷ atoms)) (without v (a ∷ atoms))
  part_made a (inl h) r = shaped None false (no_parent v a h) h (other_part (not_in v a h) r)
  part_made (InClass n x) (inr (e, at, none, born)) r = class_made n x e at born r
  part_made (Linked q x y) (inr (Fwd, at, none, born)) r = link_made (Linked q x y) q Fwd x y refl (same_Some y (Var v) at) none born r
  part_made (Linked q x y) (inr (Back, at, none, born)) r = link_made (Linked q x y) q Back y x refl (same_Some x (Var v) at) none born r

  pub make_parts : (atoms : List Atom) → ((a : Atom) → In a atoms → IsPart axioms p d v a) → Parts axioms p d v atoms (parents v atoms) (without v atoms)
  make_parts [] each = no_parts
  make_parts (a ∷ atoms) each = part_made a (each a (here refl)) (make_parts atoms (λ x m. each x (there m)))

-- a Blank that a birth gives, by the end at which it stands
pub blank_is : {axioms : List Axiom} {p : LinkId} {d : Dir} {a : Atom} {z : Arg} → BlankPart axioms p d a z → (e : Dir) × (arg_at a e ≡ Some Blank) × (z ≡ beside a e) × IsBorn axioms p d a e
blank_is (class_blank n chain) = (Fwd, refl, refl, chain)
blank_is (link_blank q Fwd x u) = (Fwd, refl, refl, u)
blank_is (link_blank q Back x u) = (Back, refl, refl, u)

pub make_blank : {axioms : List Axiom} {p : LinkId} {d : Dir} (a : Atom) (e : Dir) → arg_at a e ≡ Some Blank → IsBorn axioms p d a e → BlankPart axioms p d a (beside a e)
make_blank {axioms} {p} {d} (InClass n x) Fwd at born = subst (λ y. BlankPart axioms p d (InClass n y) Blank) (sym (same_Some x Blank at)) (class_blank n born)
make_blank (InClass n x) Back at born = absurd (none-some Blank at)
make_blank {axioms} {p} {d} (Linked q x y) Fwd at born = subst (λ z. BlankPart axioms p d (Linked q x z) x) (sym (same_Some y Blank at)) (link_blank q Fwd x born)
make_blank {axioms} {p} {d} (Linked q x y) Back at born = subst (λ z. BlankPart axioms p d (Linked q z y) y) (sym (same_Some x Blank at)) (link_blank q Back y born)
