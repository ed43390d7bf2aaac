-- Where a variable stands, as tests and as counts.
use Rattle.std.proofs.Common.{ℕ, ◌≡◌, refl, ◌∙◌, ap, ◌+◌, Bool, true, false, ◌||◌, List, [], ◌∷◌, nat_eq, if◌then◌else◌, Some, arith}
use Rattle.std.specs.List.{list_any}
use Rattle.std.proofs.lemmas.Bool.{eqb-true, eq-eqb, or_parts, or_from}
use Rattle.vocabulary.specs.declared.ids.VarId.{VarId}
use Rattle.vocabulary.specs.declared.ids.Dir.{Dir}
use Rattle.vocabulary.specs.declared.ids.Dir.TheVariants.{Fwd, Back}
use Rattle.queries.specs.declared.query.Arg.{Arg}
use Rattle.queries.specs.declared.query.Arg.TheVariants.{Blank, Var, Fixed}
use Rattle.queries.specs.declared.query.Atom.{Atom}
use Rattle.queries.specs.declared.query.Atom.TheVariants.{InClass, Linked}
use Rattle.queries.specs.Occurrences.{occurs, atom_occurs, count, head_count}
use Rattle.fold_rewriting.specs.Cutting.{is_var, has_var}
use Rattle.fold_rewriting.specs.Places.{arg_at}

abbrev bit : Bool → ℕ
bit b = if b then 1 else 0

bit_none : (b : Bool) → bit b ≡ 0 → b ≡ false
bit_none true h = absurd (omega (arith, h))
bit_none false h = refl

pub not_there : (v : VarId) (x : Arg) → is_var v x ≡ false → occurs v x ≡ 0
not_there v Blank h = refl
not_there v (Fixed t) h = refl
not_there v (Var w) h = ap bit h

pub there_not : (v : VarId) (x : Arg) → occurs v x ≡ 0 → is_var v x ≡ false
there_not v Blank h = refl
there_not v (Fixed t) h = refl
there_not v (Var w) h = bit_none (nat_eq w.0 v.0) h

pub is_the_var : (v : VarId) (x : Arg) → is_var v x ≡ true → x ≡ Var v
is_the_var v Blank h = cc
is_the_var v (Fixed t) h = cc
is_the_var v (Var w) h = λ i. Var (record { 0 = eqb-true w.0 v.0 h i })

pub var_itself : (v : VarId) → is_var v (Var v) ≡ true
var_itself v = eq-eqb v.0 v.0 refl

pub the_var : (v : VarId) (x : Arg) → x ≡ Var v → is_var v x ≡ true
the_var v x e = ap (is_var v) e ∙ var_itself v

zero_parts : (m n : ℕ) → m + n ≡ 0 → (m ≡ 0) × (n ≡ 0)
zero_parts m n h = (omega (arith, h), omega (arith, h))

pub not_in : (v : VarId) (a : Atom) → has_var v a ≡ false → atom_occurs v a ≡ 0
not_in v (InClass c x) h = not_there v x h
not_in v (Linked p x y) h =
    let z = or_parts (is_var v x) (is_var v y) h in
    omega (arith, not_there v x z.0, not_there v y z.1)

pub in_not : (v : VarId) (a : Atom) → atom_occurs v a ≡ 0 → has_var v a ≡ false
in_not v (InClass c x) h = there_not v x h
in_not v (Linked p x y) h =
    let z = zero_parts (occurs v x) (occurs v y) h in
    or_from (is_var v x) (is_var v y) (there_not v x z.0) (there_not v y z.1)

pub none_in_head : (v : VarId) (head : List Arg) → list_any (is_var v) head ≡ false → head_count v head ≡ 0
none_in_head v [] h = refl
none_in_head v (x ∷ xs) h =
    let z = or_parts (is_var v x) (list_any (is_var v) xs) h in
    omega (arith, not_there v x z.0, none_in_head v xs z.1)

pub head_has_none : (v : VarId) (head : List Arg) → head_count v head ≡ 0 → list_any (is_var v) head ≡ false
head_has_none v [] h = refl
head_has_none v (x ∷ xs) h =
    let z = zero_parts (occurs v x) (head_count v xs) h in
    or_from (is_var v x) (list_any (is_var v) xs) (there_not v x z.0) (head_has_none v xs z.1)

pub none_in_atoms : (v : VarId) (atoms : List Atom) → list_any (has_var v) atoms ≡ false → count v atoms ≡ 0
none_in_atoms v [] h = refl
none_in_atoms v (a ∷ atoms) h =
    let z = or_parts (has_var v a) (list_any (has_var v) atoms) h in
    omega (arith, not_in v a z.0, none_in_atoms v atoms z.1)

pub atoms_have_none : (v : VarId) (atoms : List Atom) → count v atoms ≡ 0 → list_any (has_var v) atoms ≡ false
atoms_have_none v [] h = refl
atoms_have_none v (a ∷ atoms) h =
    let z = zero_parts (atom_occurs v a) (count v atoms) h in
    or_from (has_var v a) (list_any (has_var v) atoms) (in_not v a z.0) (atoms_have_none v atoms z.1)

-- an argument at an end stands in the atom
pub at_end_in : (v : VarId) (a : Atom) (e : Dir) → arg_at a e ≡ Some (Var v) → has_var v a ≡ true
at_end_in v (InClass c x) Fwd h = the_var v x cc
at_end_in v (InClass c x) Back h = cc
at_end_in v (Linked p x y) Fwd h = either (is_var v x) (is_var v y) (the_var v y cc)
  where
    either : (b c : Bool) → c ≡ true → (b || c) ≡ true
    either true c h = refl
    either false c h = h
at_end_in v (Linked p x y) Back h = ap (λ b. b || is_var v y) (the_var v x cc)

pub in_at_end : (v : VarId) (a : Atom) → has_var v a ≡ true → (e : Dir) × (arg_at a e ≡ Some (Var v))
in_at_end v (InClass c x) h = (Fwd, ap Some (is_the_var v x h))
in_at_end v (Linked p x y) h =
    elim (is_var v x) as (λ b. is_var v x ≡ b → (b || is_var v y) ≡ true → (e : Dir) × (arg_at (Linked p x y) e ≡ Some (Var v))) [
      | true ↦ λ k l. (Back, ap Some (is_the_var v x k))
      | false ↦ λ k l. (Fwd, ap Some (is_the_var v y l))
    ] refl h
