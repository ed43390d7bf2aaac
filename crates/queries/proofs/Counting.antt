-- Counting the variables of a query.
use Rattle.std.proofs.Common.{ℕ, ◌≡◌, refl, sym, ◌∙◌, ap, ◌≤◌, ◌+◌, Bool, false, List, [], ◌∷◌, ◌++◌, ◌⊎◌, inl, inr, nat_eq, if◌then◌else◌, arith}
use Rattle.std.proofs.lemmas.Bool.{cases_Bool, eqb-true, eq-eqb}
use Rattle.vocabulary.specs.declared.ids.VarId.{VarId}
use Rattle.queries.specs.declared.query.Arg.{Arg}
use Rattle.queries.specs.declared.query.Arg.TheVariants.{Var}
use Rattle.queries.specs.declared.query.Atom.{Atom}
use Rattle.queries.specs.declared.query.Atom.TheVariants.{InClass, Linked}
use Rattle.queries.specs.Occurrences.{occurs, count, head_count}
use Rattle.queries.specs.Checking.{args_of, is_new}

-- a variable stands in the arguments of atoms as often as in the atoms
in_args : (v : VarId) (atoms : List Atom) → head_count v (args_of atoms) ≡ count v atoms
in_args v [] = refl
in_args v (InClass a x ∷ atoms) = ap (λ n. occurs v x + n) (in_args v atoms)
in_args v (Linked p x y ∷ atoms) = omega (arith, in_args v atoms)

counted : (v : VarId) (xs : List Arg) (atoms : List Atom) → head_count v (xs ++ args_of atoms) ≡ head_count v xs + count v atoms
counted v [] atoms = omega (arith, in_args v atoms)
counted v (x ∷ xs) atoms = omega (arith, counted v xs atoms)

abbrev one_if : Bool → ℕ
one_if b = if b then 1 else 0

no_zero : (n : ℕ) → 1 ≤ n → nat_eq n 0 ≡ false
no_zero n l = elim (cases_Bool (nat_eq n 0)) [ inl t ↦ absurd (omega (arith, l, eqb-true n 0 t)) | inr f ↦ f ]

pub new_here : (x : Arg) (v : VarId) (xs : List Arg) (atoms : List Atom) → x ≡ Var v → head_count v xs ≡ 0 → count v atoms ≡ 0 → ◌≡◌ {A = ℕ} 1 (if is_new x (xs ++ args_of atoms) then 1 else 0)
new_here x v xs atoms e h k =
    sym (ap (λ y. one_if (is_new y (xs ++ args_of atoms))) e ∙ ap one_if (eq-eqb (head_count v (xs ++ args_of atoms)) 0 (omega (arith, counted v xs atoms, h, k))))

pub old_here : (x : Arg) (v : VarId) (xs : List Arg) (atoms : List Atom) → x ≡ Var v → (1 ≤ head_count v xs) ⊎ (1 ≤ count v atoms) → ◌≡◌ {A = ℕ} 0 (if is_new x (xs ++ args_of atoms) then 1 else 0)
old_here x v xs atoms e h =
    let some : 1 ≤ head_count v (xs ++ args_of atoms) = elim h [ inl l ↦ omega (arith, counted v xs atoms, l) | inr l ↦ omega (arith, counted v xs atoms, l) ] in
    sym (ap (λ y. one_if (is_new y (xs ++ args_of atoms))) e ∙ ap one_if (no_zero (head_count v (xs ++ args_of atoms)) some))
