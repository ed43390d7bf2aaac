-- Where an atom goes among atoms in order, and one atom after another from the last.
use Rattle.std.proofs.Common.{◌≡◌, ◌∙◌, sym, refl, ap, ℕ, suc, ◌+◌, ◌≤◌, ◌<◌, length-append, Bool, true, false, cond, not, List, [], ◌∷◌, ◌++◌, length, Some, None, arith, if◌then◌else◌}
use borrow.Author.Tests.{ltb-false}
use Rattle.std.specs.Prelude.{position}
use Rattle.std.specs.List.{insert, position_or_len}
use Rattle.std.proofs.lemmas.List.{drop_all, take_all}
use Rattle.queries.specs.declared.query.Atom.{Atom}
use Rattle.queries.specs.Normal.{put_in, in_order}
use Rattle.queries.specs.Order.{atom_le}

goes : (b : Atom) (xs rest : List Atom) (a : Atom) (n : ℕ) (t : Bool) → insert xs n a ≡ rest
    → insert (b ∷ xs) (cond (not t) (1 + n) 0) a ≡ (if t then a ∷ b ∷ xs else b ∷ rest)
goes b xs rest a n true e = refl
goes b xs rest a n false e = let s : 1 + n ≡ suc n = omega arith in rw s (ap (λ y. b ∷ y) e)

put_is : (xs : List Atom) (a : Atom) → insert xs (position_or_len (atom_le a) xs) a ≡ put_in a xs
put_is [] a = refl
put_is (b ∷ xs) a = goes b xs (put_in a xs) a (position_or_len (atom_le a) xs) (atom_le a b) (put_is xs a)

some_at : (t : Bool) (k i : ℕ) → cond t (Some k) None ≡ Some i → k ≡ i
some_at true k i e = cc
some_at false k i e = cc

none_at : (t : Bool) (k : ℕ) → cond t (Some k) None ≡ None → t ≡ false
none_at true k e = cc
none_at false k e = refl

pub put_found : (xs : List Atom) (a : Atom) (i : ℕ) → Some i ≡ position (atom_le a) xs → insert xs i a ≡ put_in a xs
put_found xs a i e = rw (← some_at _ _ _ (sym e)) (put_is xs a)

pub put_last : (xs : List Atom) (a : Atom) → None ≡ position (atom_le a) xs → xs ++ (a ∷ []) ≡ put_in a xs
put_last xs a e =
    let far : length xs ≤ position_or_len (atom_le a) xs = ltb-false _ _ (none_at _ _ (sym e)) in
    sym (rw (take_all, drop_all) at (sym (put_is xs a)))

-- the atoms put among those in order, from the last to the first
abbrev pub put_all : List Atom → List Atom → List Atom
put_all [] out = out
put_all (a ∷ atoms) out = put_in a (put_all atoms out)

pub put_all-last : (atoms : List Atom) (a : Atom) (out : List Atom) → put_all (atoms ++ a ∷ []) out ≡ put_all atoms (put_in a out)
put_all-last [] a out = refl
put_all-last (b ∷ atoms) a out = ap (put_in b) (put_all-last atoms a out)

pub put_all-in_order : (atoms : List Atom) → put_all atoms [] ≡ in_order atoms
put_all-in_order [] = refl
put_all-in_order (a ∷ atoms) = ap (put_in a) (put_all-in_order atoms)

pub popped_fewer : (xs ys : List Atom) (a : Atom) → ys ≡ xs ++ a ∷ [] → length xs < length ys
popped_fewer xs ys a e = omega (arith, ap length e, length-append xs (a ∷ []))

pub placed : (xs ys all out out' : List Atom) (a : Atom) → ys ≡ xs ++ a ∷ [] → out' ≡ put_in a out → put_all ys out ≡ in_order all → put_all xs out' ≡ in_order all
placed xs ys all out out' a e p inv = ap (put_all xs) p ∙ sym (put_all-last xs a out) ∙ ap (λ zs. put_all zs out) (sym e) ∙ inv

pub all_placed : (ys all out : List Atom) → length ys ≡ 0 → put_all ys out ≡ in_order all → out ≡ in_order all
all_placed [] all out z inv = inv
all_placed (y ∷ ys) all out z inv = absurd (omega (arith, z))
