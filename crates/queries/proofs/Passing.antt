-- What a query that passes has.
use Rattle.std.proofs.Common.{ℕ, ◌≡◌, ◌≢◌, refl, sym, ◌∙◌, ap, subst, ◌≤◌, ◌++◌, Bool, true, false, ◌||◌, List, [], ◌∷◌, length, nat_eq, nat_lt, if◌then◌else◌, Some, None, arith}
use Rattle.std.specs.List.{list_any}
use Rattle.std.proofs.lemmas.Bool.{eq-eqb, ltb-false}
use Rattle.vocabulary.specs.declared.ids.VarId.{VarId}
use Rattle.vocabulary.specs.declared.term.Term.{Term}
use Rattle.vocabulary.specs.Lists.{In, here, there}
use Rattle.queries.specs.declared.check.QueryFault.TheVariants.{TooLarge, MixedSort, HeadUnbound}
use Rattle.queries.specs.declared.query.Arg.{Arg}
use Rattle.queries.specs.declared.query.Arg.TheVariants.{Blank, Var, Fixed}
use Rattle.queries.specs.declared.query.Atom.{Atom}
use Rattle.queries.specs.Checking.{args_of, different, is_large, is_mixed, is_unbound}
use Rattle.queries.specs.Laws.{CheckedPasses}
use Rattle.queries.specs.Occurrences.{count}

some_no_none : {X : Type 0} {x : X} → Some x ≡ None → ⊥
some_no_none e = cc

neither : (a b : Bool) → (a || b) ≡ false → (a ≡ false) × (b ≡ false)
neither true b h = cc
neither false b h = (refl, h)

none_of : (a b c : Bool) → (if a then Some TooLarge else (if b then Some MixedSort else (if c then Some HeadUnbound else None))) ≡ None → (a ≡ false) × (c ≡ false)
none_of true b c h = absurd (some_no_none h)
none_of false true c h = absurd (some_no_none h)
none_of false false true h = absurd (some_no_none h)
none_of false false false h = (refl, refl)

all_fail : (p : Arg → Bool) (x : Arg) (xs : List Arg) → list_any p xs ≡ false → In x xs → p x ≡ false
all_fail p x [] h m = elim m [ ]
all_fail p x (y ∷ xs) h (here e) = ap p (sym e) ∙ (neither (p y) (list_any p xs) h).0
all_fail p x (y ∷ xs) h (there m) = all_fail p x xs (neither (p y) (list_any p xs) h).1 m

true_no_false : true ≡ false → ⊥
true_no_false e = cc

some_of : (n : ℕ) → nat_eq n 0 ≡ false → 1 ≤ n
some_of n h = by n (λ e. true_no_false (sym (eq-eqb n 0 e) ∙ h))
  where
    by : (n : ℕ) → n ≢ 0 → 1 ≤ n
    by n h = grind arith

bound : (atoms : List Atom) (x : Arg) → is_unbound atoms x ≡ false → (x ≢ Blank) × ((v : VarId) → x ≡ Var v → 1 ≤ count v atoms)
bound atoms Blank h = absurd (true_no_false h)
bound atoms (Var w) h = ((λ e. no_blank w e), λ v e. some_of (count v atoms) (subst (λ x. is_unbound atoms x ≡ false) e h))
  where
    no_blank : (w : VarId) → Var w ≡ Blank → ⊥
    no_blank w e = cc
bound atoms (Fixed t) h = ((λ e. no_blank t e), λ v e. absurd (no_var t v e))
  where
    no_blank : (t : Term) → Fixed t ≡ Blank → ⊥
    no_blank t e = cc

    no_var : (t : Term) (v : VarId) → Fixed t ≡ Var v → ⊥
    no_var t v e = cc

pub checked_passes : CheckedPasses
checked_passes sides q h =
    let n = none_of (is_large q) (is_mixed sides q.atoms) (list_any (is_unbound q.atoms) q.head) h in
    let s = neither (nat_lt 16 (length q.atoms)) (nat_lt 16 (length q.head) || nat_lt 16 (different (q.head ++ args_of q.atoms))) n.0 in
    let t = neither (nat_lt 16 (length q.head)) (nat_lt 16 (different (q.head ++ args_of q.atoms))) s.1 in
    record {
      atoms = ltb-false 16 (length q.atoms) s.0;
      head = ltb-false 16 (length q.head) t.0;
      stands = λ known x m. (let b = bound q.atoms x (all_fail (is_unbound q.atoms) x q.head n.1 m) in (known x m, b.0, b.1));
    }
