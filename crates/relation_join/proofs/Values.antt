-- The terms of variables in rows.
use Rattle.std.proofs.Common.{ℕ, ◌≡◌, refl, sym, ◌∙◌, ap, subst, ◌+◌, ◌<◌, ◌≤◌, ◌⊎◌, inl, inr, suc, length, get_or, drop, arith, List, [], ◌∷◌, map, nat_eq, eqb-true, Bool, true, false, if◌then◌else◌, Option, Some, None, Bor}
use Rattle.std.specs.Option.{option_copied, is_some}
use Rattle.std.proofs.Math.Seq.{drop-cons}
use Rattle.std.proofs.Math.ListN.{drop_of_length-le}
use Rattle.vocabulary.specs.declared.ids.VarId.{VarId}
use Rattle.vocabulary.specs.declared.term.Term.{Term, Named}
use Rattle.vocabulary.specs.Lists.{In, here, there}
use Rattle.queries.specs.Matches.{Terms}
use Rattle.relation_join.specs.Joins.{value_in}

pub same_var : (w v : VarId) → nat_eq w.0 v.0 ≡ true → w ≡ v
same_var w v e = λ i. record { 0 = eqb-true w.0 v.0 e i }

var_test : (v : VarId) → nat_eq v.0 v.0 ≡ true
var_test v = search arith

module _ (σ : Terms) (w v : VarId) (rest : Option Term) where
  told_here : (b : Bool) → nat_eq w.0 v.0 ≡ b → w ≡ v → (if b then Some (σ w) else rest) ≡ Some (σ v)
  told_here true e h = ap (λ z. Some (σ z)) h
  told_here false e h = let f : nat_eq v.0 v.0 ≡ false = subst (λ z. nat_eq z.0 v.0 ≡ false) h e in let g : true ≡ false = sym (var_test v) ∙ f in cc

  told_there : (b : Bool) → nat_eq w.0 v.0 ≡ b → rest ≡ Some (σ v) → (if b then Some (σ w) else rest) ≡ Some (σ v)
  told_there true e h = ap (λ z. Some (σ z)) (same_var w v e)
  told_there false e h = h

pub value_told : (σ : Terms) (vars : List VarId) (v : VarId) → In v vars → value_in vars (map σ vars) v ≡ Some (σ v)
value_told σ [] v i = elim i [ ]
value_told σ (w ∷ vars) v (here e) = told_here σ w v (value_in vars (map σ vars) v) (nat_eq w.0 v.0) refl e
value_told σ (w ∷ vars) v (there i) = told_there σ w v (value_in vars (map σ vars) v) (nat_eq w.0 v.0) refl (value_told σ vars v i)

some_cases : (σ : Terms) (w v : VarId) (vars : List VarId) (t : Term) (rest : Option Term) (b : Bool) → nat_eq w.0 v.0 ≡ b → (rest ≡ Some t → In v vars × (σ v ≡ t)) → (if b then Some (σ w) else rest) ≡ Some t → In v (w ∷ vars) × (σ v ≡ t)
some_cases σ w v vars t rest true e f h = (here (same_var w v e), (let q : σ v ≡ σ w = ap σ (sym (same_var w v e)) in let r : Some (σ w) ≡ Some t = h in (cc)))
some_cases σ w v vars t rest false e f h = let r = f h in (there r.0, r.1)

pub value_some : (σ : Terms) (vars : List VarId) (v : VarId) (t : Term) → value_in vars (map σ vars) v ≡ Some t → In v vars × (σ v ≡ t)
value_some σ [] v t h = cc
value_some σ (w ∷ vars) v t h = some_cases σ w v vars t (value_in vars (map σ vars) v) (nat_eq w.0 v.0) refl (value_some σ vars v t) h

-- the same, of a row
pub row_told : (σ : Terms) (vars : List VarId) (row : List Term) (v : VarId) → map σ vars ≡ row → In v vars → value_in vars row v ≡ Some (σ v)
row_told σ vars row v e i = subst (λ r. value_in vars r v ≡ Some (σ v)) e (value_told σ vars v i)

pub row_some : (σ : Terms) (vars : List VarId) (row : List Term) (v : VarId) (t : Term) → map σ vars ≡ row → value_in vars row v ≡ Some t → In v vars × (σ v ≡ t)
row_some σ vars row v t e h = value_some σ vars v t (subst (λ r. value_in vars r v ≡ Some t) (sym e) h)

-- one place further
abbrev pub no_var : VarId
no_var = record { 0 = 0 }

abbrev pub no_term : Term
no_term = Named []

differ : (a b : ℕ) (t : Bool) → nat_eq a b ≡ t → (a ≡ b → ⊥) → t ≡ false
differ a b true e n = absurd (n (eqb-true a b e))
differ a b false e n = refl

module _ (vars : List VarId) (row : List Term) (v : VarId) (at : ℕ) (l : at < length vars) (k : at < length row) where
  value_here : value_in (drop at vars) (drop at row) v ≡ (if nat_eq (get_or vars at no_var).0 v.0 then Some (get_or row at no_term) else value_in (drop (suc at) vars) (drop (suc at) row) v)
  value_here = ap (λ z. value_in z (drop at row) v) (drop-cons vars at no_var l) ∙ ap (λ z. value_in (get_or vars at no_var ∷ drop (suc at) vars) z v) (drop-cons row at no_term k)

  pub value_next : ((get_or vars at no_var).0 ≡ v.0 → ⊥) → value_in (drop at vars) (drop at row) v ≡ value_in (drop (at + 1) vars) (drop (at + 1) row) v
  value_next n =
      let e : nat_eq (get_or vars at no_var).0 v.0 ≡ false = differ (get_or vars at no_var).0 v.0 (nat_eq (get_or vars at no_var).0 v.0) refl n in
      value_here ∙ ap (λ b. if b then Some (get_or row at no_term) else value_in (drop (suc at) vars) (drop (suc at) row) v) e ∙ ap (λ n. value_in (drop n vars) (drop n row) v) (let q : suc at ≡ at + 1 = omega arith in q)

value_past : (vars : List VarId) (v : VarId) → value_in vars [] v ≡ None
value_past [] v = refl
value_past (w ∷ vars) v = refl

pub value_end : (vars : List VarId) (row : List Term) (v : VarId) (at : ℕ) → (length vars ≤ at) ⊎ (length row ≤ at) → value_in (drop at vars) (drop at row) v ≡ None
value_end vars row v at (inl l) = ap (λ z. value_in z (drop at row) v) (drop_of_length-le vars l)
value_end vars row v at (inr l) = ap (λ z. value_in (drop at vars) z v) (drop_of_length-le row l) ∙ value_past (drop at vars) v

pub copied_some : {T : Type 0} (o : Option (Bor T)) (t : T) → option_copied o ≡ Some t → is_some o ≡ true
copied_some None t e = let q : None ≡ Some t = e in cc
copied_some (Some x) t e = refl
