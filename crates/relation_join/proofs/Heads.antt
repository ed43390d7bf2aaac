-- The terms of a head's arguments.
use Rattle.std.proofs.Common.{ℕ, ◌≡◌, sym, ◌∙◌, subst, ◌+◌, ◌<◌, List, [], ◌∷◌, ◌++◌, length, get_or, take, Some, None, inl, inr}
use Rattle.vocabulary.specs.declared.ids.VarId.{VarId}
use Rattle.vocabulary.specs.declared.term.Term.{Term}
use Rattle.vocabulary.specs.Lists.{In}
use Rattle.vocabulary.proofs.Lists.{In-append_cases}
use Rattle.queries.specs.declared.query.Arg.{Arg}
use Rattle.queries.specs.Matches.{ArgIs, HeadIs, Terms}
use Rattle.relation_join.specs.Joins.{IsRow, value_in}
use Rattle.relation_join.proofs.Gaining.{more}
use Rattle.relation_join.proofs.Values.{row_told}

-- a variable that the first row has no term of has one in the second
pub term_of_second : (vars others : List VarId) (row other : List Term) (v : VarId) → IsRow vars row → IsRow others other → In v (vars ++ others) → value_in vars row v ≡ None →
    (t : Term) × (value_in others other v ≡ Some t)
term_of_second vars others row other v r s i n = elim (In-append_cases vars others i) [
  | inl m ↦ (let q : None ≡ Some (r.0 v) = sym n ∙ row_told r.0 vars row v r.1 m in absurd (cc))
  | inr m ↦ (s.0 v, row_told s.0 others other v s.1 m)
]

-- one argument further
head_after : (σ : Terms) (head : List Arg) (ts : List Term) (x : Arg) (t : Term) → HeadIs σ head ts → ArgIs σ x t → HeadIs σ (head ++ x ∷ []) (ts ++ t ∷ [])
head_after σ [] [] x t h a = (a, tt)
head_after σ [] (u ∷ ts) x t h a = absurd h
head_after σ (y ∷ head) [] x t h a = absurd h
head_after σ (y ∷ head) (u ∷ ts) x t h a = (h.0, head_after σ head ts x t h.1 a)

pub head_next : (σ : Terms) (head : List Arg) (i : ℕ) (x : Arg) → i < length head → x ≡ get_or head i x → (ts : List Term) (t : Term) (new : List Term) → new ≡ ts ++ t ∷ [] →
    HeadIs σ (take i head) ts → ArgIs σ x t → HeadIs σ (take (i + 1) head) new
head_next σ head i x l is ts t new e h a = subst (λ z. HeadIs σ z new) (sym (more head i x l is)) (subst (HeadIs σ (take i head ++ x ∷ [])) (sym e) (head_after σ (take i head) ts x t h a))
