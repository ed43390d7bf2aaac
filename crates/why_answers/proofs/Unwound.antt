-- Where a fold comes from.
use Rattle.std.proofs.Common.{◌≡◌, sym, ◌∙◌, subst, ℕ, zero, suc, ◌<◌, List, [], ◌∷◌, length, get_or, Option, Some, None, arith}
use Rattle.std.specs.Prelude.{slice_get}
use Rattle.dllite_axioms.specs.declared.axioms.Axiom.{Axiom}
use Rattle.queries.specs.declared.query.Query.{Query}
use Rattle.queries.specs.Normal.{normal_form}
use Rattle.fold_rewriting.specs.declared.steps.FoldStep.{FoldStep as Told}
use Rattle.fold_rewriting.specs.Steps.{FoldAt}
use Rattle.why_answers.specs.declared.folding.Node.{Node}
use Rattle.why_answers.specs.Folding.{AreNodes, ComesFrom}

same_some : {X : Type 0} (x y : X) → Some x ≡ Some y → x ≡ y
same_some x y e = cc

pub place_is : (nodes : List Node) (at : ℕ) (x n : Node) → at < length nodes → x ≡ get_or nodes at x → slice_get nodes at ≡ Some n → x ≡ n
place_is [] at x n low is there_is = absurd (omega (arith, low))
place_is (m ∷ nodes) zero x n low is there_is = is ∙ same_some m n there_is
place_is (m ∷ nodes) (suc at) x n low is there_is = place_is nodes at x n (omega (arith, low)) is there_is

pub place_low : (nodes : List Node) (at : ℕ) (n : Node) → slice_get nodes at ≡ Some n → at < length nodes
place_low [] at n e = cc
place_low (m ∷ nodes) zero n e = omega arith
place_low (m ∷ nodes) (suc at) n e = let low = place_low nodes at n e in omega (arith, low)

module _ (axioms : List Axiom) (q : Query) (nodes : List Node) (at : ℕ) (n : Node) (are : AreNodes axioms q nodes) (is : slice_get nodes at ≡ Some n) (o : Option (ℕ × Told)) (from : o ≡ n.from) where
  -- the normal form
  pub from_none : o ≡ None → n.query ≡ normal_form q
  from_none none = subst (ComesFrom axioms q nodes at n.query) (sym from ∙ none) (are.from at n is)

  -- or an earlier fold
  pub from_some : (j : ℕ) (s : Told) → o ≡ Some (j, s) → (j < at) × ((m : Node) × (slice_get nodes j ≡ Some m) × FoldAt axioms m.query s n.query)
  from_some j s some = subst (ComesFrom axioms q nodes at n.query) (sym from ∙ some) (are.from at n is)
