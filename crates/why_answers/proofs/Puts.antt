-- Steps that are put one after the other.
use Rattle.std.proofs.Common.{◌≡◌, refl, sym, subst, ℕ, ◌+◌, List, [], ◌∷◌, length, arith}
use Rattle.conflict_checker.specs.declared.derivation.Step.{Step}
use Rattle.conflict_checker.specs.declared.derivation.Step.TheVariants.{Rule}
use Rattle.why_answers.specs.Putting.{Puts, PutsBehind, PutsChain, moved, no_rule, no_step, one_rule, one_step}

nothing_left : {X : Type 0} (xs : List X) → length xs ≡ 0 → xs ≡ []
nothing_left [] e = refl
nothing_left (x ∷ xs) e = absurd (omega (arith, e))

pub chain_none : (chain : List ℕ) (j : ℕ) (steps : List Step) → length chain ≡ 0 → PutsChain chain j steps steps j
chain_none chain j steps none = subst (λ c. PutsChain c j steps steps j) (sym (nothing_left chain none)) (no_rule refl refl)

pub chain_more : (chain rest : List ℕ) (k j i n number : ℕ) (old between new : List Step) → chain ≡ k ∷ rest → number ≡ k + 1 → Puts old between (Rule number j) i → PutsChain rest i between new n → PutsChain chain j old new n
chain_more chain rest k j i n number old between new split is put more =
    subst (λ c. PutsChain c j old new n) (sym split) (one_rule (subst (λ a. Puts old between (Rule a j) i) is put) more)

pub behind_none : (more : List Step) (j : ℕ) (steps : List Step) → length more ≡ 0 → PutsBehind more j steps steps j
behind_none more j steps none = subst (λ m. PutsBehind m j steps steps j) (sym (nothing_left more none)) (no_step refl refl)

pub behind_more : (more rest : List Step) (s moved_step : Step) (j i n : ℕ) (old between new : List Step) → more ≡ s ∷ rest → moved_step ≡ moved j s → Puts old between moved_step i → PutsBehind rest i between new n → PutsBehind more j old new n
behind_more more rest s moved_step j i n old between new split is put then =
    subst (λ m. PutsBehind m j old new n) (sym split) (one_step (subst (λ x. Puts old between x i) is put) then)
