-- Rules one behind the other.
use Rattle.std.proofs.Common.{◌≡◌, sym, ◌∙◌, ap, ℕ, ◌+◌, ◌<◌, List, [], ◌∷◌, ◌++◌, length, take, get_or, arith}
use Rattle.std.proofs.lemmas.List.{length-take-le, take_more}
use Rattle.conflict_checker.specs.declared.derivation.Step.{Step}
use Rattle.conflict_checker.specs.declared.derivation.Step.TheVariants.{Rule}
use Rattle.fact_derivation.specs.Derivings.{rule_steps}

rules_more : (xs : List ℕ) (k j : ℕ) → rule_steps (xs ++ k ∷ []) j ≡ rule_steps xs j ++ Rule (k + 1) (j + length xs) ∷ []
rules_more [] k j = let same : j ≡ j + 0 = omega arith in ap (λ n. Rule (k + 1) n ∷ []) same
rules_more (x ∷ xs) k j =
    let same : j + 1 + length xs ≡ j + length (x ∷ xs) = omega arith in
    ap (λ more. Rule (x + 1) j ∷ more) (rules_more xs k (j + 1) ∙ ap (λ n. rule_steps xs (j + 1) ++ Rule (k + 1) n ∷ []) same)

pub rule_pushed : (numbers : List ℕ) (at d : ℕ) (step : Step) (old new : List Step) → at < length numbers → old ≡ step ∷ rule_steps (take at numbers) 1 → new ≡ old ++ Rule (get_or numbers at d + 1) (at + 1) ∷ [] →
    new ≡ step ∷ rule_steps (take (at + 1) numbers) 1
rule_pushed numbers at d step old new low so_far pushed =
    let long = length-take-le at numbers (omega (arith, low)) in
    let place : at + 1 ≡ 1 + length (take at numbers) = omega (arith, long) in
    pushed ∙ ap (λ xs. xs ++ Rule (get_or numbers at d + 1) (at + 1) ∷ []) so_far
    ∙ ap (λ n. step ∷ (rule_steps (take at numbers) 1 ++ Rule (get_or numbers at d + 1) n ∷ [])) place
    ∙ ap (λ xs. step ∷ xs) (sym (rules_more (take at numbers) (get_or numbers at d) 1) ∙ ap (λ xs. rule_steps xs 1) (sym (take_more numbers at d low)))
