-- Numbers that count from 1.
use Rattle.std.proofs.Common.{◌≡◌, refl, sym, ◌∙◌, ap, ℕ, zero, suc, ◌-◌, true, if◌then◌else◌, List, [], ◌∷◌, length, map, Option, Some, None, arith}
use Rattle.std.specs.Prelude.{option_map, option_and_then, slice_get}
use Rattle.vocabulary.specs.declared.term.Fact.{Fact}
use Rattle.vocabulary.specs.Lists.{item}
use Rattle.source_tables.specs.Tables.{Loaded}
use Rattle.mapping_facts.specs.declared.mapping.Mapping.{Mapping}
use Rattle.mapping_facts.specs.declared.mapping.Target.{Target}
use Rattle.mapping_facts.specs.Facts.{mapping_fact}
use Rattle.conflict_checker.specs.Derivations.{are_row_numbers, cited_fact, items_at}

-- the fact of a target on rows by their numbers
pub cited_is : (tables : List Loaded) (numbers rows : List ℕ) (m : Mapping) (target : ℕ) (o : Option Fact) → (target ≡ 0 → ⊥) → are_row_numbers tables m.query.tables numbers ≡ true → rows ≡ map (λ n. n - 1) numbers →
    o ≡ option_and_then (mapping_fact tables m rows) (slice_get m.targets (target - 1)) → o ≡ option_and_then (cited_fact tables numbers m) (item m.targets target)
cited_is tables numbers rows m zero o some are is fact = absurd (some refl)
cited_is tables numbers rows m (suc n) o some are is fact =
    let back : suc n - 1 ≡ n = omega arith in
    fact ∙ (λ i. option_and_then (mapping_fact tables m (is i)) (slice_get m.targets (back i))) ∙ by (slice_get m.targets n)
  where
    by : (t : Option Target) → option_and_then (mapping_fact tables m (map (λ n. n - 1) numbers)) t ≡ option_and_then (cited_fact tables numbers m) t
    by None = refl
    by (Some t) = sym (ap (λ b. if b then mapping_fact tables m (map (λ n. n - 1) numbers) t else None) are)

-- as many items as numbers
pub items_length : {X : Type 0} (xs : List X) (numbers : List ℕ) (found : List X) → items_at xs numbers ≡ Some found → length found ≡ length numbers
items_length {X} xs [] found e = let same : found ≡ [] = cc in ap length same
items_length {X} xs (n ∷ numbers) found e = by (item xs n) (items_at xs numbers) (items_length xs numbers) e
  where
    by : (o : Option X) (rest : Option (List X)) → ((more : List X) → rest ≡ Some more → length more ≡ length numbers) → option_and_then (λ x. option_map (λ more. x ∷ more) rest) o ≡ Some found → length found ≡ length (n ∷ numbers)
    by None rest long h = cc
    by (Some x) None long h = cc
    by (Some x) (Some more) long h = let same : found ≡ x ∷ more = cc in ap length same ∙ ap suc (long more refl)
