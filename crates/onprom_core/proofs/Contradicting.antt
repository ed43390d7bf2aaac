-- What the contradictions of a project say of its consistency.
use Rattle.std.proofs.Common.{◌≡◌, refl, ap, ℕ, zero, suc, ◌≤◌, List, [], ◌∷◌, length, Some, Result, Ok, Err, IfOk, OnOk, arith}
use Rattle.vocabulary.specs.Lists.{In, here, item, there}
use Rattle.mapping_facts.proofs.Members.{In-slice_get}
use Rattle.source_tables.specs.Tables.{Loaded}
use Rattle.conflict_checker.specs.declared.derivation.Derivation.{Derivation}
use Rattle.project_language.specs.declared.project.Project.{Project}
use Rattle.onprom_core.specs.Jobs.{Ending, EndsCheck, EndsExtraction, clash_end, consistent, consistent_end, contradicted, contradicted_end}
use Rattle.onprom_core.specs.Meaning.{AreContradictions, IsConsistentProject, IsReadBack, tbox}

-- an item has a number
numbered : {X : Type 0} (xs : List X) (x : X) → In x xs → (n : ℕ) × (item xs n ≡ Some x) × (n ≤ length xs)
numbered [] x stands = elim stands [ ]
numbered {X} (y ∷ ys) x (here e) = (1, ap Some e, omega arith)
numbered {X} (y ∷ ys) x (there stands) = by (numbered ys x stands)
  where
    by : (n : ℕ) × (item ys n ≡ Some x) × (n ≤ length ys) → (n : ℕ) × (item (y ∷ ys) n ≡ Some x) × (n ≤ length (y ∷ ys))
    by (zero, e, low) = cc
    by (suc n, e, low) = (suc (suc n), e, omega arith)

-- what has a number is an item
pub stands_at : {X : Type 0} (xs : List X) (n : ℕ) (x : X) → item xs n ≡ Some x → In x xs
stands_at xs zero x e = cc
stands_at xs (suc n) x e = In-slice_get xs n x e

-- what a result is, by two things that are said of it
pub beside : {X E : Type 0} (r : Result X E) (A : Type 0) (P Q : X → Type 0) → (A → (x : X) → P x → Q x) → OnOk r A → IfOk r P → IfOk r Q
beside (Ok x) A P Q f a p = f a x p
beside (Err e) A P Q f a p = tt

module _ (project : Project) (tables : List Loaded) where
  consistent_from : AreContradictions project tables [] → IsConsistentProject project tables
  consistent_from are = λ c stands contradicted.
      let n = numbered (tbox project).constraints c stands in
      elim (are.all n.0 n.2 (c, n.1, contradicted)) [ ]

  clash_from : (ds : List Derivation) → 1 ≤ length ds → AreContradictions project tables ds → IsConsistentProject project tables → ⊥
  clash_from [] some are agrees = absurd (omega arith)
  clash_from (d ∷ ds) some are agrees =
      let other = are.only d.constraint (here refl) in
      agrees other.0 (stands_at (tbox project).constraints d.constraint other.0 other.1) other.2

  -- none: the project is consistent
  pub none_found : (ds : List Derivation) → length ds ≡ 0 → AreContradictions project tables ds → IsConsistentProject project tables
  none_found [] none are = consistent_from are
  none_found (d ∷ ds) none are = absurd (omega arith)

  pub checked_consistent : (ds : List Derivation) (e : Ending) → length ds ≡ 0 → AreContradictions project tables ds → e ≡ consistent_end → EndsCheck project tables e
  checked_consistent ds e none are is = consistent (none_found ds none are) is

  pub checked_contradicted : (ds : List Derivation) (e : Ending) → 1 ≤ length ds → AreContradictions project tables ds → IsReadBack project ds → e ≡ contradicted_end project ds → EndsCheck project tables e
  checked_contradicted ds e some are back is = contradicted (clash_from ds some are) ds are back is

  pub extraction_contradicted : (ds : List Derivation) (e : Ending) → 1 ≤ length ds → AreContradictions project tables ds → IsReadBack project ds → e ≡ clash_end project ds → EndsExtraction project tables e
  extraction_contradicted ds e some are back is = contradicted (clash_from ds some are) ds are back is
