-- The first item that is not as the others.
use Rattle.std.proofs.Common.{◌≡◌, sym, ℕ, suc, ◌+◌, ◌<◌, List, ◌∷◌, ◌++◌, length, take, drop, get_or, All, Some, None, arith, ◌∙◌, ap}
use Rattle.std.proofs.lemmas.List.{length-take-le}
use Rattle.std.proofs.Math.Seq.{split_at}
use Rattle.mapping_facts.proofs.Members.{All-In}
use Rattle.source_tables.specs.Tables.{Loaded}
use Rattle.dllite_axioms.specs.declared.axioms.Tbox.{Tbox}
use Rattle.mapping_facts.specs.declared.mapping.Mapping.{Mapping}
use Rattle.conflict_checker.specs.declared.derivation.Derivation.{Derivation}
use Rattle.conflict_checker.specs.Derivations.{IsAccepted}
use Rattle.project_language.specs.declared.project.Project.{Project}
use Rattle.onprom_core.specs.Jobs.{EndsVerification, Ending, refused, refused_end}
use Rattle.onprom_core.specs.Meaning.{tbox}
use Rattle.onprom_core.specs.Outputs.{TellsFirst}

module _ {A : Type 0} (P : A → Type 0) (xs : List A) where
  pub all_told : All P xs → TellsFirst P xs None
  all_told all = λ x i. All-In P xs all i

  pub first_told : (n number : ℕ) (x : A) → n < length xs → x ≡ get_or xs n x → All P (take n xs) → (P x → ⊥) → number ≡ n + 1 → TellsFirst P xs (Some number)
  first_told n number x low at all not count =
      let parts = split_at xs n x low in
      let long : length (take n xs) ≡ n = length-take-le n xs (omega arith) in
      (take n xs, x, drop (suc n) xs, parts ∙ ap (λ y. take n xs ++ y ∷ drop (suc n) xs) (sym at), (λ y i. All-In P (take n xs) all i), not, omega (arith, long, count))

-- the first derivation that is not accepted is told
module _ (project : Project) (tables : List Loaded) (ds : List Derivation) (t : Tbox) (mappings : List Mapping) (axioms : t ≡ tbox project) (mapped : mappings ≡ project.sources.mappings) where
  pub refusal_ends : (number : ℕ) (e : Ending) → TellsFirst (λ d. IsAccepted t mappings tables d) ds (Some number) → e ≡ refused_end number → EndsVerification project tables ds e
  refusal_ends number e first is =
      let told : TellsFirst (λ d. IsAccepted (tbox project) project.sources.mappings tables d) ds (Some number) = rw (axioms, mapped) at first in
      refused told.0 told.1 told.2 told.3 told.4 told.5 (is ∙ ap refused_end told.6)
