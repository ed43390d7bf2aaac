-- The contradicted constraints, each with a derivation.
use Rattle.std.specs.Prelude.{◌≡◌, ◌≤◌, ℕ, Option, Some, None, List, length, map}
use Rattle.std.specs.List.Sorted.{IsStrictlySortedBy}
use Rattle.std.specs.Ordering.{nat_cmp}
use Rattle.vocabulary.specs.Lists.{In, item}
use Rattle.source_tables.specs.Tables.{Loaded}
use Rattle.dllite_axioms.specs.declared.axioms.Axiom.{Axiom}
use Rattle.dllite_axioms.specs.declared.axioms.Constraint.{Constraint}
use Rattle.dllite_axioms.specs.declared.axioms.Tbox.{Tbox}
use Rattle.dllite_axioms.specs.Clashes.{IsContradicted}
use Rattle.mapping_facts.specs.declared.mapping.Mapping.{Mapping}
use Rattle.mapping_facts.specs.Facts.{mapped_facts}
use Rattle.conflict_checker.specs.declared.derivation.Derivation.{Derivation}
use Rattle.conflict_checker.specs.Derivations.{IsAccepted}

abbrev pub constraint_numbers : List Derivation → List ℕ
constraint_numbers ds = map (λ d. d.constraint) ds

-- the constraint with this number is contradicted over the mapped facts
abbrev pub IsContradictedAt : Tbox → List Mapping → List Loaded → ℕ → Type 0
IsContradictedAt tbox mappings tables n = (c : Constraint) × (item tbox.constraints n ≡ Some c) × IsContradicted tbox.axioms (mapped_facts mappings tables) c

-- an accepted derivation of the constraint with this number, none exactly where it is not contradicted
abbrev pub IsContradiction : Tbox → List Mapping → List Loaded → ℕ → Option Derivation → Type 0
IsContradiction tbox mappings tables n None = IsContradictedAt tbox mappings tables n → ⊥
IsContradiction tbox mappings tables n (Some d) = IsAccepted tbox mappings tables d × (d.constraint ≡ n) × (length d.steps ≤ 8_000) × IsContradictedAt tbox mappings tables n

-- and so in every model with these axioms that has this constraint at this number
abbrev pub IsContradictionOf : List Axiom → List Mapping → List Loaded → ℕ → Constraint → Option Derivation → Type 0
IsContradictionOf axioms mappings tables n c found = (tbox : Tbox) → axioms ≡ tbox.axioms → item tbox.constraints n ≡ Some c → IsContradiction tbox mappings tables n found

-- among the first so many constraints: one accepted derivation for each that is contradicted over the mapped facts, and for no other, in increasing order
pub record AreContradictions (tbox : Tbox) (mappings : List Mapping) (tables : List Loaded) (count : ℕ) (ds : List Derivation) : Type 0 where
  pub accepted : (d : Derivation) → In d ds → IsAccepted tbox mappings tables d
  pub short : (d : Derivation) → In d ds → length d.steps ≤ 8_000
  pub increasing : IsStrictlySortedBy nat_cmp (constraint_numbers ds)
  pub within : (n : ℕ) → In n (constraint_numbers ds) → n ≤ count
  pub all : (n : ℕ) → n ≤ count → IsContradictedAt tbox mappings tables n → In n (constraint_numbers ds)
  pub only : (n : ℕ) → In n (constraint_numbers ds) → IsContradictedAt tbox mappings tables n
