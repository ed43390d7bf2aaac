-- Which basics are empty by which constraints.
use Rattle.std.specs.Prelude.{ℕ, ◌≡◌, ◌≤◌, ◌↔◌, ◌-◌, nat_lt, if◌then◌else◌, map, MatchOption, Option, Some, List}
use Rattle.negative_closure.specs.declared.plan.Plan.{Plan}
use Rattle.vocabulary.specs.declared.ids.Dir.TheVariants.{Fwd}
use Rattle.vocabulary.specs.Lists.{In, item}
use Rattle.dllite_axioms.specs.declared.axioms.Axiom.{Axiom}
use Rattle.dllite_axioms.specs.declared.axioms.Basic.{Basic}
use Rattle.dllite_axioms.specs.declared.axioms.Basic.TheVariants.{Class as ClassBasic, Has}
use Rattle.dllite_axioms.specs.declared.axioms.Constraint.{Constraint}
use Rattle.negative_closure.specs.declared.source.Source.TheVariants.{One}
use Rattle.negative_closure.specs.Sources.{IsSource}
use Rattle.dllite_axioms.specs.declared.axioms.Tbox.{Tbox}
use Rattle.model_lint.specs.declared.element.Void.{Void}
use Rattle.model_lint.specs.declared.element.Void.TheVariants.{Class, Link}
use Rattle.model_lint.specs.declared.element.VoidProof.{VoidProof}
use Rattle.model_lint.specs.Voids.{HaveAttributes, IsVoid, Shows}

-- what a fact of the element matches
abbrev pub basic_of : Void → Basic
basic_of (Class a) = ClassBasic a
basic_of (Link p) = Has p Fwd

-- by the constraint of this number a fact that matches the basic leads to a clash
abbrev pub IsMark : List Axiom → List Constraint → Basic × ℕ → Type 0
IsMark axioms constraints mark = (c : Constraint) × (item constraints mark.1 ≡ Some c) × IsSource axioms c (One mark.0)

-- the marks of the first n constraints
abbrev pub AreMarks : List Axiom → List Constraint → ℕ → List (Basic × ℕ) → Type 0
AreMarks axioms constraints n marks = (mark : Basic × ℕ) → In mark marks ↔ ((mark.1 ≤ n) × IsMark axioms constraints mark)

-- the element of a number: classes first, then links
abbrev pub element : ℕ → ℕ → Void
element classes n = if nat_lt n classes then Class (record { 0 = n }) else Link (record { 0 = n - classes })

-- a proof for the element, or it is not void
abbrev pub IsFound : Tbox → Void → Option VoidProof → Type 0
IsFound tbox v found = MatchOption found (HaveAttributes tbox.constraints → IsVoid tbox v → ⊥) (λ proof. Shows tbox proof × (proof.what ≡ v))

-- a step's number in a plan for two facts, where both are one
abbrev pub merged : ℕ → ℕ
merged n = if nat_lt 1 n then n - 1 else n

abbrev pub merged_rule : ℕ × ℕ → ℕ × ℕ
merged_rule rule = (rule.0, merged rule.1)

abbrev pub merged_plan : Plan → Plan
merged_plan plan = record { rules = map merged_rule plan.rules; first = merged plan.first; second = merged plan.second }
