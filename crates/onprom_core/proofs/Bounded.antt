-- The axioms, constraints and mappings of a sound project are such that contradictions can be sought.
use Rattle.std.proofs.Common.{◌≡◌, ◌<◌, ◌+◌, ◌^◌, length, arith}
use Rattle.vocabulary.specs.Lists.{In}
use Rattle.dllite_axioms.specs.declared.axioms.Axiom.{Axiom}
use Rattle.dllite_axioms.specs.declared.axioms.Constraint.{Constraint}
use Rattle.dllite_axioms.specs.declared.axioms.Constraint.TheVariants.{Disjoint, Func, Apart, Identified}
use Rattle.dllite_axioms.specs.declared.axioms.Tbox.{Tbox}
use Rattle.dllite_axioms.specs.Within.{IsAxiomWithin, IsConstraintWithin}
use Rattle.mapping_facts.specs.declared.mapping.Mapping.{Mapping}
use Rattle.mapping_facts.specs.Within.{AreTargetsWithin, with_targets}
use Rattle.consistency_check.specs.Checkable.{IsCheckable}
use Rattle.project_language.specs.declared.project.Project.{Project}
use Rattle.project_language.specs.Sound.{IsSound}
use Rattle.onprom_core.specs.Meaning.{tbox}
use Rattle.onprom_core.proofs.Attributes.{attributes}

-- the axioms of a sound project
module _ (project : Project) (sound : IsSound project) (t : Tbox) (same : t ≡ tbox project) where
  pub axioms_within : (ax : Axiom) → In ax t.axioms → IsAxiomWithin (length project.model.classes) (length project.model.links) ax
  axioms_within ax stands = sound.tbox.axioms_within ax (rw same at stands)

  pub constraints_within : (c : Constraint) → In c t.constraints → IsConstraintWithin (length project.model.classes) (length project.model.links) c
  constraints_within c stands = sound.tbox.constraints_within c (rw same at stands)

  -- each class and link of a target is one of so many
  pub targets_within : (m : Mapping) → In m project.sources.mappings → AreTargetsWithin (length project.model.classes) (length project.model.links) m.targets
  targets_within m stands g is = sound.within m stands g is

  pub few_targets : length project.sources.mappings + length (with_targets project.sources.mappings) < 2 ^ 32
  few_targets = omega (arith, sound.few.mappings, sound.few.targets)

  -- no link is below a functional one, and links that identify are attributes
  checkable_of : (c : Constraint) → In c (tbox project).constraints → IsCheckable (tbox project).axioms c
  checkable_of (Disjoint b c) stands = tt
  checkable_of (Func p d) stands = λ q e below. sound.tbox.functional_free p d stands q e below
  checkable_of (Apart q d p) stands = tt
  checkable_of (Identified a us) stands = attributes project.model.sides (tbox project).axioms sound.tbox.axioms_sorted us (sound.tbox.constraints_sorted (Identified a us) stands)

  pub checkable : (c : Constraint) → In c t.constraints → IsCheckable t.axioms c
  checkable c stands = rw same (checkable_of c (rw same at stands))
