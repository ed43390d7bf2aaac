-- What holds of every project that is read.
use Rattle.std.specs.Prelude.{◌≤◌, length, map}
use Rattle.line_lexer.specs.Names.{AreNames}
use Rattle.dllite_axioms.specs.declared.axioms.Tbox.{Tbox}
use Rattle.uml_model.specs.Bounds.{AreAxiomsWithin, AreConstraintsWithin, AreFunctionalFree}
use Rattle.uml_model.specs.Rules.{Known}
use Rattle.uml_model.specs.Sorts.{IsModel, AreAxiomsSorted, AreConstraintsSorted}
use Rattle.mapping_facts.specs.Fits.{AreFit}
use Rattle.mapping_language.specs.Changes.{HaveOffsets}
use Rattle.mapping_language.specs.Within.{AreFew}
use Rattle.mapping_facts.specs.Within.{AreMappingsWithin}
use Rattle.annotation_language.specs.Askable.{AreAskable}
use Rattle.annotation_language.specs.Within.{AreAskedWithin}
use Rattle.project_language.specs.declared.project.Project.{Project}
use Rattle.project_language.specs.Meant.{tbox}

-- axioms and constraints are within the limits, over the classes and links of the model and of the sorts of their places, and no link is below a functional one
pub record AreOver (s : Known) (t : Tbox) : Type 0 where
  pub few_axioms : length t.axioms ≤ 6_000
  pub few_constraints : length t.constraints ≤ 3_000
  pub axioms_within : AreAxiomsWithin (length s.classes) (length s.links) t.axioms
  pub constraints_within : AreConstraintsWithin (length s.classes) (length s.links) t.constraints
  pub functional_free : AreFunctionalFree t.axioms t.constraints
  pub axioms_sorted : AreAxiomsSorted s.sides t.axioms
  pub constraints_sorted : AreConstraintsSorted s.sides t.constraints

-- the offsets of its tables can be read with, its mappings fit their tables, are few and have names, its mappings, queries, axioms and constraints are over its classes and links, and its queries can be asked
pub record IsSound (p : Project) : Type 0 where
  pub offsets : HaveOffsets p.sources
  pub fit : AreFit p.sources.mappings
  pub few : AreFew p.sources.mappings
  pub within : AreMappingsWithin (length p.model.classes) (length p.model.links) p.sources.mappings
  pub names : AreNames (map (λ m. m.name) p.sources.mappings)
  pub model : IsModel p.model
  pub tbox : AreOver p.model (tbox p)
  pub askable : AreAskable p.noted.notes
  pub asked_within : AreAskedWithin (length p.model.classes) (length p.model.links) p.noted.notes
