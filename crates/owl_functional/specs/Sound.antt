-- What holds of every ontology that is read.
use Rattle.std.specs.Prelude.{◌≡◌, ◌≤◌, ℕ, true, List, ◌++◌, length}
use Rattle.line_lexer.specs.Grammar.{is_name}
use Rattle.vocabulary.specs.Lists.{In}
use Rattle.uml_model.specs.Bounds.{AreAxiomsWithin, AreConstraintsWithin, AreFunctionalFree}
use Rattle.uml_model.specs.Sorts.{AreDifferent, AreAxiomsSorted, AreConstraintsSorted}
use Rattle.owl_functional.specs.declared.ontology.Ontology.{Ontology}

-- its names are words that are not reserved, and all differ; its counts are within the limits; its axioms and constraints are over its classes and links, each link in a place of its sort, and no link is below a functional one
pub record IsOntology (o : Ontology) : Type 0 where
  pub named : (name : List ℕ) → In name (o.classes ++ o.links) → is_name name ≡ true
  pub differ : AreDifferent (o.classes ++ o.links)
  pub each_side : length o.sides ≡ length o.links
  pub few_classes : length o.classes ≤ 400
  pub few_links : length o.links ≤ 600
  pub few_axioms : length o.tbox.axioms ≤ 6_000
  pub few_constraints : length o.tbox.constraints ≤ 3_000
  pub axioms_within : AreAxiomsWithin (length o.classes) (length o.links) o.tbox.axioms
  pub constraints_within : AreConstraintsWithin (length o.classes) (length o.links) o.tbox.constraints
  pub functional_free : AreFunctionalFree o.tbox.axioms o.tbox.constraints
  pub axioms_sorted : AreAxiomsSorted o.sides o.tbox.axioms
  pub constraints_sorted : AreConstraintsSorted o.sides o.tbox.constraints
