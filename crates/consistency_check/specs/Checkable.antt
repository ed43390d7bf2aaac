-- What is asked of constraints, and what is made once for all of them.
use Rattle.std.specs.Prelude.{◌≡◌, List}
use Rattle.vocabulary.specs.declared.ids.ClassId.{ClassId}
use Rattle.vocabulary.specs.declared.ids.LinkId.{LinkId}
use Rattle.vocabulary.specs.Lists.{In}
use Rattle.dllite_axioms.specs.declared.axioms.Axiom.{Axiom}
use Rattle.dllite_axioms.specs.declared.axioms.Constraint.{Constraint}
use Rattle.dllite_axioms.specs.declared.axioms.Constraint.TheVariants.{Disjoint, Func, Apart, Identified}
use Rattle.dllite_axioms.specs.declared.axioms.Tbox.{Tbox}
use Rattle.negative_closure.specs.Sources.{HasExactSources}
use Rattle.mapping_facts.specs.declared.mapping.Mapping.{Mapping}
use Rattle.mapping_facts.specs.Fits.{AreFit}
use Rattle.mapping_saturation.specs.Saturation.{GiveTheKnown}
use Rattle.identification_check.specs.Violations.{AreAttributes}
use Rattle.consistency_check.specs.declared.prepared.Prepared.{Prepared}
use Rattle.consistency_check.specs.Given.{AreMarked}

-- an identification is by attributes; the sources of another constraint are exact
abbrev pub IsCheckable : List Axiom → Constraint → Type 0
IsCheckable axioms (Disjoint b c) = HasExactSources axioms (Disjoint b c)
IsCheckable axioms (Func p d) = HasExactSources axioms (Func p d)
IsCheckable axioms (Apart q d p) = HasExactSources axioms (Apart q d p)
IsCheckable axioms (Identified a us) = AreAttributes axioms us

-- mappings that fit, whose facts are the known facts of the chase
pub record KnowAll (axioms : List Axiom) (mappings saturated : List Mapping) : Type 0 where
  pub fit : AreFit saturated
  pub known : GiveTheKnown axioms mappings saturated

-- the axioms, the marks of the mappings, and for identifications the saturated mappings
pub record IsPrepared (tbox : Tbox) (mappings : List Mapping) (p : Prepared) : Type 0 where
  pub axioms : p.downs.axioms ≡ tbox.axioms
  pub given : AreMarked mappings p.given
  pub saturated : (a : ClassId) (us : List LinkId) → In (Identified a us) tbox.constraints → KnowAll tbox.axioms mappings p.saturated
