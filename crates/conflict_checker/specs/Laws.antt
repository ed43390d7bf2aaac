-- The law of accepted derivations, as `laws` states it.
use Rattle.std.specs.Prelude.{◌≡◌, List, Some}
use Rattle.vocabulary.specs.Lists.{item}
use Rattle.dllite_axioms.specs.declared.axioms.Constraint.{Constraint}
use Rattle.dllite_axioms.specs.declared.axioms.Tbox.{Tbox}
use Rattle.dllite_axioms.specs.Clashes.{IsContradicted}
use Rattle.source_tables.specs.Tables.{Loaded}
use Rattle.mapping_facts.specs.declared.mapping.Mapping.{Mapping}
use Rattle.mapping_facts.specs.Facts.{mapped_facts}
use Rattle.conflict_checker.specs.declared.derivation.Derivation.{Derivation}
use Rattle.conflict_checker.specs.Derivations.{IsAccepted}

-- the constraint that an accepted derivation names is contradicted over the mapped facts
abbrev pub AcceptedIsContradicted : Type 0
AcceptedIsContradicted = (tbox : Tbox) (mappings : List Mapping) (tables : List Loaded) (d : Derivation) (c : Constraint) →
    IsAccepted tbox mappings tables d → item tbox.constraints d.constraint ≡ Some c → IsContradicted tbox.axioms (mapped_facts mappings tables) c
