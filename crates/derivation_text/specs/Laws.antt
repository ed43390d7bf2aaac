-- The laws of texts and of accepted derivations, as the functions of `laws` state them.
use Rattle.std.specs.Prelude.{◌≡◌, ◌≢◌, ◌↔◌, ◌<◌, ◌≤◌, ◌-◌, ◌^◌, ℕ, List, length, Ok, Err}
use Rattle.vocabulary.specs.Lists.{In}
use Rattle.dllite_axioms.specs.declared.axioms.Tbox.{Tbox}
use Rattle.source_tables.specs.Tables.{Loaded}
use Rattle.mapping_facts.specs.declared.mapping.Mapping.{Mapping}
use Rattle.mapping_facts.specs.Fits.{AreFit}
use Rattle.conflict_checker.specs.declared.derivation.Derivation.{Derivation}
use Rattle.conflict_checker.specs.Derivations.{IsAccepted}
use Rattle.derivation_text.specs.declared.fault.DerivationFault.TheVariants.{NoMemory}
use Rattle.derivation_text.specs.Reading.{derivations_of, steps_limit}
use Rattle.derivation_text.specs.Spelling.{AreWellFormed, IsWellFormed, Spells}

-- a text is read as derivations exactly where there are some, they are well formed, and the text spells them
abbrev pub ReadingIsSpelling : Type 0
ReadingIsSpelling = (names : List (List ℕ)) (text : List ℕ) (ds : List Derivation) →
    (derivations_of names text ≡ Ok ds) ↔ ((1 ≤ length ds) × AreWellFormed (length names) ds × Spells names text ds)

-- 32 bits number what is cited
pub record AreNumbered (tbox : Tbox) (mappings : List Mapping) (tables : List Loaded) : Type 0 where
  pub axioms : length tbox.axioms < 2 ^ 32
  pub constraints : length tbox.constraints < 2 ^ 32
  pub fit : AreFit mappings
  pub rows : (table : Loaded) → In table tables → length table.rows < 2 ^ 32 - 1

-- an accepted derivation that is not too long is well formed
abbrev pub AcceptedIsWellFormed : Type 0
AcceptedIsWellFormed = (tbox : Tbox) (mappings : List Mapping) (tables : List Loaded) (d : Derivation) → AreNumbered tbox mappings tables → IsAccepted tbox mappings tables d → length d.steps ≤ steps_limit →
    IsWellFormed (length mappings) d

-- no text is refused for want of memory
abbrev pub MemoryIsNoFault : Type 0
MemoryIsNoFault = (names : List (List ℕ)) (text : List ℕ) → derivations_of names text ≢ Err NoMemory
