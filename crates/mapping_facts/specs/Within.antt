-- Mappings over so many classes and links, and each with its targets.
use Rattle.std.specs.Prelude.{ℕ, ◌<◌, List, map}
use Rattle.std.specs.List.{flat_map}
use Rattle.vocabulary.specs.Lists.{In}
use Rattle.mapping_facts.specs.declared.mapping.Target.{Target}
use Rattle.mapping_facts.specs.declared.mapping.Target.TheVariants.{InClass, Linked}
use Rattle.mapping_facts.specs.declared.mapping.Mapping.{Mapping}

-- the class or the link of the target is one of so many
abbrev pub IsTargetWithin : ℕ → ℕ → Target → Type 0
IsTargetWithin classes links (InClass a r) = a.0 < classes
IsTargetWithin classes links (Linked p r s) = p.0 < links

abbrev pub AreTargetsWithin : ℕ → ℕ → List Target → Type 0
AreTargetsWithin classes links targets = (g : Target) → In g targets → IsTargetWithin classes links g

-- and so for each target of each mapping
abbrev pub AreMappingsWithin : ℕ → ℕ → List Mapping → Type 0
AreMappingsWithin classes links mappings = (m : Mapping) → In m mappings → AreTargetsWithin classes links m.targets

-- a mapping with each of its targets
abbrev pub with_each : Mapping → List Target → List (Mapping × Target)
with_each m targets = map (λ g. (m, g)) targets

-- mappings, each with each of its targets
abbrev pub with_targets : List Mapping → List (Mapping × Target)
with_targets mappings = flat_map (λ m. with_each m m.targets) mappings
