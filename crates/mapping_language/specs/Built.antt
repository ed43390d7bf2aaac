-- What a mapping line has to keep so that its mapping can be unfolded.
use Rattle.std.specs.Prelude.{◌+◌, ◌≤◌, length}
use Rattle.mapping_language.specs.declared.sources.Sources.{Sources}
use Rattle.mapping_language.specs.Written.{MapLine}

-- with the line the mappings, and its tables and targets, are within the table of limits
pub record IsWithinLimits (s : Sources) (m : MapLine) : Type 0 where
  pub mappings : length s.mappings + 1 ≤ 500
  pub tables : length m.sources ≤ 6
  pub targets : length m.targets ≤ 32
