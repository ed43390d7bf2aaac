-- Few mappings, with few targets.
use Rattle.std.specs.Prelude.{◌≤◌, ◌*◌, List, length}
use Rattle.line_lexer.specs.Faults.{limit_of}
use Rattle.line_lexer.specs.declared.fault.Counted.TheVariants.{Mappings, Targets}
use Rattle.mapping_facts.specs.declared.mapping.Mapping.{Mapping}
use Rattle.mapping_facts.specs.Within.{with_targets}

-- the mappings are within the table of limits, and so are their targets together
pub record AreFew (ms : List Mapping) : Type 0 where
  pub mappings : length ms ≤ limit_of Mappings
  pub targets : length (with_targets ms) ≤ limit_of Targets * length ms
