use Rattle.std.proofs.Common.{◌≡◌, filter, map, take}
use Rattle.log_assembly.specs.Judged.{is_dropped}
use Rattle.log_assembly.proofs.verdict.dropped.Given as goal

abbrev pub invariant-loop-attribute : goal.invariant-loop-attribute
invariant-loop-attribute l = l.keys.items ≡ map (λ a. a.key) (filter is_dropped (take l.attribute-index l.attributes))
