use Rattle.std.proofs.Common.{◌≡◌, map, take}
use Rattle.mapping_language.proofs.mapping_double.aliases.Given as goal

abbrev pub invariant-loop-from : goal.invariant-loop-from
invariant-loop-from l = map (λ a. a.now) l.aliases.items ≡ map (λ from. from.alias.now) (take l.from-index l.froms)
