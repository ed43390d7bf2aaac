use Rattle.std.proofs.Common.{◌≡◌, [], map, take}
use Rattle.source_tables.proofs.key.no_texts.Given as goal

abbrev pub invariant-loop-key : goal.invariant-loop-key
invariant-loop-key l = l.indexes.items ≡ map (λ key. []) (take l._key-index l.fn.keys)
