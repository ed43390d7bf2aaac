-- The names so far.
use Rattle.std.proofs.Common.{◌≡◌, take}
use Rattle.annotation_language.specs.Resolved.{texts}
use Rattle.annotation_language.proofs.noted.copied.Given as goal

abbrev pub invariant-loop-name : goal.invariant-loop-name
invariant-loop-name l = l.copies.items ≡ texts (take l.name-index l.names)
