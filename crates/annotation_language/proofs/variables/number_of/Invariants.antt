-- It is not among those so far.
use Rattle.std.proofs.Common.{◌≡◌, false, take}
use Rattle.std.specs.List.{list_any}
use Rattle.std.specs.Str.{bytes_eq}
use Rattle.annotation_language.specs.Resolved.{texts}
use Rattle.annotation_language.proofs.variables.number_of.Given as goal

abbrev pub invariant-loop-n : goal.invariant-loop-n
invariant-loop-n l = list_any (bytes_eq l.v) (texts (take l.n l.variables)) ≡ false
