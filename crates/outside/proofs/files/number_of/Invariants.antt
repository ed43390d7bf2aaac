use Rattle.std.proofs.Common.{◌≡◌, drop}
use Rattle.outside.specs.Files.{bytes_of}
use Rattle.outside.proofs.files.number_of.Given as goal

abbrev pub invariant-loop-number : goal.invariant-loop-number
invariant-loop-number l = bytes_of (drop l.number l.files) l.name ≡ bytes_of l.files l.name
