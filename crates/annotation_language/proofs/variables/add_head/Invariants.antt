-- What is found so far, and what is left.
use Rattle.std.proofs.Common.{◌≡◌, drop}
use Rattle.annotation_language.specs.Lines.{each_once}
use Rattle.annotation_language.specs.Resolved.{texts}
use Rattle.annotation_language.proofs.variables.add_head.Given as goal

abbrev pub invariant-loop-v : goal.invariant-loop-v
invariant-loop-v l = each_once (texts l.found.keys) (texts (drop l.v-index l.head)) ≡ each_once (texts l.fn.found.keys) (texts l.head)
