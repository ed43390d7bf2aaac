-- The nodes so far, before those of what is left.
use Rattle.std.proofs.Common.{◌≡◌, ◌+◌, ◌≤◌, ◌++◌, map, drop}
use Rattle.query_subsumption.specs.Numbered.{as_arg}
use Rattle.query_subsumption.specs.Subsumption.{apart_args}
use Rattle.query_subsumption.proofs.numbering.nodes.Given as goal

abbrev pub invariant-loop-x : goal.invariant-loop-x
invariant-loop-x l = record { same : map as_arg l.out.items ++ apart_args l.next (drop l.x-index l.args) ≡ apart_args l.fn.from l.args; small : l.next ≤ l.fn.from + l.x-index }
