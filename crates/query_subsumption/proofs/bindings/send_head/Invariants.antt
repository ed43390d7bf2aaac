-- The heads so far.
use Rattle.std.proofs.Common.{◌≡◌, true, map, take}
use Rattle.query_subsumption.specs.Numbered.{as_arg}
use Rattle.query_subsumption.specs.Search.{Solves}
use Rattle.query_subsumption.specs.Subsumption.{arg_image}
use Rattle.query_subsumption.proofs.bindings.send_head.Given as goal

abbrev pub invariant-loop-at : goal.invariant-loop-at
invariant-loop-at l = Solves (λ θ. map (arg_image θ) (map as_arg (take l.at l.from)) ≡ map as_arg (take l.at l.to)) l.initial.bindings.items l.bindings.items true
