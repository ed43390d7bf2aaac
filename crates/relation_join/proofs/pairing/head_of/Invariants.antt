-- The tuple of the head so far.
use Rattle.std.proofs.Common.{◌≡◌, map, take}
use Rattle.queries.specs.Matches.{HeadIs, Terms}
use Rattle.relation_join.proofs.pairing.head_of.Given as goal

abbrev pub invariant-loop-arg : goal.invariant-loop-arg
invariant-loop-arg l = (σ : Terms) → map σ l.fn.sides.vars ≡ l.fn.row → map σ l.fn.sides.more ≡ l.fn.other → HeadIs σ (take l.arg-index l.fn.sides.head) l.terms
