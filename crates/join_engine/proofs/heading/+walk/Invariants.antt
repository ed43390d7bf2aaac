use Rattle.std.proofs.Common.{◌≡◌, ◌-◌, ◌++◌, [], ◌∷◌, length, take}
use Rattle.std.specs.List.{flat_map}
use Rattle.join_engine.specs.Fronts.{asked_behind}
use Rattle.join_engine.specs.Heads.{GainsHeads}
use Rattle.join_engine.specs.Ties.{row_list}
use Rattle.join_engine.proofs.heading.+walk.Given as goal

-- the tables that are left
abbrev pub decreases-walk : goal.decreases-walk
decreases-walk l = length l.query.now.query.tables - length l.front.now.items

abbrev pub invariant-loop-i : goal.invariant-loop-i
invariant-loop-i l = record {
  front : l.front.items ≡ l.fn.front.items;
  found : GainsHeads l.end (flat_map (λ i. asked_behind l.tables l.query (l.fn.front.items ++ (i ∷ []))) (take l.i (row_list l.rows))) l.fn.found l.found;
}
