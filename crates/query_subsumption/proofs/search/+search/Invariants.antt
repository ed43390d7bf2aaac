-- No target so far can be had with the rest.
use Rattle.std.proofs.Common.{◌+◌, ◌*◌, length, map, take}
use Rattle.vocabulary.specs.Lists.{In}
use Rattle.query_subsumption.specs.Numbered.{as_atom}
use Rattle.query_subsumption.specs.Search.{Agrees, TakesInto}
use Rattle.query_subsumption.specs.Subsumption.{Replacement, atom_image}
use Rattle.query_subsumption.proofs.search.+search.Given as goal

abbrev pub decreases-attempt : goal.decreases-attempt
decreases-attempt l = 2 * length l.rest.now + 1

abbrev pub decreases-search : goal.decreases-search
decreases-search l = 2 * length l.general.now

abbrev pub invariant-search-loop-target : goal.invariant-search-loop-target
invariant-search-loop-target l = (θ : Replacement) → Agrees θ l.bindings → TakesInto (map as_atom l.rest) (map as_atom l.special) θ → In (atom_image θ (as_atom l.first)) (map as_atom (take l.target-index l.special)) → ⊥
