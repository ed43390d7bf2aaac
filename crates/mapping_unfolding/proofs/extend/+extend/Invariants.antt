use Rattle.std.proofs.Common.{◌+◌, ◌*◌, ◌-◌, length, take, drop, get_or, All}
use Rattle.mapping_unfolding.specs.Drafts.{HasMapping, HasTarget, Kept, OnlyUnfold, no_atom}
use Rattle.mapping_unfolding.proofs.extend.+extend.Given as goal

abbrev pub decreases-extend : goal.decreases-extend
decreases-extend l = 3 * (length l.atoms.now - length l.draft.now.origins) + 2

abbrev pub decreases-extend_by_mapping : goal.decreases-extend_by_mapping
decreases-extend_by_mapping l = 3 * (length l.atoms.now - length l.draft.now.origins) + 1

abbrev pub decreases-extend_by_target : goal.decreases-extend_by_target
decreases-extend_by_target l = 3 * (length l.atoms.now - length l.draft.now.origins)

abbrev pub invariant-extend_by_mapping-loop-i : goal.invariant-extend_by_mapping-loop-i
invariant-extend_by_mapping-loop-i l =
    Kept l.fn.out.items l.out.items
    × OnlyUnfold l.fn.mappings (drop (length l.fn.draft.origins) l.fn.atoms) l.fn.draft l.fn.out.items l.out.items
    × All (HasTarget l.fn.mappings (get_or l.fn.atoms (length l.fn.draft.origins) no_atom) (drop (length l.fn.draft.origins + 1) l.fn.atoms) l.fn.draft l.fn.mapping.query l.out.items) (take l.i l.fn.mapping.targets)

abbrev pub invariant-extend-loop-i : goal.invariant-extend-loop-i
invariant-extend-loop-i l =
    Kept l.fn.out.items l.out.items
    × OnlyUnfold l.fn.mappings (drop (length l.fn.draft.origins) l.fn.atoms) l.fn.draft l.fn.out.items l.out.items
    × All (HasMapping l.fn.mappings (get_or l.fn.atoms (length l.fn.draft.origins) no_atom) (drop (length l.fn.draft.origins + 1) l.fn.atoms) l.fn.draft l.out.items) (take l.i l.fn.mappings)
