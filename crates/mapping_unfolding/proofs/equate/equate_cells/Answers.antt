use Rattle.mapping_unfolding.proofs.Equating.{cells_once}
use Rattle.mapping_unfolding.proofs.equate.equate_cells.Goals as goal

pub returns-then-same_kind : goal.returns-then-same_kind
returns-then-same_kind c = cells_once c.args.kind c.args.other c.args.place c.args.second c.one.result (c.same_kind.ensures.0 c.if-same_kind.true) c.one.ensures
