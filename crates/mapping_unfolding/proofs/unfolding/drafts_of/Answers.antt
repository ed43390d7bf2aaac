use Rattle.std.proofs.Common.{drop, length, subst}
use Rattle.mapping_unfolding.specs.Drafts.{HasAll}
use Rattle.mapping_unfolding.proofs.unfolding.drafts_of.Goals as goal

pub returns-clause-all : goal.returns-clause-all
returns-clause-all c = subst (λ d. HasAll c.args.mappings.now (drop (length d.origins) c.args.atoms.now) d c.extend.new.out.items) c.empty-start.ensures c.in_ok-extend.ensures.all
