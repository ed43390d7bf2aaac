-- A fresh term has the rank of its parent.
use Rattle.std.proofs.Common.{◌∙◌, ap, sym}
use Rattle.queries.specs.Order.{term_rank}
use Rattle.queries.proofs.Terms.{rank_new}
use Rattle.queries.proofs.order.+rank.Goals as goal

pub returns-in-New : goal.returns-in-New
returns-in-New t c =
    c.rank.ensures ∙ ap term_rank c.get.ensures ∙ sym (rank_new c.in-New.field-0 c.in-New.field-1 c.in-New.parent) ∙ sym (ap term_rank c.in-New.is)
