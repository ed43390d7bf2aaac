use Rattle.std.proofs.Common.{◌∙◌, sym}
use Rattle.join_engine.proofs.Ties.{added_has, added_indexes, added_keeps}
use Rattle.join_engine.proofs.sharing.index_of.Goals as goal

pub returns-clause-indexes : goal.returns-clause-indexes
returns-clause-indexes c =
    added_indexes c.args.tables.now c.args.indexes.now.items c.push.new.self.items c.args.table c.args.col c.in_ok-index.index c.in-Some-table_at.rows.now c.requires (sym c.in-Some-table_at.ensures) c.in_ok-index.ensures c.in_ok-push.ensures.items

pub returns-clause-kept : goal.returns-clause-kept
returns-clause-kept c = added_keeps c.args.indexes.now.items c.push.new.self.items (record { table = c.args.table; col = c.args.col; index = c.in_ok-index.index }) c.in_ok-push.ensures.items

pub returns-clause-number : goal.returns-clause-number
returns-clause-number c = added_has c.args.indexes.now.items c.push.new.self.items (record { table = c.args.table; col = c.args.col; index = c.in_ok-index.index }) c.len-number.result c.in_ok-push.ensures.items (c.len-number.ensures ∙ c.args.indexes.now.ok.0)
