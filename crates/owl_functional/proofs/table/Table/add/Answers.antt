use Rattle.std.proofs.Common.{sym, ap, ◌∙◌}
use Rattle.owl_functional.specs.Lookup.{beside}
use Rattle.owl_functional.proofs.Tables.{on_ok, same_rows, one_row_more}
use Rattle.owl_functional.proofs.table.Table.add.Goals as goal

pub returns-in-Some-clause-added : goal.returns-in-Some-clause-added
returns-in-Some-clause-added g c = same_rows c.args.self.now.texts c.args.self.now.values c.requires c.args.text.now c.args.value _ (sym c.find.ensures.number ∙ c.in-Some.is)

pub returns-in-None-clause-added : goal.returns-in-None-clause-added
returns-in-None-clause-added g c = on_ok c.add_new.result
    (λ e other. ap (λ t. beside t.texts t.values other) e ∙ one_row_more c.args.self.now.texts c.args.self.now.values c.requires c.args.text.now c.args.value (sym c.find.ensures.number ∙ c.in-None.is) other)
    c.add_new.ensures.added
