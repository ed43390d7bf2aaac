use Rattle.std.proofs.Common.{sym, ◌∙◌, ap, get_or}
use Rattle.fact_derivation.specs.Finding.{origin_step}
use Rattle.fact_derivation.proofs.Found.{one_item, origin_found, origin_small, rows_small}
use Rattle.fact_derivation.proofs.finding.step_in.Goals as goal

pub origin_step-requires-clause-rows : goal.origin_step-requires-clause-rows
origin_step-requires-clause-rows c =
    rw c.items-in-len1.ensures (rows_small c.args.mappings.now c.args.tables.now c.requires.fit c.requires.texts c.requires.few c.args.atom.now c.args.unfolded.now c.in-Some.tuple c.requires.origins
    (rw c.in-Some.is at c.in_ok-tuple.ensures))

pub origin_step-requires-clause-mapping : goal.origin_step-requires-clause-mapping
origin_step-requires-clause-mapping c =
    (origin_small c.args.mappings.now c.args.tables.now c.requires.fit c.requires.texts c.requires.few c.args.atom.now c.args.unfolded.now c.in-Some.tuple c.requires.origins
    (rw c.in-Some.is at c.in_ok-tuple.ensures) _ (sym c.items.ensures ∙ one_item c.items.result.now _ c.in-len1.len_at_least c.in-len1.len_below)).0

pub origin_step-requires-clause-target : goal.origin_step-requires-clause-target
origin_step-requires-clause-target c =
    (origin_small c.args.mappings.now c.args.tables.now c.requires.fit c.requires.texts c.requires.few c.args.atom.now c.args.unfolded.now c.in-Some.tuple c.requires.origins
    (rw c.in-Some.is at c.in_ok-tuple.ensures) _ (sym c.items.ensures ∙ one_item c.items.result.now _ c.in-len1.len_at_least c.in-len1.len_below)).1

pub returns-in-len1 : goal.returns-in-len1
returns-in-len1 c =
    origin_found c.args.mappings.now c.args.tables.now c.requires.fit c.requires.texts c.requires.few c.args.atom.now c.args.unfolded.now c.in-Some.tuple c.requires.origins
    (rw c.in-Some.is at c.in_ok-tuple.ensures) _ (sym c.items.ensures ∙ one_item c.items.result.now _ c.in-len1.len_at_least c.in-len1.len_below) _
    (c.in_ok-origin_step-in-len1.ensures ∙ ap (λ t. origin_step c.args.mappings.now t (get_or c.items.result.now 0 (record { mapping = 0; target = 0; first = 0 }))) c.items-in-len1.ensures)
