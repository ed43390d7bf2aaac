-- By `Searching`.
use Rattle.std.proofs.Common.{sym, ◌∙◌, ap, refl, Some}
use Rattle.std.specs.List.{list_any}
use Rattle.std.proofs.lemmas.Result.{on_ok_weaker}
use Rattle.why_answers.specs.Folding.{has_query}
use Rattle.why_answers.proofs.Searching.{adds_none, adds_one, query_among}
use Rattle.why_answers.proofs.folding.push_fold.Goals as goal

pub returns-then-is_among : goal.returns-then-is_among
returns-then-is_among c =
    adds_none c.args.from c.args.step c.args.query.now c.args.nodes.now (query_among c.args.query.now c.args.nodes.now (ap (list_any (has_query c.args.query.now)) (sym c.items.ensures) ∙ sym c.is_among.ensures ∙ c.if-is_among.true))

pub returns : goal.returns
returns c =
    on_ok_weaker c.push.result (λ e. adds_one c.args.from c.args.step c.args.query.now (record { query = c.in_ok-query.query; from = Some (c.args.from, c.args.step) }) c.args.nodes.now c.push.new.self c.in_ok-query.ensures refl e) c.push.ensures.ok
