-- By `AtTuples`.
use Rattle.std.proofs.Common.{◌∙◌, ap}
use Rattle.why_answers.specs.Matching.{origin_facts}
use Rattle.why_answers.proofs.AtTuples.{read_mapped, some_mapped}
use Rattle.why_answers.proofs.matching.facts_in.Goals as goal

pub unreachable-requires : goal.unreachable-requires
unreachable-requires c =
    some_mapped c.args.mappings.now c.args.tables.now c.in-Some.tuple c.args.query.now c.args.unfolded.now
    (c.requires.origins c.args.tables.now c.requires.texts c.in-Some.tuple (rw c.in-Some.is at c.in_ok-tuple.ensures))
    ((rw c.in-None.is at c.in_ok-facts.ensures) ∙ ap (λ t. origin_facts c.args.mappings.now c.args.tables.now t c.items-2.result.now) c.items.ensures ∙ ap (origin_facts c.args.mappings.now c.args.tables.now c.in-Some.tuple) c.items-2.ensures)

pub returns : goal.returns
returns c =
    read_mapped c.args.mappings.now c.args.tables.now c.in-Some.tuple c.args.query.now c.args.unfolded.now
    (c.requires.origins c.args.tables.now c.requires.texts c.in-Some.tuple (rw c.in-Some.is at c.in_ok-tuple.ensures)) c.in-Some-2.facts
    ((rw c.in-Some-2.is at c.in_ok-facts.ensures) ∙ ap (λ t. origin_facts c.args.mappings.now c.args.tables.now t c.items-2.result.now) c.items.ensures ∙ ap (origin_facts c.args.mappings.now c.args.tables.now c.in-Some.tuple) c.items-2.ensures)
