-- By `Solid`.
use Rattle.std.proofs.Common.{rules, ◌≡◌, [], ◌∷◌, ◌++◌, sym, ◌∙◌}
use Rattle.mapping_facts.specs.Facts.{mapped_facts}
use Rattle.why_answers.proofs.Solid.{has_match, one_fact}
use Rattle.why_answers.proofs.wide.atom_fact.Goals as goal

pub unreachable-requires : goal.unreachable-requires
unreachable-requires c =
    let alone : c.push.new.self ≡ c.args.atom.now ∷ [] = search rules in
    has_match (mapped_facts c.args.mappings.now c.args.tables.now) c.args.atom.now c.push.new.self alone c.requires.some (rw c.in_default.is at c.in_ok-facts.ensures)

pub returns : goal.returns
returns c =
    let alone : c.push.new.self ≡ c.args.atom.now ∷ [] = search rules in
    let last : c.in-Some.facts ≡ c.pop.new.self.items ++ c.in-Some-pop.fact ∷ [] = sym c.into_vec.ensures ∙ c.in-Some-pop.ensures.items in
    one_fact c.args.mappings.now c.args.tables.now c.args.atom.now c.push.new.self c.in-Some.facts c.pop.new.self.items c.in-Some-pop.fact c.requires.solid alone last (rw c.in-Some.is at c.in_ok-facts.ensures)
