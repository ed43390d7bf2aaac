-- By `Solid`.
use Rattle.std.proofs.Common.{refl}
use Rattle.fact_derivation.proofs.Loops.{item_listed}
use Rattle.mapping_facts.specs.Facts.{mapped_facts}
use Rattle.why_answers.proofs.Solid.{none_yet, one_fact_more, one_has, one_without, read_all}
use Rattle.why_answers.proofs.wide.atom_facts.Goals as goal

pub loop-atom-init : goal.loop-atom-init
loop-atom-init c = none_yet (mapped_facts c.args.mappings.now c.args.tables.now) c.args.atoms.now c.new-facts.result c.new-facts.ensures

pub atom_fact-requires-clause-solid : goal.atom_fact-requires-clause-solid
atom_fact-requires-clause-solid c =
    one_without c.args.atoms.now c.atom-item.result (item_listed c.args.atoms.now c.args.atoms.now c.loop-atom.atom-index c.atom-item.result refl c.loop-atom-test.true c.atom-item.is) c.requires.solid

pub atom_fact-requires-clause-some : goal.atom_fact-requires-clause-some
atom_fact-requires-clause-some c =
    one_has (mapped_facts c.args.mappings.now c.args.tables.now) c.args.atoms.now c.atom-item.result (item_listed c.args.atoms.now c.args.atoms.now c.loop-atom.atom-index c.atom-item.result refl c.loop-atom-test.true c.atom-item.is) c.requires.some

pub loop-atom-preserved : goal.loop-atom-preserved
loop-atom-preserved c =
    one_fact_more (mapped_facts c.args.mappings.now c.args.tables.now) c.args.atoms.now c.loop-atom.atom-index c.atom-item.result c.loop-atom.facts c.push.new.self c.in_ok-atom_fact.field-0
    c.loop-atom-test.true c.atom-item.is c.loop-atom.invariant c.in_ok-atom_fact.ensures c.in_ok-push.ensures.ok

pub returns : goal.returns
returns c = read_all c.args.mappings.now c.args.tables.now c.args.atoms.now c.loop-atom.atom-index c.loop-atom.facts c.loop-atom-test.false c.requires.some.0 c.loop-atom.invariant
