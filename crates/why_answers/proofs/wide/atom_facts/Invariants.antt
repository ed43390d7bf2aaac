-- A fact for each atom so far, whatever the variables are.
use Rattle.std.proofs.Common.{take}
use Rattle.mapping_facts.specs.Facts.{mapped_facts}
use Rattle.why_answers.proofs.Solid.{AreFactsOf}
use Rattle.why_answers.proofs.wide.atom_facts.Given as goal

abbrev pub invariant-loop-atom : goal.invariant-loop-atom
invariant-loop-atom l = AreFactsOf (mapped_facts l.mappings l.tables) (take l.atom-index l.atoms) l.facts
