-- By `Scanning` and `Parts`.
use Rattle.std.proofs.Common.{rules, ◌≤◌}
use Rattle.queries.specs.Occurrences.{atom_occurs}
use Rattle.query_images.proofs.Parts.{count_some, some_count}
use Rattle.query_images.proofs.Scanning.{among, none_all, none_more, none_start}
use Rattle.query_images.proofs.cutting.some_have.Goals as goal

pub loop-atom-init : goal.loop-atom-init
loop-atom-init c = none_start (λ a. 1 ≤ atom_occurs c.args.var a) c.args.atoms.now

pub returns-then-has_var : goal.returns-then-has_var
returns-then-has_var c =
    let i = among (λ a. 1 ≤ atom_occurs c.args.var a) c.args.atoms.now c.loop-atom.atom-index c.atom-item.result c.loop-atom-test.true c.atom-item.is in
    ((λ t. some_count c.args.var c.atom-item.result c.args.atoms.now i (c.if-has_var.ensures.0 t)), (λ m. search rules))

pub loop-atom-preserved : goal.loop-atom-preserved
loop-atom-preserved c = none_more (λ a. 1 ≤ atom_occurs c.args.var a) c.args.atoms.now c.loop-atom.atom-index c.atom-item.result c.loop-atom-test.true c.atom-item.is c.loop-atom.invariant (λ p. let no = c.if-has_var.ensures.1 p in search rules)

pub returns : goal.returns
returns c =
    let none = none_all (λ a. 1 ≤ atom_occurs c.args.var a) c.args.atoms.now c.loop-atom.atom-index c.loop-atom-test.false c.loop-atom.invariant in
    ((λ t. search rules), (λ m. let r = count_some c.args.var c.args.atoms.now m in absurd (none r.0 r.1 r.2)))
