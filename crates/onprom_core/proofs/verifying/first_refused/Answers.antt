use Rattle.std.proofs.Common.{◌+◌, arith, rules}
use Rattle.std.proofs.lemmas.List.Elements.{All-more}
use Rattle.std.proofs.lemmas.List.{take_all}
use Rattle.conflict_checker.specs.declared.derivation.Derivation.{Derivation}
use Rattle.conflict_checker.specs.Derivations.{IsAccepted}
use Rattle.onprom_core.proofs.Firsts.{all_told, first_told}
use Rattle.onprom_core.proofs.verifying.first_refused.Goals as goal

pub returns-then-not-branch : goal.returns-then-not-branch
returns-then-not-branch c =
    first_told (λ d. IsAccepted c.args.tbox.now c.args.mappings.now c.args.tables.now d) c.args.derivations.now
    c.loop-derivation.derivation-index (c.loop-derivation.number + 1) c.derivation-item.result c.loop-derivation-test.true c.derivation-item.is
    c.loop-derivation.invariant.accepted (λ is. let t = c.in_ok-accepts.ensures.1 is in search rules) (omega arith)

pub loop-derivation-preserved : goal.loop-derivation-preserved
loop-derivation-preserved c =
    let P = λ (d : Derivation). IsAccepted c.args.tbox.now c.args.mappings.now c.args.tables.now d in
    let one : P c.derivation-item.result = search (rules, c.in_ok-accepts.ensures.0) in
    record {
      counted = omega arith;
      accepted = All-more P c.args.derivations.now c.loop-derivation.derivation-index c.derivation-item.result c.loop-derivation-test.true c.loop-derivation.invariant.accepted (rw (← c.derivation-item.is) one);
    }

pub returns : goal.returns
returns c =
    let P = λ (d : Derivation). IsAccepted c.args.tbox.now c.args.mappings.now c.args.tables.now d in
    all_told P c.args.derivations.now (rw (take_all c.loop-derivation.derivation-index c.args.derivations.now (omega arith)) at c.loop-derivation.invariant.accepted)
