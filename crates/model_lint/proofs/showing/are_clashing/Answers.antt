-- By `Shown`.
use Rattle.std.proofs.Common.{sym}
use Rattle.model_lint.proofs.Shown.{clashing_told}
use Rattle.model_lint.proofs.showing.are_clashing.Goals as goal

pub returns-in_ok-copy-in-Some-Some-2 : goal.returns-in_ok-copy-in-Some-Some-2
returns-in_ok-copy-in-Some-Some-2 c =
    clashing_told c.args.constraint.now c.args.facts.now c.args.first c.args.second c.in-Some-Some.one.now c.in-Some-Some.two.now c.clash.result (sym c.in-Some-Some.ensures) (sym c.in-Some-Some.ensures')
    (rw (c.in_ok-copy-in-Some-Some.ensures, c.in_ok-copy-in-Some-Some-2.ensures) at c.clash.ensures)
