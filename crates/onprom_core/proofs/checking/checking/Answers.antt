use Rattle.std.proofs.Common.{◌≡◌, ◌≤◌, length, arith}
use Rattle.std.proofs.lemmas.Bool.Decides.{nat_tests}
use Rattle.std.proofs.lemmas.Result.{IfOk-weaker}
use Rattle.onprom_core.specs.Jobs.{EndsCheck, consistent_end, contradicted_end}
use Rattle.onprom_core.specs.Meaning.{IsReadBack}
use Rattle.onprom_core.specs.Outputs.{ended}
use Rattle.onprom_core.proofs.Contradicting.{beside, checked_consistent, checked_contradicted}
use Rattle.onprom_core.proofs.checking.checking.Goals as goal

pub returns-then-is_empty-clause-ends : goal.returns-then-is_empty-clause-ends
returns-then-is_empty-clause-ends c =
    let none : length c.in_ok-found.found ≡ 0 = grind (arith, nat_tests) in
    IfOk-weaker c.consistent.result (λ o. ended o ≡ consistent_end) (λ o. EndsCheck c.args.project.now c.args.tables.now (ended o))
    (λ o is. checked_consistent c.args.project.now c.args.tables.now c.in_ok-found.found (ended o) none c.in_ok-found.ensures is)
    c.consistent.ensures.end

pub returns-clause-ends : goal.returns-clause-ends
returns-clause-ends c =
    let some : 1 ≤ length c.in_ok-found.found = grind (arith, nat_tests) in
    beside c.contradicted.result (IsReadBack c.args.project.now c.in_ok-found.found) (λ o. ended o ≡ contradicted_end c.args.project.now c.in_ok-found.found) (λ o. EndsCheck c.args.project.now c.args.tables.now (ended o))
    (λ back o is. checked_contradicted c.args.project.now c.args.tables.now c.in_ok-found.found (ended o) some c.in_ok-found.ensures back is)
    (rw c.items.ensures at c.contradicted.ensures.read_back) (rw c.items.ensures at c.contradicted.ensures.end)
