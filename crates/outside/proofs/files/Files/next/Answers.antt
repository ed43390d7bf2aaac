use Rattle.std.proofs.Common.{◌≡◌, ◌<◌, length, drop, arith, ap}
use Rattle.outside.proofs.Current.{left_moves, left_ends}
use Rattle.outside.proofs.files.Files.next.Goals as goal

pub returns-clause-bytes : goal.returns-clause-bytes
returns-clause-bytes c =
    let within : c.in-Some.number < length c.self.inside.files.items = rw c.in-Some.is at c.self.invariant in
    rw (← c.self.view_is, c.in-Some.is, c.copy_front-count.ensures.copied, c.rest_from-rest.ensures, c.slice.ensures)
    (left_moves c.self.inside.files.items c.in-Some.number c.self.inside.place c.copy_front-count.result c.index.result.now within c.index.ensures)

pub returns-clause-end : goal.returns-clause-end
returns-clause-end c none room =
    let within : c.in-Some.number < length c.self.inside.files.items = rw c.in-Some.is at c.self.invariant in
    let rest : length c.rest_from-rest.result.now ≡ length (drop c.self.inside.place c.index.result.now.1) = ap length (rw c.slice.ensures at c.rest_from-rest.ensures) in
    rw c.in-Some.is (left_ends c.self.inside.files.items c.in-Some.number c.self.inside.place c.copy_front-count.result c.index.result.now within c.index.ensures none (omega arith))
