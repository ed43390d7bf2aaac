use Rattle.std.proofs.Common.{ℕ, ◌+◌, ◌≤◌, length, take, length-take, arith}
use Rattle.outside.proofs.Pieces.{TakesAtMost-Consumes}
use Rattle.outside.proofs.read.read_piece.Goals as goal

pub returns-in-Ok-clause-taken : goal.returns-in-Ok-clause-taken
returns-in-Ok-clause-taken g c = λ whole is.
    let piece = take c.in-Ok.count c.read.new.buf in
    let fits : length c.args.bytes.now + length piece ≤ c.args.limit + 1 = omega (arith, length-take {A = ℕ}) in
    TakesAtMost-Consumes (c.args.limit + 1) c.args.bytes.now (g.S.Shelf.left c.args.shelf.now) (g.S.Shelf.left c.read.new.self) piece whole c.in-Ok.ensures.bytes.0 fits is

pub returns-in-Err-append-clause-taken : goal.returns-in-Err-append-clause-taken
returns-in-Err-append-clause-taken g c = λ whole is.
    let piece = take c.in-Ok.count c.read.new.buf in
    let fits : length c.args.bytes.now + length piece ≤ c.args.limit + 1 = omega (arith, length-take {A = ℕ}) in
    TakesAtMost-Consumes (c.args.limit + 1) c.args.bytes.now (g.S.Shelf.left c.args.shelf.now) (g.S.Shelf.left c.read.new.self) piece whole c.in-Ok.ensures.bytes.0 fits is
