use Rattle.std.proofs.Common.{arith}
use Rattle.mapping_language.proofs.Opened.{holes_none, holes_first}
use Rattle.mapping_language.proofs.holes.behind_brace.Goals as goal

pub returns-in_err-behind-clause-none : goal.returns-in_err-behind-clause-none
returns-in_err-behind-clause-none c = λ _. holes_none c.args.text.now (c.in_err-behind.ensures.byte (omega arith) (λ w o h. h))

pub returns-clause-some : goal.returns-clause-some
returns-clause-some c =
    let parts = c.in_ok-behind.ensures.byte (omega arith) (λ w o h. h) in
    rw (parts.1) (holes_first c.args.text.now (parts.2))
