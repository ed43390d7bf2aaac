use Rattle.line_lexer.proofs.Onward.{first_none, first_ok, first_err}
use Rattle.line_lexer.proofs.collect.first_token.Goals as goal

pub returns-in-None : goal.returns-in-None
returns-in-None c = first_none c.args.line.now c.new-tokens.result c.next.new.self c.new-tokens.ensures c.in-None.ensures.next

pub returns-in-Some-Ok : goal.returns-in-Some-Ok
returns-in-Some-Ok c = first_ok c.args.line.now c.new-tokens.result c.next.new.self c.in-Some-Ok.token c.new-tokens.ensures (rw c.in-Some-Ok.field-0-is at c.in-Some-Ok.ensures.next)

pub returns-in-Some-Err : goal.returns-in-Some-Err
returns-in-Some-Err c = first_err c.args.line.now c.new-tokens.result c.next.new.self c.in-Some-Err.fault c.new-tokens.ensures (rw c.in-Some-Err.field-0-is at c.in-Some-Err.ensures.next)
