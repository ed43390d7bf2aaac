-- By `Noting`.
use Rattle.std.proofs.Common.{rules}
use Rattle.query_images.proofs.Noting.{notes_one}
use Rattle.query_images.proofs.cutting.note.Goals as goal

pub returns-in_ok-push : goal.returns-in_ok-push
returns-in_ok-push c = notes_one c.args.others.now c.args.head.now c.args.var c.args.vars.now c.push.new.self (c.if-is_needed.ensures.0 (search rules)) c.in_ok-push.ensures.ok
