-- Where the place is found, and at the end.
use Rattle.std.proofs.Common.{◌∙◌}
use Rattle.queries.proofs.Placing.{put_found, put_last}
use Rattle.queries.proofs.normal.place.Goals as goal

pub returns-in_ok-insert-in-Some : goal.returns-in_ok-insert-in-Some
returns-in_ok-insert-in-Some c =
    c.in_ok-insert-in-Some.ensures.items ∙ put_found c.args.atoms.now.items c.args.atom c.in-Some.at (rw c.as_slice.ensures.value at c.in-Some.ensures.value)

pub returns-in_ok-push-in-None : goal.returns-in_ok-push-in-None
returns-in_ok-push-in-None c =
    c.in_ok-push-in-None.ensures.items ∙ put_last c.args.atoms.now.items c.args.atom (rw c.as_slice.ensures.value at c.in-None.ensures.value)
