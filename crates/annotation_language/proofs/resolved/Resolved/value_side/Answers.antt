use Rattle.annotation_language.proofs.Sorts.{first_side_is}
use Rattle.annotation_language.proofs.resolved.Resolved.value_side.Goals as goal

pub returns-in-Some : goal.returns-in-Some
returns-in-Some c =
    let first = rw (c.second.ensures, c.as_slice.ensures.value, c.as_slice-2.ensures.value) at c.in-Some.ensures in
    first_side_is _ _ first
