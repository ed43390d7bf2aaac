use Rattle.std.proofs.Common.{w32, w64, FitsSigned, arith}
use Rattle.std.proofs.lemmas.Int.{to_z-of_z}
use Rattle.jiff_core.proofs.SignedLemmas.{signed_arith}
use Rattle.civil_values.proofs.TimeLaws.{time_none, time_range, time_early, time_found, canonical_early, canonical_found}
use Rattle.civil_values.proofs.time.read_time.Goals as goal

pub returns-in_err-at-clause-none : goal.returns-in_err-at-clause-none
returns-in_err-at-clause-none c =
    let given = to_z-of_z w32 c.args.offset c.ranges.offset in
    let read = rw (given, c.as_bytes.ensures.value) at c.in_err-at.ensures.value in
    rw c.from_residual.ensures (time_none c.args.offset c.args.text.now read)

pub returns-then-at-lt-FIRST-clause-none : goal.returns-then-at-lt-FIRST-clause-none
returns-then-at-lt-FIRST-clause-none c =
    let given = to_z-of_z w32 c.args.offset c.ranges.offset in
    let read = rw (given, c.as_bytes.ensures.value) at c.in_ok-at.ensures.value in
    let near = c.in_ok-at.ensures.near in
    let fits : FitsSigned w64 c.in_ok-at.at = omega (arith, signed_arith) in
    let back = to_z-of_z w64 c.in_ok-at.at fits in
    time_early c.args.offset c.args.text.now c.in_ok-at.at read (omega (arith, signed_arith, rw back at c.if-at-lt-FIRST.true))

pub returns-then-at-lt-FIRST-clause-canonical : goal.returns-then-at-lt-FIRST-clause-canonical
returns-then-at-lt-FIRST-clause-canonical c =
    let given = to_z-of_z w32 c.args.offset c.ranges.offset in
    let read = rw (given, c.as_bytes.ensures.value) at c.in_ok-at.ensures.value in
    let near = c.in_ok-at.ensures.near in
    let fits : FitsSigned w64 c.in_ok-at.at = omega (arith, signed_arith) in
    let back = to_z-of_z w64 c.in_ok-at.at fits in
    canonical_early c.args.offset c.args.text.now c.in_ok-at.at c.requires read (omega (arith, signed_arith, rw back at c.if-at-lt-FIRST.true))

pub returns-else-at-lt-FIRST-clause-found : goal.returns-else-at-lt-FIRST-clause-found
returns-else-at-lt-FIRST-clause-found c =
    let given = to_z-of_z w32 c.args.offset c.ranges.offset in
    let read = rw (given, c.as_bytes.ensures.value) at c.in_ok-at.ensures.value in
    let near = c.in_ok-at.ensures.near in
    let fits : FitsSigned w64 c.in_ok-at.at = omega (arith, signed_arith) in
    let back = to_z-of_z w64 c.in_ok-at.at fits in
    rw back (time_found c.args.offset c.args.text.now c.in_ok-at.at read (omega (arith, signed_arith, rw back at c.if-at-lt-FIRST.false)))

pub returns-else-at-lt-FIRST-clause-canonical : goal.returns-else-at-lt-FIRST-clause-canonical
returns-else-at-lt-FIRST-clause-canonical c =
    let given = to_z-of_z w32 c.args.offset c.ranges.offset in
    let read = rw (given, c.as_bytes.ensures.value) at c.in_ok-at.ensures.value in
    let near = c.in_ok-at.ensures.near in
    let fits : FitsSigned w64 c.in_ok-at.at = omega (arith, signed_arith) in
    let back = to_z-of_z w64 c.in_ok-at.at fits in
    rw back (canonical_found c.args.offset c.args.text.now c.in_ok-at.at c.requires read)

pub returns-else-at-lt-FIRST-clause-writable : goal.returns-else-at-lt-FIRST-clause-writable
returns-else-at-lt-FIRST-clause-writable c =
    let given = to_z-of_z w32 c.args.offset c.ranges.offset in
    let read = rw (given, c.as_bytes.ensures.value) at c.in_ok-at.ensures.value in
    let near = c.in_ok-at.ensures.near in
    let fits : FitsSigned w64 c.in_ok-at.at = omega (arith, signed_arith) in
    let back = to_z-of_z w64 c.in_ok-at.at fits in
    let time = time_found c.args.offset c.args.text.now c.in_ok-at.at read (omega (arith, signed_arith, rw back at c.if-at-lt-FIRST.false)) in
    rw back (time_range c.args.offset c.args.text.now c.in_ok-at.at c.requires time)
