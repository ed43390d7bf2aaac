use Rattle.std.proofs.Common.{◌∙◌, sym, w32, FitsSigned, arith}
use Rattle.std.proofs.lemmas.Int.{to_z-of_z}
use Rattle.jiff_core.proofs.SignedLemmas.{signed_arith}
use Rattle.civil_values.proofs.Moments.{placed_none, placed_some}
use Rattle.civil_values.proofs.time.read_placed.Goals as goal

pub returns-in_err-ahead-clause-value : goal.returns-in_err-ahead-clause-value
returns-in_err-ahead-clause-value c =
    let back = to_z-of_z w32 c.args.given c.ranges.given in
    let zone = rw back at c.in_err-ahead.ensures.value in
    c.from_residual-in_err-ahead.ensures ∙ sym (placed_none c.args.given c.args.text.now (c.in_ok-clock.clock, c.in_ok-clock.rest.now) c.in_ok-clock.ensures.value zone)

pub returns-clause-value : goal.returns-clause-value
returns-clause-value c =
    let back = to_z-of_z w32 c.args.given c.ranges.given in
    let zone = rw back at c.in_ok-ahead.ensures.value in
    let near = c.in_ok-ahead.ensures.near in
    let fits : FitsSigned w32 c.in_ok-ahead.ahead = omega (arith, signed_arith) in
    rw (to_z-of_z w32 c.in_ok-ahead.ahead fits) (sym (placed_some c.args.given c.args.text.now (c.in_ok-clock.clock, c.in_ok-clock.rest.now) c.in_ok-ahead.ahead c.in_ok-clock.ensures.value zone))
