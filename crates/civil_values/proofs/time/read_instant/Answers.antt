use Rattle.std.proofs.Common.{◌∙◌, ap, sym, Some, option_map, arith, w32}
use Rattle.std.proofs.lemmas.Int.{to_z-of_z}
use Rattle.jiff_core.proofs.SignedLemmas.{signed_casts}
use Rattle.civil_values.specs.Times.{instant}
use Rattle.civil_values.proofs.Moments.{short, no_day, no_rest, none_mapped, instant_by}
use Rattle.civil_values.proofs.time.read_instant.Goals as goal

pub returns-then-text-lt-DAY_LEN-clause-value : goal.returns-then-text-lt-DAY_LEN-clause-value
returns-then-text-lt-DAY_LEN-clause-value c = sym (ap (option_map instant) (short c.args.given c.args.text.now c.if-text-lt-DAY_LEN.true))

pub returns-in_err-day-clause-value : goal.returns-in_err-day-clause-value
returns-in_err-day-clause-value c =
    let read = c.in_err-day.ensures.value in
    let none = none_mapped _ _ (rw c.split_at.ensures.front at read) in
    c.from_residual.ensures ∙ sym (ap (option_map instant) (no_day c.args.given c.args.text.now none))

pub returns-in_err-clock-clause-value : goal.returns-in_err-clock-clause-value
returns-in_err-clock-clause-value c =
    let given = to_z-of_z w32 c.args.given c.ranges.given in
    let read = rw (given, c.split_at.ensures.back) at c.in_err-clock.ensures.value in
    c.from_residual-in_err-clock.ensures ∙ sym (ap (option_map instant) (no_rest c.args.given c.args.text.now (sym read)))

pub returns-clause-value : goal.returns-clause-value
returns-clause-value c =
    let given = to_z-of_z w32 c.args.given c.ranges.given in
    let day = rw c.split_at.ensures.front at c.in_ok-day.ensures.value in
    let rest = rw (given, c.split_at.ensures.back) at c.in_ok-clock.ensures.value in
    let small = c.in_ok-day.ensures.small in
    let clock = c.in_ok-clock.ensures.small in
    let near = c.in_ok-clock.ensures.near in
    ap Some (omega (arith, signed_casts)) ∙ sym (instant_by c.args.given c.args.text.now c.in_ok-day.day c.in_ok-clock.clock c.in_ok-clock.ahead day rest)

pub returns-clause-near : goal.returns-clause-near
returns-clause-near c =
    let small = c.in_ok-day.ensures.small in
    let clock = c.in_ok-clock.ensures.small in
    let near = c.in_ok-clock.ensures.near in
    (omega (arith, signed_casts), omega (arith, signed_casts))
