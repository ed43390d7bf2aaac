use Rattle.std.proofs.Common.{◌≡◌, ◌∙◌, ap, nat_abs, ℤ, pos, neg_ℤ, ◌≤ℤ◌, arith, w16, w64, FitsSigned}
use Rattle.std.specs.Int.{int_div_euclid, int_rem_euclid}
use Rattle.std.proofs.lemmas.Int.{to_z-of_z}
use Rattle.jiff_core.specs.Date.{epoch_day}
use Rattle.jiff_core.proofs.SignedLemmas.{signed_arith}
use Rattle.civil_values.proofs.Written.{year_from_number, year_fits, year_is, clock_is, text_of}
use Rattle.civil_values.proofs.CellTexts.{time_ascii}
use Rattle.civil_values.proofs.time_text.write_time.Goals as goal

pub overflow_cast-date : goal.overflow_cast-date
overflow_cast-date c =
    let first = c.requires.0 in
    let end = c.requires.1 in
    let at_fits : FitsSigned w64 c.args.at.0 = omega (arith, signed_arith) in
    let div : c.div_euclid.result ≡ int_div_euclid c.args.at.0 (pos 86_400_000) = rw (to_z-of_z w64 c.args.at.0 at_fits) at c.div_euclid.ensures in
    let div_fits : FitsSigned w64 c.div_euclid.result = omega (arith, signed_arith) in
    let day : epoch_day c.unwrap-date.result ≡ c.div_euclid.result =
    rw (c.unwrap-date.ensures, to_z-of_z w64 c.div_euclid.result div_fits) at c.from_unix_epoch_day.ensures.value in
    let low : neg_ℤ (pos 719_162) ≤ℤ epoch_day c.unwrap-date.result = omega (arith, signed_arith) in
    let year = year_from_number c.unwrap-date.result low in
    let range = c.unwrap-date.result.year_in in
    let year_fits16 : FitsSigned w16 c.unwrap-date.result.year = omega (arith, signed_arith) in
    rw (to_z-of_z w16 c.unwrap-date.result.year year_fits16) (year_fits c.unwrap-date.result.year year range.1)

pub returns-clause-text : goal.returns-clause-text
returns-clause-text c =
    let first = c.requires.0 in
    let end = c.requires.1 in
    let at_fits : FitsSigned w64 c.args.at.0 = omega (arith, signed_arith) in
    let div : c.div_euclid.result ≡ int_div_euclid c.args.at.0 (pos 86_400_000) = rw (to_z-of_z w64 c.args.at.0 at_fits) at c.div_euclid.ensures in
    let div_fits : FitsSigned w64 c.div_euclid.result = omega (arith, signed_arith) in
    let day : epoch_day c.unwrap-date.result ≡ c.div_euclid.result =
    rw (c.unwrap-date.ensures, to_z-of_z w64 c.div_euclid.result div_fits) at c.from_unix_epoch_day.ensures.value in
    let low : neg_ℤ (pos 719_162) ≤ℤ epoch_day c.unwrap-date.result = omega (arith, signed_arith) in
    let year = year_from_number c.unwrap-date.result low in
    let range = c.unwrap-date.result.year_in in
    let year_fits16 : FitsSigned w16 c.unwrap-date.result.year = omega (arith, signed_arith) in
    let year_back = to_z-of_z w16 c.unwrap-date.result.year year_fits16 in
    let rem : c.rem_euclid-clock.result ≡ int_rem_euclid c.args.at.0 (pos 86_400_000) = rw (to_z-of_z w64 c.args.at.0 at_fits) at c.rem_euclid-clock.ensures.value in
    let rem_fits : FitsSigned w64 c.rem_euclid-clock.result = omega (arith, signed_arith) in
    let rem_low : pos 0 ≤ℤ c.rem_euclid-clock.result = omega (arith, signed_arith) in
    let rem_back = to_z-of_z w64 c.rem_euclid-clock.result rem_fits in
    rw c.utc.ensures (text_of c.args.at.0 c.unwrap-date.result _ _ first end (day ∙ div)
    (ap (λ (y : ℤ). pos (nat_abs y)) year_back ∙ year_is c.unwrap-date.result.year year)
    (ap (λ (z : ℤ). pos (nat_abs z)) rem_back ∙ clock_is c.rem_euclid-clock.result rem_low ∙ rem))

pub returns-clause-ascii : goal.returns-clause-ascii
returns-clause-ascii c = time_ascii c.args.at.0 c.utc.result (returns-clause-text c)
