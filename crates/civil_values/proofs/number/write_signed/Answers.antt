use Rattle.std.proofs.Common.{◌≡◌, ◌∙◌, ap, sym, arith, nat_abs, ◌-◌, length, drop, length-drop, w64, pos, ◌<ℤ◌}
use Rattle.std.specs.Fmt.{decimal}
use Rattle.std.proofs.lemmas.Int.{to_z-of_z}
use Rattle.std.proofs.lemmas.List.{take_all}
use Rattle.jiff_core.proofs.SignedLemmas.{signed_arith}
use Rattle.civil_values.proofs.Writing.{minus_written, int_text-negative}
use Rattle.civil_values.proofs.number.write_signed.Goals as goal

pub returns-then-n-lt0-clause-text : goal.returns-then-n-lt0-clause-text
returns-then-n-lt0-clause-text c =
    let back = to_z-of_z w64 c.args.n c.ranges.n in
    let told = c.told-buf in
    let long = c.write_digits-start.array_long in
    let size : length (drop c.write_digits-start.result c.write_digits-start.new.digits) ≡ 20 - c.write_digits-start.result =
    omega (arith, length-drop c.write_digits-start.result c.write_digits-start.new.digits) in
    let whole = c.copy_from_slice.ensures.after ∙ take_all (20 - c.write_digits-start.result) (drop c.write_digits-start.result c.write_digits-start.new.digits) (omega arith) in
    let negative : c.args.n <ℤ pos 0 = omega (arith, signed_arith, rw back at c.if-n-lt0.true) in
    minus_written c.args.buf.now c.copy_from_slice.new.self _ (decimal (nat_abs c.args.n)) (20 - c.write_digits-start.result) (omega arith)
    (whole ∙ c.write_digits-start.ensures.text ∙ ap decimal (c.unsigned_abs.ensures.value ∙ ap nat_abs back)) (ap length whole ∙ size)
    ∙ sym (int_text-negative c.args.n negative)
