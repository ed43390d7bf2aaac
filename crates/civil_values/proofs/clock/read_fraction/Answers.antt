use Rattle.std.proofs.Common.{◌-◌, length, take, drop}
use Rattle.civil_values.proofs.Clocks.{all_digits}
use Rattle.civil_values.proofs.clock.read_fraction.Goals as goal

pub milliseconds-requires : goal.milliseconds-requires
milliseconds-requires c = rw c.count_digits-digits.ensures (all_digits (take (length c.args.text.now - 1) (drop 1 c.args.text.now)))
