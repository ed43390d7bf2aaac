use Rattle.std.proofs.Common.{ℕ, ◌≡◌, ◌<◌, ◌+◌, ◌∙◌, sym, arith, get_or}
use Rattle.std.specs.List.{range_with_len}
use Rattle.std.proofs.lemmas.List.FromFn.{get_or-range_with_len, length-range_with_len}
use Rattle.join_engine.proofs.choosing.number_below.Goals as goal

number_at : (count i : ℕ) → i < count → i ≡ get_or (range_with_len 0 count) i 0
number_at count i h = let e : 0 + i ≡ i = omega arith in sym (get_or-range_with_len 0 count i 0 h ∙ e)

pub overflow_cast-result : goal.overflow_cast-result
overflow_cast-result c = omega (arith, c.requires, length-range_with_len 0 c.args.count, c.ranges.count)

pub returns : goal.returns
returns c = number_at c.args.count c.args.i (omega (arith, c.requires, length-range_with_len 0 c.args.count))
