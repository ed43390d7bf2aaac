use Rattle.std.proofs.Common.{sym, subst, w64}
use Rattle.std.specs.Str.{IsAscii}
use Rattle.std.proofs.lemmas.Int.{to_z-of_z}
use Rattle.civil_values.proofs.CellTexts.{int_ascii}
use Rattle.civil_values.proofs.number.write_int.Goals as goal

pub returns-clause-ascii : goal.returns-clause-ascii
returns-clause-ascii c = let t = c.write_signed.ensures.text in let back = to_z-of_z w64 c.args.n c.ranges.n in subst IsAscii (sym (rw back at t)) (int_ascii c.args.n c.ranges.n)
