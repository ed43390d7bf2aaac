-- Offsets fit 32 bits.
use Rattle.std.proofs.Common.{◌≡◌, ℤ, pos, negsuc, arith, w32, to_z, of_z, SFits}
use Rattle.std.proofs.lemmas.Int.{ints, to_z-of_z}
use Rattle.jiff_core.specs.Calendar.{IsWithin}

fits : (offset : ℤ) → IsWithin 840 offset → SFits w32 offset
fits (pos n) within = record { sfits = omega (arith, ints) }
fits (negsuc n) within = record { sfits = omega (arith, ints) }

pub offset_back : (offset : ℤ) → IsWithin 840 offset → to_z w32 (of_z w32 offset) ≡ offset
offset_back offset within = to_z-of_z w32 offset (fits offset within)
