-- What `str::from_utf8` answers where the bytes are known to be a text.
use Rattle.std.proofs.Common.{Result, Ok, Err, refl}
use Rattle.std.specs.Result.{MatchResult, IsOk}

pub only_ok : {T E U : Type 0} (P : T → Type 0) (Q : E → Type 0) (r : Result T E) → U → MatchResult r P (λ e. (U → ⊥) × Q e) → IsOk r
only_ok P Q (Ok x) u h = refl
only_ok P Q (Err e) u h = absurd (h.0 u)
