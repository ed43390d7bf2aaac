use Rattle.std.proofs.lemmas.Fmt.{signed_decimal_injective}
use Rattle.civil_values.proofs.laws.int_texts_are_apart.Goals as goal

pub returns : goal.returns
returns c = λ m n h k e. signed_decimal_injective m n h.sfits k.sfits e
