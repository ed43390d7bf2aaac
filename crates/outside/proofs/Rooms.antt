-- Bytes that are copied behind others, into the rest of a room.
use Rattle.std.proofs.Common.{◌≡◌, ◌≤◌, ◌+◌, ℕ, List, ◌++◌, length, take, ap, sym, ◌∙◌, length-take, arith}
use Rattle.std.proofs.lemmas.List.{take-append-le}
use Rattle.std.proofs.Math.Seq.{take-append-add}

-- what stands in front, and then a front of what was copied
pub front_grows : (room to more : List ℕ) (len n : ℕ) → len ≤ length room → n ≤ length to → take (len + n) (take len room ++ (to ++ more)) ≡ take len room ++ take n to
front_grows room to more len n within fits =
    let front : length (take len room) ≡ len = omega (arith, length-take len room) in
    ap (λ k. take (k + n) (take len room ++ (to ++ more))) (sym front) ∙ take-append-add (take len room) (to ++ more) n
    ∙ ap (λ t. take len room ++ t) (take-append-le n to more fits)
