use Rattle.std.proofs.Common.{◌≡◌, ◌∙◌, sym, true, [], get_or, arith}
use Rattle.std.specs.Str.{bytes_eq}
use Rattle.csv.specs.Records.{fields_of}
use Rattle.std.proofs.lemmas.List.Sums.{position_or_len_is}
use Rattle.source_tables.proofs.header.place_of.Goals as goal

pub returns-then-eq : goal.returns-then-eq
returns-then-eq c =
    let e : bytes_eq c.as_bytes.result.now c.field.result.now ≡ true = sym c.if-eq.ensures in
    let here : bytes_eq c.args.text.now (get_or (fields_of c.args.header.now) c.loop-place.place []) ≡ true = rw (c.as_bytes.ensures.value, c.field.ensures) at e in
    sym (position_or_len_is (bytes_eq c.args.text.now) (fields_of c.args.header.now) c.loop-place.place [] (omega arith) c.loop-place.invariant (λ _. here))

pub returns : goal.returns
returns c =
    c.len.ensures ∙ sym (position_or_len_is (bytes_eq c.args.text.now) (fields_of c.args.header.now) _ [] (omega arith) (λ k less. c.loop-place.invariant k (omega arith)) (λ less. absurd (omega arith)))
