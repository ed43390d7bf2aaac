-- By `Numbers`.
use Rattle.std.proofs.Common.{◌≡◌, refl, sym, ◌∙◌, ap, subst, length, slice_get, Some, None}
use Rattle.std.proofs.lemmas.Option.{slice_get_past, slice_get_read}
use Rattle.std.proofs.lemmas.Result.{on_ok_weaker}
use Rattle.relation_join.specs.Joins.{Gains, IsNumbered, IsPair, IsRow}
use Rattle.relation_join.proofs.Gaining.{gains_nothing, gains_same}
use Rattle.relation_join.proofs.Numbers.{In-slice_get, not_numbered, numbered}
use Rattle.relation_join.proofs.joining.add_numbered.Goals as goal

pub add_pair-requires-clause-row : goal.add_pair-requires-clause-row
add_pair-requires-clause-row c =
    let h = c.in-Some.ensures.lookup in
    let e : slice_get c.args.rows.now c.args.number ≡ Some c.in-Some.row.now = slice_get_read c.args.rows.now (length c.args.rows.now) c.args.number c.in-Some.row.now refl h.3.0 h.1 in
    subst (IsRow c.args.sides.now.vars) (sym c.items.ensures) (c.requires.rows c.in-Some.row.now (In-slice_get c.args.rows.now c.args.number c.in-Some.row.now e))

pub returns-in-Some : goal.returns-in-Some
returns-in-Some c =
    let sides = c.args.sides.now in
    let old = c.args.out.now.items in
    let new = c.add_pair.new.out.items in
    let P = IsPair sides.vars sides.more sides.head c.items.result.now c.args.other.now in
    let Q = IsNumbered sides.vars sides.more sides.head c.args.rows.now c.args.other.now c.args.number in
    let h = c.in-Some.ensures.lookup in
    let e : slice_get c.args.rows.now c.args.number ≡ Some c.items.result.now = slice_get_read c.args.rows.now (length c.args.rows.now) c.args.number c.in-Some.row.now refl h.3.0 h.1 ∙ ap Some (sym c.items.ensures) in
    on_ok_weaker c.add_pair.result (λ (gains : Gains P old new). gains_same P Q old new (numbered sides.vars sides.more sides.head c.args.rows.now c.args.other.now c.args.number c.items.result.now e) gains) c.add_pair.ensures

pub returns-in-None : goal.returns-in-None
returns-in-None c =
    let sides = c.args.sides.now in
    let h = c.in-None.ensures.lookup in
    let e : slice_get c.args.rows.now c.args.number ≡ None = slice_get_past c.args.rows.now c.args.number h.3 in
    gains_nothing (IsNumbered sides.vars sides.more sides.head c.args.rows.now c.args.other.now c.args.number) c.args.out.now.items
    (not_numbered sides.vars sides.more sides.head c.args.rows.now c.args.other.now c.args.number e)
