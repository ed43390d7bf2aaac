-- By `Heads`.
use Rattle.std.proofs.Common.{◌≡◌, sym, ◌∙◌, ap, subst, Some, None}
use Rattle.std.specs.Option.{option_copied}
use Rattle.vocabulary.specs.declared.term.Term.{Term}
use Rattle.relation_join.specs.Joins.{value_in}
use Rattle.relation_join.proofs.Heads.{term_of_second}
use Rattle.relation_join.proofs.Values.{copied_some, row_some}
use Rattle.relation_join.proofs.pairing.value_in_one.Goals as goal

pub unwrap-requires : goal.unwrap-requires
unwrap-requires c =
    let sides = c.args.sides.now in
    let none : value_in sides.vars c.args.row.now c.args.var ≡ None = subst (λ z. value_in z c.args.row.now c.args.var ≡ None) c.items.ensures (sym c.in-None.ensures) in
    let told = term_of_second sides.vars sides.more c.args.row.now c.args.other.now c.args.var c.requires.row c.requires.other c.requires.stands none in
    copied_some {T = Term} c.value_of-in-None.result told.0 (c.value_of-in-None.ensures ∙ ap (λ z. value_in z c.args.other.now c.args.var) c.items-in-None.ensures ∙ told.1)

pub returns-in-Some : goal.returns-in-Some
returns-in-Some c = λ σ e f.
    let sides = c.args.sides.now in
    let found : value_in sides.vars c.args.row.now c.args.var ≡ Some c.in-Some.found.now = subst (λ z. value_in z c.args.row.now c.args.var ≡ Some c.in-Some.found.now) c.items.ensures (sym c.in-Some.ensures) in
    (row_some σ sides.vars c.args.row.now c.args.var c.in-Some.found.now e found).1

pub returns-in-None : goal.returns-in-None
returns-in-None c = λ σ e f.
    let sides = c.args.sides.now in
    let found : value_in sides.more c.args.other.now c.args.var ≡ Some c.unwrap.result.now = subst (λ z. value_in z c.args.other.now c.args.var ≡ Some c.unwrap.result.now) c.items-in-None.ensures (sym c.value_of-in-None.ensures ∙ ap option_copied c.unwrap.ensures) in
    (row_some σ sides.more c.args.other.now c.args.var c.unwrap.result.now f found).1
