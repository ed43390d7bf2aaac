use Rattle.std.proofs.Common.{◌≡◌, ◌+◌, ◌∙◌, refl, sym, ap, false, length}
use Rattle.line_lexer.specs.Cursor.{Cursor}
use Rattle.line_lexer.specs.Tokens.{is_over}
use Rattle.line_lexer.proofs.Onward.{none_longest, some_longest, next_is, unblanked_is}
use Rattle.line_lexer.proofs.tokens.Tokens.next.Goals as goal

pub returns-in-None-clause-longest : goal.returns-in-None-clause-longest
returns-in-None-clause-longest c =
    let blank = unblanked_is c.args.self.now _ _ _ _ _ (sym c.self.view_is) c.split_at.ensures.back c.unblanked-blanks.ensures.blanks c.unblanked-blanks.ensures.rest in
    none_longest _ c.unblanked-blanks.result.1.now blank.whole c.in-None.ensures.none

pub returns-in-Some-clause-next : goal.returns-in-Some-clause-next
returns-in-Some-clause-next c =
    let blank = unblanked_is c.args.self.now _ _ _ _ _ (sym c.self.view_is) c.split_at.ensures.back c.unblanked-blanks.ensures.blanks c.unblanked-blanks.ensures.rest in
    let over : is_over c.unblanked-blanks.result.1.now ≡ false = ap is_over (sym c.as_bytes.ensures.value) ∙ sym c.is_over.ensures ∙ c.if-is_over.false in
    next_is c.args.self.now _ c.unblanked-blanks.result.1.now c.unblanked-blanks.result.0 _ blank over c.in-Some.ensures.shape c.in-Some.ensures.front (ap (λ (s : Cursor). s.place + c.unblanked-blanks.result.0) c.self.view_is) refl (let P : Cursor → Cursor = λ s. record { line = s.line; place = c.self.inside.place + c.unblanked-blanks.result.0 + length c.in-Some.text.now } in ap P c.self.view_is)

pub returns-in-Some-clause-longest : goal.returns-in-Some-clause-longest
returns-in-Some-clause-longest c =
    let blank = unblanked_is c.args.self.now _ _ _ _ _ (sym c.self.view_is) c.split_at.ensures.back c.unblanked-blanks.ensures.blanks c.unblanked-blanks.ensures.rest in
    some_longest _ c.unblanked-blanks.result.1.now _ _ blank.whole c.in-Some.ensures.shape
