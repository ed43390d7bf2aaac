use Rattle.std.proofs.Common.{sym, ◌∙◌, arith}
use Rattle.onprom_core.proofs.Numbering.{counted, counted_past, not_counted, uncounted}
use Rattle.onprom_core.proofs.naming.count_named.Goals as goal

pub returns-then-not-begins : goal.returns-then-not-begins
returns-then-not-begins c = sym (uncounted c.args.most c.ranges.most.fits c.args.text.now (sym (rw c.as_bytes.ensures.value at c.begins.ensures) ∙ c.if-not-begins.true))

pub returns-in-Ok : goal.returns-in-Ok
returns-in-Ok c =
    sym (counted c.args.most c.ranges.most.fits c.args.text.now (sym (rw c.as_bytes.ensures.value at c.begins.ensures) ∙ c.if-not-begins.false)
    c.parse.result c.in-Ok.number c.in-Ok.is c.parse.ensures.value.0 (omega arith) (omega arith))

pub returns-in_default : goal.returns-in_default
returns-in_default c =
    sym (counted_past c.args.most c.ranges.most.fits c.args.text.now (sym (rw c.as_bytes.ensures.value at c.begins.ensures) ∙ c.if-not-begins.false)
    c.parse.result c.in-Ok.number c.in-Ok.is c.parse.ensures.value.0 (λ low high. absurd (omega arith)))

pub returns-in_default-2 : goal.returns-in_default-2
returns-in_default-2 c =
    sym (counted_past c.args.most c.ranges.most.fits c.args.text.now (sym (rw c.as_bytes.ensures.value at c.begins.ensures) ∙ c.if-not-begins.false)
    c.parse.result c.in-Ok.number c.in-Ok.is c.parse.ensures.value.0 (λ low high. absurd (omega arith)))

pub returns-in_default-3 : goal.returns-in_default-3
returns-in_default-3 c =
    sym (not_counted c.args.most c.ranges.most.fits c.args.text.now (sym (rw c.as_bytes.ensures.value at c.begins.ensures) ∙ c.if-not-begins.false)
    c.parse.result c.in_default.field-0 c.in_default.is c.parse.ensures.value.0)
