-- A fresh term has the text of its parent.
use Rattle.std.proofs.Common.{◌∙◌, ap, sym}
use Rattle.vocabulary.specs.Terms.{text_of}
use Rattle.vocabulary.proofs.Wrapping.{text_new}
use Rattle.vocabulary.proofs.term.Term.text.Goals as goal

pub loop-term-preserved : goal.loop-term-preserved
loop-term-preserved c =
    ap text_of c.get-term.ensures ∙ sym (text_new c.in-New.field-0 c.in-New.field-1 c.in-New.parent) ∙ sym (ap text_of c.in-New.is) ∙ c.loop-term.invariant
