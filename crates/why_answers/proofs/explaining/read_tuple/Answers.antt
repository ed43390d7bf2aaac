-- By `OneReading`.
use Rattle.std.proofs.Common.{◌≡◌, ◌∙◌, sym, subst, true, false, List, Some}
use Rattle.vocabulary.specs.declared.term.Term.{Term}
use Rattle.certain_semantics.specs.Certain.{TermsKnown}
use Rattle.why_answers.proofs.OneReading.{none_read, not_read, some_read}
use Rattle.why_answers.proofs.explaining.read_tuple.Goals as goal

pub returns-then-not-reads : goal.returns-then-not-reads
returns-then-not-reads c = not_read c.args.query.now c.args.facts.now c.items-atoms.result.now c.reads.result c.items-atoms.ensures c.reads.ensures c.if-not-reads.true

pub returns-then-are_known : goal.returns-then-are_known
returns-then-are_known c =
    some_read c.args.query.now c.args.facts.now c.items-atoms.result.now c.items.result.now c.requires.stands c.items-atoms.ensures c.items.ensures (c.reads.ensures.0 c.if-not-reads.false)
    c.in-Some.tuple (rw c.in-Some.is at c.in_ok-tuple.ensures) (subst TermsKnown c.items-2.ensures (c.are_known.ensures.0 c.if-are_known.true))

clash : false ≡ true → ⊥
clash e = cc

same_some : (x y : List Term) → Some x ≡ Some y → x ≡ y
same_some x y e = cc

pub returns-else-are_known : goal.returns-else-are_known
returns-else-are_known c =
    none_read c.args.query.now c.args.facts.now c.items-atoms.result.now c.items.result.now c.requires.stands c.items-atoms.ensures c.items.ensures (c.reads.ensures.0 c.if-not-reads.false)
    (Some c.in-Some.tuple) (rw c.in-Some.is at c.in_ok-tuple.ensures)
    (λ t e k. clash (sym c.if-are_known.false ∙ c.are_known.ensures.1 (subst TermsKnown (sym (c.items-2.ensures ∙ same_some c.in-Some.tuple t e)) k)))

pub returns-in_default : goal.returns-in_default
returns-in_default c =
    none_read c.args.query.now c.args.facts.now c.items-atoms.result.now c.items.result.now c.requires.stands c.items-atoms.ensures c.items.ensures (c.reads.ensures.0 c.if-not-reads.false)
    _ (rw c.in_default.is at c.in_ok-tuple.ensures) (λ t e k. absurd cc)
