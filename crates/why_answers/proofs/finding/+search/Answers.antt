-- By `Assigning`.
use Rattle.std.proofs.Common.{refl, sym, ◌∙◌, ap, subst, ◌∷◌, [], length, length-append, drop, inl, inr, arith}
use Rattle.std.specs.Prelude.{slice_get}
use Rattle.why_answers.specs.Finding.{ReadAt}
use Rattle.why_answers.proofs.Assigning.{all_read, attempt_front, attempt_none, attempt_rest, attempt_some, below_or_at, drop_low, drop_next, none_further, none_left, some_place}
use Rattle.why_answers.proofs.finding.+search.Goals as goal

pub attempt-returns-then-not-reads : goal.attempt-returns-then-not-reads
attempt-returns-then-not-reads t c =
    attempt_none c.args.atoms.now c.args.facts.now c.args.named.now c.args.at c.index-facts-at.result _ c.items-named.result.now c.reads.result c.requires.place c.index-facts-at.is
    (c.items-named.ensures ∙ c.in_ok-owned.ensures) refl c.reads.ensures c.if-not-reads.true

pub attempt-search-requires : goal.attempt-search-requires
attempt-search-requires t c =
    let long = ap length (c.items-named.ensures ∙ c.in_ok-owned.ensures) ∙ length-append c.args.named.now (c.index-facts-at.result ∷ []) in
    let few = c.requires.few in
    let fall = c.decreases in (
      omega (arith, fall),
      (
        ap (λ n. drop n c.args.atoms.now) long ∙ c.requires.rest,
        (omega (arith, long, few), attempt_front c.args.atoms.now _ c.items-named.result.now c.reads.result refl c.reads.ensures c.if-not-reads.false),
      ),
    )

pub attempt-returns-in-Some : goal.attempt-returns-in-Some
attempt-returns-in-Some t c f is =
    attempt_some c.args.atoms.now c.args.facts.now c.args.named.now c.args.at c.index-facts-at.result c.items-named.result.now c.in-Some.places.items c.in_ok-put_first-in-Some.field-0.items c.requires.place c.index-facts-at.is
    (c.items-named.ensures ∙ c.in_ok-owned.ensures) c.in_ok-put_first-in-Some.ensures (rw c.in-Some.is at c.in_ok-places.ensures)

pub attempt-returns : goal.attempt-returns
attempt-returns t c f is =
    attempt_rest c.args.atoms.now c.args.facts.now c.args.named.now c.args.at c.index-facts-at.result c.items-named.result.now c.requires.place c.index-facts-at.is
    (c.items-named.ensures ∙ c.in_ok-owned.ensures) (rw c.in-None.is at c.in_ok-places.ensures) f is

pub search-returns-in_default : goal.search-returns-in_default
search-returns-in_default t c =
    subst (ReadAt c.args.atoms.now c.args.facts.now c.args.named.now) (sym c.new.ensures.items)
    (all_read c.args.atoms.now c.args.facts.now c.args.named.now (none_left c.args.atoms.now c.args.rest.now (length c.args.named.now) c.requires.rest c.in_default.ensures.cases c.requires.few) c.requires.front)

pub search-attempt-requires : goal.search-attempt-requires
search-attempt-requires t c = (
  let fall = c.decreases in let shorter = c.in-Some.ensures.cases.1 in omega (arith, fall, shorter),
  (
    drop_next c.args.atoms.now c.in-Some.behind.now (length c.args.named.now) c.in-Some.field-0-0.now (c.requires.rest ∙ c.in-Some.ensures.cases.0),
    (drop_low c.args.atoms.now c.in-Some.behind.now (length c.args.named.now) c.in-Some.field-0-0.now (c.requires.rest ∙ c.in-Some.ensures.cases.0), c.loop-at-test.true),
  ),
)

pub search-returns-in-Some-2 : goal.search-returns-in-Some-2
search-returns-in-Some-2 t c =
    let f = some_place c.args.facts.now c.loop-at.at c.loop-at-test.true in
    (rw c.in-Some-2.is at c.in_ok-places.ensures) f.0 f.1

pub search-loop-at-preserved : goal.search-loop-at-preserved
search-loop-at-preserved t c j f low is = elim (below_or_at j c.loop-at.at low) [
  | inl h ↦ c.loop-at.invariant j f h is
  | inr e ↦ (rw c.in_default-2.is at c.in_ok-places.ensures) f (ap (slice_get c.args.facts.now) (sym e) ∙ is)
]

pub search-returns : goal.search-returns
search-returns t c =
    none_further c.args.atoms.now c.args.facts.now c.args.named.now (drop_low c.args.atoms.now c.in-Some.behind.now (length c.args.named.now) c.in-Some.field-0-0.now (c.requires.rest ∙ c.in-Some.ensures.cases.0))
    (λ j f low is. (let end = c.loop-at-test.false in c.loop-at.invariant j f (omega (arith, low, end)) is))
