-- By `Marking`.
use Rattle.std.proofs.Common.{refl, sym, ◌∙◌, ap, subst, [], ◌++◌, All, length, filter_map, ◌<◌}
use Rattle.std.specs.Prelude.{slice_get}
use Rattle.queries.specs.Matches.{Matched}
use Rattle.why_answers.specs.declared.showing.Shown.{Shown}
use Rattle.why_answers.specs.Finding.{ReadAt}
use Rattle.why_answers.specs.Showing.{lead_facts, mark_facts}
use Rattle.why_answers.proofs.Marking.{is_shown, places_within, read_marks}
use Rattle.why_answers.proofs.showing.settle.Goals as goal

pub unreachable-requires : goal.unreachable-requires
unreachable-requires c =
    (rw c.in_default.is at c.in_ok-places.ensures) c.requires.read.0 tt (subst (λ fs. Matched fs c.requires.read.0 c.args.atoms.now) (sym (c.as_slice.ensures.value ∙ c.in_ok-facts.ensures)) c.requires.read.1)

pub mark_all-requires : goal.mark_all-requires
mark_all-requires c =
    let r : ReadAt c.args.atoms.now (lead_facts c.args.leads.now) [] c.in-Some.places.items = subst (λ fs. ReadAt c.args.atoms.now fs [] c.in-Some.places.items) (c.as_slice.ensures.value ∙ c.in_ok-facts.ensures) (rw c.in-Some.is at c.in_ok-places.ensures) in
    record { places = subst (All (λ k. k < length c.args.leads.now)) (sym c.as_slice-2.ensures.value) (places_within c.args.leads.now c.in-Some.places.items r.more r.at) }

pub returns-clause-read : goal.returns-clause-read
returns-clause-read c =
    let r : ReadAt c.args.atoms.now (lead_facts c.args.leads.now) [] c.in-Some.places.items = subst (λ fs. ReadAt c.args.atoms.now fs [] c.in-Some.places.items) (c.as_slice.ensures.value ∙ c.in_ok-facts.ensures) (rw c.in-Some.is at c.in_ok-places.ensures) in
    read_marks c.args.atoms.now (lead_facts c.args.leads.now) c.in-Some.places.items c.mark_all.new.shown.marks r
    (c.in_ok-mark_all.ensures.facts ∙ ap (λ ms. mark_facts ms ++ filter_map (slice_get (lead_facts c.args.leads.now)) c.as_slice-2.result.now) c.new.ensures ∙ ap (filter_map (slice_get (lead_facts c.args.leads.now))) c.as_slice-2.ensures.value)

pub returns-clause-shown : goal.returns-clause-shown
returns-clause-shown c axioms mappings tables facts run led =
    let before : Shown = record { steps = c.args.steps; marks = c.new.result } in
    is_shown axioms c.args.leads.now c.args.steps before c.mark_all.new.shown refl c.new.ensures c.in_ok-mark_all.ensures.shown mappings tables facts run led
