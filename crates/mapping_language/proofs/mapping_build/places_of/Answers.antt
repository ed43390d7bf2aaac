-- By `Lists`.
use Rattle.std.proofs.Common.{◌≡◌, ◌<◌, ◌≤◌, ◌++◌, ◌∷◌, [], List, ℕ, ap, get_or, length, map, subst, sym, take, ◌∙◌}
use Rattle.std.proofs.lemmas.List.{length-map, take_all}
use Rattle.iri_templates.specs.Templates.{hole_texts}
use Rattle.mapping_language.specs.Mappings.{place_at, cell_of_hole}
use Rattle.mapping_language.specs.Shown.{map_shown}
use Rattle.mapping_language.proofs.Lists.{get_or_mapped, next_mapped}
use Rattle.mapping_language.proofs.mapping_build.places_of.Goals as goal

pub loop-hole-preserved : goal.loop-hole-preserved
loop-hole-preserved c =
    let texts = hole_texts c.args.template.now in
    let items = c.deref-hole-items.result.now in
    let i = c.loop-hole.hole-index in
    let f = λ (hole : List ℕ). place_at c.args.sources.now (map_shown c.args.line.now) (cell_of_hole hole) in
    let all : map (λ h. h.now) items ≡ texts = ap (map (λ h. h.now)) c.deref-hole-items.ensures.value ∙ c.in_ok-holes.ensures in
    let lt : i < length texts = subst (λ z. i < length z) all (subst (λ n. i < n) (sym (length-map items (λ h. h.now))) c.loop-hole-test.true) in
    let text = ap (λ z. get_or z i []) (sym all) ∙ get_or_mapped (λ h. h.now) items i _ [] c.loop-hole-test.true in
    let place = c.in_ok-place_at.ensures ∙ ap (place_at c.args.sources.now (map_shown c.args.line.now)) c.cell_of_hole-cell.ensures ∙ ap f (sym text) in
    c.in_ok-push.ensures.ok ∙ ap (λ z. z ++ c.in_ok-place_at.field-0 ∷ []) c.loop-hole.invariant ∙ ap (λ z. map f (take i texts) ++ z ∷ []) place ∙ sym (next_mapped f texts i [] lt)

pub returns : goal.returns
returns c =
    let texts = hole_texts c.args.template.now in
    let items = c.deref-hole-items.result.now in
    let f = λ (hole : List ℕ). place_at c.args.sources.now (map_shown c.args.line.now) (cell_of_hole hole) in
    let all : map (λ h. h.now) items ≡ texts = ap (map (λ h. h.now)) c.deref-hole-items.ensures.value ∙ c.in_ok-holes.ensures in
    let end : length texts ≤ c.loop-hole.hole-index = subst (λ z. length z ≤ c.loop-hole.hole-index) all (subst (λ n. n ≤ c.loop-hole.hole-index) (sym (length-map items (λ h. h.now))) c.loop-hole-test.false) in
    c.loop-hole.invariant ∙ ap (map f) (take_all c.loop-hole.hole-index texts end)
