-- By `Solid`.
use Rattle.std.proofs.Common.{rules, ◌≡◌, sym, subst, ◌∙◌, ap, Some, None}
use Rattle.std.specs.Prelude.{slice_get}
use Rattle.queries.specs.Matches.{Matched, Terms}
use Rattle.mapping_facts.specs.Facts.{mapped_facts}
use Rattle.why_answers.specs.Asking.{put_tuple}
use Rattle.why_answers.specs.Matching.{AreWithoutVariables, ReadMapped}
use Rattle.why_answers.proofs.Solid.{first_listed, no_first, no_image, solid, solid_matched, solid_read}
use Rattle.why_answers.proofs.wide.wide_match.Goals as goal

pub returns-in_default : goal.returns-in_default
returns-in_default c =
    let none : slice_get c.items.result.now 0 ≡ None = search rules in
    no_image (mapped_facts c.args.mappings.now c.args.tables.now) c.args.query.now c.in_ok-full.full c.in_ok-full.ensures.variables c.in_ok-found.found (no_first c.in_ok-found.found c.items.result.now c.items.ensures none) c.in_ok-found.ensures

pub atom_facts-requires-clause-solid : goal.atom_facts-requires-clause-solid
atom_facts-requires-clause-solid c =
    let full = c.in_ok-full.full in
    let facts = mapped_facts c.args.mappings.now c.args.tables.now in
    let first : slice_get c.items.result.now 0 ≡ Some c.in-Some.tuple.now = search rules in
    let image = c.in_ok-found.ensures.each c.in-Some.tuple.now (first_listed c.in_ok-found.found c.items.result.now c.in-Some.tuple.now c.items.ensures first) in
    let same = c.items-3.ensures ∙ ap (λ q. q.atoms) c.in_ok-solid.ensures ∙ ap (λ ts. put_tuple full.head ts full.atoms) c.items-2.ensures in
    subst AreWithoutVariables (sym same) (solid facts c.args.query.now full c.in_ok-full.ensures.variables c.in-Some.tuple.now image)

pub atom_facts-requires-clause-some : goal.atom_facts-requires-clause-some
atom_facts-requires-clause-some c =
    let full = c.in_ok-full.full in
    let facts = mapped_facts c.args.mappings.now c.args.tables.now in
    let first : slice_get c.items.result.now 0 ≡ Some c.in-Some.tuple.now = search rules in
    let image = c.in_ok-found.ensures.each c.in-Some.tuple.now (first_listed c.in_ok-found.found c.items.result.now c.in-Some.tuple.now c.items.ensures first) in
    let same = c.items-3.ensures ∙ ap (λ q. q.atoms) c.in_ok-solid.ensures ∙ ap (λ ts. put_tuple full.head ts full.atoms) c.items-2.ensures in
    subst (λ atoms. (σ : Terms) × Matched facts σ atoms) (sym same) (solid_matched facts c.args.query.now full c.in_ok-full.ensures.variables c.in-Some.tuple.now image)

pub returns : goal.returns
returns c =
    let full = c.in_ok-full.full in
    let first : slice_get c.items.result.now 0 ≡ Some c.in-Some.tuple.now = search rules in
    let image = c.in_ok-found.ensures.each c.in-Some.tuple.now (first_listed c.in_ok-found.found c.items.result.now c.in-Some.tuple.now c.items.ensures first) in
    let same = c.items-3.ensures ∙ ap (λ q. q.atoms) c.in_ok-solid.ensures ∙ ap (λ ts. put_tuple full.head ts full.atoms) c.items-2.ensures in
    solid_read c.args.mappings.now c.args.tables.now c.args.query.now full c.in_ok-full.ensures.variables c.in-Some.tuple.now image c.in_ok-facts.facts
    (subst (λ atoms. ReadMapped c.args.mappings.now c.args.tables.now atoms c.in_ok-facts.facts) same c.in_ok-facts.ensures)
