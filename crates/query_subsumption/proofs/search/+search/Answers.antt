-- By `Solving`.
use Rattle.std.proofs.Common.{◌≡◌, refl, sym, subst, true, ◌∷◌, map, take, inl, inr, Option, IfNone, IfSome, Vec, Global}
use Rattle.std.proofs.lemmas.Result.{IfOk-weaker}
use Rattle.std.proofs.lemmas.List.{take_all}
use Rattle.vocabulary.specs.Lists.{In, here, there}
use Rattle.vocabulary.proofs.Lists.{In-map}
use Rattle.query_subsumption.specs.declared.bindings.Binding.{Binding}
use Rattle.query_subsumption.specs.Numbered.{as_atom}
use Rattle.query_subsumption.specs.Search.{Fails, FailsAt, Finds, Solves, TakesInto}
use Rattle.query_subsumption.specs.Subsumption.{Replacement, atom_image}
use Rattle.query_subsumption.proofs.Places.{In-place, image_more, nothing_left}
use Rattle.query_subsumption.proofs.Solving.{fails_step, finds_none, finds_step, none_weaker, solves_same, some_weaker}
use Rattle.query_subsumption.proofs.search.+search.Goals as goal

pub attempt-returns-clause-none : goal.attempt-returns-clause-none
attempt-returns-clause-none t c =
    let P : Replacement → Type 0 = λ θ. atom_image θ (as_atom c.args.first.now) ≡ as_atom c.args.target.now in
    let rest = map as_atom c.args.rest.now in
    let special = map as_atom c.args.special.now in
    let s : Solves P c.args.bindings.now c.as_slice.result.now true = solves_same P c.in_ok-next.ensures (sym c.as_slice.ensures.value) c.if-not-branch.false c.in_ok-send_atom.ensures in
    IfOk-weaker c.search.result
    (λ (found : Option (Vec Binding Global)). IfNone found (Fails rest special c.as_slice.result.now))
    (λ (found : Option (Vec Binding Global)). IfNone found (FailsAt (as_atom c.args.first.now) (as_atom c.args.target.now) rest special c.args.bindings.now))
    (λ found h. none_weaker found (fails_step (as_atom c.args.first.now) (as_atom c.args.target.now) rest special s) h)
    c.search.ensures.none

pub attempt-returns-clause-some : goal.attempt-returns-clause-some
attempt-returns-clause-some t c =
    let P : Replacement → Type 0 = λ θ. atom_image θ (as_atom c.args.first.now) ≡ as_atom c.args.target.now in
    let rest = map as_atom c.args.rest.now in
    let special = map as_atom c.args.special.now in
    let Q : Vec Binding Global → Type 0 = λ new. Finds rest special c.as_slice.result.now new.items in
    let R : Vec Binding Global → Type 0 = λ new. In (as_atom c.args.target.now) special → Finds (as_atom c.args.first.now ∷ rest) special c.args.bindings.now new.items in
    let s : Solves P c.args.bindings.now c.as_slice.result.now true = solves_same P c.in_ok-next.ensures (sym c.as_slice.ensures.value) c.if-not-branch.false c.in_ok-send_atom.ensures in
    IfOk-weaker c.search.result (λ (found : Option (Vec Binding Global)). IfSome found Q) (λ (found : Option (Vec Binding Global)). IfSome found R)
    (λ found h. some_weaker found Q R (λ new f m. finds_step (as_atom c.args.first.now) (as_atom c.args.target.now) rest special s f m) h)
    c.search.ensures.some

pub search-returns-in_default-clause-some : goal.search-returns-in_default-clause-some
search-returns-in_default-clause-some t c =
    rw (nothing_left c.args.general.now c.in_default.ensures.cases) (finds_none (map as_atom c.args.special.now) c.in_ok-copy_bindings.ensures)

pub search-returns-in-Some-2-clause-some : goal.search-returns-in-Some-2-clause-some
search-returns-in-Some-2-clause-some t c =
    let split : c.args.general.now ≡ c.in-Some.first.now ∷ c.in-Some.rest.now = c.in-Some.ensures.cases.0 in
    let f = rw c.in-Some-2.is at c.in_ok-found.ensures.some in
    rw split (f (In-map as_atom (In-place c.args.special.now c.loop-target.target-index c.target-item.result c.loop-target-test.true c.target-item.is)))

pub search-loop-target-preserved : goal.search-loop-target-preserved
search-loop-target-preserved t c θ agrees takes m =
    let f = rw c.in_default-2.is at c.in_ok-found.ensures.none in
    elim (image_more as_atom c.args.special.now c.loop-target.target-index c.target-item.result (atom_image θ (as_atom c.in-Some.first.now)) c.loop-target-test.true c.target-item.is m) [
      | inl h ↦ c.loop-target.invariant θ agrees takes h
      | inr e ↦ f θ agrees (sym e) takes
    ]

pub search-returns-clause-none : goal.search-returns-clause-none
search-returns-clause-none t c θ agrees takes =
    let first = as_atom c.in-Some.first.now in
    let split : c.args.general.now ≡ c.in-Some.first.now ∷ c.in-Some.rest.now = c.in-Some.ensures.cases.0 in
    let each : TakesInto (first ∷ map as_atom c.in-Some.rest.now) (map as_atom c.args.special.now) θ =
    subst (λ g. TakesInto (map as_atom g) (map as_atom c.args.special.now) θ) split takes in
    let m : In (atom_image θ first) (map as_atom c.args.special.now) = each first (here refl) in
    let front : In (atom_image θ first) (map as_atom (take c.loop-target.target-index c.args.special.now)) =
    subst (λ s. In (atom_image θ first) (map as_atom s)) (sym (take_all c.loop-target.target-index c.args.special.now c.loop-target-test.false)) m in
    c.loop-target.invariant θ agrees (λ a k. each a (there k)) front
