-- By `Solving`.
use Rattle.std.proofs.Common.{refl, true, false, [], map, Option, IfNone, IfSome, Vec, Global}
use Rattle.std.proofs.lemmas.Result.{IfOk-weaker}
use Rattle.query_subsumption.specs.declared.bindings.Binding.{Binding}
use Rattle.query_subsumption.specs.Numbered.{as_atom, as_query}
use Rattle.query_subsumption.specs.Search.{Fails, Finds, Found, Solves}
use Rattle.query_subsumption.specs.Subsumption.{IsMapping, Replacement}
use Rattle.query_subsumption.proofs.Solving.{HeadTo, fails_by, found_by, heads_differ, none_weaker, solves_heads, solves_same, some_weaker}
use Rattle.query_subsumption.proofs.search.find.Goals as goal

pub returns-then-not-branch-clause-none : goal.returns-then-not-branch-clause-none
returns-then-not-branch-clause-none c =
    let s : Solves (HeadTo c.as_slice.result.now c.as_slice-2.result.now) [] c.send_head.new.bindings.items false =
    solves_same (HeadTo c.as_slice.result.now c.as_slice-2.result.now) c.new-start.ensures.items refl c.if-not-branch.true c.in_ok-send_head.ensures in
    heads_differ c.args.from.now c.args.to.now (solves_heads c.as_slice.ensures.value c.as_slice-2.ensures.value s)

pub returns-clause-none : goal.returns-clause-none
returns-clause-none c =
    let s : Solves (HeadTo c.as_slice.result.now c.as_slice-2.result.now) [] c.send_head.new.bindings.items true =
    solves_same (HeadTo c.as_slice.result.now c.as_slice-2.result.now) c.new-start.ensures.items refl c.if-not-branch.false c.in_ok-send_head.ensures in
    let h = solves_heads c.as_slice.ensures.value c.as_slice-2.ensures.value s in
    IfOk-weaker c.search.result
    (λ (found : Option (Vec Binding Global)). IfNone found (Fails (map as_atom c.as_slice-3.result.now) (map as_atom c.as_slice-4.result.now) c.as_slice-5.result.now))
    (λ (found : Option (Vec Binding Global)). IfNone found ((θ : Replacement) → IsMapping θ (as_query c.args.from.now) (as_query c.args.to.now) → ⊥))
    (λ found k. none_weaker found (fails_by c.args.from.now c.args.to.now c.as_slice-3.ensures.value c.as_slice-4.ensures.value c.as_slice-5.ensures.value h) k)
    c.search.ensures.none

pub returns-clause-some : goal.returns-clause-some
returns-clause-some c =
    let s : Solves (HeadTo c.as_slice.result.now c.as_slice-2.result.now) [] c.send_head.new.bindings.items true =
    solves_same (HeadTo c.as_slice.result.now c.as_slice-2.result.now) c.new-start.ensures.items refl c.if-not-branch.false c.in_ok-send_head.ensures in
    let h = solves_heads c.as_slice.ensures.value c.as_slice-2.ensures.value s in
    let Q : Vec Binding Global → Type 0 = λ new. Finds (map as_atom c.as_slice-3.result.now) (map as_atom c.as_slice-4.result.now) c.as_slice-5.result.now new.items in
    let R : Vec Binding Global → Type 0 = λ new. Found (as_query c.args.from.now) (as_query c.args.to.now) new.items in
    IfOk-weaker c.search.result (λ (found : Option (Vec Binding Global)). IfSome found Q) (λ (found : Option (Vec Binding Global)). IfSome found R)
    (λ found k. some_weaker found Q R (λ new f. found_by c.args.from.now c.args.to.now c.as_slice-3.ensures.value c.as_slice-4.ensures.value c.as_slice-5.ensures.value h f) k)
    c.search.ensures.some
