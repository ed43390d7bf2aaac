-- By `Searching`.
use Rattle.std.proofs.Common.{◌≡◌, refl, sym, subst, ◌∙◌, ap, ◌<◌, ◌≤◌, ◌-◌, ◌^◌, ◌++◌, ◌∷◌, [], None, length, arith}
use Rattle.mapping_facts.specs.Facts.{mapped_facts}
use Rattle.fold_rewriting.specs.Steps.{AreFoldSteps}
use Rattle.why_answers.specs.declared.folding.Node.{Node}
use Rattle.why_answers.specs.Folding.{AddsFolds}
use Rattle.why_answers.specs.Matching.{NoMatch, ReadMapped}
use Rattle.why_answers.proofs.Searching.{low_place, member_few, member_head, node_place, none_left, searched_on, searched_start}
use Rattle.why_answers.proofs.folding.search.Goals as goal

pub loop-at-init : goal.loop-at-init
loop-at-init c =
    let first : Node = record { query = c.in_ok-first.first; from = None } in
    searched_start c.args.downs.now.axioms c.args.query.now (mapped_facts c.args.mappings.now c.args.tables.now) first c.push.new.self c.in_ok-first.ensures refl (c.in_ok-push.ensures.ok ∙ ap (λ ns. ns ++ first ∷ []) c.new-nodes.ensures)

pub match_of-requires-clause-head : goal.match_of-requires-clause-head
match_of-requires-clause-head c =
    let here = node_place c.loop-at.nodes c.items.result.now c.loop-at.at c.index-items-at.result c.items.ensures (low_place c.loop-at.nodes c.items.result.now c.len.result c.loop-at.at c.items.ensures c.len.ensures c.loop-at-test.true) c.index-items-at.is in
    subst (λ n. n.query.head ≡ []) c.index-items-at.is (member_head c.args.downs.now.axioms c.args.query.now c.loop-at.nodes c.loop-at.at c.index-items-at.result c.loop-at.invariant.are c.requires.head here)

pub match_of-requires-clause-few : goal.match_of-requires-clause-few
match_of-requires-clause-few c =
    let here = node_place c.loop-at.nodes c.items.result.now c.loop-at.at c.index-items-at.result c.items.ensures (low_place c.loop-at.nodes c.items.result.now c.len.result c.loop-at.at c.items.ensures c.len.ensures c.loop-at-test.true) c.index-items-at.is in
    subst (λ n. length n.query.atoms ≤ 16) c.index-items-at.is (member_few c.args.downs.now.axioms c.args.query.now c.loop-at.nodes c.loop-at.at c.index-items-at.result c.loop-at.invariant.are c.requires.few here)

pub returns-in-Some : goal.returns-in-Some
returns-in-Some c = record {
  are = c.loop-at.invariant.are;
  node = c.index-items-at.result;
  at = node_place c.loop-at.nodes c.items.result.now c.loop-at.at c.index-items-at.result c.items.ensures (low_place c.loop-at.nodes c.items.result.now c.len.result c.loop-at.at c.items.ensures c.len.ensures c.loop-at-test.true) c.index-items-at.is;
  matched = subst (λ n. ReadMapped c.args.mappings.now c.args.tables.now n.query.atoms c.in-Some.facts) (sym c.index-items-at.is) (rw c.in-Some.is at c.in_ok-facts.ensures);
}

pub fold_steps-requires-clause-head : goal.fold_steps-requires-clause-head
fold_steps-requires-clause-head c =
    let here = node_place c.loop-at.nodes c.items.result.now c.loop-at.at c.index-items-at.result c.items.ensures (low_place c.loop-at.nodes c.items.result.now c.len.result c.loop-at.at c.items.ensures c.len.ensures c.loop-at-test.true) c.index-items-at.is in
    let none = ap length (member_head c.args.downs.now.axioms c.args.query.now c.loop-at.nodes c.loop-at.at c.index-items-at.result c.loop-at.invariant.are c.requires.head here) in
    subst (λ n. length n.query.head < 2 ^ 32 - 1) c.index-items-at.is (omega (arith, none))

pub fold_steps-requires-clause-atoms : goal.fold_steps-requires-clause-atoms
fold_steps-requires-clause-atoms c =
    let here = node_place c.loop-at.nodes c.items.result.now c.loop-at.at c.index-items-at.result c.items.ensures (low_place c.loop-at.nodes c.items.result.now c.len.result c.loop-at.at c.items.ensures c.len.ensures c.loop-at-test.true) c.index-items-at.is in
    let few = member_few c.args.downs.now.axioms c.args.query.now c.loop-at.nodes c.loop-at.at c.index-items-at.result c.loop-at.invariant.are c.requires.few here in
    subst (λ n. length n.query.atoms < 2 ^ 32 - 1) c.index-items-at.is (omega (arith, few))

pub loop-at-preserved : goal.loop-at-preserved
loop-at-preserved c =
    let here = node_place c.loop-at.nodes c.items.result.now c.loop-at.at c.index-items-at.result c.items.ensures (low_place c.loop-at.nodes c.items.result.now c.len.result c.loop-at.at c.items.ensures c.len.ensures c.loop-at-test.true) c.index-items-at.is in
    searched_on c.args.downs.now.axioms c.args.query.now (mapped_facts c.args.mappings.now c.args.tables.now) c.loop-at.nodes c.push_folds.new.nodes c.loop-at.at c.index-items-at.result c.in_ok-steps.steps here c.loop-at.invariant
    (subst (λ n. NoMatch (mapped_facts c.args.mappings.now c.args.tables.now) n.query.atoms) (sym c.index-items-at.is) (rw c.in_default.is at c.in_ok-facts.ensures))
    (subst (λ n. AreFoldSteps c.args.downs.now.axioms n.query c.in_ok-steps.steps) (sym c.index-items-at.is) c.in_ok-steps.ensures)
    (subst (λ ss. AddsFolds c.loop-at.at ss c.loop-at.nodes c.push_folds.new.nodes) c.items-in-loop-at.ensures c.in_ok-push_folds.ensures)

pub unreachable-requires : goal.unreachable-requires
unreachable-requires c = none_left c.args.downs.now.axioms c.args.query.now (mapped_facts c.args.mappings.now c.args.tables.now) c.loop-at.nodes c.loop-at.at (subst (λ n. n ≤ c.loop-at.at) c.len.ensures c.loop-at-test.false) c.loop-at.invariant c.requires.some
