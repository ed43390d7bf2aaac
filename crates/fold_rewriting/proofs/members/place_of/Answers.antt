-- By `Placed`: the search compares each member with the query.
use Rattle.std.proofs.Common.{rules}
use Rattle.std.proofs.lemmas.Fn.{always_returns_same}
use Rattle.queries.specs.Order.{query_cmp}
use Rattle.perfect_rewriting.proofs.Placed.{searched}
use Rattle.fold_rewriting.proofs.members.place_of.Goals as goal

pub returns-clause-there : goal.returns-clause-there
returns-clause-there c =
    let by = c.binary_search_by.ensures.position (λ y. query_cmp y c.args.query.now) (always_returns_same _ _ _ (λ a r g called. search rules)) in
    (searched c.args.found.now c.requires c.args.query.now c.binary_search_by.result c.binary_search_by.ensures.bound by).0

pub returns-clause-gap : goal.returns-clause-gap
returns-clause-gap c =
    let by = c.binary_search_by.ensures.position (λ y. query_cmp y c.args.query.now) (always_returns_same _ _ _ (λ a r g called. search rules)) in
    (searched c.args.found.now c.requires c.args.query.now c.binary_search_by.result c.binary_search_by.ensures.bound by).1
