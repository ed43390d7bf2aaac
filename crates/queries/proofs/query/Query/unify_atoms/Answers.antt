-- By `Joining`.
use Rattle.std.proofs.Common.{◌≡◌, ◌∙◌, ap, sym, length, get_or, arith}
use Rattle.queries.specs.declared.query.Query.{Query}
use Rattle.queries.proofs.Joining.{joined_length, unify_none, unify_some}
use Rattle.queries.proofs.query.Query.unify_atoms.Goals as goal

pub normal-requires-clause-atoms : goal.normal-requires-clause-atoms
normal-requires-clause-atoms c =
    let e = ap (λ q. length q.atoms) c.in_ok-join-in-Some.ensures in
    let l = joined_length c.args.self.now c.args.i c.args.j c.in-Some.union c.requires.first c.requires.second c.requires.apart in
    omega (arith, e, l, c.requires.atoms)

pub returns-in_ok-normal-in-Some : goal.returns-in_ok-normal-in-Some
returns-in_ok-normal-in-Some c =
    let q : Query = c.args.self.now in
    let a = c.index-atoms-i.result in
    let b = c.index-atoms-j.result in
    let left : a ≡ get_or q.atoms c.args.i a = c.index-atoms-i.is ∙ ap (λ ys. get_or ys c.args.i a) c.items-atoms.ensures in
    let right : b ≡ get_or q.atoms c.args.j b = c.index-atoms-j.is ∙ ap (λ ys. get_or ys c.args.j b) c.items-atoms.ensures in
    unify_some q c.args.i c.args.j a b c.in-Some.union c.in_ok-join-in-Some.field-0 c.in_ok-normal-in-Some.field-0 c.requires.first c.requires.second left right
    (sym c.in-Some.is ∙ c.in_ok-union.ensures) c.in_ok-join-in-Some.ensures c.in_ok-normal-in-Some.ensures

pub returns-in-None : goal.returns-in-None
returns-in-None c =
    let q : Query = c.args.self.now in
    let a = c.index-atoms-i.result in
    let b = c.index-atoms-j.result in
    let left : a ≡ get_or q.atoms c.args.i a = c.index-atoms-i.is ∙ ap (λ ys. get_or ys c.args.i a) c.items-atoms.ensures in
    let right : b ≡ get_or q.atoms c.args.j b = c.index-atoms-j.is ∙ ap (λ ys. get_or ys c.args.j b) c.items-atoms.ensures in
    unify_none q c.args.i c.args.j a b c.requires.first c.requires.second left right (sym c.in-None.is ∙ c.in_ok-union.ensures)
