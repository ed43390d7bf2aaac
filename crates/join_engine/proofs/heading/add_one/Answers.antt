use Rattle.std.proofs.Common.{◌∙◌, ap, sym, ◌++◌, ◌∷◌, []}
use Rattle.std.proofs.lemmas.Result.{on_ok_weaker}
use Rattle.join_engine.proofs.Gaining.{gains_found, gains_not}
use Rattle.join_engine.proofs.heading.add_one.Goals as goal

pub returns-then-not-branch : goal.returns-then-not-branch
returns-then-not-branch c =
    gains_not c.args.tables.now c.args.query.now c.args.front.now c.in_ok-tuple.tuple.items c.find_behind.new.front.items c.args.found.now c.in_ok-tuple.ensures.items (rw c.if-not-branch.true at c.in_ok-find_behind.ensures)

pub returns : goal.returns
returns c =
    on_ok_weaker c.push.result
    (λ added. gains_found c.args.tables.now c.args.query.now c.args.front.now c.in_ok-tuple.tuple.items c.find_behind.new.front.items c.args.found.now c.push.new.self c.in_ok-tuple.ensures.items (rw c.if-not-branch.false at c.in_ok-find_behind.ensures)
    (added ∙ ap (λ z. c.args.found.now ++ (z ∷ [])) c.from_vec.ensures))
    c.push.ensures.ok
