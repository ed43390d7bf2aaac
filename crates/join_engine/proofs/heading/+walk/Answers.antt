use Rattle.std.proofs.Common.{ℕ, ◌≡◌, ◌<◌, ◌≤◌, ◌∙◌, sym, ap, subst, ◌++◌, ◌∷◌, [], length, get_or, arith}
use Rattle.std.proofs.lemmas.Result.{on_ok_weaker}
use Rattle.std.specs.List.{flat_map}
use Rattle.std.proofs.lemmas.List.{take_all}
use Rattle.join_engine.specs.Fronts.{asked_behind}
use Rattle.join_engine.specs.Heads.{GainsHeads}
use Rattle.join_engine.specs.Ties.{Covers, row_list}
use Rattle.join_engine.proofs.Fronts.{front_again, pushed_number, tried_low, tried_past, within_next}
use Rattle.join_engine.proofs.Gaining.{gains_all, gains_at, gains_cut, gains_row}
use Rattle.join_engine.proofs.heading.+walk.Goals as goal

pub returns-then-is_cut-clause-found : goal.returns-then-is_cut-clause-found
returns-then-is_cut-clause-found t c =
    gains_cut c.args.tables.now c.args.query.now c.args.end c.args.front.now.items c.as_slice.result.now c.args.found.now c.as_slice.ensures.value (sym c.if-is_cut.true ∙ c.is_cut.ensures)

pub returns-then-depth-end-clause-found : goal.returns-then-depth-end-clause-found
returns-then-depth-end-clause-found t c =
    let len = ap length (sym c.as_slice.ensures.value) ∙ c.as_slice.ensures.len ∙ sym c.len-depth.ensures ∙ c.if-depth-end.true in
    on_ok_weaker c.add_one.result
    (gains_at c.args.tables.now c.args.query.now c.args.end c.args.front.now.items c.as_slice-then-depth-end.result.now c.args.found.now c.add_one.new.found c.as_slice-then-depth-end.ensures.value len)
    c.add_one.ensures

pub loop-i-preserved : goal.loop-i-preserved
loop-i-preserved t c =
    let rows = row_list c.next_rows-rows.result in
    let len = ap length (sym c.as_slice.ensures.value) ∙ c.as_slice.ensures.len ∙ sym c.len-depth.ensures in
    let low = tried_low c.loop-i.i _ (length rows) c.loop-i-test.true c.len-i-end.ensures in
    let pushed = pushed_number c.args.front.now.items c.loop-i.front.items c.push.new.self.items c.at.result (get_or rows c.loop-i.i 0) c.loop-i.invariant.front c.in_ok-push.ensures.items c.at.ensures in
    record {
      front = front_again c.args.front.now.items c.loop-i.front.items c.push.new.self.items c.walk.new.front.items c.truncate.new.self.items c.at.result c.len-depth.result len c.loop-i.invariant.front c.in_ok-push.ensures.items c.in_ok-walk.ensures.front c.truncate.ensures.items;
      found = gains_row (λ i. asked_behind c.args.tables.now c.args.query.now (c.args.front.now.items ++ (i ∷ []))) c.args.end c.args.found.now c.loop-i.found c.walk.new.found rows c.loop-i.i low c.loop-i.invariant.found
          (subst (λ z. GainsHeads c.args.end (asked_behind c.args.tables.now c.args.query.now z) c.loop-i.found c.walk.new.found) pushed c.in_ok-walk.ensures.found);
    }

pub returns-clause-found : goal.returns-clause-found
returns-clause-found t c =
    let rows = row_list c.next_rows-rows.result in
    let len = ap length (sym c.as_slice.ensures.value) ∙ c.as_slice.ensures.len ∙ sym c.len-depth.ensures in
    let front : length c.args.front.now.items < length c.args.query.now.query.tables = within_next _ _ _ _ len c.requires.within c.requires.end c.if-depth-end.false in
    let covers = subst (λ xs. Covers c.args.tables.now c.args.query.now.query xs rows) c.as_slice-2.ensures.value c.next_rows-rows.ensures in
    let past = tried_past c.loop-i.i _ (length rows) c.loop-i-test.false c.len-i-end.ensures in
    gains_all c.args.tables.now c.args.query.now c.args.end c.args.front.now.items rows c.args.found.now c.loop-i.found covers front
    (subst (λ z. GainsHeads c.args.end (flat_map (λ i. asked_behind c.args.tables.now c.args.query.now (c.args.front.now.items ++ (i ∷ []))) z) c.args.found.now c.loop-i.found) (take_all c.loop-i.i rows past) c.loop-i.invariant.found)
