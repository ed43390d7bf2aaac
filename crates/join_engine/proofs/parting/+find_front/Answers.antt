use Rattle.std.proofs.Common.{ℕ, ◌≡◌, ◌<◌, ◌≤◌, ◌∙◌, sym, ap, subst, ◌++◌, ◌∷◌, [], length, get_or, arith}
use Rattle.std.specs.List.{flat_map}
use Rattle.std.proofs.lemmas.List.{take_all}
use Rattle.join_engine.specs.Fronts.{asked_behind}
use Rattle.join_engine.specs.Ties.{Covers, row_list}
use Rattle.join_engine.proofs.Fronts.{found_none, front_again, none_more, pushed_number, tried_low, tried_past, within_next}
use Rattle.join_engine.proofs.Parts.{found_front, front_further, none_front}
use Rattle.join_engine.proofs.parting.+find_front.Goals as goal

pub returns-then-is_cut : goal.returns-then-is_cut
returns-then-is_cut t c = none_front c.args.tables.now c.args.query.now c.args.end c.args.front.now.items c.as_slice.result.now c.as_slice.ensures.value (sym c.if-is_cut.true ∙ c.is_cut.ensures)

pub returns-then-depth-end : goal.returns-then-depth-end
returns-then-depth-end t c =
    let len = ap length (sym c.as_slice.ensures.value) ∙ c.as_slice.ensures.len ∙ sym c.len-depth.ensures ∙ c.if-depth-end.true in
    found_front c.args.tables.now c.args.query.now c.args.end c.args.front.now.items c.as_slice.result.now c.as_slice.ensures.value len (sym c.if-is_cut.false ∙ c.is_cut.ensures)

pub returns-then-branch : goal.returns-then-branch
returns-then-branch t c =
    let rows = row_list c.next_rows-rows.result in
    let len = ap length (sym c.as_slice.ensures.value) ∙ c.as_slice.ensures.len ∙ sym c.len-depth.ensures in
    let front : length c.args.front.now.items < length c.args.query.now.query.tables = within_next _ _ _ _ len c.requires.within c.requires.end c.if-depth-end.false in
    let covers = subst (λ xs. Covers c.args.tables.now c.args.query.now.query xs rows) c.as_slice-2.ensures.value c.next_rows-rows.ensures in
    let low = tried_low c.loop-i.i _ (length rows) c.loop-i-test.true c.len-i-end.ensures in
    let pushed = pushed_number c.args.front.now.items c.loop-i.front.items c.push.new.self.items c.at.result (get_or rows c.loop-i.i 0) c.loop-i.invariant.front c.in_ok-push.ensures.items c.at.ensures in
    let found = rw c.if-branch.true at c.in_ok-find_front.ensures in
    front_further c.args.tables.now c.args.query.now c.args.end c.args.front.now.items c.as_slice.result.now rows c.push.new.self.items c.find_front.new.front.items c.loop-i.i c.as_slice.ensures.value (sym c.if-is_cut.false ∙ c.is_cut.ensures) front covers low pushed found

pub loop-i-preserved : goal.loop-i-preserved
loop-i-preserved t c =
    let rows = row_list c.next_rows-rows.result in
    let len = ap length (sym c.as_slice.ensures.value) ∙ c.as_slice.ensures.len ∙ sym c.len-depth.ensures in
    let low = tried_low c.loop-i.i _ (length rows) c.loop-i-test.true c.len-i-end.ensures in
    let pushed = pushed_number c.args.front.now.items c.loop-i.front.items c.push.new.self.items c.at.result (get_or rows c.loop-i.i 0) c.loop-i.invariant.front c.in_ok-push.ensures.items c.at.ensures in
    let behind = rw c.if-branch.false at c.in_ok-find_front.ensures in
    record {
      front = front_again c.args.front.now.items c.loop-i.front.items c.push.new.self.items c.find_front.new.front.items c.truncate.new.self.items c.at.result c.len-depth.result len c.loop-i.invariant.front c.in_ok-push.ensures.items behind.0 c.truncate.ensures.items;
      none =
          none_more (λ i. asked_behind c.args.tables.now c.args.query.now (c.args.front.now.items ++ (i ∷ []))) rows c.loop-i.i low c.loop-i.invariant.none
          (sym (ap (asked_behind c.args.tables.now c.args.query.now) pushed) ∙ behind.1);
    }

pub returns : goal.returns
returns t c =
    let rows = row_list c.next_rows-rows.result in
    let len = ap length (sym c.as_slice.ensures.value) ∙ c.as_slice.ensures.len ∙ sym c.len-depth.ensures in
    let front : length c.args.front.now.items < length c.args.query.now.query.tables = within_next _ _ _ _ len c.requires.within c.requires.end c.if-depth-end.false in
    let covers = subst (λ xs. Covers c.args.tables.now c.args.query.now.query xs rows) c.as_slice-2.ensures.value c.next_rows-rows.ensures in
    let past = tried_past c.loop-i.i _ (length rows) c.loop-i-test.false c.len-i-end.ensures in (
      c.loop-i.invariant.front,
      found_none c.args.tables.now c.args.query.now c.args.front.now.items rows covers front
          (sym (ap (flat_map (λ i. asked_behind c.args.tables.now c.args.query.now (c.args.front.now.items ++ (i ∷ [])))) (take_all c.loop-i.i rows past)) ∙ c.loop-i.invariant.none),
    )
