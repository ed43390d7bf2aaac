use Rattle.std.proofs.Common.{ℕ, ◌≡◌, ◌<◌, ◌≤◌, ◌∙◌, sym, ap, subst, ◌++◌, ◌∷◌, [], length, get_or, arith}
use Rattle.std.specs.List.{flat_map}
use Rattle.std.proofs.lemmas.List.{take_all}
use Rattle.std.proofs.lemmas.Result.{IfOk-weaker}
use Rattle.vocabulary.specs.Lists.{In}
use Rattle.join_engine.specs.Fronts.{asked_behind}
use Rattle.join_engine.specs.Ties.{Covers, row_list}
use Rattle.join_engine.proofs.Fronts.{found_cut, found_none, found_row, found_whole, front_again, none_more, pushed_number, tried_low, tried_past}
use Rattle.join_engine.proofs.finding.+find_behind.Goals as goal

below : (n d m l : ℕ) → n ≡ d → n ≤ m → l ≡ m → (d ≡ l → ⊥) → d < m
below n d m l e h f ne = omega arith

pub returns-then-is_cut : goal.returns-then-is_cut
returns-then-is_cut t c = found_cut c.args.tables.now c.args.query.now c.args.front.now.items c.as_slice.result.now c.as_slice.ensures.value (sym c.if-is_cut.true ∙ c.is_cut.ensures)

pub returns-then-depth-len : goal.returns-then-depth-len
returns-then-depth-len t c =
    let len = ap length (sym c.as_slice.ensures.value) ∙ c.as_slice.ensures.len ∙ sym c.len-depth.ensures ∙ c.if-depth-len.true ∙ c.len.ensures in
    IfOk-weaker c.is_asked.result _ _ (λ found asked. found_whole found c.args.tables.now c.args.query.now c.args.front.now.items c.as_slice-then-depth-len.result.now c.as_slice-then-depth-len.ensures.value len asked) c.is_asked.ensures

pub returns-then-branch : goal.returns-then-branch
returns-then-branch t c =
    let rows = row_list c.next_rows-rows.result in
    let len = ap length (sym c.as_slice.ensures.value) ∙ c.as_slice.ensures.len ∙ sym c.len-depth.ensures in
    let within : c.len-depth.result < length c.args.query.now.query.tables = below _ _ _ _ len c.requires.within c.len.ensures c.if-depth-len.false in
    let front : length c.args.front.now.items < length c.args.query.now.query.tables = omega (arith, len, within) in
    let covers = subst (λ xs. Covers c.args.tables.now c.args.query.now.query xs rows) c.as_slice-2.ensures.value c.next_rows-rows.ensures in
    let low = tried_low c.loop-i.i _ (length rows) c.loop-i-test.true c.len-i-end.ensures in
    let pushed = pushed_number c.args.front.now.items c.loop-i.front.items c.push.new.self.items c.at.result (get_or rows c.loop-i.i 0) c.loop-i.invariant.front c.in_ok-push.ensures.items c.at.ensures in
    let behind = rw c.if-branch.true at c.in_ok-find_behind.ensures in
    found_row c.args.tables.now c.args.query.now c.args.front.now.items rows c.loop-i.i c.find_behind.new.front.items covers front low
    (subst (λ front. In c.find_behind.new.front.items (asked_behind c.args.tables.now c.args.query.now front)) pushed behind)

pub loop-i-preserved : goal.loop-i-preserved
loop-i-preserved t c =
    let rows = row_list c.next_rows-rows.result in
    let len = ap length (sym c.as_slice.ensures.value) ∙ c.as_slice.ensures.len ∙ sym c.len-depth.ensures in
    let low = tried_low c.loop-i.i _ (length rows) c.loop-i-test.true c.len-i-end.ensures in
    let pushed = pushed_number c.args.front.now.items c.loop-i.front.items c.push.new.self.items c.at.result (get_or rows c.loop-i.i 0) c.loop-i.invariant.front c.in_ok-push.ensures.items c.at.ensures in
    let behind = rw c.if-branch.false at c.in_ok-find_behind.ensures in
    record {
      front = front_again c.args.front.now.items c.loop-i.front.items c.push.new.self.items c.find_behind.new.front.items c.truncate.new.self.items c.at.result c.len-depth.result len c.loop-i.invariant.front c.in_ok-push.ensures.items behind.0 c.truncate.ensures.items;
      none =
          none_more (λ i. asked_behind c.args.tables.now c.args.query.now (c.args.front.now.items ++ (i ∷ []))) rows c.loop-i.i low c.loop-i.invariant.none
          (sym (ap (asked_behind c.args.tables.now c.args.query.now) pushed) ∙ behind.1);
    }

pub returns : goal.returns
returns t c =
    let rows = row_list c.next_rows-rows.result in
    let len = ap length (sym c.as_slice.ensures.value) ∙ c.as_slice.ensures.len ∙ sym c.len-depth.ensures in
    let within : c.len-depth.result < length c.args.query.now.query.tables = below _ _ _ _ len c.requires.within c.len.ensures c.if-depth-len.false in
    let front : length c.args.front.now.items < length c.args.query.now.query.tables = omega (arith, len, within) in
    let covers = subst (λ xs. Covers c.args.tables.now c.args.query.now.query xs rows) c.as_slice-2.ensures.value c.next_rows-rows.ensures in
    let past = tried_past c.loop-i.i _ (length rows) c.loop-i-test.false c.len-i-end.ensures in (
      c.loop-i.invariant.front,
      found_none c.args.tables.now c.args.query.now c.args.front.now.items rows covers front
          (sym (ap (flat_map (λ i. asked_behind c.args.tables.now c.args.query.now (c.args.front.now.items ++ (i ∷ [])))) (take_all c.loop-i.i rows past)) ∙ c.loop-i.invariant.none),
    )
