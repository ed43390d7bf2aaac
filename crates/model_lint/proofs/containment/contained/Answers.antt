-- By `Deciding`.
use Rattle.std.proofs.Common.{sym, subst, length, ◌<◌, ◌-◌, ◌^◌}
use Rattle.model_lint.proofs.Deciding.{covers, few_kept, holds, Rewritten, tells}
use Rattle.model_lint.proofs.containment.contained.Goals as goal

pub first_into-requires : goal.first_into-requires
first_into-requires c =
    let kept = c.in_ok-kept.kept in
    subst (λ xs. length xs < 2 ^ 32 - 1) (sym c.items.ensures) (few_kept c.args.tbox.now.axioms c.args.second.now c.in_ok-members.members kept c.in_ok-members.ensures.members c.in_ok-members.ensures.narrow c.in_ok-kept.ensures.kept)

pub returns-clause-contained : goal.returns-clause-contained
returns-clause-contained c =
    let r : Rewritten c.args.tbox.now.axioms c.args.second.now c.in_ok-members.members c.in_ok-kept.kept = record {
      sound = c.mapping_is_sound.ensures;
      listed = c.in_ok-members.ensures.members;
      answers = c.in_ok-members.ensures.answers;
      are = c.in_ok-kept.ensures.kept;
      among = c.in_ok-kept.ensures.among;
      images = c.in_ok-kept.ensures.images;
    } in
    tells r c.args.first.now c.requires.first_constants c.requires.first_head c.requires.second_constants c.requires.second_head c.in_ok-covered.covered (rw c.items.ensures at c.in_ok-covered.ensures)

pub returns-clause-covered : goal.returns-clause-covered
returns-clause-covered c =
    let r : Rewritten c.args.tbox.now.axioms c.args.second.now c.in_ok-members.members c.in_ok-kept.kept = record {
      sound = c.mapping_is_sound.ensures;
      listed = c.in_ok-members.ensures.members;
      answers = c.in_ok-members.ensures.answers;
      are = c.in_ok-kept.ensures.kept;
      among = c.in_ok-kept.ensures.among;
      images = c.in_ok-kept.ensures.images;
    } in
    covers r c.args.first.now c.in_ok-covered.covered (rw c.items.ensures at c.in_ok-covered.ensures)

pub returns-clause-models : goal.returns-clause-models
returns-clause-models c =
    let r : Rewritten c.args.tbox.now.axioms c.args.second.now c.in_ok-members.members c.in_ok-kept.kept = record {
      sound = c.mapping_is_sound.ensures;
      listed = c.in_ok-members.ensures.members;
      answers = c.in_ok-members.ensures.answers;
      are = c.in_ok-kept.ensures.kept;
      among = c.in_ok-kept.ensures.among;
      images = c.in_ok-kept.ensures.images;
    } in
    holds r c.args.first.now c.in_ok-covered.covered (rw c.items.ensures at c.in_ok-covered.ensures)
