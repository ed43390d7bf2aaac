-- By `Pushing`.
use Rattle.std.proofs.lemmas.Result.{IfOk-weaker}
use Rattle.fold_rewriting.proofs.Pushing.{atom_read, arg_read, is_cut_at, unborn_at, no_arg}
use Rattle.fold_rewriting.proofs.steps.cut_by.Goals as goal
use Rattle.fold_rewriting.proofs.steps.cut_by.Goals.{in_default-via-in-Some+else-are_born, in_default-via-in_default}

pub returns-in-Some : goal.returns-in-Some
returns-in-Some c =
    let q = c.args.query.now in
    let free = c.requires.free in
    let a = atom_read q c.args.at c.args.end free c.items.result.now c.index-items-at.result c.items.ensures c.index-items-at.is in
    let x = arg_read q c.args.at c.args.end free c.index-items-at.result c.in-Some.arg.now a c.in-Some.ensures in
    IfOk-weaker c.cut_of.result _ _ (λ o made. is_cut_at c.args.downs.now.axioms c.args.birth q c.args.at c.args.end free c.index-items-at.result c.in-Some.arg.now a x (c.are_born.ensures.0 c.if-are_born.true) o made) c.cut_of.ensures

pub returns-in_default : goal.returns-in_default
returns-in_default c =
    let q = c.args.query.now in
    let free = c.requires.free in
    let a = atom_read q c.args.at c.args.end free c.items.result.now c.index-items-at.result c.items.ensures c.index-items-at.is in
    elim c.in_default.branch [
      | in_default-via-in-Some+else-are_born w ↦ (
          let x = arg_read q c.args.at c.args.end free c.index-items-at.result w.in-Some.arg.now a w.in-Some.ensures in
          unborn_at c.args.downs.now.axioms c.args.birth q c.args.at c.args.end free c.index-items-at.result w.in-Some.arg.now w.are_born.result a x w.are_born.ensures w.if-are_born.false)
      | in_default-via-in_default w ↦ no_arg c.args.downs.now.axioms c.args.birth q c.args.at c.args.end free c.index-items-at.result a w.in_default.ensures
    ]
