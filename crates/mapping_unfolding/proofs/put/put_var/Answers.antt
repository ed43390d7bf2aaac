use Rattle.std.proofs.Common.{sym}
use Rattle.mapping_unfolding.proofs.Adding.{bind_whole, lookup_whole}
use Rattle.mapping_unfolding.proofs.put.put_var.Goals as goal

pub equate-requires-clause-left : goal.equate-requires-clause-left
equate-requires-clause-left c =
    let e = c.in-Some.ensures in
    lookup_whole c.args.var c.args.draft.bound c.in-Some.first.now c.requires.bound (sym (rw (c.items.ensures) at e))

pub returns-in_ok-bound-in-None-clause-whole : goal.returns-in_ok-bound-in-None-clause-whole
returns-in_ok-bound-in-None-clause-whole c =
    bind_whole c.args.var c.args.term.now c.in_ok-copy-in-None.copy c.args.draft c.in_ok-bound-in-None.bound c.requires.bound c.requires.whole c.in_ok-copy-in-None.ensures c.in_ok-bound-in-None.ensures
