use Rattle.std.proofs.Common.{◌≡◌, ◌∙◌, ap, sym, [], get_or}
use Rattle.std.specs.Ordering.{is_le}
use Rattle.std.proofs.lemmas.List.{get_or_default}
use Rattle.log_assembly.specs.Found.{first_cmp}
use Rattle.log_assembly.proofs.Neighbours.{end_is}
use Rattle.log_assembly.proofs.lookup.end_of.Goals as goal

pub returns-else-is_le-clause-end : goal.returns-else-is_le-clause-end
returns-else-is_le-clause-end c =
    end_is c.args.term.now c.args.tuples.now c.args.from c.loop-end.end c.requires.sorted c.loop-end.invariant.behind c.loop-end.invariant.within c.loop-end.invariant.upto
    (λ h.
    let item : get_or c.args.tuples.now c.loop-end.end [] ≡ c.index-tuples-end.result = get_or_default c.args.tuples.now c.loop-end.end [] c.index-tuples-end.result h ∙ sym c.index-tuples-end.is in
    ap (λ y. is_le (first_cmp c.args.term.now y)) item ∙ ap is_le (sym c.compare_first.ensures) ∙ sym c.is_le.ensures ∙ c.if-is_le.false)
