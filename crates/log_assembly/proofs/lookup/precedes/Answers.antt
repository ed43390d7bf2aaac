use Rattle.std.proofs.Common.{◌∙◌, sym, ap, []}
use Rattle.std.specs.Ordering.{is_lt}
use Rattle.std.proofs.lemmas.List.{get_or_default}
use Rattle.log_assembly.specs.Found.{first_cmp}
use Rattle.log_assembly.proofs.lookup.precedes.Goals as goal

pub returns : goal.returns
returns c =
    let item = c.index-tuples-at.is ∙ sym (get_or_default c.args.tuples.now c.args.at [] c.index-tuples-at.result c.requires) in
    c.is_lt.ensures ∙ ap is_lt c.compare_first.ensures ∙ ap (λ y. is_lt (first_cmp c.args.term.now y)) item
