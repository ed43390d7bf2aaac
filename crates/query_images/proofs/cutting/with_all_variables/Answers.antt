-- By `Whole`.
use Rattle.std.proofs.Common.{◌≡◌, ◌≤◌, map, sym, ◌∙◌, subst}
use Rattle.queries.specs.declared.query.Arg.TheVariants.{Var}
use Rattle.queries.specs.Occurrences.{HeadStands, count}
use Rattle.query_images.proofs.Whole.{both_ok, vars_stand}
use Rattle.query_images.proofs.cutting.with_all_variables.Goals as goal

pub returns-clause-stands : goal.returns-clause-stands
returns-clause-stands c =
    let vars = c.in_ok-vars.vars in
    let own = c.items.result.now in
    both_ok c.part.result (λ q. q.head ≡ map Var c.items-3.result.now) (λ q. q.atoms ≡ c.in_ok-atoms.field-0.atoms) HeadStands
    (λ q head atoms. vars_stand vars q (subst (λ z. q.head ≡ map Var z) c.items-3.ensures head) (λ v i. subst (λ z. 1 ≤ count v z) (c.items.ensures ∙ sym atoms) ((c.in_ok-vars.ensures v).0 i).0))
    c.part.ensures.head c.part.ensures.atoms
