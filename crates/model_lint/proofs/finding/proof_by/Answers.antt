-- By `Merging`.
use Rattle.std.proofs.Common.{refl, sym, ◌∙◌, ap, subst, map, [], ◌∷◌}
use Rattle.vocabulary.specs.declared.term.Fact.{Fact}
use Rattle.negative_closure.specs.declared.source.Source.TheVariants.{One}
use Rattle.negative_closure.specs.Plans.{EndsInClash}
use Rattle.negative_closure.specs.Sources.{IsMetBy, IsSource}
use Rattle.model_lint.specs.Marks.{basic_of, merged_rule}
use Rattle.model_lint.proofs.Merging.{shown_by}
use Rattle.model_lint.proofs.finding.proof_by.Goals as goal

pub returns : goal.returns
returns c = λ tbox same numbered.
    let v = c.args.what in
    let plan = c.in_ok-plan.plan in
    let k = c.args.constraint.now in
    let source : IsSource tbox.axioms k (One (basic_of v)) = subst (λ a. IsSource a k (One (basic_of v))) (sym same) c.requires.source in
    let given : (f g : Fact) → IsMetBy (One (basic_of v)) f g → EndsInClash c.args.downs.now.axioms k (f ∷ g ∷ []) plan = rw c.basic_of.ensures at c.in_ok-plan.ensures.clash in
    let ends : (f g : Fact) → IsMetBy (One (basic_of v)) f g → EndsInClash tbox.axioms k (f ∷ g ∷ []) plan = subst (λ a. (f g : Fact) → IsMetBy (One (basic_of v)) f g → EndsInClash a k (f ∷ g ∷ []) plan) (sym same) given in
    let rules = c.in_ok-rules.ensures ∙ ap (map merged_rule) c.items.ensures in
    (rw (rules, c.merged.ensures, c.merged-2.ensures) (shown_by tbox k c.args.number v plan numbered source ends), refl)
