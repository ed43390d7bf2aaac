-- By `Solving`.
use Rattle.std.proofs.Common.{◌≡◌, ◌∙◌, sym, subst, ap, refl, [], ◌∷◌, ◌++◌}
use Rattle.vocabulary.specs.Lists.{In}
use Rattle.query_subsumption.specs.declared.bindings.Binding.{Binding}
use Rattle.query_subsumption.specs.Numbered.{as_arg}
use Rattle.query_subsumption.proofs.Solving.{solves_more, solves_same, var}
use Rattle.query_subsumption.proofs.bindings.bind.Goals as goal

pub returns-in_ok-push-in-None : goal.returns-in_ok-push-in-None
returns-in_ok-push-in-None c =
    let bs = c.args.bindings.now.items in
    let made : Binding = record { number = c.args.number; image = c.args.image.now } in
    let item : record { number = c.args.number; image = c.in_ok-image-in-None.image } ≡ made = ap (λ x. record { number = c.args.number; image = x }) c.in_ok-image-in-None.ensures in
    let new : c.push.new.self.items ≡ bs ++ made ∷ [] = c.in_ok-push-in-None.ensures.items ∙ ap (λ b. bs ++ b ∷ []) item in
    solves_same (λ θ. θ (var c.args.number) ≡ as_arg c.args.image.now) refl (sym new) refl
    (solves_more bs made (λ b m. c.in-None.ensures.unbound b (subst (λ xs. In b xs) (sym c.as_slice.ensures.value) m)))
