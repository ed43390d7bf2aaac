-- By `Noting`.
use Rattle.std.proofs.Common.{rules, ◌≡◌, ◌↔◌, ◌⊎◌, [], ◌∷◌, get_or, sym, subst}
use Rattle.std.specs.List.{remove}
use Rattle.vocabulary.specs.Lists.{In}
use Rattle.query_images.proofs.Noting.{of_taken}
use Rattle.query_images.proofs.cutting.taken.Goals as goal

pub returns-clause-same : goal.returns-clause-same
returns-clause-same c =
    let atoms = c.args.atoms in
    let d = c.remove.result in
    let one : c.push.new.self ≡ get_or atoms c.args.at d ∷ [] = search rules in
    let rest : c.from_vec.result ≡ remove atoms c.args.at = search rules in
    λ a. subst (λ z. In a atoms ↔ (In a z ⊎ In a c.from_vec.result)) (sym one) (subst (λ z. In a atoms ↔ (In a (get_or atoms c.args.at d ∷ []) ⊎ In a z)) (sym rest) (of_taken atoms c.args.at a d c.requires))
