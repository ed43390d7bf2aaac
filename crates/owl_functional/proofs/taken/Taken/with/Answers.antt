use Rattle.std.proofs.Common.{ℕ, List, Option, option_map, sym, subst}
use Rattle.owl_functional.specs.declared.tree.Entity.{Entity}
use Rattle.owl_functional.specs.Lookup.{beside, AreOwners}
use Rattle.owl_functional.proofs.Tables.{more_owners}
use Rattle.owl_functional.proofs.taken.Taken.with.Goals as goal

pub invariant_of-result : goal.invariant_of-result
invariant_of-result c =
    let owner : List ℕ → Option Entity = λ name. option_map (λ e. e.now) (beside c.self.inside.owners.texts c.self.inside.owners.values name) in
    let longer : List ℕ → Option Entity = λ name. option_map (λ e. e.now) (beside c.note_owner.new.owners.texts c.note_owner.new.owners.values name) in (
      c.in_ok-note_owner.ensures.long,
      subst (λ xs. AreOwners longer xs) (sym c.requires.front)
          (more_owners c.args.self c.args.item.now owner longer c.requires.single (subst (λ xs. AreOwners owner xs) c.self.view_is c.self.invariant.1) c.in_ok-note_owner.ensures.noted),
    )
