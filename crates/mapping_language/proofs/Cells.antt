-- The cells that a mapping line names, item by item.
use Rattle.std.proofs.Common.{◌≡◌, refl, ap, ◌∙◌, ◌||◌, Bool, ℕ, List, [], ◌∷◌, map}
use Rattle.std.specs.List.{list_any, flat_map}
use Rattle.std.proofs.lemmas.List.Folds.{list_any-append}
use Rattle.std.proofs.lemmas.Grind.{flat_map-append}
use Rattle.mapping_language.specs.declared.sources.Sources.{Sources}
use Rattle.mapping_language.specs.declared.written.MapLine.{MapLine}
use Rattle.mapping_language.specs.declared.written.Target.{Target as HeldTarget}
use Rattle.mapping_language.specs.Written.{Target}
use Rattle.mapping_language.specs.Mappings.{Placed, template_texts, all_templates, unknown_cell, cells_of_condition, cells_of_term, terms_of, all_cells}
use Rattle.mapping_language.specs.Shown.{condition_shown, target_shown, map_shown}

module _ {X Y Z : Type 0} (p : Z → Bool) (f : X → Y) where
  any_of_flat : (g : Y → List Z) (xs : List X) → list_any p (flat_map g (map f xs)) ≡ list_any (λ x. list_any p (g (f x))) xs
  any_of_flat g [] = refl
  any_of_flat g (x ∷ xs) = list_any-append p (g (f x)) (flat_map g (map f xs)) ∙ ap (λ b. list_any p (g (f x)) || b) (any_of_flat g xs)

  any_of_deep : {W : Type 0} (h : Y → List W) (g : W → List Z) (xs : List X) → list_any p (flat_map g (flat_map h (map f xs))) ≡ list_any (λ x. list_any p (flat_map g (h (f x)))) xs
  any_of_deep h g [] = refl
  any_of_deep h g (x ∷ xs) = rw (flat_map-append g (h (f x)) (flat_map h (map f xs)), list_any-append p) (ap (λ b. list_any p (flat_map g (h (f x))) || b) (any_of_deep h g xs))

pub unknown_cells : (s : Sources) (m : MapLine) → list_any (unknown_cell s (map_shown m)) (all_cells (map_shown m))
    ≡ (list_any (λ c. list_any (unknown_cell s (map_shown m)) (cells_of_condition (condition_shown c))) m.conditions.items
    || list_any (λ t. list_any (unknown_cell s (map_shown m)) (flat_map cells_of_term (terms_of (target_shown t)))) m.targets.items)
unknown_cells s m =
    let u : _ → Bool = unknown_cell s (map_shown m) in
    let cs : list_any u (flat_map cells_of_condition (map condition_shown m.conditions.items)) ≡ list_any (λ c. list_any u (cells_of_condition (condition_shown c))) m.conditions.items
    = any_of_flat u condition_shown cells_of_condition m.conditions.items in
    let ts : list_any u (flat_map cells_of_term (flat_map terms_of (map target_shown m.targets.items))) ≡ list_any (λ t. list_any u (flat_map cells_of_term (terms_of (target_shown t)))) m.targets.items
    = any_of_deep u target_shown terms_of cells_of_term m.targets.items in
    rw (list_any-append u, cs, ts) refl

pub misfits : (p : Placed → Bool) (places : Target → List Placed) (targets : List HeldTarget) → list_any p (flat_map places (map target_shown targets)) ≡ list_any (λ t. list_any p (places (target_shown t))) targets
misfits p places targets = any_of_flat p target_shown places targets

pub flaws : (p : List ℕ → Bool) (m : MapLine) → list_any p (all_templates (map_shown m)) ≡ list_any (λ t. list_any p (flat_map template_texts (terms_of (target_shown t)))) m.targets.items
flaws p m = any_of_deep p target_shown terms_of template_texts m.targets.items
