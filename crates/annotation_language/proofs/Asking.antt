-- The rules of a query by its variables and places.
use Rattle.std.proofs.Common.{◌≡◌, refl, ◌∙◌, ◌||◌, ◌==◌, ℕ, Bool, List, [], ◌∷◌, Option, None, ◌≤◌, length}
use Rattle.std.specs.List.{list_any}
use Rattle.line_lexer.specs.Judging.{first_broken, first_passed}
use Rattle.line_lexer.specs.declared.fault.LineFault.{LineFault}
use Rattle.line_lexer.specs.declared.fault.LineFault.TheVariants.{Unknown, Double, TypeMismatch, BadTemplate, MixedSort, HeadUnbound, BadKey}
use Rattle.line_lexer.specs.declared.fault.Counted.{Counted}
use Rattle.line_lexer.specs.declared.fault.Counted.TheVariants.{Atoms, Variables}
use Rattle.uml_model.specs.Rules.{Known, class_named, link_named}
use Rattle.annotation_language.specs.Written.{Asked}
use Rattle.annotation_language.specs.Lines.{Placed, variables_of, all_places, misfits, has_bad_template, differ, is_value_side, broken_query, counts}
use Rattle.annotation_language.specs.Resolved.{places_of, is_unknown, sides_at}
use Rattle.annotation_language.proofs.Judged.{unpassed, rest_unpassed, within}

-- the rules of a query with these variables and places
abbrev pub rules_by : Known → Bool → Bool → Asked → List (List ℕ) → Bool → List (List ℕ) → List Placed → List (Bool × LineFault)
rules_by model missing double q objects bad_key variables places =
    (missing || list_any (is_unknown model) q.atoms, Unknown)
    ∷ (double, Double)
    ∷ (list_any (λ a. length (places_of model a) == 0) q.atoms || list_any (λ placed. misfits placed.argument placed.side) places, TypeMismatch)
    ∷ (list_any (λ placed. has_bad_template placed.argument) places, BadTemplate)
    ∷ (list_any (λ v. differ (sides_at v places)) variables || list_any (λ v. list_any is_value_side (sides_at v places)) objects, MixedSort)
    ∷ (list_any (λ v. length (sides_at v places) == 0) q.head, HeadUnbound)
    ∷ (bad_key, BadKey)
    ∷ []

-- the first of them that is broken, the limits last
abbrev pub judged_by : Known → Bool → Bool → Asked → List (List ℕ) → Bool → List (Counted × ℕ) → List (List ℕ) → List Placed → Option LineFault
judged_by model missing double q objects bad_key others variables places =
    first_broken (rules_by model missing double q objects bad_key variables places) ((Atoms, length q.atoms) ∷ (Variables, length variables) ∷ (Variables, length q.head) ∷ others)

pub by_its_own : (model : Known) (missing double : Bool) (q : Asked) (objects : List (List ℕ)) (bad_key : Bool) (others : List (Counted × ℕ)) (variables : List (List ℕ)) (places : List Placed)
    → variables ≡ variables_of q → places ≡ all_places (class_named model) (link_named model) q
    → judged_by model missing double q objects bad_key others variables places ≡ broken_query (class_named model) (link_named model) missing double q objects bad_key others
unfolding is_unknown
by_its_own model missing double q objects bad_key others variables places own_variables own_places = rw (own_variables, own_places) refl

-- where no rule is broken no count passes its number
all_within : (model : Known) (missing double : Bool) (q : Asked) (objects : List (List ℕ)) (bad_key : Bool) (others : List (Counted × ℕ)) → broken_query (class_named model) (link_named model) missing double q objects bad_key others ≡ None → first_passed (counts q others) ≡ None
all_within model missing double q objects bad_key others e =
    let places = all_places (class_named model) (link_named model) q in
    let own = by_its_own model missing double q objects bad_key others (variables_of q) places refl refl in
    unpassed (rules_by model missing double q objects bad_key (variables_of q) places) (counts q others) (own ∙ e)

pub few_atoms : (model : Known) (missing double : Bool) (q : Asked) (objects : List (List ℕ)) (bad_key : Bool) (others : List (Counted × ℕ)) → broken_query (class_named model) (link_named model) missing double q objects bad_key others ≡ None → length q.atoms ≤ 16
few_atoms model missing double q objects bad_key others e =
    within (Atoms, length q.atoms) ((Variables, length (variables_of q)) ∷ (Variables, length q.head) ∷ others) (all_within model missing double q objects bad_key others e)

pub few_variables : (model : Known) (missing double : Bool) (q : Asked) (objects : List (List ℕ)) (bad_key : Bool) (others : List (Counted × ℕ)) → broken_query (class_named model) (link_named model) missing double q objects bad_key others ≡ None → length (variables_of q) ≤ 16
few_variables model missing double q objects bad_key others e =
    let behind = (Variables, length q.head) ∷ others in
    within (Variables, length (variables_of q)) behind (rest_unpassed (Atoms, length q.atoms) ((Variables, length (variables_of q)) ∷ behind) (all_within model missing double q objects bad_key others e))

pub few_heads : (model : Known) (missing double : Bool) (q : Asked) (objects : List (List ℕ)) (bad_key : Bool) (others : List (Counted × ℕ)) → broken_query (class_named model) (link_named model) missing double q objects bad_key others ≡ None → length q.head ≤ 16
few_heads model missing double q objects bad_key others e =
    let behind = (Variables, length q.head) ∷ others in
    let all = all_within model missing double q objects bad_key others e in
    let last = rest_unpassed (Variables, length (variables_of q)) behind (rest_unpassed (Atoms, length q.atoms) ((Variables, length (variables_of q)) ∷ behind) all) in
    within (Variables, length q.head) others last
