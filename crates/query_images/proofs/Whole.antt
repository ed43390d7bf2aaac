-- A query whose head has all variables of its atoms.
use Rattle.std.proofs.Common.{◌≡◌, sym, ◌∙◌, subst, ◌≤◌, List, map, Result, Ok, Err, IfOk}
use Rattle.vocabulary.specs.declared.ids.VarId.{VarId}
use Rattle.vocabulary.specs.Lists.{In}
use Rattle.queries.specs.declared.query.Arg.TheVariants.{Blank, Var}
use Rattle.queries.specs.declared.query.Query.{Query}
use Rattle.queries.specs.Occurrences.{HeadStands, KnownArg, count}
use Rattle.query_images.proofs.Parts.{of_vars}

pub both_ok : {X E : Type 0} (r : Result X E) (P Q S : X → Type 0) → ((x : X) → P x → Q x → S x) → IfOk r P → IfOk r Q → IfOk r S
both_ok (Ok x) P Q S f p q = f x p q
both_ok (Err e) P Q S f p q = tt

var_same : (w v : VarId) → Var w ≡ Var v → w ≡ v
var_same w v e = cc

not_blank : (w : VarId) → Var w ≡ Blank → ⊥
not_blank w e = cc

-- a head of variables that stand in the atoms
pub vars_stand : (vars : List VarId) (q : Query) → q.head ≡ map Var vars → ((v : VarId) → In v vars → 1 ≤ count v q.atoms) → HeadStands q
vars_stand vars q head stand x i =
    let r = of_vars vars x (subst (In x) head i) in
    (subst KnownArg (sym r.2) tt, (λ e. not_blank r.0 (sym r.2 ∙ e)), (λ v e. subst (λ w. 1 ≤ count w q.atoms) (var_same r.0 v (sym r.2 ∙ e)) (stand r.0 r.1)))
