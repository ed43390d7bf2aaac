-- The rules along a path have their facts.
use Rattle.std.proofs.Common.{ℕ, suc, ◌≡◌, refl, sym, ◌∙◌, ap, subst, List, [], ◌∷◌, ◌++◌, Some}
use Rattle.std.specs.List.{slice_get}
use Rattle.vocabulary.specs.declared.ids.LinkId.{LinkId}
use Rattle.vocabulary.specs.declared.ids.Dir.{Dir}
use Rattle.vocabulary.specs.declared.term.Fact.{Fact}
use Rattle.vocabulary.specs.Lists.{In, here, there}
use Rattle.dllite_axioms.specs.declared.axioms.Axiom.{Axiom}
use Rattle.dllite_axioms.specs.declared.axioms.Axiom.TheVariants.{SubLink}
use Rattle.dllite_axioms.specs.declared.axioms.Basic.{Basic}
use Rattle.dllite_axioms.specs.Basics.{link_fact}
use Rattle.dllite_axioms.proofs.Firing.{some_same}
use Rattle.negative_closure.specs.Chains.{Follows, arrived as at_end, onward as follow}
use Rattle.negative_closure.specs.Forests.{Allows}
use Rattle.negative_closure.specs.Laws.{LinkPathsRun, PathsRun}
use Rattle.negative_closure.specs.Plans.{run_of}
use Rattle.negative_closure.specs.Rules.{chain_rules}
use Rattle.negative_closure.specs.Trails.{Winds, arrived, onward}
use Rattle.negative_closure.specs.declared.hops.Hops.TheVariants.{Axioms, Links}
use Rattle.negative_closure.proofs.Running.{chained, joined}
use Rattle.negative_closure.proofs.Spreading.{append_nothing}
use Rattle.negative_closure.proofs.Winding.{axioms_not_ends}

-- axioms that follow one another are a way without hops across links
follows_wind : {axioms : List Axiom} {to x : Basic} {numbers : List ℕ} {passed : List Basic} → Follows axioms to x numbers passed → Winds axioms Axioms to x numbers passed
follows_wind (at_end e) = arrived e
follows_wind (follow ax is leads w) = onward (ax, is, leads, tt) (follows_wind w)

all_rules : (axioms : List Axiom) (steps : List Fact) (rules : List (ℕ × ℕ)) → run_of axioms steps rules ≡ run_of axioms steps (rules ++ [])
all_rules axioms steps rules = ap (run_of axioms steps) (sym (append_nothing rules))

pub paths_run : PathsRun
paths_run axioms from to numbers f t path m =
    let r = chained (follows_wind path.follows) (f ∷ []) 1 refl 1 f t refl m in (
      r.fact,
      record { facts = f ∷ r.more; run = all_rules axioms (f ∷ []) (chain_rules numbers 1 1) ∙ r.runs []; counted = ap suc r.longer; ends = r.at_end },
      r.matches ∙ ap (λ z. Some z) (r.same axioms_not_ends),
    )

-- axioms between links
abbrev AreOfLinks : List Axiom → List ℕ → Type 0
AreOfLinks axioms numbers = (k : ℕ) → In k numbers → (q : LinkId) × (d : Dir) × (p : LinkId) × (slice_get axioms k ≡ Some (SubLink q d p))

links_wind : {axioms : List Axiom} {to x : Basic} {numbers : List ℕ} {passed : List Basic} → Follows axioms to x numbers passed → AreOfLinks axioms numbers → Winds axioms Links to x numbers passed
links_wind (at_end e) between = arrived e
links_wind (follow {k = k} ax is leads w) between =
    let b = between k (here refl) in
    onward (ax, is, leads, subst (Allows Links) (some_same (sym b.3 ∙ is)) tt) (links_wind w (λ n m. between n (there m)))

pub link_paths_run : LinkPathsRun
link_paths_run axioms from to numbers s t path =
    let f : Fact = link_fact from.0 from.1 s t in
    let r = joined (links_wind path.path.follows path.between_links) to.0 to.1 refl from.0 from.1 refl (f ∷ []) 1 refl 1 s t refl in
    record { facts = f ∷ r.more; run = all_rules axioms (f ∷ []) (chain_rules numbers 1 1) ∙ r.runs []; counted = ap suc r.longer; ends = r.at_end }
