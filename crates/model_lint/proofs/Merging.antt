-- A plan from one fact that stands twice is one from the fact.
use Rattle.std.proofs.Common.{◌≡◌, refl, sym, ◌∙◌, ap, ℕ, zero, suc, ◌-◌, List, [], ◌∷◌, ◌++◌, map, Option, Some, None, arith, if◌then◌else◌}
use Rattle.std.proofs.lemmas.Bool.{lt-ltb}
use Rattle.std.specs.Option.{option_and_then}
use Rattle.vocabulary.specs.declared.term.Fact.{Fact}
use Rattle.vocabulary.specs.Lists.{item}
use Rattle.dllite_axioms.specs.declared.axioms.Axiom.{Axiom}
use Rattle.dllite_axioms.specs.declared.axioms.Constraint.{Constraint}
use Rattle.dllite_axioms.specs.Chase.{apply_of, rule_fact}
use Rattle.negative_closure.specs.Plans.{EndsInClash, run_of}
use Rattle.negative_closure.specs.declared.plan.Plan.{Plan}
use Rattle.dllite_axioms.specs.declared.axioms.Basic.{Basic}
use Rattle.dllite_axioms.specs.declared.axioms.Constraint.TheVariants.{Disjoint, Func, Apart, Identified}
use Rattle.dllite_axioms.specs.declared.axioms.Tbox.{Tbox}
use Rattle.negative_closure.specs.declared.source.Source.TheVariants.{One}
use Rattle.negative_closure.specs.Sources.{IsMetBy, IsSource, one}
use Rattle.negative_closure.proofs.Negative.{no_empty_func, no_empty_identified}
use Rattle.model_lint.specs.declared.element.Void.{Void}
use Rattle.model_lint.specs.Marks.{basic_of, merged, merged_plan, merged_rule}
use Rattle.model_lint.specs.Voids.{made_up, Shows}
use Rattle.dllite_axioms.specs.Worlds.{IsDisjointness}
use Rattle.model_lint.proofs.Single.{made_up_matches, x}

item_merged : (f : Fact) (xs : List Fact) (n : ℕ) → item (f ∷ f ∷ xs) n ≡ item (f ∷ xs) (merged n)
item_merged f xs zero = refl
item_merged f xs (suc zero) = refl
item_merged f xs (suc (suc k)) =
    let back : suc (suc k) - 1 ≡ suc k = omega arith in
    sym (ap (λ t. item (f ∷ xs) (if t then suc (suc k) - 1 else suc (suc k))) (lt-ltb 1 (suc (suc k)) (omega arith)) ∙ ap (item (f ∷ xs)) back)

module _ (axioms : List Axiom) where
  record Once (f : Fact) (xs : List Fact) (rules : List (ℕ × ℕ)) (facts : List Fact) : Type 0 where
    more : List Fact
    are : facts ≡ f ∷ f ∷ more
    run : run_of axioms (f ∷ xs) (map merged_rule rules) ≡ Some (f ∷ more)

  run_once : (f : Fact) (xs : List Fact) (rules : List (ℕ × ℕ)) (facts : List Fact) → run_of axioms (f ∷ f ∷ xs) rules ≡ Some facts → Once f xs rules facts
  run_once f xs [] facts e = let same : f ∷ f ∷ xs ≡ facts = cc in record { more = xs; are = sym same; run = refl }
  run_once f xs (rule ∷ rules) facts e = by (λ g h. run_once f (xs ++ (g ∷ [])) rules facts h) (rule_fact axioms (f ∷ f ∷ xs) rule) refl e
    where
      same : rule_fact axioms (f ∷ xs) (merged_rule rule) ≡ rule_fact axioms (f ∷ f ∷ xs) rule
      same = ap (λ o. option_and_then (λ ax. option_and_then (apply_of ax) o) (item axioms rule.0)) (sym (item_merged f xs rule.1))

      by : ((g : Fact) → run_of axioms (f ∷ f ∷ (xs ++ (g ∷ []))) rules ≡ Some facts → Once f (xs ++ (g ∷ [])) rules facts) → (o : Option Fact) → rule_fact axioms (f ∷ f ∷ xs) rule ≡ o → option_and_then (λ g. run_of axioms ((f ∷ f ∷ xs) ++ g ∷ []) rules) o ≡ Some facts → Once f xs (rule ∷ rules) facts
      by onward None is h = cc
      by onward (Some g) is h =
          let r = onward g h in
          record { more = r.more; are = r.are; run = ap (option_and_then (λ g. run_of axioms ((f ∷ xs) ++ (g ∷ [])) (map merged_rule rules))) (same ∙ is) ∙ r.run }

pub ends_once : (axioms : List Axiom) (c : Constraint) (f : Fact) (plan : Plan) → EndsInClash axioms c (f ∷ f ∷ []) plan → EndsInClash axioms c (f ∷ []) (merged_plan plan)
ends_once axioms c f plan end =
    let r = run_once axioms f [] plan.rules end.facts end.run in
    record {
      facts = f ∷ r.more;
      run = r.run;
      first = end.first;
      second = end.second;
      first_is = sym (item_merged f r.more plan.first) ∙ sym (ap (λ xs. item xs plan.first) r.are) ∙ end.first_is;
      second_is = sym (item_merged f r.more plan.second) ∙ sym (ap (λ xs. item xs plan.second) r.are) ∙ end.second_is;
      clash = end.clash;
    }

-- only a disjointness makes a basic empty
source_disjoint : {axioms : List Axiom} {b : Basic} (c : Constraint) → IsSource axioms c (One b) → IsDisjointness c
source_disjoint (Disjoint l r) s = tt
source_disjoint (Func p d) (one e) = no_empty_func e
source_disjoint (Apart q d p) s = tt
source_disjoint (Identified a us) (one e) = no_empty_identified e

-- so the plan of the source that one fact of the element meets shows that it is void
pub shown_by : (tbox : Tbox) (c : Constraint) (number : ℕ) (v : Void) (plan : Plan) → item tbox.constraints number ≡ Some c → IsSource tbox.axioms c (One (basic_of v)) →
    ((f g : Fact) → IsMetBy (One (basic_of v)) f g → EndsInClash tbox.axioms c (f ∷ g ∷ []) plan) → Shows tbox (record { what = v; constraint = number; rules = map merged_rule plan.rules; first = merged plan.first; second = merged plan.second })
shown_by tbox c number v plan numbered source ends = record {
  constraint = c;
  numbered = numbered;
  disjointness = source_disjoint c source;
  clash = ends_once tbox.axioms c (made_up v) plan (ends (made_up v) (made_up v) (refl, (x, made_up_matches v)));
}
