-- Mapped steps and a plan make an accepted derivation.
use Rattle.std.proofs.Common.{◌≡◌, refl, sym, ◌∙◌, ap, subst, ℕ, zero, suc, ◌-◌, ◌≤◌, true, false, if◌then◌else◌, List, [], ◌∷◌, ◌++◌, length, length-append, map, Option, Some, None, arith}
use Rattle.std.specs.Prelude.{option_and_then, option_map, option_to_list, is_none}
use Rattle.std.proofs.lemmas.Bool.{lt-ltb}
use Rattle.std.proofs.lemmas.List.{length-map}
use Rattle.vocabulary.specs.declared.term.Fact.{Fact}
use Rattle.vocabulary.specs.Lists.{item}
use Rattle.source_tables.specs.Tables.{Loaded}
use Rattle.dllite_axioms.specs.declared.axioms.Axiom.{Axiom}
use Rattle.dllite_axioms.specs.declared.axioms.Constraint.{Constraint}
use Rattle.dllite_axioms.specs.declared.axioms.Tbox.{Tbox}
use Rattle.dllite_axioms.specs.Chase.{apply_of, rule_fact}
use Rattle.dllite_axioms.specs.Clashes.{Clash}
use Rattle.mapping_facts.specs.declared.mapping.Mapping.{Mapping}
use Rattle.conflict_checker.specs.declared.derivation.Step.{Step}
use Rattle.conflict_checker.specs.Derivations.{IsAccepted, facts_from, facts_of, items_at, step_fact}
use Rattle.negative_closure.specs.declared.plan.Plan.{Plan}
use Rattle.negative_closure.specs.declared.source.Source.{Source}
use Rattle.negative_closure.specs.Plans.{EndsInClash, run_of}
use Rattle.negative_closure.specs.Sources.{IsMetBy}
use Rattle.consistency_check.specs.declared.met.Met.{Met}
use Rattle.consistency_check.specs.Planned.{derivation_of, renumbered, rule_step}
use Rattle.consistency_check.specs.Meeting.{AreMet, HasSecond}
use Rattle.fact_derivation.specs.Finding.{HasFact}

-- the two ends
ends_at : (facts : List Fact) (n m : ℕ) (f g : Fact) → item facts n ≡ Some f → item facts m ≡ Some g → items_at facts (n ∷ m ∷ []) ≡ Some (f ∷ g ∷ [])
ends_at facts n m f g e h =
    ap (option_and_then (λ x. option_map (λ rest. x ∷ rest) (items_at facts (m ∷ [])))) e ∙ ap (λ o. option_map (λ rest. f ∷ rest) (option_and_then (λ y. option_map (λ rest. y ∷ rest) (Some [])) o)) h

-- a fact that stands twice, counted once
item_renumbered : (f : Fact) (xs : List Fact) (n : ℕ) → item (f ∷ f ∷ xs) n ≡ item (f ∷ xs) (renumbered true n)
item_renumbered f xs zero = refl
item_renumbered f xs (suc zero) = refl
item_renumbered f xs (suc (suc k)) =
    let back : suc (suc k) - 1 ≡ suc k = omega arith in
    sym (ap (λ t. item (f ∷ xs) (if t then suc (suc k) - 1 else suc (suc k))) (lt-ltb 1 (suc (suc k)) (omega arith)) ∙ ap (item (f ∷ xs)) back)

module _ (axioms : List Axiom) (mappings : List Mapping) (tables : List Loaded) where
  -- rules as steps
  run_two : (xs : List Fact) (rules : List (ℕ × ℕ)) → facts_from axioms mappings tables xs (map (rule_step false) rules) ≡ run_of axioms xs rules
  run_two xs [] = refl
  run_two xs (rule ∷ rules) = by (λ g. run_two (xs ++ (g ∷ [])) rules) (rule_fact axioms xs rule)
    where
      by : ((g : Fact) → facts_from axioms mappings tables (xs ++ (g ∷ [])) (map (rule_step false) rules) ≡ run_of axioms (xs ++ (g ∷ [])) rules) → (o : Option Fact) → option_and_then (λ g. facts_from axioms mappings tables (xs ++ (g ∷ [])) (map (rule_step false) rules)) o ≡ option_and_then (λ g. run_of axioms (xs ++ g ∷ []) rules) o
      by more None = refl
      by more (Some g) = more g

  record Once (f : Fact) (xs : List Fact) (rules : List (ℕ × ℕ)) (facts : List Fact) : Type 0 where
    pub more : List Fact
    pub are : facts ≡ f ∷ f ∷ more
    pub run : facts_from axioms mappings tables (f ∷ xs) (map (rule_step true) rules) ≡ Some (f ∷ more)

  run_one : (f : Fact) (xs : List Fact) (rules : List (ℕ × ℕ)) (facts : List Fact) → run_of axioms (f ∷ f ∷ xs) rules ≡ Some facts → Once f xs rules facts
  run_one f xs [] facts e = let same : f ∷ f ∷ xs ≡ facts = cc in record { more = xs; are = sym same; run = refl }
  run_one f xs (rule ∷ rules) facts e = by (λ g h. run_one f (xs ++ (g ∷ [])) rules facts h) (rule_fact axioms (f ∷ f ∷ xs) rule) refl e
    where
      same : step_fact axioms mappings tables (f ∷ xs) (rule_step true rule) ≡ rule_fact axioms (f ∷ f ∷ xs) rule
      same = ap (λ o. option_and_then (λ ax. option_and_then (apply_of ax) o) (item axioms rule.0)) (sym (item_renumbered f xs rule.1))

      by : ((g : Fact) → run_of axioms (f ∷ f ∷ (xs ++ (g ∷ []))) rules ≡ Some facts → Once f (xs ++ (g ∷ [])) rules facts) → (o : Option Fact) → rule_fact axioms (f ∷ f ∷ xs) rule ≡ o → option_and_then (λ g. run_of axioms ((f ∷ f ∷ xs) ++ g ∷ []) rules) o ≡ Some facts → Once f xs (rule ∷ rules) facts
      by onward None is h = cc
      by onward (Some g) is h =
          let r = onward g h in
          record {
            more = r.more;
            are = r.are;
            run = ap (option_and_then (λ g. facts_from axioms mappings tables ((f ∷ xs) ++ (g ∷ [])) (map (rule_step true) rules))) (same ∙ is) ∙ r.run;
          }

-- the steps have their facts and the ends clash
record Ends (tbox : Tbox) (mappings : List Mapping) (tables : List Loaded) (c : Constraint) (met : Met) (plan : Plan) : Type 0 where
  pub facts : List Fact
  pub run : facts_of tbox mappings tables ((met.first ∷ option_to_list met.second) ++ map (rule_step (is_none met.second)) plan.rules) ≡ Some facts
  pub first : Fact
  pub second : Fact
  pub first_is : item facts (renumbered (is_none met.second) plan.first) ≡ Some first
  pub second_is : item facts (renumbered (is_none met.second) plan.second) ≡ Some second
  pub clash : Clash c (first ∷ second ∷ [])

ends_in : (tbox : Tbox) (mappings : List Mapping) (tables : List Loaded) (c : Constraint) (first : Step) (second : Option Step) (plan : Plan) (f g : Fact) → HasFact mappings tables first f → HasSecond mappings tables second f g →
    EndsInClash tbox.axioms c (f ∷ g ∷ []) plan → Ends tbox mappings tables c (record { first = first; second = second }) plan
ends_in tbox mappings tables c first None plan f g one two end =
    let end' : EndsInClash tbox.axioms c (f ∷ f ∷ []) plan = subst (λ x. EndsInClash tbox.axioms c (f ∷ x ∷ []) plan) (sym two) end in
    let r = run_one tbox.axioms mappings tables f [] plan.rules end'.facts end'.run in
    record {
      facts = f ∷ r.more;
      run = ap (option_and_then (λ x. facts_from tbox.axioms mappings tables (x ∷ []) (map (rule_step true) plan.rules))) (one tbox.axioms []) ∙ r.run;
      first = end'.first;
      second = end'.second;
      first_is = sym (item_renumbered f r.more plan.first) ∙ sym (ap (λ xs. item xs plan.first) r.are) ∙ end'.first_is;
      second_is = sym (item_renumbered f r.more plan.second) ∙ sym (ap (λ xs. item xs plan.second) r.are) ∙ end'.second_is;
      clash = end'.clash;
    }
ends_in tbox mappings tables c first (Some step) plan f g one two end = record {
  facts = end.facts;
  run =
      ap (option_and_then (λ x. facts_from tbox.axioms mappings tables (x ∷ []) (step ∷ map (rule_step false) plan.rules))) (one tbox.axioms [])
      ∙ ap (option_and_then (λ x. facts_from tbox.axioms mappings tables (f ∷ x ∷ []) (map (rule_step false) plan.rules))) (two tbox.axioms (f ∷ []))
      ∙ run_two tbox.axioms mappings tables (f ∷ g ∷ []) plan.rules ∙ end.run;
  first = end.first;
  second = end.second;
  first_is = end.first_is;
  second_is = end.second_is;
  clash = end.clash;
}

pub accepted : (tbox : Tbox) (mappings : List Mapping) (tables : List Loaded) (s : Source) (n : ℕ) (c : Constraint) (met : Met) (plan : Plan) → AreMet mappings tables s met →
    ((f g : Fact) → IsMetBy s f g → EndsInClash tbox.axioms c (f ∷ g ∷ []) plan) → item tbox.constraints n ≡ Some c → IsAccepted tbox mappings tables (derivation_of n met plan)
accepted tbox mappings tables s n c met plan m ends numbered =
    let e = ends_in tbox mappings tables c met.first met.second plan m.one m.two m.has_one m.has_two (ends m.one m.two m.meet) in
    record {
      facts = e.facts;
      steps = e.run;
      constraint = c;
      numbered = numbered;
      ends = (e.first ∷ e.second ∷ [], ends_at e.facts (renumbered (is_none met.second) plan.first) (renumbered (is_none met.second) plan.second) e.first e.second e.first_is e.second_is, e.clash);
    }

one_or_none : {X : Type 0} (o : Option X) → length (option_to_list o) ≤ 1
one_or_none None = omega arith
one_or_none (Some x) = omega arith

pub short : (n : ℕ) (met : Met) (plan : Plan) → length plan.rules ≤ 4800 → length (derivation_of n met plan).steps ≤ 8_000
short n met plan few =
    let long = length-append (met.first ∷ option_to_list met.second) (map (rule_step (is_none met.second)) plan.rules) in
    let rules = length-map plan.rules (rule_step (is_none met.second)) in
    let one = one_or_none met.second in
    omega (arith, long, rules, one, few)
