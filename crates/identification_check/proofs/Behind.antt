-- Derivations one behind the other.
use Rattle.std.proofs.Common.{◌≡◌, refl, sym, ◌∙◌, ap, subst, ℕ, zero, suc, ◌+◌, ◌≤◌, List, [], ◌∷◌, ◌++◌, length, length-append, take, map, append_assoc, Option, Some, None, arith}
use Rattle.std.specs.Prelude.{option_and_then, option_map, slice_get}
use Rattle.std.proofs.lemmas.List.{append-nil, length-map}
use Rattle.vocabulary.specs.declared.term.Fact.{Fact}
use Rattle.vocabulary.specs.declared.term.Fact.TheVariants.{InClass, Linked}
use Rattle.vocabulary.specs.Lists.{In, here, item, there}
use Rattle.source_tables.specs.Tables.{Loaded}
use Rattle.dllite_axioms.specs.declared.axioms.Axiom.{Axiom}
use Rattle.dllite_axioms.specs.Chase.{apply_of}
use Rattle.negative_closure.proofs.Places.{kept_place, last_place}
use Rattle.mapping_facts.specs.declared.mapping.Mapping.{Mapping}
use Rattle.mapping_facts.proofs.Members.{In-All}
use Rattle.conflict_checker.specs.declared.derivation.Step.{Step}
use Rattle.conflict_checker.specs.declared.derivation.Step.TheVariants.{Mapped, Rule}
use Rattle.conflict_checker.specs.Derivations.{facts_from, items_at, step_fact}
use Rattle.fact_derivation.specs.Derivings.{IsDeriving, IsShort, rule_steps}
use Rattle.identification_check.specs.declared.violation.Violation.{Violation}
use Rattle.identification_check.specs.Chained.{AreChained, IsDerived, IsUnturnedFact, cited, most, most_of, shifted}

-- an item behind others
item_behind : {X : Type 0} (xs ys : List X) (k : ℕ) → slice_get (xs ++ ys) (length xs + k) ≡ slice_get ys k
item_behind [] ys k = let same : 0 + k ≡ k = omega arith in ap (slice_get ys) same
item_behind (x ∷ xs) ys k = let same : suc (length xs) + k ≡ suc (length xs + k) = omega arith in ap (slice_get (x ∷ (xs ++ ys))) same ∙ item_behind xs ys k

-- what the ends have stays when items are added, and a further end has its own
item_kept : {X : Type 0} (xs ys : List X) (n : ℕ) (x : X) → item xs n ≡ Some x → item (xs ++ ys) n ≡ Some x
item_kept xs ys zero x e = cc
item_kept xs ys (suc n) x e = kept_place xs ys n x e

ends_more : {X : Type 0} (xs ys : List X) (ends : List ℕ) (found : List X) (n : ℕ) (x : X) → items_at xs ends ≡ Some found → item (xs ++ ys) n ≡ Some x → items_at (xs ++ ys) (ends ++ n ∷ []) ≡ Some (found ++ x ∷ [])
ends_more {X} xs ys [] found n x e last =
    let none : [] ≡ found = cc in
    ap (option_and_then (λ y. Some (y ∷ []))) last ∙ ap (λ fs. Some (fs ++ x ∷ [])) none
ends_more {X} xs ys (m ∷ ends) found n x e last = by (item xs m) (items_at xs ends) refl refl e (λ fs h. ends_more xs ys ends fs n x h last)
  where
    by : (o : Option X) (rest : Option (List X)) → item xs m ≡ o → items_at xs ends ≡ rest → option_and_then (λ y. option_map (λ more. y ∷ more) rest) o ≡ Some found → ((fs : List X) → items_at xs ends ≡ Some fs → items_at (xs ++ ys) (ends ++ n ∷ []) ≡ Some (fs ++ x ∷ [])) →
        option_and_then (λ y. option_map (λ more. y ∷ more) (items_at (xs ++ ys) (ends ++ n ∷ []))) (item (xs ++ ys) m) ≡ Some (found ++ x ∷ [])
    by None rest is all h onward = cc
    by (Some y) None is all h onward = cc
    by (Some y) (Some fs) is all h onward =
        let same : y ∷ fs ≡ found = cc in
        ap (option_and_then (λ z. option_map (λ more. z ∷ more) (items_at (xs ++ ys) (ends ++ n ∷ [])))) (item_kept xs ys m y is)
        ∙ ap (option_map (λ more. y ∷ more)) (onward fs all)
        ∙ ap (λ zs. Some (zs ++ x ∷ [])) same

last_item : {X : Type 0} (xs : List X) (x : X) (n : ℕ) → n ≡ length (xs ++ x ∷ []) → item (xs ++ x ∷ []) n ≡ Some x
last_item xs x n e =
    let long : length (xs ++ x ∷ []) ≡ length xs + 1 = length-append xs (x ∷ []) in
    let same : n ≡ suc (length xs) = omega (arith, e, long) in
    ap (item (xs ++ x ∷ [])) same ∙ last_place xs x

module _ (axioms : List Axiom) (mappings : List Mapping) (tables : List Loaded) where
  -- the steps in two parts
  run_append : (earlier : List Fact) (xs ys : List Step) (facts : List Fact) → facts_from axioms mappings tables earlier xs ≡ Some facts → facts_from axioms mappings tables earlier (xs ++ ys) ≡ facts_from axioms mappings tables facts ys
  run_append earlier [] ys facts e = let same : earlier ≡ facts = cc in ap (λ fs. facts_from axioms mappings tables fs ys) same
  run_append earlier (s ∷ xs) ys facts e = by (λ f. run_append (earlier ++ (f ∷ [])) xs ys facts) (step_fact axioms mappings tables earlier s) e
    where
      by : ((f : Fact) → facts_from axioms mappings tables (earlier ++ (f ∷ [])) xs ≡ Some facts → facts_from axioms mappings tables (earlier ++ (f ∷ [])) (xs ++ ys) ≡ facts_from axioms mappings tables facts ys) →
          (o : Option Fact) → option_and_then (λ f. facts_from axioms mappings tables (earlier ++ (f ∷ [])) xs) o ≡ Some facts → option_and_then (λ f. facts_from axioms mappings tables (earlier ++ (f ∷ [])) (xs ++ ys)) o ≡ facts_from axioms mappings tables facts ys
      by onward None h = cc
      by onward (Some f) h = onward f h

  -- one fact a step
  run_length : (earlier : List Fact) (steps : List Step) (facts : List Fact) → facts_from axioms mappings tables earlier steps ≡ Some facts → length facts ≡ length earlier + length steps
  run_length earlier [] facts e = let same : earlier ≡ facts = cc in let long = ap length same in omega (arith, long)
  run_length earlier (s ∷ steps) facts e = by (λ f. run_length (earlier ++ (f ∷ [])) steps facts) (step_fact axioms mappings tables earlier s) e
    where
      by : ((f : Fact) → facts_from axioms mappings tables (earlier ++ (f ∷ [])) steps ≡ Some facts → length facts ≡ length (earlier ++ (f ∷ [])) + length steps) →
          (o : Option Fact) → option_and_then (λ f. facts_from axioms mappings tables (earlier ++ (f ∷ [])) steps) o ≡ Some facts → length facts ≡ length earlier + suc (length steps)
      by onward None h = cc
      by onward (Some f) h = let long = onward f h in let one = length-append earlier (f ∷ []) in omega (arith, long, one)

  -- a step behind others has the fact that it had
  shifted_fact : (before earlier : List Fact) (s : Step) (f : Fact) → step_fact axioms mappings tables earlier s ≡ Some f → step_fact axioms mappings tables (before ++ earlier) (shifted (length before) s) ≡ Some f
  shifted_fact before earlier (Mapped mapping target rows) f e = e
  shifted_fact before earlier (Rule number zero) f e = none (item axioms number) e
    where
      none : (o : Option Axiom) → option_and_then (λ ax. None) o ≡ Some f → step_fact axioms mappings tables (before ++ earlier) (Rule number (length before + zero)) ≡ Some f
      none None h = cc
      none (Some ax) h = cc
  shifted_fact before earlier (Rule number (suc k)) f e =
      let same : length before + suc k ≡ suc (length before + k) = omega arith in
      ap (λ o. option_and_then (λ ax. option_and_then (apply_of ax) o) (item axioms number)) (ap (item (before ++ earlier)) same ∙ item_behind before earlier k) ∙ e

  shifted_run : (before earlier : List Fact) (steps : List Step) (facts : List Fact) → facts_from axioms mappings tables earlier steps ≡ Some facts → facts_from axioms mappings tables (before ++ earlier) (map (shifted (length before)) steps) ≡ Some (before ++ facts)
  shifted_run before earlier [] facts e = let same : earlier ≡ facts = cc in ap (λ fs. Some (before ++ fs)) same
  shifted_run before earlier (s ∷ steps) facts e = by (λ f. shifted_run before (earlier ++ (f ∷ [])) steps facts) (step_fact axioms mappings tables earlier s) refl e
    where
      by : ((f : Fact) → facts_from axioms mappings tables (earlier ++ (f ∷ [])) steps ≡ Some facts → facts_from axioms mappings tables (before ++ (earlier ++ (f ∷ []))) (map (shifted (length before)) steps) ≡ Some (before ++ facts)) →
          (o : Option Fact) → step_fact axioms mappings tables earlier s ≡ o → option_and_then (λ f. facts_from axioms mappings tables (earlier ++ (f ∷ [])) steps) o ≡ Some facts → facts_from axioms mappings tables (before ++ earlier) (map (shifted (length before)) (s ∷ steps)) ≡ Some (before ++ facts)
      by onward None is h = cc
      by onward (Some f) is h =
          ap (option_and_then (λ g. facts_from axioms mappings tables ((before ++ earlier) ++ (g ∷ [])) (map (shifted (length before)) steps))) (shifted_fact before earlier s f is)
          ∙ ap (λ fs. facts_from axioms mappings tables fs (map (shifted (length before)) steps)) (append_assoc before earlier (f ∷ []))
          ∙ onward f h

  -- nothing yet
  pub none_chained : (v : Violation) → v.steps ≡ [] → v.ends ≡ [] → AreChained axioms mappings tables [] v
  none_chained v steps ends = record {
    facts = [];
    run = ap (facts_from axioms mappings tables []) steps;
    ends = ap (items_at []) ends;
    few = let long = ap length steps in omega (arith, long);
  }

  -- a fact further
  pub one_chained : (wanted : List Fact) (v w : Violation) (f : Fact) (more : List Step) → AreChained axioms mappings tables wanted v → IsDerived axioms mappings tables f more → w.steps ≡ v.steps ++ map (shifted (length v.steps)) more → w.ends ≡ v.ends ++ length w.steps ∷ [] →
      AreChained axioms mappings tables (wanted ++ f ∷ []) w
  one_chained wanted v w f more are derived steps ends =
      let facts : List Fact = are.facts ++ (derived.before ++ f ∷ []) in
      let count : length are.facts ≡ length v.steps = (let long = run_length [] v.steps are.facts are.run in omega (arith, long)) in
      let behind : facts_from axioms mappings tables are.facts (map (shifted (length v.steps)) more) ≡ Some facts =
      ap (λ fs. facts_from axioms mappings tables fs (map (shifted (length v.steps)) more)) (sym (append-nil are.facts))
      ∙ ap (λ n. facts_from axioms mappings tables (are.facts ++ []) (map (shifted n) more)) (sym count)
      ∙ shifted_run are.facts [] more (derived.before ++ f ∷ []) derived.run in
      let run : facts_from axioms mappings tables [] w.steps ≡ Some facts = ap (facts_from axioms mappings tables []) steps ∙ run_append [] v.steps (map (shifted (length v.steps)) more) are.facts are.run ∙ behind in
      let all : length w.steps ≡ length facts = (let long = run_length [] w.steps facts run in omega (arith, long)) in
      let regrouped : facts ≡ are.facts ++ derived.before ++ f ∷ [] = sym (append_assoc are.facts derived.before (f ∷ [])) in
      let last : item facts (length w.steps) ≡ Some f = ap (λ fs. item fs (length w.steps)) regrouped ∙ last_item (are.facts ++ derived.before) f (length w.steps) (all ∙ ap length regrouped) in
      record {
        facts = facts;
        run = run;
        ends = ap (items_at facts) ends ∙ ends_more are.facts (derived.before ++ f ∷ []) v.ends wanted (length w.steps) f are.ends last;
        few = few;
      }
    where
      pushed : (fs : List Fact) → most_of (fs ++ f ∷ []) ≡ most_of fs + most f
      pushed [] = omega arith
      pushed (g ∷ fs) = let rest = pushed fs in omega (arith, rest)

      few : length w.steps ≤ most_of (wanted ++ f ∷ [])
      few =
          let long = ap length steps ∙ length-append v.steps (map (shifted (length v.steps)) more) in
          let same = length-map more (shifted (length v.steps)) in
          let sum = pushed wanted in
          let before = are.few in
          let further = derived.few in
          omega (arith, long, same, sum, before, further)

  -- what `derive` gives
  pub derived_by : (f : Fact) (steps : List Step) → IsUnturnedFact axioms f → IsDeriving axioms mappings tables f steps → IsShort axioms f steps → IsDerived axioms mappings tables f steps
  derived_by f steps unturned d short = record {
    before = d.before;
    run = d.facts;
    few = by f unturned short;
    cite = In-All (λ s. cited s ≤ 1601) steps (λ s i. low s (subst (In s) d.are i));
  }
    where
      long : (numbers : List ℕ) (j : ℕ) → length (rule_steps numbers j) ≡ length numbers
      long [] j = refl
      long (k ∷ numbers) j = ap suc (long numbers (j + 1))

      by : (g : Fact) → IsUnturnedFact axioms g → IsShort axioms g steps → length steps ≤ most g
      by (InClass a t) u s = let all = ap length d.are in let rest = long d.numbers 1 in let few = d.few in omega (arith, all, rest, few)
      by (Linked p x y) u s = s u

      rule_cites : (numbers : List ℕ) (j : ℕ) (s : Step) → In s (rule_steps numbers j) → cited s ≤ j + length numbers
      rule_cites [] j s i = elim i [ ]
      rule_cites (k ∷ numbers) j s (here e) = let same : j ≡ cited s = ap cited e in omega (arith, same)
      rule_cites (k ∷ numbers) j s (there i) = let rest = rule_cites numbers (j + 1) s i in omega (arith, rest)

      low : (s : Step) → In s (Mapped d.mapping d.target d.rows ∷ rule_steps d.numbers 1) → cited s ≤ 1601
      low s (here e) = let same : 0 ≡ cited s = ap cited e in omega (arith, same)
      low s (there i) = let rest = rule_cites d.numbers 1 s i in let few = d.few in omega (arith, rest, few)

-- the first facts cost no more than all
pub most_take : (fs : List Fact) (n : ℕ) → most_of (take n fs) ≤ most_of fs
most_take fs zero = omega arith
most_take [] (suc n) = omega arith
most_take (f ∷ fs) (suc n) = let rest = most_take fs n in omega (arith, rest)
