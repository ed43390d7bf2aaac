-- Steps that are put behind others have their facts.
use Rattle.std.proofs.Common.{◌≡◌, refl, sym, ◌∙◌, ap, subst, ℕ, zero, suc, ◌+◌, List, [], ◌∷◌, ◌++◌, length, length-append, append_assoc, Option, Some, None, add-one, arith, inl, inr}
use Rattle.std.specs.Prelude.{option_and_then, slice_get}
use Rattle.std.proofs.lemmas.List.{append-nil}
use Rattle.vocabulary.specs.declared.ids.LinkId.{LinkId}
use Rattle.vocabulary.specs.declared.ids.Dir.{Dir}
use Rattle.vocabulary.specs.declared.term.Term.{Term}
use Rattle.vocabulary.specs.declared.term.Fact.{Fact}
use Rattle.vocabulary.specs.Lists.{In, here, there, item}
use Rattle.source_tables.specs.Tables.{Loaded}
use Rattle.dllite_axioms.specs.declared.axioms.Axiom.{Axiom}
use Rattle.dllite_axioms.specs.declared.axioms.Axiom.TheVariants.{SubLink}
use Rattle.dllite_axioms.specs.declared.axioms.Basic.{Basic}
use Rattle.dllite_axioms.specs.declared.axioms.Basic.TheVariants.{Has}
use Rattle.dllite_axioms.specs.Basics.{link_fact, match_at, turn}
use Rattle.dllite_axioms.specs.Chains.{Leads, by_sub, by_sub_link}
use Rattle.dllite_axioms.specs.Chase.{apply_of}
use Rattle.dllite_axioms.proofs.Links.{apply_turned}
use Rattle.dllite_axioms.proofs.Trace.{leads_to}
use Rattle.negative_closure.specs.Chains.{Follows, arrived, onward}
use Rattle.negative_closure.proofs.Places.{kept_place, last_place}
use Rattle.mapping_facts.specs.declared.mapping.Mapping.{Mapping}
use Rattle.conflict_checker.specs.declared.derivation.Step.{Step}
use Rattle.conflict_checker.specs.declared.derivation.Step.TheVariants.{Mapped, Rule}
use Rattle.conflict_checker.specs.Derivations.{facts_from, step_fact}
use Rattle.why_answers.specs.Applying.{Applies, applied, apply_one, Runs, RunsOn}
use Rattle.why_answers.specs.Putting.{Puts, PutsChain, no_rule, one_rule}

same_some : {X : Type 0} (x y : X) → Some x ≡ Some y → x ≡ y
same_some x y e = cc

then_some : {A B : Type 0} (f : A → Option B) (o : Option A) (y : B) → option_and_then f o ≡ Some y → (x : A) × (o ≡ Some x) × (f x ≡ Some y)
then_some f None y e = absurd cc
then_some f (Some x) y e = (x, refl, e)

-- an item keeps its number when items are added
pub item_kept : {X : Type 0} (xs ys : List X) (n : ℕ) (x : X) → item xs n ≡ Some x → item (xs ++ ys) n ≡ Some x
item_kept xs ys zero x e = cc
item_kept xs ys (suc n) x e = kept_place xs ys n x e

module _ (axioms : List Axiom) (mappings : List Mapping) (tables : List Loaded) where
  -- the steps in two parts
  run_append : (earlier : List Fact) (xs ys : List Step) (facts : List Fact) → facts_from axioms mappings tables earlier xs ≡ Some facts → facts_from axioms mappings tables earlier (xs ++ ys) ≡ facts_from axioms mappings tables facts ys
  run_append earlier [] ys facts e = let same : earlier ≡ facts = cc in ap (λ fs. facts_from axioms mappings tables fs ys) same
  run_append earlier (s ∷ xs) ys facts e =
      let a = then_some (λ f. facts_from axioms mappings tables (earlier ++ (f ∷ [])) xs) (step_fact axioms mappings tables earlier s) facts e in
      ap (option_and_then (λ f. facts_from axioms mappings tables (earlier ++ (f ∷ [])) (xs ++ ys))) a.1 ∙ run_append (earlier ++ (a.0 ∷ [])) xs ys facts a.2

  -- one fact a step
  run_length : (earlier : List Fact) (steps : List Step) (facts : List Fact) → facts_from axioms mappings tables earlier steps ≡ Some facts → length facts ≡ length earlier + length steps
  run_length earlier [] facts e = let same : earlier ≡ facts = cc in let long = ap length same in omega (arith, long)
  run_length earlier (s ∷ steps) facts e =
      let a = then_some (λ f. facts_from axioms mappings tables (earlier ++ (f ∷ [])) steps) (step_fact axioms mappings tables earlier s) facts e in
      let long = run_length (earlier ++ (a.0 ∷ [])) steps facts a.2 in
      let one = length-append earlier (a.0 ∷ []) in
      omega (arith, long, one)

  -- the facts so far stay
  run_prefix : (earlier : List Fact) (steps : List Step) (facts : List Fact) → facts_from axioms mappings tables earlier steps ≡ Some facts → (more : List Fact) × (facts ≡ earlier ++ more)
  run_prefix earlier [] facts e = let same : earlier ≡ facts = cc in ([], sym same ∙ sym (append-nil earlier))
  run_prefix earlier (s ∷ steps) facts e =
      let a = then_some (λ f. facts_from axioms mappings tables (earlier ++ (f ∷ [])) steps) (step_fact axioms mappings tables earlier s) facts e in
      let r = run_prefix (earlier ++ (a.0 ∷ [])) steps facts a.2 in
      (a.0 ∷ r.0, r.1 ∙ append_assoc earlier (a.0 ∷ []) r.0)

  -- and a step behind more facts has the fact that it had
  step_kept : (front more : List Fact) (s : Step) (f : Fact) → step_fact axioms mappings tables front s ≡ Some f → step_fact axioms mappings tables (front ++ more) s ≡ Some f
  step_kept front more (Mapped mapping target rows) f e = e
  step_kept front more (Rule number at) f e =
      let a = then_some (λ ax. option_and_then (apply_of ax) (item front at)) (item axioms number) f e in
      let b = then_some (apply_of a.0) (item front at) f a.2 in
      ap (option_and_then (λ ax. option_and_then (apply_of ax) (item (front ++ more) at))) a.1 ∙ ap (option_and_then (apply_of a.0)) (item_kept front more at b.0 b.1) ∙ b.2

  -- the fact of a step that is there
  there_fact : (earlier : List Fact) (steps : List Step) (facts : List Fact) → facts_from axioms mappings tables earlier steps ≡ Some facts → (k : ℕ) (s : Step) → slice_get steps k ≡ Some s →
      (f : Fact) × (step_fact axioms mappings tables facts s ≡ Some f) × (slice_get facts (length earlier + k) ≡ Some f)
  there_fact earlier [] facts e k s at = absurd cc
  there_fact earlier (x ∷ steps) facts e zero s at =
      let a = then_some (λ f. facts_from axioms mappings tables (earlier ++ (f ∷ [])) steps) (step_fact axioms mappings tables earlier x) facts e in
      let r = run_prefix (earlier ++ (a.0 ∷ [])) steps facts a.2 in
      let same : x ≡ s = cc in
      let all : facts ≡ earlier ++ (a.0 ∷ r.0) = r.1 ∙ append_assoc earlier (a.0 ∷ []) r.0 in
      let zeroth : length earlier + 0 ≡ length earlier = omega arith in (
        a.0,
        ap (step_fact axioms mappings tables facts) (sym same) ∙ ap (λ fs. step_fact axioms mappings tables fs x) all ∙ step_kept earlier (a.0 ∷ r.0) x a.0 a.1,
        ap (slice_get facts) zeroth ∙ ap (λ fs. slice_get fs (length earlier)) r.1 ∙ kept_place (earlier ++ (a.0 ∷ [])) r.0 (length earlier) a.0 (last_place earlier a.0),
      )
  there_fact earlier (x ∷ steps) facts e (suc k) s at =
      let a = then_some (λ f. facts_from axioms mappings tables (earlier ++ (f ∷ [])) steps) (step_fact axioms mappings tables earlier x) facts e in
      let r = there_fact (earlier ++ (a.0 ∷ [])) steps facts a.2 k s at in
      let one = length-append earlier (a.0 ∷ []) in
      let same : length earlier + suc k ≡ length (earlier ++ (a.0 ∷ [])) + k = omega (arith, one) in
      (r.0, r.1, ap (slice_get facts) same ∙ r.2)

  -- a step that is put has its fact
  pub put_gives : (old new : List Step) (s : Step) (n : ℕ) (facts : List Fact) (f : Fact) → Runs axioms mappings tables old facts → Puts old new s n → step_fact axioms mappings tables facts s ≡ Some f → RunsOn axioms mappings tables new facts n f
  put_gives old new s n facts f run (inl (same, at)) e = by n at
    where
      by : (m : ℕ) → item old m ≡ Some s → RunsOn axioms mappings tables new facts m f
      by zero h = absurd cc
      by (suc k) h =
          let r = there_fact [] old facts run k s h in
          let one : r.0 ≡ f = same_some r.0 f (sym r.1 ∙ e) in
          let nth : 0 + k ≡ k = omega arith in
          let none = append-nil facts in
          record {
            more = [];
            run = ap (facts_from axioms mappings tables []) same ∙ run ∙ ap Some (sym none);
            at = ap (λ fs. slice_get fs k) none ∙ ap (slice_get facts) (sym nth) ∙ r.2 ∙ ap Some one;
          }
  put_gives old new s n facts f run (inr (pushed, last)) e =
      let long = run_length [] old facts run in
      let nth : n ≡ suc (length facts) = omega (arith, last, long) in
      record {
        more = f ∷ [];
        run = ap (facts_from axioms mappings tables []) pushed ∙ run_append [] old (s ∷ []) facts run ∙ ap (option_and_then (λ g. Some (facts ++ (g ∷ [])))) e;
        at = ap (item (facts ++ f ∷ [])) nth ∙ last_place facts f;
      }

  pub further : (steps : List Step) (facts : List Fact) (n m : ℕ) (h f : Fact) (r : RunsOn axioms mappings tables steps facts n h) (new : List Step) → RunsOn axioms mappings tables new (facts ++ r.more) m f → RunsOn axioms mappings tables new facts m f
  further steps facts n m h f r new s =
      let all = append_assoc facts r.more s.more in
      record { more = r.more ++ s.more; run = s.run ∙ ap Some all; at = ap (λ fs. item fs m) (sym all) ∙ s.at }

  rule_gives : (facts : List Fact) (j k : ℕ) (f h : Fact) (ax : Axiom) → item facts j ≡ Some f → slice_get axioms k ≡ Some ax → apply_of ax f ≡ Some h → step_fact axioms mappings tables facts (Rule (k + 1) j) ≡ Some h
  rule_gives facts j k f h ax at is gives =
      ap (λ n. option_and_then (λ a. option_and_then (apply_of a) (item facts j)) (item axioms n)) (add-one k)
      ∙ ap (option_and_then (λ a. option_and_then (apply_of a) (item facts j))) is
      ∙ ap (option_and_then (apply_of ax)) at ∙ gives

  -- rules that are put lead where their axioms lead
  pub chain_gives : {chain : List ℕ} {j n : ℕ} {old new : List Step} → PutsChain chain j old new n → (facts : List Fact) → Runs axioms mappings tables old facts → {f g : Fact} → item facts j ≡ Some f → Applies axioms chain f g → RunsOn axioms mappings tables new facts n g
  chain_gives (no_rule {j = j} {n = n} same last) facts run at (applied e) =
      let none = append-nil facts in
      record {
        more = [];
        run = ap (facts_from axioms mappings tables []) same ∙ run ∙ ap Some (sym none);
        at = ap (λ fs. item fs n) none ∙ ap (item facts) last ∙ at ∙ ap Some e;
      }
  chain_gives (one_rule {k = k} {j = j} {i = i} {n = n} {old = old} {between = between} {new = new} put rest) facts run {f = f} {g = g} at (apply_one {h = h} ax is gives more) =
      let one : RunsOn axioms mappings tables between facts i h = put_gives old between (Rule (k + 1) j) i facts h run put (rule_gives facts j k f h ax at is gives) in
      further between facts i n h g one new (chain_gives rest (facts ++ one.more) one.run one.at more)

-- along a chain of axioms, from a fact that matches where it begins
pub follows_applies : (axioms : List Axiom) {to x : Basic} {numbers : List ℕ} {passed : List Basic} → Follows axioms to x numbers passed → (f : Fact) (t : Term) → match_at x f ≡ Some t → (g : Fact) × Applies axioms numbers f g × (match_at to g ≡ Some t)
follows_applies axioms (arrived e) f t m = (f, applied refl, subst (λ b. match_at b f ≡ Some t) e m)
follows_applies axioms (onward ax is leads rest) f t m =
    let led = leads_to leads f t m in
    let r = follows_applies axioms rest led.0 t led.2 in
    (r.0, apply_one ax is led.1 r.1, r.2)

same_has : (p q : LinkId) (d e : Dir) → Has p d ≡ Has q e → (p ≡ q) × (d ≡ e)
same_has p q d e h = (cc, cc)

link_leads : (ax : Axiom) (x y : Basic) → Leads ax x y → (q : LinkId) (d : Dir) (p : LinkId) → ax ≡ SubLink q d p → (e : Dir) × (x ≡ Has q e) × (y ≡ Has p (turn d e))
link_leads ax x y by_sub q d p is = absurd cc
link_leads ax x y (by_sub_link {q = q'} {p = p'} {d = d'} {e = e}) q d p is =
    let one : q' ≡ q = cc in
    let two : d' ≡ d = cc in
    let three : p' ≡ p = cc in
    (e, (λ i. Has (one i) e), (λ i. Has (three i) (turn (two i) e)))

-- along links, from a fact with the ends
pub links_apply : (axioms : List Axiom) {to x : Basic} {numbers : List ℕ} {passed : List Basic} → Follows axioms to x numbers passed → ((k : ℕ) → In k numbers → (q : LinkId) × (d : Dir) × (p : LinkId) × (slice_get axioms k ≡ Some (SubLink q d p))) →
    (p : LinkId) (g : Dir) → to ≡ Has p g → (q : LinkId) (e : Dir) → x ≡ Has q e → (s t : Term) → Applies axioms numbers (link_fact q e s t) (link_fact p g s t)
links_apply axioms (arrived a) links p g to_is q e x_is s t =
    let same = same_has q p e g (sym x_is ∙ a ∙ to_is) in
    applied (λ i. link_fact (same.0 i) (same.1 i) s t)
links_apply axioms (onward {x = x} {y = y} {k = k} ax is leads rest) links p g to_is q e x_is s t =
    let l = links k (here refl) in
    let h = link_leads ax x y leads l.0 l.1 l.2 (same_some ax (SubLink l.0 l.1 l.2) (sym is ∙ l.3)) in
    let same = same_has q l.0 e h.0 (sym x_is ∙ h.1) in
    let gives : apply_of (SubLink l.0 l.1 l.2) (link_fact q e s t) ≡ Some (link_fact l.2 (turn l.1 h.0) s t) = ap (apply_of (SubLink l.0 l.1 l.2)) (λ i. link_fact (same.0 i) (same.1 i) s t) ∙ apply_turned l.0 l.1 l.2 h.0 s t in
    apply_one (SubLink l.0 l.1 l.2) l.3 gives (links_apply axioms rest (λ j i. links j (there i)) p g to_is l.2 (turn l.1 h.0) h.2 s t)
