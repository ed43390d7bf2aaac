-- The steps of derivations of known facts, put behind others.
use Rattle.std.proofs.Common.{◌≡◌, refl, sym, ◌∙◌, ap, subst, ℕ, suc, ◌+◌, ◌<◌, List, [], ◌∷◌, ◌++◌, length, length-append, ◌⊎◌, inl, inr, Option, Some, None, add-one, arith}
use Rattle.std.specs.Prelude.{option_and_then}
use Rattle.vocabulary.specs.declared.term.Fact.{Fact}
use Rattle.vocabulary.specs.declared.term.Fact.TheVariants.{InClass, Linked}
use Rattle.vocabulary.specs.declared.term.Term.{Term}
use Rattle.vocabulary.specs.Lists.{In, here, there, item}
use Rattle.vocabulary.proofs.Lists.{In-append_cases}
use Rattle.dllite_axioms.specs.declared.axioms.Axiom.{Axiom}
use Rattle.dllite_axioms.specs.declared.axioms.Axiom.TheVariants.{Sub, SubLink}
use Rattle.dllite_axioms.specs.declared.axioms.Basic.{Basic}
use Rattle.dllite_axioms.specs.declared.axioms.Basic.TheVariants.{Class, Has}
use Rattle.dllite_axioms.specs.Basics.{link_fact, right_side}
use Rattle.vocabulary.specs.declared.ids.LinkId.{LinkId}
use Rattle.vocabulary.specs.declared.ids.Dir.{Dir}
use Rattle.vocabulary.specs.declared.ids.Dir.TheVariants.{Fwd, Back}
use Rattle.dllite_axioms.specs.Chase.{Derived, apply_of, given, step}
use Rattle.dllite_axioms.specs.Within.{IsAxiomWithin, IsWithin}
use Rattle.dllite_axioms.proofs.Firing.{apply_inverse, apply_link_inverse}
use Rattle.negative_closure.proofs.Places.{last_place}
use Rattle.source_tables.specs.Tables.{Loaded}
use Rattle.mapping_facts.specs.declared.mapping.Mapping.{Mapping}
use Rattle.mapping_facts.specs.declared.mapping.Target.{Target}
use Rattle.mapping_facts.specs.declared.mapping.Target.TheVariants.{InClass as ClassTarget, Linked as LinkTarget}
use Rattle.mapping_facts.specs.Facts.{mapped_facts}
use Rattle.mapping_facts.specs.Tuples.{cell_of}
use Rattle.mapping_facts.proofs.Facts.{Gives, Mapped as IsMapped, in_mapped}
use Rattle.mapping_facts.proofs.Tuples.{CellsAt}
use Rattle.mapping_facts.specs.Within.{AreTargetsWithin, IsTargetWithin}
use Rattle.conflict_checker.specs.declared.derivation.Step.{Step}
use Rattle.conflict_checker.specs.declared.derivation.Step.TheVariants.{Mapped, Rule}
use Rattle.conflict_checker.specs.Derivations.{facts_from, step_fact}
use Rattle.fact_derivation.specs.Derivings.{IsDeriving, IsFactWithin, rule_steps}
use Rattle.why_answers.specs.declared.showing.Mark.{Mark}
use Rattle.why_answers.specs.declared.showing.Shown.{Shown}
use Rattle.why_answers.specs.Applying.{Applies, Runs, RunsOn, applied, apply_one}
use Rattle.why_answers.specs.Putting.{PutsBehind, PutsChain, no_rule, no_step, one_rule, one_step}
use Rattle.why_answers.specs.Showing.{IsShown}
use Rattle.why_answers.proofs.Marking.{marks_kept}
use Rattle.why_answers.proofs.Running.{chain_gives, further, put_gives}

same_some : {X : Type 0} (x y : X) → Some x ≡ Some y → x ≡ y
same_some x y e = cc

then_some : {A B : Type 0} (f : A → Option B) (o : Option A) (y : B) → option_and_then f o ≡ Some y → (x : A) × (o ≡ Some x) × (f x ≡ Some y)
then_some f None y e = absurd cc
then_some f (Some x) y e = (x, refl, e)

last_same : (xs ys : List Fact) (x y : Fact) → xs ++ x ∷ [] ≡ ys ++ y ∷ [] → x ≡ y
last_same [] [] x y e = cc
last_same [] (z ∷ ys) x y e = let long = ap length e in let one = length-append ys (y ∷ []) in absurd (omega (arith, long, one))
last_same (z ∷ xs) [] x y e = let long = ap length e in let one = length-append xs (x ∷ []) in absurd (omega (arith, long, one))
last_same (z ∷ xs) (w ∷ ys) x y e = last_same xs ys x y (tail e)
  where
    tail : {a b : Fact} {as' bs : List Fact} → a ∷ as' ≡ b ∷ bs → as' ≡ bs
    tail h = cc

last_item : (xs : List Fact) (x : Fact) → item (xs ++ x ∷ []) (length xs + 1) ≡ Some x
last_item xs x = let next : length xs + 1 ≡ suc (length xs) = omega arith in ap (item (xs ++ x ∷ [])) next ∙ last_place xs x

-- rules in turn put as a chain
behind_chain : (numbers : List ℕ) (x : ℕ) {j n : ℕ} {old new : List Step} → PutsBehind (rule_steps numbers x) j old new n → PutsChain numbers j old new n
behind_chain [] x (no_step same last) = no_rule same last
behind_chain (k ∷ numbers) x (one_step put rest) = one_rule put (behind_chain numbers (x + 1) rest)

module _ (axioms : List Axiom) (mappings : List Mapping) (tables : List Loaded) where
  -- what their facts are, the axioms give one after the other
  run_applies : (numbers : List ℕ) (earlier : List Fact) (g : Fact) (before : List Fact) (f : Fact) → facts_from axioms mappings tables (earlier ++ g ∷ []) (rule_steps numbers (length earlier + 1)) ≡ Some (before ++ f ∷ []) → Applies axioms numbers g f
  run_applies [] earlier g before f e = applied (last_same earlier before g f (same_some (earlier ++ g ∷ []) (before ++ f ∷ []) e))
  run_applies (k ∷ numbers) earlier g before f e =
      let a = then_some (λ h. facts_from axioms mappings tables ((earlier ++ g ∷ []) ++ (h ∷ [])) (rule_steps numbers (length earlier + 1 + 1))) (step_fact axioms mappings tables (earlier ++ g ∷ []) (Rule (k + 1) (length earlier + 1))) (before ++ f ∷ []) e in
      let b = then_some (λ ax. option_and_then (apply_of ax) (item (earlier ++ g ∷ []) (length earlier + 1))) (item axioms (k + 1)) a.0 a.1 in
      let c = then_some (apply_of b.0) (item (earlier ++ g ∷ []) (length earlier + 1)) a.0 b.2 in
      let same : c.0 ≡ g = same_some c.0 g (sym c.1 ∙ last_item earlier g) in
      let long : length earlier + 1 + 1 ≡ length (earlier ++ g ∷ []) + 1 = (let l = length-append earlier (g ∷ []) in omega (arith, l)) in
      apply_one b.0 (ap (item axioms) (sym (add-one k)) ∙ b.1) (ap (apply_of b.0) (sym same) ∙ c.2)
      (run_applies numbers (earlier ++ g ∷ []) a.0 before f (ap (λ n. facts_from axioms mappings tables ((earlier ++ g ∷ []) ++ (a.0 ∷ [])) (rule_steps numbers n)) (sym long) ∙ a.2))

  by_steps : (mapping target : ℕ) (rows numbers : List ℕ) (before : List Fact) (f : Fact) → facts_from axioms mappings tables [] (Mapped mapping target rows ∷ rule_steps numbers 1) ≡ Some (before ++ f ∷ []) → {n : ℕ} {old new : List Step} →
      PutsBehind (Mapped mapping target rows ∷ rule_steps numbers 1) 0 old new n → (facts : List Fact) → Runs axioms mappings tables old facts → RunsOn axioms mappings tables new facts n f
  by_steps mapping target rows numbers before f e {n = n} {old = old} {new = new} (one_step {i = i} {between = between} put rest) facts run =
      let a = then_some (λ h. facts_from axioms mappings tables (h ∷ []) (rule_steps numbers 1)) (step_fact axioms mappings tables [] (Mapped mapping target rows)) (before ++ f ∷ []) e in
      let one : RunsOn axioms mappings tables between facts i a.0 = put_gives axioms mappings tables old between (Mapped mapping target rows) i facts a.0 run put a.1 in
      further axioms mappings tables between facts i n a.0 f one new (chain_gives axioms mappings tables (behind_chain numbers 1 rest) (facts ++ one.more) one.run one.at (run_applies numbers [] a.0 before f a.2))

  -- the steps of a derivation have their facts behind others
  pub derived_behind : (f : Fact) (steps : List Step) → IsDeriving axioms mappings tables f steps → {n : ℕ} {old new : List Step} → PutsBehind steps 0 old new n → (facts : List Fact) → Runs axioms mappings tables old facts → RunsOn axioms mappings tables new facts n f
  derived_behind f steps d {n = n} {old = old} {new = new} puts facts run =
      by_steps d.mapping d.target d.rows d.numbers d.before f (ap (facts_from axioms mappings tables []) (sym d.are) ∙ d.facts) (subst (λ ss. PutsBehind ss 0 old new n) d.are puts) facts run

  -- one mark more
  pub mark_shown : (f : Fact) (steps : List Step) (n : ℕ) (old new : Shown) → IsDeriving axioms mappings tables f steps → PutsBehind steps 0 old.steps new.steps n → new.marks ≡ old.marks ++ record { step = n; fact = f } ∷ [] →
      IsShown axioms mappings tables old → IsShown axioms mappings tables new
  mark_shown f steps n old new d puts marks w =
      let r = derived_behind f steps d puts w.facts w.run in
      record {
        facts = w.facts ++ r.more;
        run = r.run;
        marked = λ m i. by r m (In-append_cases old.marks (record { step = n; fact = f } ∷ []) (subst (In m) marks i));
      }
    where
      by : (r : RunsOn axioms mappings tables new.steps w.facts n f) (m : Mark) → In m old.marks ⊎ In m (record { step = n; fact = f } ∷ []) → item (w.facts ++ r.more) m.step ≡ Some m.fact
      by r m (inl i) = marks_kept w.facts r.more old.marks w.marked m i
      by r m (inr (here e)) = subst (λ k. item (w.facts ++ r.more) k.step ≡ Some k.fact) e r.at
      by r m (inr (there i)) = elim i [ ]

-- no steps and no marks
pub none_shown : (axioms : List Axiom) (mappings : List Mapping) (tables : List Loaded) (s : Shown) → s.steps ≡ [] → s.marks ≡ [] → IsShown axioms mappings tables s
none_shown axioms mappings tables s steps marks = record { facts = []; run = ap (facts_from axioms mappings tables []) steps; marked = λ m i. (let j = subst (In m) marks i in elim j [ ]) }

-- derived facts are of the classes and links of the axioms and targets
module _ (axioms : List Axiom) (mappings : List Mapping) (tables : List Loaded) (classes links : ℕ) (within : (a : Axiom) → In a axioms → IsAxiomWithin classes links a) (targets : (m : Mapping) → In m mappings → AreTargetsWithin classes links m.targets) where
  given_within : (c : CellsAt) (g : Target) (f : Fact) → Gives c g f → IsTargetWithin classes links g → IsFactWithin classes links f
  given_within c (ClassTarget a r) (InClass b t) h w = subst (λ x. x.0 < classes) h.0 w
  given_within c (ClassTarget a r) (Linked q s t) h w = absurd h
  given_within c (LinkTarget p r s) (InClass b t) h w = absurd h
  given_within c (LinkTarget p r s) (Linked q t u) h w = subst (λ x. x.0 < links) h.0 w

  right_within : (r : Basic) (t : Term) → IsWithin classes links r → IsFactWithin classes links (right_side r t)
  right_within (Class a) t w = w
  right_within (Has p Fwd) t w = w
  right_within (Has p Back) t w = w

  link_within : (p : LinkId) (d : Dir) (s t : Term) → p.0 < links → IsFactWithin classes links (link_fact p d s t)
  link_within p Fwd s t w = w
  link_within p Back s t w = w

  applied_within : (ax : Axiom) (f g : Fact) → IsAxiomWithin classes links ax → apply_of ax f ≡ Some g → IsFactWithin classes links g
  applied_within (Sub l r) f g w e = let i = apply_inverse l r f g e in subst (IsFactWithin classes links) i.2 (right_within r i.0 w.1)
  applied_within (SubLink q d p) f g w e = let i = apply_link_inverse q d p f g e in subst (IsFactWithin classes links) i.3 (link_within p d i.0 i.1 w.1)

  pub derived_within : {f : Fact} → Derived axioms (mapped_facts mappings tables) f → IsFactWithin classes links f
  derived_within {f} (given i) =
      let m : IsMapped mappings tables f = (in_mapped mappings tables f).0 i in
      given_within (cell_of tables m.mapping.query.tables m.rows) m.target f m.gives (targets m.mapping m.is_mapping m.target m.is_target)
  derived_within (step {f = g} {g = f} ax i e d) = applied_within ax g f (within ax i) e
