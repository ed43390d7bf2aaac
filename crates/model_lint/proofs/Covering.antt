-- A query that a member of the reach maps into is contained.
use Rattle.std.proofs.Common.{refl, sym, ◌∙◌, ap, subst, List, [], inl, inr}
use Rattle.vocabulary.specs.declared.ids.LinkId.{LinkId}
use Rattle.vocabulary.specs.declared.ids.Dir.{Dir}
use Rattle.vocabulary.specs.declared.ids.Dir.TheVariants.{Fwd, Back}
use Rattle.vocabulary.specs.declared.term.Term.{Term}
use Rattle.vocabulary.specs.declared.term.Fact.{Fact}
use Rattle.vocabulary.specs.declared.term.Fact.TheVariants.{InClass, Linked}
use Rattle.vocabulary.specs.Lists.{In, here, there}
use Rattle.dllite_axioms.specs.declared.axioms.Axiom.{Axiom}
use Rattle.dllite_axioms.specs.declared.axioms.Axiom.TheVariants.{SubLink}
use Rattle.dllite_axioms.specs.Basics.{link_fact}
use Rattle.dllite_axioms.specs.Chase.{apply_of, chase, Derived, given, step}
use Rattle.dllite_axioms.specs.Models.{IsFiniteModel}
use Rattle.dllite_axioms.proofs.Firing.{apply_link_at}
use Rattle.queries.specs.declared.query.Arg.{Arg}
use Rattle.queries.specs.declared.query.Atom.{Atom}
use Rattle.queries.specs.declared.query.Atom.TheVariants.{Linked as LinkAtom}
use Rattle.queries.specs.declared.query.Query.{Query}
use Rattle.queries.specs.Matches.{Terms, ArgIs, AtomIs, HeadIs}
use Rattle.certain_semantics.specs.Witnesses.{Held}
use Rattle.certain_semantics.proofs.Witnessing.{held_matched, matched_held}
use Rattle.perfect_rewriting.specs.Reach.{query_at, Reach, start, by_rule, by_unify}
use Rattle.perfect_rewriting.specs.Steps.{link_atom, Replaces, by_basics, by_links, RuleStep, rule}
use Rattle.perfect_rewriting.proofs.NormalForm.{normal_laws}
use Rattle.perfect_rewriting.proofs.Sound.{is_match, match_is, picks_cases, rule_sound, unify_sound}
use Rattle.query_subsumption.specs.Laws.{MappingIsSound}
use Rattle.query_subsumption.specs.Subsumption.{MapsInto}
use Rattle.model_lint.specs.Containment.{HoldsInModels, IsContained}

-- a match of a member gives one of the query, where one of a rule step's result gives one of what it was made from
reach_back : {axioms others : List Axiom} (facts : List Fact) {q : Query} (ts : List Term) → ((σ : Terms) (atoms result : List Atom) → RuleStep axioms atoms result → Held others facts σ result → Held others facts σ atoms) →
    {m : Query} → Reach axioms q m → (σ : Terms) → Held others facts σ m.atoms → HeadIs σ m.head ts → (σ' : Terms) × Held others facts σ' q.atoms × HeadIs σ' q.head ts
reach_back {others = others} facts {q} ts by start σ held is = normal_laws.back others facts q σ ts held is
reach_back {others = others} facts ts by (by_rule {m = m} {result = result} r s) σ held is =
    let b = normal_laws.back others facts (query_at m.head result) σ ts held is in
    reach_back facts ts by r b.0 (by b.0 m.atoms result s b.1) b.2
reach_back {others = others} facts ts by (by_unify {m = m} {head = head} {result = result} r s) σ held is =
    let b = normal_laws.back others facts (query_at head result) σ ts held is in
    let u = unify_sound facts b.0 ts s b.1 b.2 in
    reach_back facts ts by r u.0 u.1 u.2

-- over known facts
pub maps_contains : MappingIsSound → (axioms : List Axiom) (first second g : Query) → Reach axioms second g → MapsInto g first → IsContained axioms first second
maps_contains sound axioms first second g reach maps facts known tuple c =
    let m = sound (chase axioms facts c.round) g first tuple maps c.terms c.matched in
    let b = reach_back facts tuple (λ σ atoms result s held. rule_sound facts σ s held) reach m.0 (matched_held c.round m.1.atoms) m.1.head in
    let h = held_matched second.atoms b.1 in
    record { known = c.known; round = h.0; terms = b.0; matched = record { atoms = h.1; head = b.2 } }

-- in models
only_given : {model : List Fact} {f : Fact} → Derived [] model f → In f model
only_given (given m) = m
only_given (step ax n e d) = elim n [ ]

wide_is : (σ : Terms) (p : LinkId) (d : Dir) (x y : Arg) (s t : Term) → ArgIs σ x s → ArgIs σ y t → AtomIs σ (link_atom p d x y) (link_fact p d s t)
wide_is σ p Fwd x y s t i j = (refl, i, j)
wide_is σ p Back x y s t i j = (refl, j, i)

module _ {axioms : List Axiom} {model : List Fact} (is : IsFiniteModel axioms [] model) where
  link_modelled : (σ : Terms) (q : LinkId) (d : Dir) (p : LinkId) (x y : Arg) → In (SubLink q d p) axioms → (f : Fact) → In f model → AtomIs σ (LinkAtom q x y) f → (g : Fact) × In g model × AtomIs σ (link_atom p d x y) g
  link_modelled σ q d p x y n (InClass a t) m i = absurd i
  link_modelled σ q d p x y n (Linked r s t) m i =
      (link_fact p d s t, is.closed_links q d p n (Linked r s t) (link_fact p d s t) m (ap (λ l. apply_of (SubLink q d p) (Linked l s t)) (sym i.0) ∙ apply_link_at q d p s t), wide_is σ p d x y s t i.1 i.2)

  replaced_modelled : (σ : Terms) {a b : Atom} → Replaces axioms a b → (f : Fact) → In f model → AtomIs σ b f → (g : Fact) × In g model × AtomIs σ a g
  replaced_modelled σ (by_basics l r x n) f m h =
      let i = is_match σ l x f h in
      let c = is.closed l r n f i.0 m i.1 in
      (c.0, c.1, match_is σ r x c.0 i.0 c.2 i.2)
  replaced_modelled σ (by_links q d p x y n) f m h = link_modelled σ q d p x y n f m h

  rule_modelled : (σ : Terms) {atoms result : List Atom} → RuleStep axioms atoms result → Held [] model σ result → Held [] model σ atoms
  rule_modelled σ (rule {b = b} r k) held a m =
      elim (picks_cases k m) [
        | inl e ↦ (
            let h = held b (here refl) in
            let g = replaced_modelled σ r h.0 (only_given h.1) h.2 in
            subst (λ z. (f : Fact) × Derived [] model f × AtomIs σ z f) e (g.0, given g.1, g.2))
        | inr n ↦ held a (there n)
      ]

pub maps_models : MappingIsSound → (axioms : List Axiom) (first second g : Query) → Reach axioms second g → MapsInto g first → HoldsInModels axioms first second
maps_models sound axioms first second g reach maps model is tuple σ matched =
    let m = sound model g first tuple maps σ matched in
    let b = reach_back model tuple (λ τ atoms result s held. rule_modelled is τ s held) reach m.0 (λ a n. (let h = m.1.atoms a n in (h.0, given h.1, h.2))) m.1.head in
    (b.0, record { atoms = λ a n. (let h = b.1 a n in (h.0, only_given h.1, h.2)); head = b.2 })
