-- Matches in one chase, and in derived facts.
use Rattle.std.proofs.Common.{ℕ, ◌≡◌, ◌↔◌, ◌+◌, List, [], ◌∷◌, ◌⊎◌, inl, inr, refl, arith}
use Rattle.vocabulary.specs.declared.term.Term.{Term}
use Rattle.vocabulary.specs.declared.term.Fact.{Fact}
use Rattle.vocabulary.specs.Lists.{In, here, there}
use Rattle.dllite_axioms.specs.declared.axioms.Axiom.{Axiom}
use Rattle.dllite_axioms.specs.Chase.{chase, height}
use Rattle.dllite_axioms.proofs.ChaseLaws.{chase_grows, chase_derived, derived_chase}
use Rattle.queries.specs.declared.query.Atom.{Atom}
use Rattle.queries.specs.declared.query.Query.{Query}
use Rattle.queries.specs.Matches.{Terms, AtomIs, Matched, HeadIs}
use Rattle.certain_semantics.specs.Certain.{TermsKnown, IsCertain}
use Rattle.certain_semantics.specs.Witnesses.{Held, Witnessed, no_atoms, one_atom}

pub in_cases : {X : Type 0} {x y : X} {ys : List X} → In x (y ∷ ys) → (y ≡ x) ⊎ In x ys
in_cases (here e) = inl e
in_cases (there n) = inr n

pub matched_held : {axioms : List Axiom} {facts : List Fact} (k : ℕ) {σ : Terms} {atoms : List Atom} → Matched (chase axioms facts k) σ atoms → Held axioms facts σ atoms
matched_held {axioms} {facts} k all a m = let h = all a m in (h.0, chase_derived axioms facts k h.1, h.2)

pub held_witnessed : {axioms : List Axiom} {facts : List Fact} {σ : Terms} (atoms : List Atom) → Held axioms facts σ atoms → Witnessed axioms facts σ atoms
held_witnessed [] all = no_atoms
held_witnessed (a ∷ atoms) all = let h = all a (here refl) in one_atom h.0 h.1 h.2 (held_witnessed atoms (λ b m. all b (there m)))

pub matched_more : {facts : List Fact} {σ : Terms} {a : Atom} {atoms : List Atom} (f : Fact) → In f facts → AtomIs σ a f → Matched facts σ atoms → Matched facts σ (a ∷ atoms)
matched_more f m i all b n = elim (in_cases n) [ inl e ↦ (f, m, rw (← e) i) | inr n' ↦ all b n' ]

-- derived facts all stand in one chase
pub held_matched : {axioms : List Axiom} {facts : List Fact} {σ : Terms} (atoms : List Atom) → Held axioms facts σ atoms → (k : ℕ) × Matched (chase axioms facts k) σ atoms
held_matched [] all = (0, λ a m. elim m [ ])
held_matched {axioms} {facts} (a ∷ atoms) all =
    let r = held_matched atoms (λ b m. all b (there m)) in
    let h = all a (here refl) in
    let e : r.0 + height h.1 ≡ height h.1 + r.0 = omega arith in (
      height h.1 + r.0,
      matched_more h.0 (rw e at (chase_grows axioms facts (height h.1) r.0 (derived_chase h.1))) h.2
          (λ b m. (let g = r.1 b m in (g.0, chase_grows axioms facts r.0 (height h.1) g.1, g.2))),
    )

pub certain_derived : (axioms : List Axiom) (facts : List Fact) (q : Query) (tuple : List Term) →
    IsCertain axioms facts q tuple ↔ (TermsKnown tuple × ((σ : Terms) × Held axioms facts σ q.atoms × HeadIs σ q.head tuple))
certain_derived axioms facts q tuple = (to, from)
  where
    to : IsCertain axioms facts q tuple → TermsKnown tuple × ((σ : Terms) × Held axioms facts σ q.atoms × HeadIs σ q.head tuple)
    to c = (c.known, (c.terms, matched_held c.round c.matched.atoms, c.matched.head))

    from : TermsKnown tuple × ((σ : Terms) × Held axioms facts σ q.atoms × HeadIs σ q.head tuple) → IsCertain axioms facts q tuple
    from h =
        let m = held_matched q.atoms h.1.1 in
        record { known = h.0; round = m.0; terms = h.1.0; matched = record { atoms = m.1; head = h.1.2 } }
