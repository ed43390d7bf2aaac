-- Certain answers are what is true in every model.
use Rattle.std.proofs.Common.{◌≡◌, refl, sym, ◌∙◌, ap, subst, List, [], ◌∷◌}
use Rattle.vocabulary.specs.declared.term.Term.{Term}
use Rattle.vocabulary.specs.declared.term.Fact.{Fact}
use Rattle.vocabulary.specs.declared.term.Fact.TheVariants.{InClass, Linked}
use Rattle.vocabulary.specs.Lists.{In, here, there}
use Rattle.vocabulary.specs.Terms.{IsKnown}
use Rattle.dllite_axioms.specs.declared.axioms.Axiom.{Axiom}
use Rattle.dllite_axioms.specs.Chase.{AreKnown, chase, Derived}
use Rattle.dllite_axioms.specs.Models.{image, IsFiniteModel}
use Rattle.dllite_axioms.proofs.ChaseLaws.{chase_derived}
use Rattle.dllite_axioms.specs.Worlds.{Holds, Satisfies}
use Rattle.dllite_axioms.proofs.Worlds.{images, rounds_model}
use Rattle.queries.specs.declared.query.Arg.{Arg}
use Rattle.queries.specs.declared.query.Arg.TheVariants.{Blank, Var, Fixed}
use Rattle.queries.specs.declared.query.Atom.{Atom}
use Rattle.queries.specs.declared.query.Atom.TheVariants.{InClass as ClassAtom, Linked as LinkAtom}
use Rattle.queries.specs.declared.query.Query.{Query}
use Rattle.queries.specs.Matches.{Terms, ArgIs, AtomIs, HeadIs}
use Rattle.queries.specs.Occurrences.{KnownArg, KnownAtom, KnownConstants}
use Rattle.certain_semantics.specs.Certain.{TermsKnown, IsCertain}
use Rattle.certain_semantics.specs.Witnesses.{Held}
use Rattle.certain_semantics.proofs.Witnessing.{certain_derived}
use Rattle.certain_semantics.specs.Laws.{CertainIsTrueInFiniteModels, CertainIsTrueInModels}
use Rattle.certain_semantics.specs.Truth.{IsTrueInModels, IsTrueMatch}

-- the facts for which the atoms stand
record Gathered (axioms : List Axiom) (facts : List Fact) (σ : Terms) (atoms : List Atom) : Type 0 where
  found : List Fact
  derived : (f : Fact) → In f found → Derived axioms facts f
  stand : (a : Atom) → In a atoms → (f : Fact) × In f found × AtomIs σ a f

gathered : {axioms : List Axiom} {facts : List Fact} {σ : Terms} (atoms : List Atom) → Held axioms facts σ atoms → Gathered axioms facts σ atoms
gathered [] held = record { found = []; derived = λ f m. elim m [ ]; stand = λ a m. elim m [ ] }
gathered {axioms} {facts} {σ} (a ∷ atoms) held =
    let h = held a (here refl) in
    let r = gathered atoms (λ b m. held b (there m)) in
    record { found = h.0 ∷ r.found; derived = λ f m. first f h.1 r.derived m; stand = λ b m. stands h.0 r.found h.2 r.stand m }
  where
    first : {g : Fact} {found : List Fact} (f : Fact) → Derived axioms facts g → ((k : Fact) → In k found → Derived axioms facts k) → In f (g ∷ found) → Derived axioms facts f
    first f d rest (here e) = subst (Derived axioms facts) e d
    first f d rest (there m) = rest f m

    stands : {a b : Atom} {atoms : List Atom} (f : Fact) (found : List Fact) → AtomIs σ a f → ((c : Atom) → In c atoms → (g : Fact) × In g found × AtomIs σ c g) → In b (a ∷ atoms) → (g : Fact) × In g (f ∷ found) × AtomIs σ b g
    stands f found i rest (here e) = (f, here refl, subst (λ x. AtomIs σ x f) e i)
    stands f found i rest (there m) = let r = rest _ m in (r.0, there r.1, r.2)

-- an argument, an atom and a head stand for images too, where constants are known
module _ (h : Term → Term) (keeps : (t : Term) → IsKnown t → h t ≡ t) (σ : Terms) where
  arg_image : (x : Arg) (t : Term) → KnownArg x → ArgIs σ x t → ArgIs (λ v. h (σ v)) x (h t)
  arg_image Blank t k i = tt
  arg_image (Var v) t k i = ap h i
  arg_image (Fixed u) t k i = sym (keeps u k) ∙ ap h i

  atom_image : (a : Atom) (f : Fact) → KnownAtom a → AtomIs σ a f → AtomIs (λ v. h (σ v)) a (image h f)
  atom_image (ClassAtom a x) (InClass b t) k i = (i.0, arg_image x t k i.1)
  atom_image (ClassAtom a x) (Linked q s t) k i = absurd i
  atom_image (LinkAtom p x y) (InClass b t) k i = absurd i
  atom_image (LinkAtom p x y) (Linked q s t) k i = (i.0, arg_image x s k.0 i.1, arg_image y t k.1 i.2)

  known_image : (x : Arg) (t : Term) → IsKnown t → ArgIs σ x t → ArgIs (λ v. h (σ v)) x t
  known_image Blank t k i = tt
  known_image (Var v) t k i = ap h i ∙ keeps t k
  known_image (Fixed u) t k i = i

  head_image : (head : List Arg) (tuple : List Term) → TermsKnown tuple → HeadIs σ head tuple → HeadIs (λ v. h (σ v)) head tuple
  head_image [] [] k i = tt
  head_image [] (t ∷ tuple) k i = absurd i
  head_image (x ∷ head) [] k i = absurd i
  head_image (x ∷ head) (t ∷ tuple) k i = (known_image x t k.0 i.0, head_image head tuple k.1 i.1)

-- a certain answer is true in whatever satisfies the axioms and has the facts
certain_holds : (axioms : List Axiom) (facts : List Fact) → AreKnown facts → (q : Query) → KnownConstants q → (tuple : List Term) → IsCertain axioms facts q tuple →
    (holds : Fact → Type 0) → Satisfies axioms facts holds → (σ : Terms) × IsTrueMatch holds q tuple σ
certain_holds axioms facts known q constants tuple certain holds model =
    let d = (certain_derived axioms facts q tuple).0 certain in
    let σ : Terms = d.1.0 in
    let g = gathered q.atoms d.1.1 in
    let i = images known model g.found g.derived in (
      (λ v. i.to (σ v)),
      record {
        atoms = λ a m. (let f = g.stand a m in (image i.to f.0, i.takes f.0 f.1, atom_image i.to i.keeps σ a f.0 (constants a m) f.2));
        head = head_image i.to i.keeps σ q.head tuple d.0 d.1.2;
      },
    )

pub certain_true : CertainIsTrueInModels
certain_true axioms facts known q constants tuple = (to, from)
  where
    to : IsCertain axioms facts q tuple → TermsKnown tuple × IsTrueInModels axioms facts q tuple
    to certain = (certain.known, λ world model. certain_holds axioms facts known q constants tuple certain (Holds world) model)

    from : TermsKnown tuple × IsTrueInModels axioms facts q tuple → IsCertain axioms facts q tuple
    from h =
        let m = h.1 (chase axioms facts) (rounds_model axioms facts) in
        let held : Held axioms facts m.0 q.atoms = λ a n. (let f = m.1.atoms a n in (f.0, chase_derived axioms facts f.1.0 f.1.1, f.2)) in
        (certain_derived axioms facts q tuple).1 (h.0, (m.0, held, m.1.head))

-- a finite model is one whose facts are all listed at the first stage
finite_model : (axioms : List Axiom) (facts model : List Fact) → IsFiniteModel axioms facts model → Satisfies axioms facts (λ f. In f model)
finite_model axioms facts model is = record { has = is.has; closed = is.closed; closed_links = is.closed_links }

pub certain_true_finite : CertainIsTrueInFiniteModels
certain_true_finite axioms facts known q constants tuple certain model is =
    let m = certain_holds axioms facts known q constants tuple certain (λ f. In f model) (finite_model axioms facts model is) in
    (m.0, record { atoms = m.1.atoms; head = m.1.head })
