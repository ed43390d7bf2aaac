-- The facts of steps are derived.
use Rattle.std.proofs.Common.{◌≡◌, refl, sym, ◌∙◌, ap, subst, ℕ, zero, suc, ◌-◌, Bool, true, false, ◌&&◌, List, [], ◌∷◌, ◌++◌, Option, Some, None, length, map, nat_lt, if◌then◌else◌, inl, inr}
use Rattle.std.specs.Prelude.{◌↔◌, option_and_then, option_map}
use Rattle.std.proofs.lemmas.Bool.{and_parts, ltb-true}
use Rattle.vocabulary.specs.declared.ids.TableId.{TableId}
use Rattle.vocabulary.specs.declared.term.Term.{Term}
use Rattle.vocabulary.specs.declared.term.Fact.{Fact}
use Rattle.vocabulary.specs.Lists.{In, here, there, item, Pairwise}
use Rattle.vocabulary.proofs.Lists.{In-append_cases}
use Rattle.dllite_axioms.specs.declared.axioms.Axiom.{Axiom}
use Rattle.dllite_axioms.specs.declared.axioms.Tbox.{Tbox}
use Rattle.dllite_axioms.specs.Chase.{Derived, given, step as by_axiom, apply_of}
use Rattle.queries.specs.declared.query.Atom.{Atom}
use Rattle.queries.specs.declared.query.Query.{Query}
use Rattle.queries.specs.Matches.{AtomIs, Terms}
use Rattle.certain_semantics.specs.Certain.{TermsKnown}
use Rattle.certain_semantics.specs.Witnesses.{Held}
use Rattle.certain_semantics.proofs.Witnessing.{certain_derived}
use Rattle.source_tables.specs.Tables.{Loaded}
use Rattle.mapping_facts.specs.declared.mapping.Mapping.{Mapping}
use Rattle.mapping_facts.specs.declared.mapping.Target.{Target}
use Rattle.mapping_facts.specs.Facts.{mapped_facts, mapping_fact, fact_at}
use Rattle.mapping_facts.specs.Tuples.{cell_of, satisfies, table_rows}
use Rattle.mapping_facts.proofs.Facts.{in_mapped, fact_gives}
use Rattle.mapping_facts.proofs.Members.{In-slice_get}
use Rattle.mapping_facts.proofs.Tuples.{AreRows, satisfies_means}
use Rattle.conflict_checker.specs.declared.derivation.Step.{Step}
use Rattle.conflict_checker.specs.declared.derivation.Step.TheVariants.{Mapped as MappedStep, Rule}
use Rattle.conflict_checker.specs.Derivations.{are_row_numbers, cited_fact, facts_from, facts_of, items_at, step_fact}
use Rattle.why_answers.specs.declared.explanation.Why.{Why}
use Rattle.why_answers.specs.Explanations.{Explains, Reads}
use Rattle.why_answers.specs.Laws.{ExplainedIsCertain}

then_some : {A B : Type 0} (f : A → Option B) (o : Option A) (y : B) → option_and_then f o ≡ Some y → (x : A) × (o ≡ Some x) × (f x ≡ Some y)
then_some f None y e = absurd cc
then_some f (Some x) y e = (x, refl, e)

if_some : {A : Type 0} (b : Bool) (o : Option A) (x : A) → (if b then o else None) ≡ Some x → (b ≡ true) × (o ≡ Some x)
if_some true o x e = (refl, e)
if_some false o x e = absurd cc

pub item_in : {A : Type 0} (xs : List A) (n : ℕ) (x : A) → item xs n ≡ Some x → In x xs
item_in xs zero x e = absurd cc
item_in xs (suc n) x e = In-slice_get xs n x e

mapped_some : {A B : Type 0} (f : A → B) (o : Option A) (y : B) → option_map f o ≡ Some y → (x : A) × (o ≡ Some x) × (f x ≡ y)
mapped_some f None y e = absurd cc
mapped_some f (Some x) y e = (x, refl, cc)

-- the items of numbers are items
pub items_in : {A : Type 0} (xs : List A) (numbers : List ℕ) (found : List A) → items_at xs numbers ≡ Some found → (x : A) → In x found → In x xs
items_in xs [] found e x i = let none : found ≡ [] = cc in elim (subst (In x) none i) [ ]
items_in {A} xs (n ∷ numbers) found e x i =
    let one = then_some (λ y. option_map (λ more. y ∷ more) (items_at xs numbers)) (item xs n) found e in
    let rest = mapped_some (λ more. one.0 ∷ more) (items_at xs numbers) found one.2 in
    by one.0 rest.0 (item_in xs n one.0 one.1) (items_in xs numbers rest.0 rest.1) (subst (In x) (sym rest.2) i)
  where
    by : (y : A) (more : List A) → In y xs → ((z : A) → In z more → In z xs) → In x (y ∷ more) → In x xs
    by y more first others (here e) = subst (λ z. In z xs) e first
    by y more first others (there j) = others x j

-- one item a number
pub items_length : {A : Type 0} (xs : List A) (numbers : List ℕ) (found : List A) → items_at xs numbers ≡ Some found → length found ≡ length numbers
items_length xs [] found e = let none : found ≡ [] = cc in ap length none
items_length {A} xs (n ∷ numbers) found e =
    let one = then_some (λ y. option_map (λ more. y ∷ more) (items_at xs numbers)) (item xs n) found e in
    let rest = mapped_some (λ more. one.0 ∷ more) (items_at xs numbers) found one.2 in
    ap length (sym rest.2) ∙ ap suc (items_length xs numbers rest.0 rest.1)

pub pairs_length : {A B : Type 0} (R : A → B → Type 0) (xs : List A) (ys : List B) → Pairwise R xs ys → length xs ≡ length ys
pairs_length R [] [] p = refl
pairs_length R [] (y ∷ ys) p = absurd p
pairs_length R (x ∷ xs) [] p = absurd p
pairs_length R (x ∷ xs) (y ∷ ys) p = ap suc (pairs_length R xs ys p.1)

rows_are : (tables : List Loaded) (ts : List TableId) (numbers : List ℕ) → are_row_numbers tables ts numbers ≡ true → AreRows tables ts (map (λ n. n - 1) numbers)
rows_are tables [] [] e = tt
rows_are tables [] (n ∷ ns) e = absurd cc
rows_are tables (t ∷ ts) [] e = absurd cc
rows_are tables (t ∷ ts) (n ∷ ns) e =
    let p = and_parts (nat_lt 0 n && nat_lt (n - 1) (length (table_rows tables t))) (are_row_numbers tables ts ns) e in
    let q = and_parts (nat_lt 0 n) (nat_lt (n - 1) (length (table_rows tables t))) p.0 in
    (ltb-true (n - 1) (length (table_rows tables t)) q.1, rows_are tables ts ns p.1)

module _ (axioms : List Axiom) (mappings : List Mapping) (tables : List Loaded) where
  abbrev D : Fact → Type 0
  D f = Derived axioms (mapped_facts mappings tables) f

  -- a cited fact is mapped
  cited : (m : Mapping) (g : Target) (numbers : List ℕ) (f : Fact) → In m mappings → In g m.targets → cited_fact tables numbers m g ≡ Some f → In f (mapped_facts mappings tables)
  cited m g numbers f is_m is_g e =
      let rows : List ℕ = map (λ n. n - 1) numbers in
      let a = if_some (are_row_numbers tables m.query.tables numbers) (mapping_fact tables m rows g) f e in
      let b = if_some (satisfies tables m.query rows) (fact_at (cell_of tables m.query.tables rows) g) f a.1 in
      (in_mapped mappings tables f).1 (record {
        mapping = m;
        target = g;
        rows = rows;
        is_mapping = is_m;
        is_target = is_g;
        is_tuple = (rows_are tables m.query.tables numbers a.0, (satisfies_means tables m.query rows).0 b.0);
        gives = fact_gives (cell_of tables m.query.tables rows) g f b.1;
      })

  step_derived : (earlier : List Fact) (s : Step) (f : Fact) → ((g : Fact) → In g earlier → D g) → step_fact axioms mappings tables earlier s ≡ Some f → D f
  step_derived earlier (MappedStep mapping target rows) f all e =
      let a = then_some (λ m. option_and_then (cited_fact tables rows m) (item m.targets target)) (item mappings mapping) f e in
      let b = then_some (cited_fact tables rows a.0) (item a.0.targets target) f a.2 in
      given (cited a.0 b.0 rows f (item_in mappings mapping a.0 a.1) (item_in a.0.targets target b.0 b.1) b.2)
  step_derived earlier (Rule number at) f all e =
      let a = then_some (λ ax. option_and_then (apply_of ax) (item earlier at)) (item axioms number) f e in
      let b = then_some (apply_of a.0) (item earlier at) f a.2 in
      by_axiom a.0 (item_in axioms number a.0 a.1) b.2 (all b.0 (item_in earlier at b.0 b.1))

  pub steps_derived : (earlier : List Fact) (steps : List Step) (facts : List Fact) → ((g : Fact) → In g earlier → D g) → facts_from axioms mappings tables earlier steps ≡ Some facts → (f : Fact) → In f facts → D f
  steps_derived earlier [] facts all e f i = let same : earlier ≡ facts = cc in all f (subst (In f) (sym same) i)
  steps_derived earlier (s ∷ steps) facts all e f i =
      let a = then_some (λ g. facts_from axioms mappings tables (earlier ++ (g ∷ [])) steps) (step_fact axioms mappings tables earlier s) facts e in
      steps_derived (earlier ++ (a.0 ∷ [])) steps facts (with_one a.0 (step_derived earlier s a.0 all a.1)) a.2 f i
    where
      with_one : (g : Fact) → D g → (h : Fact) → In h (earlier ++ (g ∷ [])) → D h
      with_one g d h i = elim (In-append_cases earlier (g ∷ []) i) [
        | inl j ↦ all h j
        | inr j ↦ elim j [ here q ↦ subst D q d | there k ↦ elim k [ ] ]
      ]

  -- each atom has its fact among the derived ones
  held : (σ : Terms) (atoms : List Atom) (named : List Fact) → ((f : Fact) → In f named → D f) → Pairwise (AtomIs σ) atoms named → Held axioms (mapped_facts mappings tables) σ atoms
  held σ [] named all p a i = elim i [ ]
  held σ (b ∷ atoms) [] all p a i = absurd p
  held σ (b ∷ atoms) (f ∷ named) all p a (here e) = (f, all f (here refl), subst (λ x. AtomIs σ x f) e p.0)
  held σ (b ∷ atoms) (f ∷ named) all p a (there i) = held σ atoms named (λ g j. all g (there j)) p.1 a i

pub explained_is_certain : ExplainedIsCertain
explained_is_certain tbox mappings tables q why tuple w =
    let derived = steps_derived tbox.axioms mappings tables [] why.steps w.facts (λ g j. elim j [ ]) w.steps in
    (certain_derived tbox.axioms (mapped_facts mappings tables) q tuple).1
    (w.known, (w.reads.terms, held tbox.axioms mappings tables w.reads.terms q.atoms w.named (λ f i. derived f (items_in w.facts why.atoms w.named w.numbered f i)) w.reads.atoms, w.reads.head))

-- an explanation has one number for each atom
pub one_each : (tbox : Tbox) (mappings : List Mapping) (tables : List Loaded) (q : Query) (why : Why) (tuple : List Term) → Explains tbox mappings tables q why tuple → length why.atoms ≡ length q.atoms
one_each tbox mappings tables q why tuple w = sym (items_length w.facts why.atoms w.named w.numbered) ∙ sym (pairs_length (AtomIs w.reads.terms) q.atoms w.named w.reads.atoms)

same_facts : (x y : List Fact) → Some x ≡ Some y → x ≡ y
same_facts x y e = cc

-- what the named facts read as is what is explained
pub read_is_explained : (tbox : Tbox) (mappings : List Mapping) (tables : List Loaded) (q : Query) (why : Why) (facts named : List Fact) → facts_of tbox mappings tables why.steps ≡ Some facts → items_at facts why.atoms ≡ Some named → (tuple : List Term) →
    (Reads q named tuple × TermsKnown tuple) ↔ Explains tbox mappings tables q why tuple
read_is_explained tbox mappings tables q why facts named steps numbered tuple = (
  λ h. record { facts = facts; steps = steps; named = named; numbered = numbered; reads = h.0; known = h.1 },
  λ w. (
      let one : w.facts ≡ facts = same_facts w.facts facts (sym w.steps ∙ steps) in
      let two : w.named ≡ named = same_facts w.named named (sym w.numbered ∙ ap (λ fs. items_at fs why.atoms) one ∙ numbered) in
      (subst (λ fs. Reads q fs tuple) two w.reads, w.known)),
)
