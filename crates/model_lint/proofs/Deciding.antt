-- The first query that maps into another, and what it tells.
use Rattle.std.proofs.Common.{◌≡◌, ◌↔◌, refl, ap, subst, ◌<◌, ◌≤◌, ◌+◌, ◌-◌, ◌^◌, ℕ, zero, suc, List, [], ◌∷◌, length, take, inl, inr, Option, None, Some, true, is_some, IfSome, MatchOption, arith}
use Rattle.std.proofs.lemmas.Bool.{cases_lt}
use Rattle.std.specs.List.{slice_get}
use Rattle.vocabulary.specs.Lists.{In, here, there, IsListOf, item}
use Rattle.dllite_axioms.specs.declared.axioms.Axiom.{Axiom}
use Rattle.queries.specs.declared.query.Query.{Query}
use Rattle.queries.specs.Occurrences.{HeadStands, KnownConstants}
use Rattle.queries.specs.Order.{query_cmp}
use Rattle.perfect_rewriting.specs.Reach.{Reach}
use Rattle.perfect_rewriting.specs.Rewriting.{GiveCertain, IsTooWide}
use Rattle.query_subsumption.specs.Kept.{AreAmong, SameImages}
use Rattle.query_subsumption.specs.Laws.{MappingIsSound}
use Rattle.query_subsumption.specs.Subsumption.{AreKept, KeptFrom, MapsInto}
use Rattle.model_lint.specs.Containment.{HoldsInModels, IsContained, IsCovered, IsFirst}
use Rattle.model_lint.proofs.Renaming.{item_in}
use Rattle.model_lint.proofs.Covering.{maps_contains, maps_models}
use Rattle.model_lint.proofs.Freezing.{frozen, frozen_certain, frozen_head, frozen_known, frozen_maps, query_weight}

-- an item before a place
In-before : {X : Type 0} (xs : List X) (m n : ℕ) (x : X) → m < n → slice_get xs m ≡ Some x → In x (take n xs)
In-before [] m n x low e = cc
In-before (y ∷ xs) m zero x low e = absurd (omega (arith, low))
In-before (y ∷ xs) zero (suc n) x low e = here cc
In-before (y ∷ xs) (suc m) (suc n) x low e = there (In-before xs m n x (omega (arith, low)) e)

pub first_there : (queries : List Query) (special q : Query) (at : ℕ) → slice_get queries at ≡ Some q → MapsInto q special → ((r : Query) → In r (take at queries) → MapsInto r special → ⊥) → IsFirst queries special (at + 1)
first_there queries special q at is maps before = record {
  query = q;
  numbered = (let e : suc at ≡ at + 1 = omega arith in subst (λ n. item queries n ≡ Some q) e is);
  maps = maps;
  sooner = λ n r low there_it maps'. sooner n r low there_it maps';
}
  where
    sooner : (n : ℕ) (r : Query) → n < at + 1 → item queries n ≡ Some r → MapsInto r special → ⊥
    sooner zero r low e maps' = cc
    sooner (suc n) r low e maps' = before r (In-before queries n at r (omega (arith, low)) e) maps'

-- few are kept
few_from : (queries : List Query) (at : ℕ) (rest kept : List Query) → KeptFrom queries at rest kept → length kept ≤ length rest
few_from queries at [] kept k = let e = ap length k in omega (arith, e)
few_from queries at (q ∷ rest) kept k = elim k [
  | inl w ↦ (let l = few_from queries (at + 1) rest kept w.1 in omega (arith, l))
  | inr w ↦ (let l = few_from queries (at + 1) rest w.1 w.3 in let e = ap length w.2 in omega (arith, l, e))
]

pub few_kept : (axioms : List Axiom) (q : Query) (members kept : List Query) → IsListOf query_cmp (Reach axioms q) members → (IsTooWide axioms q → ⊥) → AreKept members kept → length kept < 2 ^ 32 - 1
few_kept axioms q members kept listed narrow are =
    elim (cases_lt 4000 (length members)) [
      | inl many ↦ absurd (narrow (record { members = members; different = listed.ordered; reached = listed.each; many = many }))
      | inr few ↦ (let l = few_from members 0 members kept are in omega (arith, few, l))
    ]

-- the weights of a list of queries
abbrev weights : List Query → ℕ
weights [] = 0
weights (q ∷ queries) = query_weight q + weights queries

weight_in : (queries : List Query) (q : Query) → In q queries → query_weight q ≤ weights queries
weight_in [] q m = elim m [ ]
weight_in (r ∷ queries) q (here e) = let same = ap query_weight e in omega (arith, same)
weight_in (r ∷ queries) q (there m) = let l = weight_in queries q m in omega (arith, l)

-- the rewriting of the second query, and the queries that are kept of it
pub record Rewritten (axioms : List Axiom) (second : Query) (members kept : List Query) : Type 0 where
  pub sound : MappingIsSound
  pub listed : IsListOf query_cmp (Reach axioms second) members
  pub answers : GiveCertain axioms second members
  pub are : AreKept members kept
  pub among : AreAmong members kept
  pub images : SameImages members kept

module _ {axioms : List Axiom} {second : Query} {members kept : List Query} (r : Rewritten axioms second members kept) (first : Query) where
  -- where none maps into the first query, it is not contained
  none_contains : KnownConstants first → HeadStands first → KnownConstants second → HeadStands second → ((q : Query) → In q kept → MapsInto q first → ⊥) → IsContained axioms first second → ⊥
  none_contains known stands known' stands' none contained =
      let n : ℕ = query_weight first + weights kept in
      let facts = frozen n first in
      let certain = contained facts (frozen_known n first known) (frozen_head n first) (frozen_certain n axioms first stands) in
      let m = (r.answers known' stands' facts (frozen_known n first known) (frozen_head n first)).0 certain in
      let k = (r.images facts (frozen_head n first)).0 (m.0, m.2, (m.1, m.3)) in
      none k.0 k.1 (frozen_maps r.sound n k.0 first (omega (arith, weight_in kept k.0 k.1)) (omega arith) k.2.0 k.2.1)

  reached : (n : ℕ) (f : IsFirst kept first n) → Reach axioms second f.query
  reached n f = r.listed.each f.query (r.among f.query (item_in kept n f.numbered))

  pub tells : KnownConstants first → HeadStands first → KnownConstants second → HeadStands second → (o : Option ℕ) → MatchOption o ((q : Query) → In q kept → MapsInto q first → ⊥) (IsFirst kept first) →
      (is_some o ≡ true) ↔ IsContained axioms first second
  tells known stands known' stands' None none = ((λ e. cc), λ contained. absurd (none_contains known stands known' stands' none contained))
  tells known stands known' stands' (Some n) f = ((λ e. maps_contains r.sound axioms first second f.query (reached n f) f.maps), λ contained. refl)

  pub covers : (o : Option ℕ) → MatchOption o ((q : Query) → In q kept → MapsInto q first → ⊥) (IsFirst kept first) → IfSome o (IsCovered axioms first second)
  covers None none = tt
  covers (Some n) f = record { queries = kept; rewritten = record { reached = members; members = r.listed; kept = r.are }; covers = f }

  pub holds : (o : Option ℕ) → MatchOption o ((q : Query) → In q kept → MapsInto q first → ⊥) (IsFirst kept first) → IfSome o (λ n. HoldsInModels axioms first second)
  holds None none = tt
  holds (Some n) f = maps_models r.sound axioms first second f.query (reached n f) f.maps
