-- The laws of order and normal form, as the functions of `laws` state them.
use Rattle.std.specs.Prelude.{ℕ, ◌≡◌, ◌<◌, ◌≤◌, ◌↔◌, List, length, Some, None}
use Rattle.std.specs.Cmp.{IsTotalOrder}
use Rattle.std.specs.declared.cmp.Ordering.TheVariants.{Equal}
use Rattle.queries.specs.declared.query.Arg.{Arg}
use Rattle.queries.specs.declared.query.Atom.{Atom}
use Rattle.queries.specs.declared.query.Query.{Query}
use Rattle.queries.specs.Normal.{tidied, settled, normal_form}
use Rattle.queries.specs.Changes.{AtomsMeet, UnifyStep}
use Rattle.queries.specs.Checking.{query_fault, KnownHead}
use Rattle.queries.specs.Occurrences.{HeadStands, NoLoneVariable}
use Rattle.queries.specs.Unifying.{atoms_met, unify_at}
use Rattle.queries.specs.declared.unify.Union.{Union}
use Rattle.vocabulary.specs.declared.ids.Side.{Side}
use Rattle.vocabulary.specs.declared.term.Term.{Term}
use Rattle.queries.specs.Order.{query_cmp, term_cmp, tuple_cmp}

-- queries are in a total order, in which only a query itself is level with it
pub record QueriesAreOrdered : Type 0 where
  pub total : IsTotalOrder query_cmp
  pub level : (q r : Query) → (query_cmp q r ≡ Equal) ↔ (q ≡ r)

-- and so are terms and tuples
pub record TuplesAreOrdered : Type 0 where
  pub terms : IsTotalOrder term_cmp
  pub term_level : (t u : Term) → (term_cmp t u ≡ Equal) ↔ (t ≡ u)
  pub tuples : IsTotalOrder tuple_cmp
  pub tuple_level : (ts us : List Term) → (tuple_cmp ts us ≡ Equal) ↔ (ts ≡ us)

-- what is settled changes no more, and the normal form has no lone variable and no more atoms than the query
pub record TidyingSettles : Type 0 where
  pub stays : (head : List Arg) (atoms : List Atom) → tidied head (settled head atoms) ≡ settled head atoms
  pub none_lone : (q : Query) → NoLoneVariable (normal_form q).head (normal_form q).atoms
  pub no_longer : (q : Query) → length (normal_form q).atoms ≤ length q.atoms

-- the relation of unifying and its computation are one: at atoms, and at the places of a query
pub record UnifyingIsComputed : Type 0 where
  pub meets : (a b : Atom) (u : Union) → AtomsMeet a b u.first u.second u.atom ↔ (atoms_met a b ≡ Some u)
  pub steps : (q r : Query) → UnifyStep q.head q.atoms r.head r.atoms ↔ ((i : ℕ) × (j : ℕ) × (i < j) × (j < length q.atoms) × (unify_at q i j ≡ Some r))
  pub either_way : (q : Query) (i j : ℕ) → unify_at q i j ≡ unify_at q j i

-- what a query that passes has: at most 16 atoms and head places, and a head that stands where its constants are known
pub record Passes (q : Query) : Type 0 where
  pub atoms : length q.atoms ≤ 16
  pub head : length q.head ≤ 16
  pub stands : KnownHead q → HeadStands q

abbrev pub CheckedPasses : Type 0
CheckedPasses = (sides : List Side) (q : Query) → query_fault sides q ≡ None → Passes q
