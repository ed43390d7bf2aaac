-- The query for the members of a class with their values.
use Rattle.std.specs.Prelude.{ℕ, ◌+◌, List, [], ◌∷◌, ◌++◌}
use Rattle.vocabulary.specs.declared.ids.ClassId.{ClassId}
use Rattle.vocabulary.specs.declared.ids.LinkId.{LinkId}
use Rattle.queries.specs.declared.query.Arg.{Arg}
use Rattle.queries.specs.declared.query.Arg.TheVariants.{Var}
use Rattle.queries.specs.declared.query.Atom.{Atom}
use Rattle.queries.specs.declared.query.Atom.TheVariants.{InClass, Linked}
use Rattle.queries.specs.declared.query.Query.{Query}

-- the member is variable 0
abbrev pub var : ℕ → Arg
var n = Var (record { 0 = n })

-- for each attribute a variable of its own, numbered from k on
abbrev pub value_vars : ℕ → List LinkId → List Arg
value_vars k [] = []
value_vars k (u ∷ us) = var k ∷ value_vars (k + 1) us

abbrev pub value_atoms : ℕ → List LinkId → List Atom
value_atoms k [] = []
value_atoms k (u ∷ us) = Linked u (var 0) (var k) ∷ value_atoms (k + 1) us

-- the values, and the member behind them
abbrev pub members_query : ClassId → List LinkId → Query
members_query a us = record { head = value_vars 1 us ++ var 0 ∷ []; atoms = InClass a (var 0) ∷ value_atoms 1 us }
