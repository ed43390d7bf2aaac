-- The query whose matches are the facts that meet a source.
use Rattle.std.specs.Prelude.{ℕ, Bool, true, false, if◌then◌else◌, List, [], ◌∷◌}
use Rattle.vocabulary.specs.declared.ids.VarId.{VarId}
use Rattle.vocabulary.specs.declared.ids.LinkId.{LinkId}
use Rattle.vocabulary.specs.declared.ids.Dir.{Dir}
use Rattle.vocabulary.specs.declared.ids.Dir.TheVariants.{Fwd, Back}
use Rattle.vocabulary.specs.declared.ids.ValueKind.{ValueKind}
use Rattle.vocabulary.specs.declared.ids.ValueKind.TheVariants as kinds
use Rattle.vocabulary.specs.declared.ids.Side.{Side}
use Rattle.vocabulary.specs.declared.ids.Side.TheVariants.{Object, Value as ValueSide}
use Rattle.vocabulary.specs.Terms.{side_of}
use Rattle.dllite_axioms.specs.declared.axioms.Basic.{Basic}
use Rattle.dllite_axioms.specs.declared.axioms.Basic.TheVariants.{Class, Has}
use Rattle.queries.specs.declared.query.Arg.{Arg}
use Rattle.queries.specs.declared.query.Arg.TheVariants.{Var}
use Rattle.queries.specs.declared.query.Atom.{Atom}
use Rattle.queries.specs.declared.query.Atom.TheVariants.{InClass, Linked}
use Rattle.queries.specs.declared.query.Query.{Query}
use Rattle.mapping_facts.specs.declared.query.RowQuery.{RowQuery}
use Rattle.mapping_facts.specs.declared.term.RowTerm.{RowTerm}
use Rattle.mapping_facts.specs.declared.term.RowTerm.TheVariants.{Iri, Cell as CellTerm, Fixed}
use Rattle.negative_closure.specs.declared.source.Source.{Source}
use Rattle.negative_closure.specs.declared.source.Source.TheVariants.{One, Two, TwoFillers, TwoLinks}

abbrev pub var : ℕ → VarId
var n = record { 0 = n }

-- the link from variable 0 to the other variable
abbrev pub link_atom : LinkId → Dir → ℕ → Atom
link_atom p Fwd other = Linked p (Var (var 0)) (Var (var other))
link_atom p Back other = Linked p (Var (var other)) (Var (var 0))

-- the basic at variable 0; a link has the other variable at its other end
abbrev pub basic_atom : Basic → ℕ → Atom
basic_atom (Class a) other = InClass a (Var (var 0))
basic_atom (Has p d) other = link_atom p d other

-- one atom for each fact that meets the source, the two of a source with two facts in order
abbrev pub source_atoms : Source → List Atom
source_atoms (One x) = basic_atom x 1 ∷ []
source_atoms (Two x y) = basic_atom x 1 ∷ basic_atom y 2 ∷ []
source_atoms (TwoFillers p d) = link_atom p d 1 ∷ link_atom p d 2 ∷ []
source_atoms (TwoLinks q d p) = link_atom q Fwd 1 ∷ link_atom p d 1 ∷ []

-- the two terms that have to differ, or none
abbrev pub source_head : Source → List Arg
source_head (One x) = []
source_head (Two x y) = []
source_head (TwoFillers p d) = Var (var 1) ∷ Var (var 2) ∷ []
source_head (TwoLinks q d p) = []

abbrev pub source_query : Source → Query
source_query s = record { head = source_head s; atoms = source_atoms s }

-- the sort of the terms that a row term gives
abbrev pub row_side : RowTerm → Side
row_side (Iri template places) = Object
row_side (CellTerm kind place) = ValueSide kind
row_side (Fixed term) = side_of term

abbrev pub kind_same : ValueKind → ValueKind → Bool
kind_same kinds.Text kinds.Text = true
kind_same kinds.Int kinds.Int = true
kind_same kinds.Bool kinds.Bool = true
kind_same kinds.Time kinds.Time = true
kind_same _ _ = false

abbrev pub side_same : Side → Side → Bool
side_same Object Object = true
side_same (ValueSide k) (ValueSide l) = kind_same k l
side_same _ _ = false

-- the two terms of a head, where they can be equal; terms of two sorts differ anyway
abbrev pub pair_of : List RowTerm → List (RowTerm × RowTerm)
pair_of [] = []
pair_of (r ∷ []) = []
pair_of (r ∷ s ∷ []) = if side_same (row_side r) (row_side s) then (r, s) ∷ [] else []
pair_of (r ∷ s ∷ t ∷ rest) = []

-- the tuples at which the two terms of the head differ
abbrev pub apart_query : RowQuery → RowQuery
apart_query q = record { query = q.query; apart = pair_of q.head; head = q.head }
