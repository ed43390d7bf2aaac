-- What stands behind the numbers of a query that is taken apart.
use Rattle.std.specs.Prelude.{◌≡◌, ◌≤◌, ◌^◌, map}
use Rattle.queries.specs.declared.query.Arg.{Arg}
use Rattle.queries.specs.declared.query.Arg.TheVariants.{Var, Fixed}
use Rattle.queries.specs.declared.query.Atom.{Atom}
use Rattle.queries.specs.declared.query.Atom.TheVariants.{InClass, Linked}
use Rattle.queries.specs.declared.query.Query.{Query}
use Rattle.query_subsumption.specs.declared.numbering.Node.{Node}
use Rattle.query_subsumption.specs.declared.numbering.Node.TheVariants.{Numbered as NumberedNode, Constant}
use Rattle.query_subsumption.specs.declared.numbering.Shape.{Shape}
use Rattle.query_subsumption.specs.declared.numbering.Shape.TheVariants.{InClass as ClassShape, Linked as LinkShape}
use Rattle.query_subsumption.specs.declared.numbering.Numbered.{Numbered}
use Rattle.query_subsumption.specs.Subsumption.{apart, first_free}
use Rattle.query_subsumption.specs.Images.{numbers}

-- the argument that a node is
abbrev pub as_arg : Node → Arg
as_arg (NumberedNode n) = Var (record { 0 = n })
as_arg (Constant t) = Fixed t

abbrev pub as_atom : Shape → Atom
as_atom (ClassShape c x) = InClass c (as_arg x)
as_atom (LinkShape p x y) = Linked p (as_arg x) (as_arg y)

-- the query that is taken apart
abbrev pub as_query : Numbered → Query
as_query it = record { head = map as_arg it.head.items; atoms = map as_atom it.atoms.items }

-- the query, each Blank a variable of its own
pub record IsNumbered (q : Query) (it : Numbered) : Type 0 where
  pub same : as_query it ≡ apart q
  pub blanks_from : it.blanks_from ≡ first_free q
  pub end : it.end ≡ numbers q
  pub small : it.blanks_from ≤ 2 ^ 32
