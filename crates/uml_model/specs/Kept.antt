-- What the lines of a model keep, line by line.
use Rattle.std.specs.Prelude.{◌≡◌, false, List, length}
use Rattle.vocabulary.specs.declared.ids.LinkId.{LinkId}
use Rattle.vocabulary.specs.declared.ids.Side.{Side}
use Rattle.vocabulary.specs.declared.ids.Side.TheVariants.{Object, Value}
use Rattle.vocabulary.specs.declared.ids.ValueKind.{ValueKind}
use Rattle.vocabulary.specs.Lists.{In}
use Rattle.uml_model.specs.declared.statement.Statement.{Statement}
use Rattle.uml_model.specs.declared.statement.Statement.TheVariants as states
use Rattle.uml_model.specs.Bounds.{AreLinesWithin}
use Rattle.uml_model.specs.Rules.{Known, bounds}
use Rattle.uml_model.specs.Sorts.{HasSide, AreIdentifying}

-- the links of a statement have the sorts of their places
abbrev pub IsLineSorted : List Side → Statement → Type 0
IsLineSorted sides (states.Class a) = Unit {0}
IsLineSorted sides (states.Sub a b) = Unit {0}
IsLineSorted sides (states.Disjoint a b) = Unit {0}
IsLineSorted sides (states.Assoc p a m b n) = HasSide sides p Object
IsLineSorted sides (states.Attr a u k m) = HasSide sides u (Value k)
IsLineSorted sides (states.SubAssoc q d p) = HasSide sides q Object × HasSide sides p Object
IsLineSorted sides (states.SubAttr u v) = (k : ValueKind) × HasSide sides u (Value k) × HasSide sides v (Value k)
IsLineSorted sides (states.DisjointAssoc q d p) = HasSide sides q Object × HasSide sides p Object
IsLineSorted sides (states.Identify a us) = AreIdentifying sides us

abbrev pub AreLinesSorted : List Side → List Statement → Type 0
AreLinesSorted sides lines = (line : Statement) → In line lines → IsLineSorted sides line

-- the line puts a link below this one
abbrev pub Widens : LinkId → Statement → Type 0
Widens p (states.Class a) = ⊥
Widens p (states.Sub a b) = ⊥
Widens p (states.Disjoint a b) = ⊥
Widens p (states.Assoc q a m b n) = ⊥
Widens p (states.Attr a u k m) = ⊥
Widens p (states.SubAssoc q d r) = r ≡ p
Widens p (states.SubAttr u v) = v ≡ p
Widens p (states.DisjointAssoc q d r) = ⊥
Widens p (states.Identify a us) = ⊥

-- no line bounds a link that has one below it
abbrev pub AreLinesFree : List Statement → Type 0
AreLinesFree lines = (p : LinkId) (line other : Statement) → In line lines → Widens p line → In other lines → bounds p other ≡ false

-- the lines name what is declared, by its sort, and put no link below a functional one
pub record AreLinesKept (s : Known) : Type 0 where
  pub within : AreLinesWithin (length s.classes) (length s.links) s.lines
  pub sorted : AreLinesSorted s.sides s.lines
  pub free : AreLinesFree s.lines
