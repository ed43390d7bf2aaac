-- What the rules look up in axioms, by tables in place of a search through all of them.
use Rattle.std.specs.Prelude.{◌≡◌, not, ℕ, Bool, false, List, Option, Some, None, slice_get, unwrap_or, option_and_then, if◌then◌else◌}
use Rattle.std.specs.List.{list_any}
use Rattle.std.specs.Str.{bytes_eq}
use Rattle.vocabulary.specs.declared.ids.ValueKind.{ValueKind}
use Rattle.vocabulary.specs.declared.ids.ValueKind.TheVariants.{Text}
use Rattle.vocabulary.specs.Texts.{number_of}
use Rattle.owl_functional.specs.declared.entities.Entities.{Entities}
use Rattle.owl_functional.specs.declared.tree.Sort.{Sort}
use Rattle.owl_functional.specs.declared.tree.Sort.TheVariants.{Class as ClassSort, ObjectProperty, DataProperty}
use Rattle.owl_functional.specs.declared.tree.Entity.{Entity}
use Rattle.owl_functional.specs.declared.tree.Form.{Form}
use Rattle.owl_functional.specs.declared.tree.Form.TheVariants.{Unsupported, Silent, Declaration, Sub, Disjoint, Kind, SubLink, Func}
use Rattle.owl_functional.specs.declared.tree.Axiom.{Axiom}
use Rattle.owl_functional.specs.Rules.{name_of, same, kind_in, takes}

-- the IRIs of one sort
abbrev pub of_sort : Entities → Sort → List (List ℕ)
of_sort s ClassSort = s.classes
of_sort s ObjectProperty = s.objects
of_sort s DataProperty = s.values

-- the class or property is one of these
abbrev pub has_entity : Entities → Entity → Bool
has_entity s e = list_any (bytes_eq e.iri) (of_sort s e.sort)

-- these are the classes and properties of which an axiom says so
abbrev pub AreTold : (Entity → Axiom → Bool) → List Axiom → Entities → Type 0
AreTold says axioms s = (e : Entity) → has_entity s e ≡ list_any (says e) axioms

-- what stands beside a text in a table
abbrev pub beside : {X : Type 0} → List (List ℕ) → List X → List ℕ → Option X
beside texts values text = option_and_then (λ n. slice_get values n) (number_of texts text)

-- each data property has the kind that the axioms give it, text where they give it none
abbrev pub AreKinds : (List ℕ → Option ValueKind) → List Axiom → Type 0
AreKinds kind axioms = (iri : List ℕ) → unwrap_or (kind iri) Text ≡ kind_in axioms iri

-- the class or property that a form gives the name
abbrev pub owner_in : Form → List ℕ → Option Entity
owner_in Unsupported name = None
owner_in Silent name = None
owner_in (Declaration e) name = if bytes_eq (name_of e.iri) name then Some e else None
owner_in (Sub b c) name = None
owner_in (Disjoint cs) name = None
owner_in (Kind u k) name = None
owner_in (SubLink q d p) name = None
owner_in (Func p d) name = None

-- the owner of a name is another class or property
abbrev pub is_other : Option Entity → Entity → Bool
is_other None e = false
is_other (Some f) e = not (same f e)

-- each name has the owner that the axioms give it
abbrev pub AreOwners : (List ℕ → Option Entity) → List Axiom → Type 0
AreOwners owner axioms = (e : Entity) → is_other (owner (name_of e.iri)) e ≡ list_any (takes e) axioms
