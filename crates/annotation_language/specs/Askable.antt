-- Queries that can be rewritten and unfolded, and what is said of each query that annotations ask.
use Rattle.std.specs.Prelude.{◌≡◌, ◌≤◌, Option, Some, length}
use Rattle.vocabulary.specs.Lists.{In}
use Rattle.queries.specs.Occurrences.{KnownConstants, HeadStands}
use Rattle.queries.specs.declared.query.Query.{Query}
use Rattle.annotation_language.specs.declared.notes.KeySource.{KeySource}
use Rattle.annotation_language.specs.declared.notes.KeySource.TheVariants.{Fixed, Asked}
use Rattle.annotation_language.specs.declared.notes.KeyNote.{KeyNote}
use Rattle.annotation_language.specs.declared.notes.EventNote.{EventNote}
use Rattle.annotation_language.specs.declared.notes.NamedQuery.{NamedQuery}
use Rattle.annotation_language.specs.declared.notes.Annotations.{Annotations}

-- of the query, where there is one
abbrev pub IfAsked : (Query → Type 0) → Option Query → Type 0
IfAsked P o = (q : Query) → o ≡ Some q → P q

-- of the query of the values, where one gives them
abbrev pub OfSource : (Query → Type 0) → KeySource → Type 0
OfSource P (Fixed k text) = Unit {0}
OfSource P (Asked q side) = P q

-- of the queries of an event's objects, cases and keys
pub record OfEvent (P : Query → Type 0) (event : EventNote) : Type 0 where
  pub objects : P event.objects
  pub cases : IfAsked P event.cases
  pub keys : (key : KeyNote) → In key event.keys → OfSource P key.source

-- of each query of the annotations
pub record OfEach (P : Query → Type 0) (notes : Annotations) : Type 0 where
  pub case_query : IfAsked P notes.case_query
  pub case_name : IfAsked P notes.case_name
  pub events : (event : EventNote) → In event notes.events → OfEvent P event
  pub queries : (named : NamedQuery) → In named notes.queries → P named.query

-- at most 16 atoms with known constants and at most 16 head places, with no Blank in the head but variables of atoms
pub record IsAskable (q : Query) : Type 0 where
  pub few : length q.atoms ≤ 16
  pub short : length q.head ≤ 16
  pub known : KnownConstants q
  pub stands : HeadStands q

abbrev pub IfAskable : Option Query → Type 0
IfAskable = IfAsked IsAskable

abbrev pub SourceIsAskable : KeySource → Type 0
SourceIsAskable = OfSource IsAskable

abbrev pub EventIsAskable : EventNote → Type 0
EventIsAskable = OfEvent IsAskable

-- each query of the annotations
abbrev pub AreAskable : Annotations → Type 0
AreAskable = OfEach IsAskable
