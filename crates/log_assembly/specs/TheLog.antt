-- The one log whose traces, events and attributes are the certain answers, each once and in the stated order.
use Rattle.std.specs.Prelude.{◌≡◌, ◌⊎◌, ◌+◌, ℕ, List, [], ◌∷◌, ◌++◌, Some, codes, decimal, slice_get}
use Rattle.std.specs.List.{flat_map}
use Rattle.std.specs.declared.cmp.Ordering.{Ordering}
use Rattle.std.specs.Ordering.{nat_cmp, ordering_then}
use Rattle.vocabulary.specs.declared.ids.ValueKind.TheVariants.{Text, Time}
use Rattle.vocabulary.specs.declared.term.Term.{Term, Named, Value}
use Rattle.vocabulary.specs.Lists.{In, IsListOf, Pairwise}
use Rattle.vocabulary.specs.Terms.{side_of, text_of}
use Rattle.vocabulary.specs.Texts.{text_cmp}
use Rattle.queries.specs.Order.{term_cmp}
use Rattle.xes_writer.specs.declared.log.Entry.{Entry}
use Rattle.xes_writer.specs.declared.log.EventRow.{EventRow}
use Rattle.xes_writer.specs.declared.log.TraceRow.{TraceRow}
use Rattle.xes_writer.specs.declared.log.Log.{Log}
use Rattle.annotation_language.specs.declared.notes.Rule.{Rule}
use Rattle.annotation_language.specs.declared.notes.Rule.TheVariants.{Mandatory, Single, Many}
use Rattle.annotation_language.specs.declared.notes.KeyNote.{KeyNote}
use Rattle.annotation_language.specs.declared.notes.EventNote.{EventNote}
use Rattle.annotation_language.specs.declared.notes.Annotations.{Annotations}
use Rattle.dllite_axioms.specs.declared.axioms.Axiom.{Axiom}
use Rattle.vocabulary.specs.declared.term.Fact.{Fact}
use Rattle.certain_semantics.specs.Certain.{IsCertain}
use Rattle.log_assembly.specs.declared.asked.Asked.{Asked}
use Rattle.log_assembly.specs.Answered.{AreAsked}
use Rattle.log_assembly.specs.Asked.{Certain, IsOne, HasNone, HasSeveral, IsCase, IsObject, IsCaseOf, IsValue, IsName}

-- the attribute of a key with this value
abbrev pub entry_of : List ℕ → Term → Entry (List ℕ)
entry_of key v = record { key = key; side = side_of v; value = text_of v }

-- KEY#1, KEY#2 and so on
abbrev pub numbered : List ℕ → ℕ → List Term → List (Entry (List ℕ))
numbered key n [] = []
numbered key n (v ∷ vs) = entry_of (key ++ codes "#" ++ decimal n) v ∷ numbered key (n + 1) vs

-- an event of the log: when, which object, and the place of its annotation
pub record Moment : Type 0 where
  pub instant : List ℕ
  pub object : List ℕ
  pub place : ℕ

-- by instant, then object, then place; the byte order of canonical times is that of instants
abbrev pub moment_cmp : Moment → Moment → Ordering
moment_cmp a b = ordering_then (text_cmp a.instant b.instant) (ordering_then (text_cmp a.object b.object) (nat_cmp a.place b.place))

module _ (certain : Certain) where
  -- a mandatory key has exactly one value
  abbrev pub IsMet : List ℕ → KeyNote → Type 0
  IsMet o key = key.rule ≡ Mandatory → (v : Term) × IsOne (IsValue certain key o) v

  -- an object that is an event of the log
  pub record IsKept (notes : Annotations) (event : EventNote) (o : List ℕ) : Type 0 where
    pub object : IsObject certain event o
    pub case : (c : List ℕ) × IsCaseOf certain notes event o c
    pub keys : (key : KeyNote) → In key event.keys → IsMet o key

  -- the one value of a key is written
  abbrev pub WritesOne : KeyNote → List ℕ → List (Entry (List ℕ)) → Type 0
  WritesOne key o entries = (v : Term) × IsOne (IsValue certain key o) v × (entries ≡ entry_of key.key v ∷ [])

  -- the attributes of a key, by its rule: its one value; its one value or nothing, where it has none or several; or all its values in order, which is by bytes where they have one sort
  abbrev pub IsEntriesBy : Rule → KeyNote → List ℕ → List (Entry (List ℕ)) → Type 0
  IsEntriesBy Mandatory key o entries = WritesOne key o entries
  IsEntriesBy Single key o entries =
      WritesOne key o entries ⊎ ((HasNone (IsValue certain key o) ⊎ HasSeveral (IsValue certain key o)) × (entries ≡ []))
  IsEntriesBy Many key o entries = (vs : List Term) × IsListOf term_cmp (IsValue certain key o) vs × (entries ≡ numbered key.key 1 vs)

  abbrev pub IsEntries : List ℕ → KeyNote → List (Entry (List ℕ)) → Type 0
  IsEntries o key entries = IsEntriesBy key.rule key o entries

  -- the time of an object's event
  abbrev pub IsTimeOf : EventNote → List ℕ → List ℕ → Type 0
  IsTimeOf event o t = (key : KeyNote) × In key event.keys × (key.key ≡ codes "time:timestamp") × IsValue certain key o (Value Time t)

  -- an event of the case
  pub record IsMoment (notes : Annotations) (c : List ℕ) (m : Moment) : Type 0 where
    pub event : EventNote
    pub placed : slice_get notes.events m.place ≡ Some event
    pub kept : IsKept notes event m.object
    pub case : IsCaseOf certain notes event m.object c
    pub time : IsTimeOf event m.object m.instant

  -- the attributes of an event: `object` with the IRI, then its keys in the order of their lines
  pub record IsEvent (notes : Annotations) (m : Moment) (row : EventRow (List ℕ)) : Type 0 where
    pub event : EventNote
    pub placed : slice_get notes.events m.place ≡ Some event
    pub parts : List (List (Entry (List ℕ)))
    pub keys : Pairwise (IsEntries m.object) event.keys parts
    pub entries : row.entries ≡ entry_of (codes "object") (Named m.object) ∷ flat_map (λ part. part) parts

  -- the one certain name of a case, or a text of its IRI where there is none or several
  abbrev pub IsTitle : Annotations → List ℕ → Term → Type 0
  IsTitle notes c title =
      IsOne (IsName certain notes c) title
      ⊎ ((HasNone (IsName certain notes c) ⊎ HasSeveral (IsName certain notes c)) × (title ≡ Value Text c))

  -- a trace: its case's IRI and name, and the events of the case, each once and in order
  pub record IsTrace (notes : Annotations) (c : List ℕ) (trace : TraceRow (List ℕ)) : Type 0 where
    pub title : Term
    pub named : IsTitle notes c title
    pub entries : trace.entries ≡ entry_of (codes "object") (Named c) ∷ entry_of (codes "concept:name") title ∷ []
    pub moments : List Moment
    pub listed : IsListOf moment_cmp (IsMoment notes c) moments
    pub events : Pairwise (IsEvent notes) moments trace.events

  -- a log: a trace for each case, in the byte order of the IRIs
  pub record IsLog (notes : Annotations) (log : Log (List ℕ)) : Type 0 where
    pub cases : List (List ℕ)
    pub listed : IsListOf text_cmp (IsCase certain notes) cases
    pub traces : Pairwise (IsTrace notes) cases log.traces

-- the log over the certain answers that are asked for
abbrev pub IsLogOf : Annotations → Asked → Log (List ℕ) → Type 0
IsLogOf notes asked log = (axioms : List Axiom) (facts : List Fact) → AreAsked (IsCertain axioms facts) notes asked → IsLog (IsCertain axioms facts) notes log
