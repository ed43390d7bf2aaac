-- What the annotations ask, over any meaning of a certain answer.
use Rattle.std.specs.Prelude.{◌≡◌, ◌≢◌, ℕ, List, [], ◌∷◌, Option, Some, None}
use Rattle.vocabulary.specs.declared.term.Term.{Term, Named, Value}
use Rattle.queries.specs.declared.query.Query.{Query}
use Rattle.annotation_language.specs.declared.notes.KeySource.{KeySource}
use Rattle.annotation_language.specs.declared.notes.KeySource.TheVariants.{Fixed, Asked}
use Rattle.annotation_language.specs.declared.notes.KeyNote.{KeyNote}
use Rattle.annotation_language.specs.declared.notes.EventNote.{EventNote}
use Rattle.annotation_language.specs.declared.notes.Annotations.{Annotations}

-- exactly this one, none, and two that differ
abbrev pub IsOne : {A : Type 0} → (A → Type 0) → A → Type 0
IsOne {A} P x = P x × ((y : A) → P y → y ≡ x)

abbrev pub HasNone : {A : Type 0} → (A → Type 0) → Type 0
HasNone {A} P = (x : A) → P x → ⊥

abbrev pub HasSeveral : {A : Type 0} → (A → Type 0) → Type 0
HasSeveral {A} P = (x : A) × (y : A) × P x × P y × (x ≢ y)

-- the tuple is a certain answer of the query
abbrev pub Certain : Type 1
Certain = Query → List Term → Type 0

module _ (certain : Certain) where
  -- the tuple is a certain answer of the query, which is there
  abbrev pub IsAnswer : Option Query → List Term → Type 0
  IsAnswer None tuple = ⊥
  IsAnswer (Some query) tuple = certain query tuple

  -- the IRI is that of a case
  abbrev pub IsCase : Annotations → List ℕ → Type 0
  IsCase notes c = IsAnswer notes.case_query (Named c ∷ [])

  -- the IRI is that of an object of the event annotation
  abbrev pub IsObject : EventNote → List ℕ → Type 0
  IsObject event o = certain event.objects (Named o ∷ [])

  -- the object's event is one of this case
  abbrev pub IsCaseOf : Annotations → EventNote → List ℕ → List ℕ → Type 0
  IsCaseOf notes event o c = IsAnswer event.cases (Named o ∷ Named c ∷ []) × IsCase notes c

  abbrev pub IsValueFrom : KeySource → List ℕ → Term → Type 0
  IsValueFrom (Fixed kind text) o v = v ≡ Value kind text
  IsValueFrom (Asked query side) o v = certain query (Named o ∷ v ∷ [])

  -- the object has this value of the key
  abbrev pub IsValue : KeyNote → List ℕ → Term → Type 0
  IsValue key o v = IsValueFrom key.source o v

  -- the case has this name
  abbrev pub IsName : Annotations → List ℕ → Term → Type 0
  IsName notes c n = IsAnswer notes.case_name (Named c ∷ n ∷ [])
