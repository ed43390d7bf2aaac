-- Lines that break no rule keep what holds of each query.
use Rattle.std.proofs.Common.{subst, ◌≡◌, refl, ℕ, ◌+◌, Bool, true, false, not, if◌then◌else◌, List, [], ◌∷◌, ◌++◌, Option, Some, None, Result, Ok, Err, is_some, length, map, take, inl, inr, OnOk}
use Rattle.std.specs.Str.{bytes_eq}
use Rattle.vocabulary.specs.Lists.{In, here, there}
use Rattle.vocabulary.proofs.Lists.{In-append_cases}
use Rattle.queries.specs.declared.query.Query.{Query as QueryOf}
use Rattle.line_lexer.specs.Judging.{unless}
use Rattle.line_lexer.specs.declared.fault.LineFault.{LineFault}
use Rattle.line_lexer.specs.declared.fault.Counted.TheVariants.{Events, EventKeys, Queries}
use Rattle.uml_model.specs.Rules.{Known, class_named, link_named}
use Rattle.annotation_language.specs.declared.notes.EventNote.{EventNote}
use Rattle.annotation_language.specs.Written.{Asked, Line, Case, CaseName, Event, Cases, Key, Query, Answers, Is}
use Rattle.annotation_language.specs.Complete.{has_key}
use Rattle.annotation_language.specs.Lines.{Noted, nothing, broken, grown, query_of, is_taken, is_name_side, value_side, event_named, of_event, keys_in, is_bad_key}
use Rattle.annotation_language.specs.Reading.{read_as}
use Rattle.annotation_language.specs.Askable.{IsAskable, AreAskable, IfAsked, OfSource, OfEvent, OfEach}
use Rattle.annotation_language.specs.Within.{AreAskedWithin}
use Rattle.queries.specs.Within.{IsQueryWithin}
use Rattle.annotation_language.proofs.Askable.{askable, from_map}
use Rattle.annotation_language.proofs.WithinModel.{query_within}

-- the only item
of_only : {X : Type 0} {x y : X} (P : X → Type 0) → P x → In y (x ∷ []) → P y
of_only P p (here e) = subst P e p
of_only P p (there m) = elim m [ ]

-- the items, and one more
with_last : {X : Type 0} (P : X → Type 0) (xs : List X) (x : X) → ((y : X) → In y xs → P y) → P x → (y : X) → In y (xs ++ x ∷ []) → P y
with_last P xs x all one y m = elim (In-append_cases xs (x ∷ []) m) [ inl h ↦ all y h | inr h ↦ of_only P one h ]

-- the items, where some are changed
where_changed : {X : Type 0} (P : X → Type 0) (f : X → X) (xs : List X) → ((x : X) → P x → P (f x)) → ((x : X) → In x xs → P x) → (y : X) → In y (map f xs) → P y
where_changed P f xs keeps all y m = let from = from_map f xs m in subst P from.2 (keeps from.0 (all from.0 from.1))

-- the query of a line, where it has one
abbrev asked_by : Line → Option Asked
asked_by (Case q) = Some q
asked_by (CaseName q) = Some q
asked_by (Event n q) = Some q
asked_by (Cases n q) = Some q
asked_by (Key n key rule (Answers q)) = Some q
asked_by (Key n key rule (Is k text)) = None
asked_by (Query n q) = Some q

module _ (P : QueryOf → Type 0) where
  if_given : (q : QueryOf) → P q → IfAsked P (Some q)
  if_given q it other e = let same : q ≡ other = cc in subst P same it

  if_none : IfAsked P None
  if_none q e = absurd (cc)

  chosen_event : (t : Bool) (new old : EventNote) → OfEvent P new → OfEvent P old → OfEvent P (if t then new else old)
  chosen_event true new old one other = one
  chosen_event false new old one other = other

  module _ (model : Known) (number : ℕ) (s : Noted) (all : OfEach P s.notes) where
    -- of a line's own query
    abbrev HoldsOfIts : Line → Type 0
    HoldsOfIts line = (q : Asked) → asked_by line ≡ Some q → P (query_of (class_named model) (link_named model) q)

    grown_each : (line : Line) → HoldsOfIts line → OfEach P (grown (class_named model) (link_named model) number s line).notes
    unfolding grown
    grown_each (Case q) own = record { case_query = if_given _ (own q refl); case_name = all.case_name; events = all.events; queries = all.queries }
    grown_each (CaseName q) own = record { case_query = all.case_query; case_name = if_given _ (own q refl); events = all.events; queries = all.queries }
    grown_each (Event n q) own = record {
      case_query = all.case_query;
      case_name = all.case_name;
      events = with_last (OfEvent P) s.notes.events _ all.events (record { objects = own q refl; cases = if_none; keys = λ key m. elim m [ ] });
      queries = all.queries;
    }
    grown_each (Cases n q) own = record {
      case_query = all.case_query;
      case_name = all.case_name;
      events = where_changed (OfEvent P) _ s.notes.events (λ event kept. chosen_event (bytes_eq event.name n) _ event (record { objects = kept.objects; cases = if_given _ (own q refl); keys = kept.keys }) kept) all.events;
      queries = all.queries;
    }
    grown_each (Key n key rule (Answers q)) own = record {
      case_query = all.case_query;
      case_name = all.case_name;
      events = where_changed (OfEvent P) _ s.notes.events (λ event kept. chosen_event (bytes_eq event.name n) _ event (record { objects = kept.objects; cases = kept.cases; keys = with_last (λ k. OfSource P k.source) event.keys _ kept.keys (own q refl) }) kept) all.events;
      queries = all.queries;
    }
    grown_each (Key n key rule (Is k text)) own = record {
      case_query = all.case_query;
      case_name = all.case_name;
      events = where_changed (OfEvent P) _ s.notes.events (λ event kept. chosen_event (bytes_eq event.name n) _ event (record { objects = kept.objects; cases = kept.cases; keys = with_last (λ k. OfSource P k.source) event.keys _ kept.keys tt }) kept) all.events;
      queries = all.queries;
    }
    grown_each (Query n q) own = record {
      case_query = all.case_query;
      case_name = all.case_name;
      events = all.events;
      queries = with_last (λ named. P named.query) s.notes.queries _ all.queries (own q refl);
    }

    kept : (o : Option LineFault) (grown new : Noted) → unless o grown ≡ Ok new → (o ≡ None) × (grown ≡ new)
    kept None grown new e = (refl, cc)
    kept (Some fault) grown new e = absurd (cc)

    -- of what a line leaves, if it holds of the query of a line that breaks no rule
    read_each : (line : Line) → (broken (class_named model) (link_named model) s line ≡ None → HoldsOfIts line) → (r : Result (Unit {0}) LineFault) (new : Noted) → OnOk r (read_as model number s line ≡ Ok new) → OnOk r (OfEach P new.notes)
    read_each line own (Ok x) new read =
        let both = kept (broken (class_named model) (link_named model) s line) (grown (class_named model) (link_named model) number s line) new read in
        subst (λ known. OfEach P known.notes) both.1 (grown_each line (own both.0))
    read_each line own (Err fault) new read = tt

-- a line that breaks no rule has an askable query
own_askable : (model : Known) (s : Noted) (line : Line) → broken (class_named model) (link_named model) s line ≡ None → (q : Asked) → asked_by line ≡ Some q → IsAskable (query_of (class_named model) (link_named model) q)
unfolding broken
own_askable model s line e p is = by line e is
  where
    its : (q : Asked) → Some q ≡ Some p → IsAskable (query_of (class_named model) (link_named model) q) → IsAskable (query_of (class_named model) (link_named model) p)
    its q is it = let same : q ≡ p = cc in subst (λ z. IsAskable (query_of (class_named model) (link_named model) z)) same it

    by : (line : Line) → broken (class_named model) (link_named model) s line ≡ None → asked_by line ≡ Some p → IsAskable (query_of (class_named model) (link_named model) p)
    by (Case q) e is = its q is (askable model false (is_some s.notes.case_query) q q.head false [] e)
    by (CaseName q) e is = its q is (askable model (not (is_some s.notes.case_query)) (is_some s.notes.case_name) q (take 1 q.head) (not (is_name_side (value_side (class_named model) (link_named model) q))) [] e)
    by (Event n q) e is = its q is (askable model false (is_taken s.notes n) q q.head false ((Events, length s.notes.events + 1) ∷ []) e)
    by (Cases n q) e is = its q is (askable model (not (is_some (event_named s.notes n))) (of_event (event_named s.notes n) (λ event. is_some event.cases)) q q.head false [] e)
    by (Key n key rule (Answers q)) e is = its q is
        (askable model (not (is_some (event_named s.notes n))) (of_event (event_named s.notes n) (has_key key)) q (take 1 q.head) (is_bad_key key rule (value_side (class_named model) (link_named model) q)) ((EventKeys, keys_in (event_named s.notes n) + 1) ∷ []) e)
    by (Key n key rule (Is k text)) e is = cc
    by (Query n q) e is = its q is (askable model false (is_taken s.notes n) q [] false ((Queries, length s.notes.queries + 1) ∷ []) e)

-- no line asks nothing
pub none_askable : AreAskable nothing.notes
none_askable = record { case_query = if_none IsAskable; case_name = if_none IsAskable; events = λ event m. elim m [ ]; queries = λ named m. elim m [ ] }

-- what a line leaves
pub read_askable : (model : Known) (number : ℕ) (s : Noted) → AreAskable s.notes → (line : Line) (r : Result (Unit {0}) LineFault) (new : Noted) → OnOk r (read_as model number s line ≡ Ok new) → OnOk r (AreAskable new.notes)
read_askable model number s all line r new read = read_each IsAskable model number s all line (own_askable model s line) r new read

pub read_within : (model : Known) (number : ℕ) (s : Noted) → AreAskedWithin (length model.classes) (length model.links) s.notes → (line : Line) (r : Result (Unit {0}) LineFault) (new : Noted) → OnOk r (read_as model number s line ≡ Ok new) → OnOk r (AreAskedWithin (length model.classes) (length model.links) new.notes)
read_within model number s all line r new read = read_each (IsQueryWithin (length model.classes) (length model.links)) model number s all line (λ e q is. query_within model q) r new read
