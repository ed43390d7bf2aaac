-- The log of one case with one event, over answers that are given.
use Rattle.std.proofs.Common.{◌≡◌, ℕ, zero, suc, List, [], ◌∷◌, refl, sym, inl, inr, subst, Some, None, codes}
use Rattle.std.specs.Prelude.{slice_get}
use Rattle.std.specs.List.Sorted.{IsStrictlySortedBy}
use Rattle.vocabulary.specs.declared.ids.Side.TheVariants.{Object, Value as OfKind}
use Rattle.vocabulary.specs.declared.ids.ValueKind.TheVariants.{Text, Time}
use Rattle.vocabulary.specs.declared.term.Term.{Named, Value}
use Rattle.vocabulary.specs.Lists.{In, here, there}
use Rattle.queries.specs.declared.query.Query.{Query}
use Rattle.xes_writer.specs.declared.log.Log.{Log}
use Rattle.annotation_language.specs.declared.notes.Rule.TheVariants.{Mandatory}
use Rattle.annotation_language.specs.declared.notes.KeySource.TheVariants.{Fixed}
use Rattle.annotation_language.specs.declared.notes.KeyNote.{KeyNote}
use Rattle.annotation_language.specs.declared.notes.EventNote.{EventNote}
use Rattle.annotation_language.specs.declared.notes.Annotations.{Annotations}
use Rattle.log_assembly.specs.Asked.{Certain, IsOne, IsValue}
use Rattle.log_assembly.specs.TheLog.{Moment, IsKept, IsLog, IsMet, IsMoment}

-- the answers of every query are `<a>` and `<a> <a>`
abbrev only_a : Certain
only_a query tuple = In tuple ((Named (codes "a") ∷ []) ∷ (Named (codes "a") ∷ Named (codes "a") ∷ []) ∷ [])

abbrev no_query : Query
no_query = record { head = []; atoms = [] }

abbrev at_midnight : List ℕ
at_midnight = codes "2024-01-01T00:00:00.000+00:00"

abbrev time_key : KeyNote
time_key = record { key = codes "time:timestamp"; rule = Mandatory; source = Fixed Time at_midnight }

abbrev visit : EventNote
visit = record { name = codes "visit"; line = 7; objects = no_query; cases = Some no_query; keys = time_key ∷ [] }

abbrev notes : Annotations
notes = record { case_query = Some no_query; case_name = None; events = visit ∷ []; queries = [] }

abbrev log : Log (List ℕ)
log = record {
  traces = record {
    entries = record { key = codes "object"; side = Object; value = codes "a" } ∷ record { key = codes "concept:name"; side = OfKind Text; value = codes "a" } ∷ [];
    events = record { entries = record { key = codes "object"; side = Object; value = codes "a" } ∷ record { key = codes "time:timestamp"; side = OfKind Time; value = at_midnight } ∷ [] } ∷ [];
  } ∷ [];
}

one_is_a : (c : List ℕ) → only_a no_query (Named c ∷ []) → c ≡ codes "a"
one_is_a c (here e) = cc
one_is_a c (there (here e)) = cc
one_is_a c (there (there m)) = elim m [ ]

one_midnight : IsOne (IsValue only_a time_key (codes "a")) (Value Time at_midnight)
one_midnight = (refl, λ y e. e)

abbrev the_moment : Moment
the_moment = record { instant = at_midnight; object = codes "a"; place = 0 }

met : (key : KeyNote) → In key (time_key ∷ []) → IsMet only_a (codes "a") key
met key (here e) = subst (IsMet only_a (codes "a")) e (λ mandatory. (Value Time at_midnight, one_midnight))
met key (there m) = elim m [ ]

kept : IsKept only_a notes visit (codes "a")
kept = record { object = here refl; case = (codes "a", (there (here refl), here refl)); keys = met }

is_moment : IsMoment only_a notes (codes "a") the_moment
is_moment = record { event = visit; placed = refl; kept = kept; case = (there (here refl), here refl); time = (time_key, here refl, refl, refl) }

value_text : (s t : List ℕ) → Value Time s ≡ Value Time t → s ≡ t
value_text s t e = cc

time_is : (o t : List ℕ) (key : KeyNote) → In key (time_key ∷ []) → IsValue only_a key o (Value Time t) → t ≡ at_midnight
time_is o t key (here e) v = value_text t at_midnight (subst (λ k. IsValue only_a k o (Value Time t)) (sym e) v)
time_is o t key (there m) v = elim m [ ]

no_other_place : (n : ℕ) (event : EventNote) → slice_get (visit ∷ []) n ≡ Some event → (n ≡ 0) × (visit ≡ event)
no_other_place zero event e = (refl, cc)
no_other_place (suc n) event e = cc

only_moment : (m : Moment) → IsMoment only_a notes (codes "a") m → m ≡ the_moment
only_moment m h =
    let p = no_other_place m.place h.event h.placed in
    let object : m.object ≡ codes "a" = one_is_a m.object h.kept.object in
    let instant : m.instant ≡ at_midnight = time_is m.object m.instant h.time.0 (subst (λ e. In h.time.0 e.keys) (sym p.1) h.time.1) h.time.3 in
    let place : m.place ≡ 0 = p.0 in
    λ i. record { instant = instant i; object = object i; place = place i }

a_log : IsLog only_a notes log
unfolding IsStrictlySortedBy
a_log = record {
  cases = codes "a" ∷ [];
  listed = record {
    ordered = (tt, tt);
    each = λ x m. elim m [ here e ↦ subst (λ w. only_a no_query (Named w ∷ [])) e (here refl) | there m ↦ elim m [ ] ];
    all = λ x h. here (sym (one_is_a x h));
  };
  traces = (
    record {
      title = Value Text (codes "a");
      named = inr (inl (λ n h. h), refl);
      entries = refl;
      moments = the_moment ∷ [];
      listed = record {
        ordered = (tt, tt);
        each = λ x m. elim m [ here e ↦ subst (IsMoment only_a notes (codes "a")) e is_moment | there m ↦ elim m [ ] ];
        all = λ x h. here (sym (only_moment x h));
      };
      events = (
        record { event = visit; placed = refl; parts = (record { key = codes "time:timestamp"; side = OfKind Time; value = at_midnight } ∷ []) ∷ []; keys = ((Value Time at_midnight, one_midnight, refl), tt); entries = refl },
        tt,
      );
    },
    tt,
  );
}
