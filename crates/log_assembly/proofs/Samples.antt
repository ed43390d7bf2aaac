-- Reports of small logs.
use Rattle.std.proofs.Common.{◌≡◌, refl, ℕ, List, [], ◌∷◌, None, codes}
use Rattle.std.specs.Fmt.{digits}
use Rattle.queries.specs.declared.query.Query.{Query}
use Rattle.xes_writer.specs.declared.log.EventRow.{EventRow}
use Rattle.xes_writer.specs.declared.log.Log.{Log}
use Rattle.annotation_language.specs.declared.notes.EventNote.{EventNote}
use Rattle.log_assembly.specs.declared.verdict.Why.TheVariants.{NoCase, NoValue, SeveralValues}
use Rattle.log_assembly.specs.declared.verdict.Verdict.TheVariants.{Kept, Left}
use Rattle.log_assembly.specs.declared.verdict.Verdict.{Verdict}
use Rattle.log_assembly.specs.declared.verdict.Judgement.{Judgement}
use Rattle.log_assembly.specs.TheReport.{case_line, counts_line, dropped_line, event_name, left_line, report_text}

abbrev no_query : Query
no_query = record { head = []; atoms = [] }

abbrev event : List ℕ → EventNote
event name = record { name = name; line = 0; objects = no_query; cases = None; keys = [] }

abbrev row : EventRow (List ℕ)
row = record { entries = [] }

abbrev said : List ℕ → Verdict → Judgement
said o verdict = record { object = o; verdict = verdict }

-- two traces with two events each
abbrev two_traces : Log (List ℕ)
two_traces = record { traces = record { entries = []; events = row ∷ row ∷ [] } ∷ record { entries = []; events = row ∷ row ∷ [] } ∷ [] }

conference : report_text (event (codes "submit") ∷ event (codes "review") ∷ []) two_traces [] (
    (said (codes "http://conf.org/paper/1") (Kept []) ∷ said (codes "http://conf.org/paper/2") (Kept []) ∷ []) ∷
    (said (codes "http://conf.org/review/r1") (Kept []) ∷ said (codes "http://conf.org/review/r2") (Left (NoValue (codes "time:timestamp"))) ∷ said (codes "http://conf.org/review/r3") (Kept []) ∷ []) ∷ [])
    ≡ codes "traces 2 events 4 left out 1\nleft out: review <http://conf.org/review/r2>: none time:timestamp\n"
unfolding event_name dropped_line left_line case_line counts_line digits
conference = refl

-- a case with several names, a dropped key, and the other reasons
other_lines : report_text (event (codes "submit") ∷ []) (record { traces = [] }) (codes "c" ∷ []) (
    (said (codes "p1") (Kept (codes "note" ∷ [])) ∷ said (codes "p2") (Left NoCase) ∷ said (codes "p3") (Left (SeveralValues (codes "time:timestamp"))) ∷ []) ∷ [])
    ≡ codes "traces 0 events 0 left out 2\nseveral: case <c> concept:name\nseveral: submit <p1> note\nleft out: submit <p2>: no case\nleft out: submit <p3>: several time:timestamp\n"
unfolding event_name dropped_line left_line case_line counts_line digits
other_lines = refl
