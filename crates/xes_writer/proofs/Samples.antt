-- The text of a log of one trace with one event.
use Rattle.std.proofs.Common.{◌≡◌, refl, List, ℕ, [], ◌∷◌, ◌++◌, codes}
use Rattle.vocabulary.specs.declared.ids.Side.{Side}
use Rattle.vocabulary.specs.declared.ids.Side.TheVariants.{Object, Value}
use Rattle.vocabulary.specs.declared.ids.ValueKind.TheVariants.{Text, Int, Bool, Time}
use Rattle.xes_writer.specs.declared.log.Entry.{Entry}
use Rattle.xes_writer.specs.declared.log.Log.{Log}
use Rattle.xes_writer.specs.Xes.{entry_text, escaped, event_text, log_front, trace_text, xes_text}

abbrev entry : List ℕ → Side → List ℕ → Entry (List ℕ)
entry key side value = record { key = key; side = side; value = value }

abbrev small : Log (List ℕ)
small = record {
  traces = record {
    entries = entry (codes "object") Object (codes "http://e/b") ∷ entry (codes "concept:name") (Value Text) (codes "a < \"b\" & 'c' > d") ∷ [];
    events = record { entries = entry (codes "time:timestamp") (Value Time) (codes "2024-01-02T03:04:05.006+00:00") ∷ entry (codes "n#1") (Value Int) (codes "-7") ∷ entry (codes "x") (Value Bool) (codes "true") ∷ [] } ∷ [];
  } ∷ [];
}

small_text : xes_text small ≡ codes "<?xml version=\"1.0\" encoding=\"UTF-8\"?>\n<log xes.version=\"1849.2016\" xes.features=\"\">\n  <extension name=\"Concept\" prefix=\"concept\" uri=\"http://www.xes-standard.org/concept.xesext\"/>\n  <extension name=\"Time\" prefix=\"time\" uri=\"http://www.xes-standard.org/time.xesext\"/>\n  <extension name=\"Organizational\" prefix=\"org\" uri=\"http://www.xes-standard.org/org.xesext\"/>\n  <extension name=\"Lifecycle\" prefix=\"lifecycle\" uri=\"http://www.xes-standard.org/lifecycle.xesext\"/>\n  <trace>\n    <string key=\"object\" value=\"http://e/b\"/>\n    <string key=\"concept:name\" value=\"a &lt; &quot;b&quot; &amp; 'c' > d\"/>\n    <event>\n      <date key=\"time:timestamp\" value=\"2024-01-02T03:04:05.006+00:00\"/>\n      <int key=\"n#1\" value=\"-7\"/>\n      <boolean key=\"x\" value=\"true\"/>\n    </event>\n  </trace>\n</log>\n"
unfolding xes_text log_front trace_text event_text entry_text escaped
small_text = refl

no_trace : xes_text (record { traces = [] }) ≡ log_front ++ codes "</log>\n"
unfolding xes_text log_front
no_trace = refl

line_ends : escaped (9 ∷ 10 ∷ 13 ∷ []) ≡ codes "&#9;&#10;&#13;"
unfolding escaped
line_ends = refl
