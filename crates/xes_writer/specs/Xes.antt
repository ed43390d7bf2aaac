-- The XES text of a log.
use Rattle.std.specs.Prelude.{◌==◌, ℕ, List, [], ◌∷◌, ◌++◌, if◌then◌else◌, codes}
use Rattle.std.specs.List.{flat_map}
use Rattle.vocabulary.specs.declared.ids.Side.{Side}
use Rattle.vocabulary.specs.declared.ids.Side.TheVariants.{Object, Value}
use Rattle.vocabulary.specs.declared.ids.ValueKind.TheVariants.{Text, Int, Bool, Time}
use Rattle.xes_writer.specs.declared.log.Entry.{Entry}
use Rattle.xes_writer.specs.declared.log.EventRow.{EventRow}
use Rattle.xes_writer.specs.declared.log.TraceRow.{TraceRow}
use Rattle.xes_writer.specs.declared.log.Log.{Log}

-- the element of an attribute of this sort: objects and texts are strings
abbrev pub element_name : Side → List ℕ
element_name Object = codes "string"
element_name (Value Text) = codes "string"
element_name (Value Int) = codes "int"
element_name (Value Bool) = codes "boolean"
element_name (Value Time) = codes "date"

-- a byte between double quotes: `&`, `<`, `"`, the tab and the line ends are escaped (XML 1.0, sections 2.4 and 3.3.3)
abbrev pub escaped_byte : ℕ → List ℕ
escaped_byte b = if b == 38 then codes "&amp;" else (if b == 60 then codes "&lt;" else (if b == 34 then codes "&quot;" else (
    if b == 9 then codes "&#9;" else (if b == 10 then codes "&#10;" else (if b == 13 then codes "&#13;" else b ∷ [])))))

unfoldable pub escaped : List ℕ → List ℕ
escaped text = flat_map escaped_byte text

-- the line of an attribute, behind its indent
unfoldable pub entry_text : List ℕ → Entry (List ℕ) → List ℕ
entry_text indent e = indent ++ codes "<" ++ element_name e.side ++ codes " key=\"" ++ escaped e.key ++ codes "\" value=\"" ++ escaped e.value ++ codes "\"/>\n"

unfoldable pub event_text : EventRow (List ℕ) → List ℕ
event_text event = codes "    <event>\n" ++ flat_map (entry_text (codes "      ")) event.entries ++ codes "    </event>\n"

unfoldable pub trace_text : TraceRow (List ℕ) → List ℕ
trace_text trace = codes "  <trace>\n" ++ flat_map (entry_text (codes "    ")) trace.entries ++ flat_map event_text trace.events ++ codes "  </trace>\n"

-- the declaration, the log's opening tag, and the four extensions
unfoldable pub log_front : List ℕ
log_front = codes "<?xml version=\"1.0\" encoding=\"UTF-8\"?>\n<log xes.version=\"1849.2016\" xes.features=\"\">\n  <extension name=\"Concept\" prefix=\"concept\" uri=\"http://www.xes-standard.org/concept.xesext\"/>\n  <extension name=\"Time\" prefix=\"time\" uri=\"http://www.xes-standard.org/time.xesext\"/>\n  <extension name=\"Organizational\" prefix=\"org\" uri=\"http://www.xes-standard.org/org.xesext\"/>\n  <extension name=\"Lifecycle\" prefix=\"lifecycle\" uri=\"http://www.xes-standard.org/lifecycle.xesext\"/>\n"

-- the text of a log of texts
unfoldable pub xes_text : Log (List ℕ) → List ℕ
xes_text log = log_front ++ flat_map trace_text log.traces ++ codes "</log>\n"
