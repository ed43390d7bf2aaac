-- What a line of the grammar gives over a model.
use Rattle.std.specs.Prelude.{ℕ, Option, Some, None, Result, Ok, Err}
use Rattle.line_lexer.specs.Judging.{unless}
use Rattle.line_lexer.specs.declared.fault.LineFault.{LineFault}
use Rattle.line_lexer.specs.declared.fault.LineFault.TheVariants.{NoCase, NoCases, NoTime, NoActivity}
use Rattle.uml_model.specs.Rules.{Known, class_named, link_named}
use Rattle.annotation_language.specs.declared.resolved.Resolved.{Resolved}
use Rattle.annotation_language.specs.declared.rules.Asks.{Asks}
use Rattle.annotation_language.specs.Written.{Line}
use Rattle.annotation_language.specs.Complete.{Lack, Case, Cases, Time, Activity}
use Rattle.annotation_language.specs.Lines.{Noted, broken_query, broken, grown}
use Rattle.annotation_language.specs.Shown.{shown_query}
use Rattle.annotation_language.specs.Resolved.{texts}

-- the first rule that a line with this query breaks, which asks this
abbrev pub broken_as : Known → Resolved → Asks → Option LineFault
broken_as model r asks = broken_query (class_named model) (link_named model) asks.missing asks.double (shown_query r.query.now) (texts asks.objects.now) asks.bad_key asks.others.now

-- the annotations with a line, the line of this number, or its first fault
abbrev pub read_as : Known → ℕ → Noted → Line → Result Noted LineFault
read_as model number s line = unless (broken (class_named model) (link_named model) s line) (grown (class_named model) (link_named model) number s line)

-- what is lacking, as a fault of a line; 0 where no line is to blame
abbrev pub fault_of : Lack → ℕ × LineFault
fault_of Case = (0, NoCase)
fault_of (Cases line) = (line, NoCases)
fault_of (Time line) = (line, NoTime)
fault_of (Activity line) = (line, NoActivity)

-- the fault of what is lacking
abbrev pub completed : Option Lack → Result (Unit {0}) (ℕ × LineFault)
completed None = Ok tt
completed (Some lack) = Err (fault_of lack)
