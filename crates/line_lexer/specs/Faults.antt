-- The printed names of what is counted and of faults, and the limits.
use Rattle.std.specs.Prelude.{ℕ, List, codes}
use Rattle.line_lexer.specs.declared.fault.Counted.{Counted}
use Rattle.line_lexer.specs.declared.fault.Counted.TheVariants.{File, TablesTogether, Lines, Tables, Columns, Keys, Rows, Classes, Links, Axioms, Constraints, Mappings, TablesOfMapping, Conditions, Targets, Atoms, Variables, Events, EventKeys, Queries, Rewriting, Steps, IdentifyingAttributes}
use Rattle.line_lexer.specs.declared.fault.LineFault.{LineFault}
use Rattle.line_lexer.specs.declared.fault.LineFault.TheVariants.{Syntax, Unknown, Double, TypeMismatch, BadTemplate, NotBounded, MixedSort, HeadUnbound, BadKey, NoCase, NoCases, NoTime, NoActivity, FunctionalSpecialised, Limit, NoMemory}

-- what is counted, as `limit: NAME` prints it
abbrev pub name_of : Counted → List ℕ
name_of File = codes "file"
name_of TablesTogether = codes "tables together"
name_of Lines = codes "lines"
name_of Tables = codes "tables"
name_of Columns = codes "columns"
name_of Keys = codes "keys"
name_of Rows = codes "rows"
name_of Classes = codes "classes"
name_of Links = codes "links"
name_of Axioms = codes "axioms"
name_of Constraints = codes "constraints"
name_of Mappings = codes "mappings"
name_of TablesOfMapping = codes "tables of a mapping"
name_of Conditions = codes "conditions"
name_of Targets = codes "targets"
name_of Atoms = codes "atoms"
name_of Variables = codes "variables"
name_of Events = codes "events"
name_of EventKeys = codes "event keys"
name_of Queries = codes "queries"
name_of Rewriting = codes "rewriting"
name_of Steps = codes "steps"
name_of IdentifyingAttributes = codes "identifying attributes"

-- the number that a count may reach and not pass: bytes for the first two, else pieces
abbrev pub limit_of : Counted → ℕ
limit_of File = 67_108_864
limit_of TablesTogether = 268_435_456
limit_of Lines = 20_000
limit_of Tables = 64
limit_of Columns = 64
limit_of Keys = 8
limit_of Rows = 1_000_000
limit_of Classes = 400
limit_of Links = 600
limit_of Axioms = 6_000
limit_of Constraints = 3_000
limit_of Mappings = 500
limit_of TablesOfMapping = 6
limit_of Conditions = 32
limit_of Targets = 32
limit_of Atoms = 16
limit_of Variables = 16
limit_of Events = 64
limit_of EventKeys = 64
limit_of Queries = 256
limit_of Rewriting = 4_000
limit_of Steps = 8_000
limit_of IdentifyingAttributes = 3

-- the fault of a line, as `refused: P line L: KIND` prints it
abbrev pub kind_of : LineFault → List ℕ
kind_of Syntax = codes "Syntax"
kind_of Unknown = codes "Unknown"
kind_of Double = codes "Double"
kind_of TypeMismatch = codes "TypeMismatch"
kind_of BadTemplate = codes "BadTemplate"
kind_of NotBounded = codes "NotBounded"
kind_of MixedSort = codes "MixedSort"
kind_of HeadUnbound = codes "HeadUnbound"
kind_of BadKey = codes "BadKey"
kind_of NoCase = codes "NoCase"
kind_of NoCases = codes "NoCases"
kind_of NoTime = codes "NoTime"
kind_of NoActivity = codes "NoActivity"
kind_of FunctionalSpecialised = codes "FunctionalSpecialised"
kind_of (Limit what) = codes "Limit"
kind_of NoMemory = codes "NoMemory"
