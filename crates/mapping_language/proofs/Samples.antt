-- What some source lines and mapping lines say, computed.
use Rattle.std.proofs.Common.{◌≡◌, refl, ℕ, List, [], ◌∷◌, ◌++◌, Option, Some, None, Result, Ok, Err, codes, map, pos, neg_ℤ, if◌then◌else◌}
use Rattle.std.specs.Str.{bytes_eq, chars}
use Rattle.std.specs.Fmt.{digits}
use Rattle.line_lexer.specs.Tokens.{tokens_behind, token_front}
use Rattle.line_lexer.specs.declared.fault.LineFault.{LineFault}
use Rattle.line_lexer.specs.declared.fault.LineFault.TheVariants.{Syntax, Unknown, Double, TypeMismatch, BadTemplate, NotBounded, Limit}
use Rattle.line_lexer.specs.declared.fault.Counted.TheVariants as counted
use Rattle.civil_values.specs.TimeReader.{moment_of}
use Rattle.vocabulary.specs.declared.ids.ClassId.{ClassId}
use Rattle.vocabulary.specs.declared.ids.LinkId.{LinkId}
use Rattle.vocabulary.specs.declared.ids.Side.{Side}
use Rattle.vocabulary.specs.declared.ids.Side.TheVariants.{Object, Value}
use Rattle.vocabulary.specs.declared.ids.ValueKind.TheVariants.{Text, Int, Time}
use Rattle.vocabulary.specs.declared.term.Term.{Value as ValueTerm}
use Rattle.iri_templates.specs.declared.segment.Segment.TheVariants.{Literal, Hole}
use Rattle.iri_templates.specs.Templates.{Segments, template_of}
use Rattle.source_tables.specs.declared.decl.TableDecl.{TableDecl}
use Rattle.source_tables.specs.Tables.{col}
use Rattle.mapping_facts.specs.declared.query.Place.{Place}
use Rattle.mapping_facts.specs.declared.query.Condition.TheVariants.{Equal, EqualText, DifferText, IsNull, NotNull}
use Rattle.mapping_facts.specs.declared.term.RowTerm.TheVariants.{Iri, Cell, Fixed}
use Rattle.mapping_facts.specs.declared.mapping.Target.TheVariants.{InClass, Linked}
use Rattle.mapping_facts.specs.declared.mapping.Mapping.{Mapping}
use Rattle.mapping_language.specs.declared.sources.Sources.{Sources}
use Rattle.line_lexer.specs.Separated.{at_most}
use Rattle.mapping_language.specs.Grammar.{source_line, table_line, column_line, key_line, map_line, condition, target}
use Rattle.line_lexer.specs.Judging.{first_broken}
use Rattle.mapping_language.specs.Tables.{nothing, read_source_line, broken as broken_source, grown as grown_source}
use Rattle.mapping_language.specs.Mappings.{holes, read_mapping_line, broken as broken_mapping, grown as grown_mapping}

-- a table of papers, whose times have the offset +01:00
abbrev paper : TableDecl
paper = record {
  name = codes "paper";
  file = codes "paper.csv";
  offset = pos 60;
  columns = record { name = codes "id"; header = codes "Number"; kind = Int }
      ∷ record { name = codes "title"; header = codes "title"; kind = Text }
      ∷ record { name = codes "made"; header = codes "made"; kind = Time } ∷ [];
  keys = [];
}

abbrev before : Sources
before = record { tables = paper ∷ []; mappings = [] }

abbrev after_tables : List TableDecl → Result Sources LineFault
after_tables tables = Ok (record { tables = tables; mappings = [] })

-- one line of each kind
tables : map (read_source_line nothing) (codes "table paper \"paper.csv\"" ∷ codes "table paper \"paper.csv\" offset \"-01:30\"" ∷ [])
    ≡ after_tables (record { name = codes "paper"; file = codes "paper.csv"; offset = pos 0; columns = []; keys = [] } ∷ [])
    ∷ after_tables (record { name = codes "paper"; file = codes "paper.csv"; offset = neg_ℤ (pos 90); columns = []; keys = [] } ∷ []) ∷ []
unfolding chars tokens_behind token_front source_line table_line broken_source grown_source
tables = refl

columns : map (read_source_line before) (codes "column paper author int" ∷ codes "column paper author int header \"Author of it\"" ∷ [])
    ≡ after_tables (record paper { columns = paper.columns ++ record { name = codes "author"; header = codes "author"; kind = Int } ∷ [] } ∷ [])
    ∷ after_tables (record paper { columns = paper.columns ++ record { name = codes "author"; header = codes "Author of it"; kind = Int } ∷ [] } ∷ []) ∷ []
unfolding chars tokens_behind token_front source_line column_line broken_source grown_source
columns = refl

keys : read_source_line before (codes "key paper (title, id) # no two are alike") ≡ after_tables (record paper { keys = (col 1 ∷ col 0 ∷ []) ∷ [] } ∷ [])
unfolding chars tokens_behind token_front at_most source_line key_line broken_source grown_source
keys = refl

abbrev fault_of : Result Sources LineFault → Option LineFault
fault_of (Ok s) = None
fault_of (Err fault) = Some fault

-- the first fault of source lines
source_faults : map (λ line. fault_of (read_source_line before line)) (
    codes "table paper" ∷ codes "table null \"p.csv\"" ∷ codes "key paper ()" ∷ codes "class A" ∷
    codes "column person id int" ∷ codes "key paper (id, name)" ∷
    codes "table paper \"p.csv\" offset \"soon\"" ∷ codes "column paper id text" ∷ codes "column paper number int header \"Number\"" ∷ codes "column paper new text header \"title\"" ∷
    codes "table person \"p.csv\" offset \"+15:00\"" ∷ codes "key paper (id, id)" ∷ codes " # key" ∷ [])
    ≡ Some Syntax ∷ Some Syntax ∷ Some Syntax ∷ Some Syntax ∷ Some Unknown ∷ Some Unknown ∷ Some Double ∷ Some Double ∷ Some Double ∷ Some Double ∷ Some TypeMismatch ∷ Some TypeMismatch ∷ None ∷ []
unfolding chars tokens_behind token_front at_most source_line table_line column_line key_line broken_source grown_source
source_faults = refl

-- the model: classes Paper and Person, an association writes, an attribute title of texts and one made of times
abbrev class_of : List ℕ → Option ClassId
class_of text = if bytes_eq text (codes "Paper") then Some (record { 0 = 0 }) else (if bytes_eq text (codes "Person") then Some (record { 0 = 1 }) else None)

abbrev link_of : List ℕ → Option (LinkId × Side)
link_of text = if bytes_eq text (codes "writes") then Some (record { 0 = 0 }, Object)
    else (if bytes_eq text (codes "title") then Some (record { 0 = 1 }, Value Text)
    else (if bytes_eq text (codes "made") then Some (record { 0 = 2 }, Value Time) else None))

abbrev maps : List ℕ → Result Sources LineFault
maps line = read_mapping_line class_of link_of before line

abbrev place : ℕ → ℕ → Place
place table column = record { table = table; col = col column }

-- `e:p/{p.id}`
abbrev paper_iri : Segments
paper_iri = record {
  first = Literal (codes "e");
  rest = record { sign = 58; segment = Literal (codes "p") } ∷ record { sign = 47; segment = Hole (codes "p.id") } ∷ [];
}

abbrev with_mapping : Mapping → Result Sources LineFault
with_mapping m = Ok (record { tables = paper ∷ []; mappings = m ∷ [] })

a_mapping : maps (codes "map m from paper p then Paper(iri \"e:p/{p.id}\"), title(iri \"e:p/{p.id}\", p.title)") ≡ with_mapping (record {
  name = codes "m";
  query = record { tables = record { 0 = 0 } ∷ []; conditions = [] };
  targets = InClass (record { 0 = 0 }) (Iri paper_iri (place 0 0 ∷ []))
      ∷ Linked (record { 0 = 1 }) (Iri paper_iri (place 0 0 ∷ [])) (Cell Text (place 0 1)) ∷ [];
})
unfolding chars tokens_behind token_front at_most map_line condition target holes template_of broken_mapping grown_mapping
a_mapping = refl

-- a table twice, all conditions, and a constant; a constant of a condition has the offset of its table, another constant has not
conditions : maps (codes "map m from paper p, paper q where p.id = q.id and p.id <> \"007\" and q.made = \"2024-01-02T03:04\" and p.title is null and q.title is not null then made(iri \"e:p/{p.id}\", \"2024-01-02T03:04\")") ≡ with_mapping (record {
  name = codes "m";
  query = record {
    tables = record { 0 = 0 } ∷ record { 0 = 0 } ∷ [];
    conditions = Equal (place 0 0) (place 1 0) ∷ DifferText (place 0 0) (codes "7") ∷ EqualText (place 1 2) (codes "2024-01-02T02:04:00.000+00:00") ∷ IsNull (place 0 1) ∷ NotNull (place 1 1) ∷ [];
  };
  targets = Linked (record { 0 = 2 }) (Iri paper_iri (place 0 0 ∷ [])) (Fixed (ValueTerm Time (codes "2024-01-02T03:04:00.000+00:00"))) ∷ [];
})
unfolding chars tokens_behind token_front at_most map_line condition target holes template_of moment_of digits broken_mapping grown_mapping
conditions = refl

-- the first fault of mapping lines; each kind stands before the ones behind it
mapping_faults : map (λ line. fault_of (maps line)) (
    codes "map m from paper p then" ∷
    codes "map m from paper p then Paper(p.id, p.id, p.id)" ∷
    codes "map m from person p, paper p then Paper(\"x\")" ∷
    codes "map m from paper p where p.name is null then Paper(iri \"e:p\")" ∷
    codes "map m from paper p then Paper(iri \"e:%zz/{q.id}\")" ∷
    codes "map m from paper p then Author(iri \"e:p\")" ∷
    codes "map m from paper p, paper p then Paper(\"x\")" ∷
    codes "map m from paper p then writes(iri \"e:p\")" ∷
    codes "map m from paper p then title(iri \"e:{\", p.id)" ∷
    codes "map m from paper p where p.id = p.title then Paper(iri \"e:{\")" ∷
    codes "map m from paper p where p.id = \"x\" then Paper(iri \"e:p\")" ∷
    codes "map m from paper p then title(iri \"e:p\", \"\")" ∷
    codes "map m from paper p then Paper(iri \"e:{\"), Paper(iri \"e:x{p.id}\")" ∷
    codes "map m from paper p then Paper(iri \"e:x{p.id}\")" ∷ [])
    ≡ Some Syntax ∷ Some Syntax ∷ Some Unknown ∷ Some Unknown ∷ Some Unknown ∷ Some Unknown ∷ Some Double ∷ Some TypeMismatch ∷ Some TypeMismatch ∷ Some TypeMismatch ∷ Some TypeMismatch ∷ Some TypeMismatch ∷ Some BadTemplate ∷ Some NotBounded ∷ []
unfolding chars tokens_behind token_front at_most map_line condition target holes template_of broken_mapping grown_mapping
mapping_faults = refl

-- a mapping's name is its own, and seven tables are one too many
double_name : fault_of (read_mapping_line class_of link_of (record before { mappings = record { name = codes "m"; query = record { tables = []; conditions = [] }; targets = [] } ∷ [] }) (codes "map m from paper p then Paper(iri \"e:p\")")) ≡ Some Double
unfolding chars tokens_behind token_front at_most map_line condition target holes template_of broken_mapping grown_mapping
double_name = refl

seven_tables : fault_of (maps (codes "map m from paper a, paper b, paper c, paper d, paper e, paper f, paper g then Paper(iri \"e:p\")")) ≡ Some (Limit counted.TablesOfMapping)
unfolding chars tokens_behind token_front at_most map_line condition target holes template_of broken_mapping grown_mapping
seven_tables = refl

-- the numbers that counts may reach and not pass, and their order where a line passes several
limits : map (first_broken []) (
    ((counted.Tables, 64) ∷ []) ∷ ((counted.Tables, 65) ∷ []) ∷ ((counted.Columns, 65) ∷ []) ∷ ((counted.Keys, 8) ∷ []) ∷ ((counted.Keys, 9) ∷ []) ∷
    ((counted.Mappings, 500) ∷ (counted.TablesOfMapping, 6) ∷ (counted.Conditions, 33) ∷ (counted.Targets, 33) ∷ []) ∷
    ((counted.Mappings, 501) ∷ (counted.TablesOfMapping, 7) ∷ (counted.Conditions, 32) ∷ (counted.Targets, 32) ∷ []) ∷ [])
    ≡ None ∷ Some (Limit counted.Tables) ∷ Some (Limit counted.Columns) ∷ None ∷ Some (Limit counted.Keys) ∷ Some (Limit counted.Conditions) ∷ Some (Limit counted.Mappings) ∷ []
limits = refl
