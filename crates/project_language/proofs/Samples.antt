-- The first faults of small projects, computed.
use Rattle.std.proofs.Common.{◌≡◌, refl, ℕ, List, [], ◌∷◌, ◌++◌, Option, Some, None, Result, Ok, Err, codes, map}
use Rattle.std.specs.Str.{chars, is_utf8}
use Rattle.std.specs.Str.Lossy.{utf8_valid_len}
use Rattle.line_lexer.specs.Separated.{at_most}
use Rattle.line_lexer.specs.Tokens.{tokens_behind, token_front}
use Rattle.line_lexer.specs.declared.fault.LineFault.TheVariants.{Syntax, Unknown, Double, NotBounded, MixedSort, HeadUnbound}
use Rattle.iri_templates.specs.Templates.{template_of}
use Rattle.uml_model.specs.Lines as model_lines
use Rattle.uml_model.specs.Rules as model_rules
use Rattle.mapping_language.specs.Grammar as map_grammar
use Rattle.mapping_language.specs.Tables as map_tables
use Rattle.mapping_language.specs.Mappings as map_mappings
use Rattle.annotation_language.specs.Grammar as note_grammar
use Rattle.annotation_language.specs.Lines as note_lines
use Rattle.project_language.specs.declared.project.Project.{Project}
use Rattle.project_language.specs.declared.fault.ProjectFault.{ProjectFault as Fault}
use Rattle.project_language.specs.declared.fault.ProjectFault.TheVariants.{NotUtf8, Line}
use Rattle.owl_functional.specs.declared.ontology.Ontology.{Ontology}
use Rattle.project_language.specs.Project.{name_lines, name_text, ontology_file, open_lines, read_lines, read_project, read_project_over}

abbrev fault_of : Result Project Fault → Option Fault
fault_of (Ok p) = None
fault_of (Err fault) = Some fault

abbrev faults : List (List ℕ) → List (Option Fault)
faults texts = map (λ text. fault_of (read_project text)) texts

-- the first line with tokens is `onprom 1`, which comes once; a name twice, and one that is not there
openings : faults (codes "" ∷ codes "# nothing\n\n" ∷ codes "\nclass A\nonprom 1" ∷ codes "onprom 1\n\nonprom 1" ∷ codes "onprom 1\nclass A\nclass A\n" ∷ codes "onprom 1\n\nsub A Zed" ∷ codes "onprom 1\r\nclass A # said" ∷ [])
    ≡ Some (Line 1 Syntax) ∷ Some (Line 1 Syntax) ∷ Some (Line 2 Syntax) ∷ Some (Line 3 Double) ∷ Some (Line 3 Double) ∷ Some (Line 3 Unknown) ∷ None ∷ []
unfolding chars tokens_behind token_front model_lines.model_line model_rules.broken open_lines read_lines read_project is_utf8 lib.Utf8.encode
openings = refl

-- a project with one line more
abbrev papers : List ℕ → List ℕ
papers line = codes "onprom 1\ntable paper \"paper.csv\"\ncolumn paper id int\nclass Paper\nattr Paper submittedAt time *\n" ++ line

added : faults (map papers (codes "map w from paper p then Paper(iri \"http://e/p{p.id}\")" ∷ codes "query q (x) where submittedAt(y, x), Paper(x)" ∷ codes "query q (z) where Paper(x)" ∷ codes "query q (x) where Paper(x" ∷ codes "query q (x) where Paper(x)\n" ∷ []))
    ≡ Some (Line 6 NotBounded) ∷ Some (Line 6 MixedSort) ∷ Some (Line 6 HeadUnbound) ∷ Some (Line 6 Syntax) ∷ None ∷ []
unfolding chars tokens_behind token_front model_lines.model_line model_lines.attr_line model_lines.multiplicity_at model_rules.broken map_grammar.source_line map_grammar.table_line map_grammar.column_line map_tables.broken map_tables.grown at_most map_grammar.map_line map_grammar.target map_mappings.holes map_mappings.broken map_mappings.grown template_of note_grammar.atom note_grammar.of_any note_grammar.annotation_line note_lines.broken note_lines.grown open_lines read_lines read_project is_utf8 lib.Utf8.encode
added = refl

-- a byte FF in line 2
not_utf8 : fault_of (read_project (codes "onprom 1\n\"" ++ 0xFF ∷ [])) ≡ Some (NotUtf8 2)
unfolding read_project utf8_valid_len is_utf8 chars lib.Utf8.encode
not_utf8 = refl

-- lines that state constraints are judged as all others
constrained : faults (map papers (codes "disjoint Paper Zed" ∷ codes "assoc p Paper 0..1 -> Paper *" ∷ codes "attr Paper t text 1..1" ∷ codes "disjoint Paper" ∷ codes "identify Paper (submittedAt)" ∷ []))
    ≡ Some (Line 6 Unknown) ∷ None ∷ None ∷ Some (Line 6 Syntax) ∷ None ∷ []
unfolding chars tokens_behind token_front model_lines.model_line model_lines.attr_line model_lines.assoc_line model_lines.multiplicity_at model_lines.identify_line at_most model_rules.is_functional model_rules.broken map_grammar.source_line map_grammar.table_line map_grammar.column_line map_tables.broken map_tables.grown open_lines read_lines read_project is_utf8 lib.Utf8.encode
constrained = refl

-- the file of the second line with tokens, behind `onprom 1`
ontologies : map ontology_file (codes "onprom 1\nontology \"m.ofn\"\nclass A" ∷ codes "\nonprom 1\n# none\n\nontology \"m.ofn\"" ∷ codes "onprom 1\nclass A\nontology \"m.ofn\"" ∷ codes "onprom 1\nontology m" ∷ codes "ontology \"m.ofn\"" ∷ codes "onprom 1\n" ∷ [])
    ≡ Some (codes "m.ofn") ∷ Some (codes "m.ofn") ∷ None ∷ None ∷ None ∷ None ∷ []
unfolding chars tokens_behind token_front open_lines name_lines name_text is_utf8 lib.Utf8.encode
ontologies = refl

-- what a class `A` is given by
abbrev one_class : Ontology
one_class = record { classes = codes "A" ∷ []; links = []; sides = []; tbox = record { axioms = []; constraints = [] } }

abbrev over : List ℕ → Option Fault
over lines = fault_of (read_project_over (codes "onprom 1\nontology \"m\"\n" ++ lines) one_class)

-- its names are declared, and no line is a model line
over_ontologies : map over (codes "query q (x) where A(x)" ∷ codes "query q (x) where B(x)" ∷ codes "class B" ∷ codes "ontology \"m\"" ∷ codes "onprom 1" ∷ [])
    ≡ None ∷ Some (Line 3 Unknown) ∷ Some (Line 3 Syntax) ∷ Some (Line 3 Syntax) ∷ Some (Line 3 Double) ∷ []
unfolding chars tokens_behind token_front model_lines.model_line note_grammar.atom note_grammar.of_any note_grammar.annotation_line note_lines.broken note_lines.grown at_most open_lines name_lines name_text read_lines read_project_over is_utf8 lib.Utf8.encode
over_ontologies = refl
