-- The words of `make` and the text of the made project, computed.
use Rattle.std.proofs.Common.{◌≡◌, refl, [], ◌∷◌, Bool, false, true, not, is_some, Result, Ok, Err, codes}
use Rattle.std.specs.Fmt.{digits}
use Rattle.std.specs.Str.{chars, is_utf8}
use Rattle.line_lexer.specs.Separated.{at_most}
use Rattle.line_lexer.specs.Tokens.{tokens_behind, token_front}
use Rattle.uml_model.specs.Lines as model_lines
use Rattle.uml_model.specs.Rules as model_rules
use Rattle.iri_templates.specs.Characters.{is_hole_text}
use Rattle.iri_templates.specs.Templates.{template_of}
use Rattle.mapping_language.specs.Grammar as map_grammar
use Rattle.mapping_language.specs.Mappings as map_mappings
use Rattle.mapping_language.specs.Tables as map_tables
use Rattle.annotation_language.specs.Complete.{lack_of}
use Rattle.annotation_language.specs.Grammar as note_grammar
use Rattle.annotation_language.specs.Lines as note_lines
use Rattle.project_language.specs.Project.{open_lines, read_lines, read_project}
use Rattle.project_language.specs.declared.fault.ProjectFault.{ProjectFault}
use Rattle.project_language.specs.declared.project.Project.{Project}
use Rattle.big_project.specs.Files.{project_file}
use Rattle.onprom_core.specs.Walk.{walk}

-- `make` begins no file
begun : (walk (codes "make" ∷ codes "20" ∷ codes "summary" ∷ []) []).begun ≡ []
unfolding digits walk
begun = refl

-- the text is a project whose annotations lack nothing
abbrev lacks_nothing : Result Project ProjectFault → Bool
lacks_nothing (Ok project) = not (is_some (lack_of project.noted.notes))
lacks_nothing (Err fault) = false

whole : lacks_nothing (read_project project_file) ≡ true
unfolding project_file chars tokens_behind token_front model_lines.model_line model_lines.attr_line model_lines.assoc_line model_lines.multiplicity_at model_rules.is_functional model_rules.broken map_grammar.source_line map_grammar.table_line map_grammar.column_line map_grammar.key_line map_tables.broken map_tables.grown at_most map_grammar.map_line map_grammar.target map_mappings.holes map_mappings.broken map_mappings.grown template_of is_hole_text note_grammar.atom note_grammar.of_any note_grammar.of_one note_grammar.pair note_grammar.of_two note_grammar.key_front note_grammar.key_line note_grammar.annotation_line note_lines.broken note_lines.grown open_lines read_lines read_project is_utf8 lib.Utf8.encode
whole = refl
