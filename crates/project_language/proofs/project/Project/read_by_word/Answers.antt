-- By the kind of the line.
use Rattle.line_lexer.specs.Tokens.{seen, tokens_of}
use Rattle.project_language.proofs.Keeping.{model_kept_begun}
use Rattle.project_language.proofs.Seeing.{fault_of, of_tables, of_mappings, of_notes, of_model, opening_fault}
use Rattle.project_language.proofs.project.Project.read_by_word.Goals as goal

pub returns-then-is_word-clause-fault : goal.returns-then-is_word-clause-fault
returns-then-is_word-clause-fault c =
    rw c.again.ensures (opening_fault (seen c.args.first.now) c.args.line.now.number c.args.self.now (tokens_of c.args.line.now.text.now) c.requires.begins c.opening.result c.if-is_word.ensures c.opening.ensures.read c.opening.ensures.fault)

pub returns-then-is_of_tables-clause-fault : goal.returns-then-is_of_tables-clause-fault
returns-then-is_of_tables-clause-fault c =
    fault_of _ c.read_source_line.result _ _ (of_tables (seen c.args.first.now) c.args.line.now.number c.args.self.now (tokens_of c.args.line.now.text.now) c.requires.begins c.if-is_word.ensures c.if-is_of_tables.ensures) c.read_source_line.ensures.fault

pub returns-then-is_of_mappings-clause-fault : goal.returns-then-is_of_mappings-clause-fault
returns-then-is_of_mappings-clause-fault c =
    fault_of _ c.read_mapping_line.result _ _ (of_mappings (seen c.args.first.now) c.args.line.now.number c.args.self.now (tokens_of c.args.line.now.text.now) c.requires.begins c.if-is_word.ensures c.if-is_of_tables.ensures c.if-is_of_mappings.ensures) c.read_mapping_line.ensures.fault

pub returns-then-is_of_notes-clause-fault : goal.returns-then-is_of_notes-clause-fault
returns-then-is_of_notes-clause-fault c =
    fault_of _ c.read_annotation_line.result _ _ (of_notes (seen c.args.first.now) c.args.line.now.number c.args.self.now (tokens_of c.args.line.now.text.now) c.requires.begins c.if-is_word.ensures c.if-is_of_tables.ensures c.if-is_of_mappings.ensures c.if-is_of_notes.ensures) c.read_annotation_line.ensures.fault

pub returns-clause-fault : goal.returns-clause-fault
returns-clause-fault c =
    fault_of _ c.read_model_line.result _ _ (of_model (seen c.args.first.now) c.args.line.now.number c.args.self.now (tokens_of c.args.line.now.text.now) c.requires.begins c.if-is_word.ensures c.if-is_of_tables.ensures c.if-is_of_mappings.ensures c.if-is_of_notes.ensures c.if-is_some.ensures) c.read_model_line.ensures.fault

pub returns-clause-sound : goal.returns-clause-sound
returns-clause-sound c =
    model_kept_begun c.read_model_line.result c.args.self.now c.read_model_line.new.model c.args.line.now.text.now (seen c.args.first.now) c.requires.sound c.if-is_some.ensures c.requires.begins
    c.read_model_line.ensures.read (c.read_model_line.ensures.sound c.requires.sound.model)
