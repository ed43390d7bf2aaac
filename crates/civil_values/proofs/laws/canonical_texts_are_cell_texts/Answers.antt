use Rattle.civil_values.proofs.CellTexts.{time_cell, int_cell, bool_cell, text_cell}
use Rattle.civil_values.proofs.laws.canonical_texts_are_cell_texts.Goals as goal

pub returns : goal.returns
returns c = record { time = time_cell; int = int_cell; bool = bool_cell; text = text_cell }
