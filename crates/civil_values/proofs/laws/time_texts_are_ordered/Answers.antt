use Rattle.civil_values.proofs.TimeLaws.{one_text}
use Rattle.civil_values.proofs.TimeOrder.{one_instant, time_order}
use Rattle.civil_values.proofs.laws.time_texts_are_ordered.Goals as goal

pub returns : goal.returns
returns c = record { one_text = one_text; one_instant = one_instant; order = time_order }
