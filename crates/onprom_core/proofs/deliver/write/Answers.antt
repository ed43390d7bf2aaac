use Rattle.onprom_core.proofs.Texts.{log_has_text}
use Rattle.onprom_core.proofs.deliver.write.Goals as goal

pub returns-in-Log-clause-nothing : goal.returns-in-Log-clause-nothing
returns-in-Log-clause-nothing g c = λ none failed. log_has_text c.in-Log.log (rw c.in-Log.is at none)
