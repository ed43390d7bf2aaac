-- What is decided, as an ending.
use Rattle.onprom_core.specs.Jobs.{Ending}
use Rattle.onprom_core.specs.Texts.{text_of}
use Rattle.onprom_core.specs.declared.deciding.Decided.{Decided}

abbrev pub shown : Decided → Ending
shown d = record { status = d.status; out = text_of d.text; report = d.line }
