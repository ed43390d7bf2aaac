-- What is written of a text, or of a log.
use Rattle.std.specs.Prelude.{ℕ, List}
use Rattle.xes_writer.specs.Xes.{xes_text}
use Rattle.onprom_core.specs.declared.output.Text.{Text}
use Rattle.onprom_core.specs.declared.output.Text.TheVariants.{Bytes, Log}

abbrev pub text_of : Text → List ℕ
text_of (Bytes bytes) = bytes
text_of (Log log) = xes_text log
