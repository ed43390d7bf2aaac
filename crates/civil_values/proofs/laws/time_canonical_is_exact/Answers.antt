use Rattle.civil_values.proofs.Moments.{moment_sound, moment_complete}
use Rattle.civil_values.proofs.TimeLaws.{canonical_is, canonical_from}
use Rattle.civil_values.proofs.laws.time_canonical_is_exact.Goals as goal

pub returns : goal.returns
returns c = record {
  moment = λ given text m. (moment_sound given text m, moment_complete given text m);
  canonical = λ given text written g. (canonical_is given text written g, λ h. canonical_from given text written h.0 g h.1 h.2);
}
