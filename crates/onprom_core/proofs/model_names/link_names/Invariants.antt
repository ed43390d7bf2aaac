use Rattle.std.proofs.Common.{◌≡◌, take}
use Rattle.onprom_core.proofs.model_names.link_names.Given as goal

abbrev pub invariant-loop-link : goal.invariant-loop-link
invariant-loop-link l = l.names ≡ take l.link l.model.links
