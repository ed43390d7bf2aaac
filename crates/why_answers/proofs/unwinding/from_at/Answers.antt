-- By `Unwound`.
use Rattle.std.proofs.Common.{◌∙◌, ap, sym}
use Rattle.why_answers.proofs.Unwound.{place_is}
use Rattle.why_answers.proofs.unwinding.from_at.Goals as goal

pub returns : goal.returns
returns c n is = ap (λ m. m.from) (sym c.index-nodes-at.is ∙ place_is c.args.nodes.now c.args.at c.index-nodes-at.result n c.requires c.index-nodes-at.is is)
