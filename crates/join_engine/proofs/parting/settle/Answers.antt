use Rattle.std.proofs.Common.{◌∙◌, sym}
use Rattle.std.proofs.lemmas.Result.{IfOk-weaker}
use Rattle.join_engine.proofs.Parts.{settled}
use Rattle.join_engine.proofs.parting.settle.Goals as goal

pub returns : goal.returns
returns c =
    IfOk-weaker c.find_front.result _ _
    (λ found is. settled found c.args.tables.now c.args.query.now c.args.end c.args.front.now.items c.find_front.new.front.items c.requires.fits c.requires.free (sym c.is_part.ensures ∙ c.if-not-is_part.false) c.requires.end is)
    c.find_front.ensures
