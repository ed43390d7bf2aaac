-- By `Imaged`.
use Rattle.std.proofs.Common.{◌∙◌, ap, ◌++◌}
use Rattle.std.specs.List.{flat_map}
use Rattle.std.proofs.lemmas.Result.{on_ok_weaker}
use Rattle.query_images.specs.Images.{head_at}
use Rattle.query_images.proofs.Imaged.{tuples_gained}
use Rattle.query_images.proofs.collecting.add_row_query.Goals as goal

pub returns : goal.returns
returns c =
    on_ok_weaker c.add_tuples.result
    (λ e. tuples_gained c.args.tables.now c.args.query.now c.in_ok-found.found.tuples c.args.out.now.items c.add_tuples.new.out.items c.in_ok-found.ensures.asked c.in_ok-found.ensures.all
    (e ∙ ap (λ list. c.args.out.now.items ++ flat_map (head_at c.args.tables.now c.args.query.now) list) c.items.ensures))
    c.add_tuples.ensures
