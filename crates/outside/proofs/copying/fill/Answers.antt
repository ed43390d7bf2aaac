use borrow.Rule.Slice.PartMut.{post_of}
use Rattle.std.proofs.Common.{◌∙◌, ◌-◌, ◌++◌, ap, length, take, arith}
use Rattle.outside.proofs.Rooms.{front_grows}
use Rattle.outside.proofs.copying.fill.Goals as goal

pub returns-clause-filled : goal.returns-clause-filled
returns-clause-filled c =
    let room = c.args.room.now in
    front_grows room c.copy_front.new.to (post_of c.args.len (length room - c.args.len) room) c.args.len c.copy_front.result c.requires (omega arith)
    ∙ ap (λ t. take c.args.len room ++ t) c.copy_front.ensures.copied
