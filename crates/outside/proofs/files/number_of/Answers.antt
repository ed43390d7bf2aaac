use Rattle.std.proofs.Common.{◌≡◌, ◌∙◌, true, arith}
use Rattle.std.specs.Str.{bytes_eq}
use Rattle.outside.proofs.Current.{found_here}
use Rattle.outside.proofs.files.number_of.Goals as goal

pub returns-then-eq-clause-bytes : goal.returns-then-eq-clause-bytes
returns-then-eq-clause-bytes c =
    let file = c.index-files-number.result in
    let here : bytes_eq file.0 c.args.name.now ≡ true = cc in
    found_here c.args.files.now c.args.name.now c.loop-number.number file (omega arith) (rw c.index-files-number.is at here) ∙ c.loop-number.invariant
