-- An atom at a time.
use Rattle.std.proofs.Common.{refl, string_bytes}
use Rattle.derivation_text.proofs.Lining.{atom_written, nothing_written}
use Rattle.derivation_text.proofs.explaining.push_atoms.Goals as goal

pub loop-at-init : goal.loop-at-init
loop-at-init c = nothing_written (string_bytes c.args.text.now)

pub loop-at-preserved : goal.loop-at-preserved
loop-at-preserved c =
    atom_written c.args.atoms.now c.loop-at.at _ _ (string_bytes c.args.text.now) (string_bytes c.loop-at.text) (string_bytes c.push_atom.new.text)
    c.loop-at-test.true refl c.loop-at.invariant c.in_ok-push_atom.ensures
