-- What is read is well formed.
use Rattle.std.proofs.Common.{◌≤◌, sym, subst, length}
use Rattle.derivation_text.specs.Spelling.{AreWellFormed}
use Rattle.checking_tests.proofs.Named.{some_read, well_read}
use Rattle.checking_tests.proofs.spelled.is_written_again.Goals as goal

pub is_text-requires-clause-some : goal.is_text-requires-clause-some
is_text-requires-clause-some c =
    subst (λ ds. 1 ≤ length ds) (sym c.items.ensures) (some_read c.args.mappings.now c.args.case.now _ c.in-Ok.ensures.read)

pub is_text-requires-clause-well_formed : goal.is_text-requires-clause-well_formed
is_text-requires-clause-well_formed c =
    subst (AreWellFormed (length c.args.mappings.now)) (sym c.items.ensures) (well_read c.args.mappings.now c.args.case.now _ c.in-Ok.ensures.read)
