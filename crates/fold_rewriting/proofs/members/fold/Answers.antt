-- By `Working` and `Shaping`.
use Rattle.std.proofs.Common.{sym, subst}
use Rattle.vocabulary.specs.Lists.{In}
use Rattle.fold_rewriting.specs.Listing.{GiveCertain}
use Rattle.fold_rewriting.proofs.Shaping.{list_certain, folds_shape}
use Rattle.fold_rewriting.proofs.Working.{not_wide}
use Rattle.fold_rewriting.proofs.members.fold.Goals as goal

pub returns-clause-narrow : goal.returns-clause-narrow
returns-clause-narrow c = not_wide c.args.downs.now.axioms c.args.query.now c.in_ok-found.found.items c.in_ok-found.ensures.members c.in_ok-found.ensures.small

pub returns-clause-answers : goal.returns-clause-answers
returns-clause-answers c =
    subst (GiveCertain c.args.downs.now.axioms c.args.query.now) (sym c.from_vec.ensures) (list_certain c.args.downs.now.axioms c.args.query.now c.in_ok-found.found.items c.in_ok-found.ensures.members)

pub returns-clause-shape : goal.returns-clause-shape
returns-clause-shape c m k = folds_shape c.args.downs.now.axioms c.args.query.now m (c.in_ok-found.ensures.members.each m (subst (In m) c.from_vec.ensures k))
