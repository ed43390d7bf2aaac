-- By `Marked`.
use Rattle.std.proofs.Common.{sym, subst, ◌<◌, ◌-◌, length}
use Rattle.negative_closure.specs.declared.source.Source.TheVariants.{One}
use Rattle.negative_closure.specs.Sources.{IsSource}
use Rattle.model_lint.specs.Marks.{basic_of}
use Rattle.model_lint.proofs.Marked.{marked_at, place_of_number, unmarked}
use Rattle.model_lint.proofs.Renaming.{item_in}
use Rattle.model_lint.proofs.finding.proof_of.Goals as goal

pub returns-in_default : goal.returns-in_default
returns-in_default c = unmarked c.args.tbox.now c.args.marks.now c.requires.marks c.args.what (rw c.basic_of.ensures at c.in_default.ensures)

pub overflow_sub-constraint : goal.overflow_sub-constraint
overflow_sub-constraint c =
    let is = ((c.requires.marks (c.basic_of.result, c.in-Some.number)).0 c.in-Some.ensures).1 in
    (place_of_number c.args.tbox.now.constraints c.in-Some.number is.0 is.1).0

pub bounds-constraints-number : goal.bounds-constraints-number
bounds-constraints-number c =
    let is = ((c.requires.marks (c.basic_of.result, c.in-Some.number)).0 c.in-Some.ensures).1 in
    subst (λ xs. c.in-Some.number - 1 < length xs) (sym c.constraints.ensures) (place_of_number c.args.tbox.now.constraints c.in-Some.number is.0 is.1).1

pub proof_by-requires-clause-within : goal.proof_by-requires-clause-within
proof_by-requires-clause-within c =
    let is = ((c.requires.marks (c.basic_of.result, c.in-Some.number)).0 c.in-Some.ensures).1 in
    let at = marked_at c.args.tbox.now.axioms c.args.tbox.now.constraints c.constraints.result.now (c.basic_of.result, c.in-Some.number) c.index-constraints-number.result is c.constraints.ensures c.index-constraints-number.is in
    c.requires.within c.index-constraints-number.result (item_in c.args.tbox.now.constraints c.in-Some.number at.0)

pub proof_by-requires-clause-source : goal.proof_by-requires-clause-source
proof_by-requires-clause-source c =
    let is = ((c.requires.marks (c.basic_of.result, c.in-Some.number)).0 c.in-Some.ensures).1 in
    let at = marked_at c.args.tbox.now.axioms c.args.tbox.now.constraints c.constraints.result.now (c.basic_of.result, c.in-Some.number) c.index-constraints-number.result is c.constraints.ensures c.index-constraints-number.is in
    subst (λ a. IsSource a c.index-constraints-number.result (One (basic_of c.args.what))) (sym c.requires.axioms) (rw c.basic_of.ensures at at.1)

pub returns : goal.returns
returns c =
    let is = ((c.requires.marks (c.basic_of.result, c.in-Some.number)).0 c.in-Some.ensures).1 in
    let at = marked_at c.args.tbox.now.axioms c.args.tbox.now.constraints c.constraints.result.now (c.basic_of.result, c.in-Some.number) c.index-constraints-number.result is c.constraints.ensures c.index-constraints-number.is in
    c.in_ok-proof.ensures c.args.tbox.now (sym c.requires.axioms) at.0
