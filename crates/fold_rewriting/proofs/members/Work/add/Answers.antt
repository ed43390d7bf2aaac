-- By `Adding`.
use Rattle.std.proofs.Common.{◌≡◌, ◌≢◌, subst, length, arith}
use Rattle.vocabulary.specs.Lists.{In}
use Rattle.perfect_rewriting.specs.Listing.{IsGap}
use Rattle.perfect_rewriting.proofs.Adding.{added_none, added_one, overflows_one}
use Rattle.fold_rewriting.proofs.members.Work.add.Goals as goal

pub returns-in-Ok-clause-added : goal.returns-in-Ok-clause-added
returns-in-Ok-clause-added c =
    let work = c.args.self.now in
    added_none work.found.items work.pending.items c.args.query c.requires.sorted c.requires.small (subst (In c.args.query) c.as_slice.ensures.value c.in-Ok.ensures.there)

pub returns-then-len-eq-MOST-clause-wide : goal.returns-then-len-eq-MOST-clause-wide
returns-then-len-eq-MOST-clause-wide c wide =
    let found = c.args.self.now.found in
    let full : length found.items ≡ 4000 = omega (arith, c.if-len-eq-MOST.true, c.len.ensures, found.ok.0) in
    overflows_one found.items c.args.query c.in-Err.at (subst (λ xs. IsGap xs c.args.query c.in-Err.at) c.as_slice.ensures.value c.in-Err.ensures.gap) full

pub returns-in_ok-insert-in-Err-clause-added : goal.returns-in_ok-insert-in-Err-clause-added
returns-in_ok-insert-in-Err-clause-added c =
    let work = c.args.self.now in
    let gap = subst (λ xs. IsGap xs c.args.query c.in-Err.at) c.as_slice.ensures.value c.in-Err.ensures.gap in
    let room : length work.found.items ≢ 4000 = λ full. c.if-len-eq-MOST.false (omega (arith, full, c.len.ensures, work.found.ok.0)) in
    added_one work.found.items work.pending.items c.insert.new.self.items c.push.new.self.items c.args.query c.in_ok-copy-in-Err.field-0 c.in-Err.at gap c.requires.small room
    c.in_ok-insert-in-Err.ensures.items c.in_ok-copy-in-Err.ensures c.in_ok-push-in-Err.ensures.items
