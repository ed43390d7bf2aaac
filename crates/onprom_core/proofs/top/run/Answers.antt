use Rattle.onprom_core.specs.Shown.{shown}
use Rattle.onprom_core.proofs.Ends.{ends_from, written_from, reporting_from, early_from, faulted_from, complete_from}
use Rattle.onprom_core.proofs.Headlines.{extracts_from, sound_from}
use Rattle.onprom_core.proofs.Judging.{checks_from, checks_soundly_from, verifies_from, verifies_soundly_from}
use Rattle.onprom_core.proofs.MadeFiles.{makes_from}
use Rattle.onprom_core.proofs.Asking.{answers_from, rewrites_from}
use Rattle.onprom_core.proofs.ModelRuns.{compares_from, compares_soundly_from, lints_from, lints_soundly_from}
use Rattle.onprom_core.proofs.WhyRuns.{explains_from, explains_soundly_from}
use Rattle.onprom_core.proofs.top.run.Goals as goal

pub returns-in-Ok-clause-ends : goal.returns-in-Ok-clause-ends
returns-in-Ok-clause-ends g c =
    ends_from c.args.words.now (g.S.Shelf.held c.args.shelf.now) (g.S.Shelf.faults c.args.shelf.now) (g.S.Shelf.faults c.decide.new.shelf)
    (g.S.Shelf.absences c.args.shelf.now) (g.S.Shelf.absences c.decide.new.shelf) (shown c.in-Ok.decided)
    (g.O.Sink.written c.args.out.now) (g.O.Sink.written c.deliver.new.out) (g.R.Sink.written c.args.report.now) (g.R.Sink.written c.deliver.new.report)
    c.deliver.result c.in-Ok.ensures.decided c.deliver.ensures.delivered

pub returns-in-Ok-clause-written : goal.returns-in-Ok-clause-written
returns-in-Ok-clause-written g c =
    written_from c.args.words.now (g.S.Shelf.held c.args.shelf.now) (g.S.Shelf.faults c.args.shelf.now) (g.S.Shelf.faults c.decide.new.shelf)
    (g.S.Shelf.absences c.args.shelf.now) (g.S.Shelf.absences c.decide.new.shelf) (shown c.in-Ok.decided)
    (g.O.Sink.written c.args.out.now) (g.O.Sink.written c.deliver.new.out) (g.R.Sink.written c.args.report.now) (g.R.Sink.written c.deliver.new.report)
    c.deliver.result c.in-Ok.ensures.decided c.deliver.ensures.delivered c.deliver.ensures.nothing

pub returns-in-Ok-clause-reporting : goal.returns-in-Ok-clause-reporting
returns-in-Ok-clause-reporting g c =
    reporting_from c.args.words.now (g.S.Shelf.held c.args.shelf.now) (g.S.Shelf.faults c.args.shelf.now) (g.S.Shelf.faults c.decide.new.shelf)
    (g.S.Shelf.absences c.args.shelf.now) (g.S.Shelf.absences c.decide.new.shelf) (shown c.in-Ok.decided)
    (g.O.Sink.written c.args.out.now) (g.O.Sink.written c.deliver.new.out) (g.R.Sink.written c.args.report.now) (g.R.Sink.written c.deliver.new.report)
    c.deliver.result c.in-Ok.ensures.decided c.deliver.ensures.delivered

pub returns-in-Ok-clause-early : goal.returns-in-Ok-clause-early
returns-in-Ok-clause-early g c =
    early_from c.args.words.now (g.S.Shelf.held c.args.shelf.now) (g.S.Shelf.faults c.args.shelf.now) (g.S.Shelf.faults c.decide.new.shelf)
    (g.S.Shelf.absences c.args.shelf.now) (g.S.Shelf.absences c.decide.new.shelf) (shown c.in-Ok.decided)
    (g.O.Sink.written c.args.out.now) (g.O.Sink.written c.deliver.new.out) (g.R.Sink.written c.args.report.now) (g.R.Sink.written c.deliver.new.report)
    c.deliver.result c.in-Ok.ensures.decided c.deliver.ensures.delivered

pub returns-in-Ok-clause-faulted : goal.returns-in-Ok-clause-faulted
returns-in-Ok-clause-faulted g c =
    faulted_from c.args.words.now (g.S.Shelf.held c.args.shelf.now) (g.S.Shelf.faults c.args.shelf.now) (g.S.Shelf.faults c.decide.new.shelf)
    (g.S.Shelf.absences c.args.shelf.now) (g.S.Shelf.absences c.decide.new.shelf) (shown c.in-Ok.decided)
    (g.O.Sink.written c.args.out.now) (g.O.Sink.written c.deliver.new.out) (g.R.Sink.written c.args.report.now) (g.R.Sink.written c.deliver.new.report)
    c.deliver.result c.in-Ok.ensures.decided c.deliver.ensures.delivered

pub returns-in-Ok-clause-complete : goal.returns-in-Ok-clause-complete
returns-in-Ok-clause-complete g c =
    complete_from c.args.words.now (g.S.Shelf.held c.args.shelf.now) (g.S.Shelf.faults c.args.shelf.now) (g.S.Shelf.faults c.decide.new.shelf)
    (g.S.Shelf.absences c.args.shelf.now) (g.S.Shelf.absences c.decide.new.shelf) (shown c.in-Ok.decided)
    (g.O.Sink.written c.args.out.now) (g.O.Sink.written c.deliver.new.out) (g.R.Sink.written c.args.report.now) (g.R.Sink.written c.deliver.new.report)
    c.deliver.result c.in-Ok.ensures.decided c.deliver.ensures.delivered
    (g.O.Sink.faults c.args.out.now) (g.O.Sink.faults c.deliver.new.out) (g.R.Sink.faults c.args.report.now) (g.R.Sink.faults c.deliver.new.report)
    c.in-Ok.ensures.counts c.deliver.ensures.write c.deliver.ensures.report

pub returns-in-Ok-clause-headline : goal.returns-in-Ok-clause-headline
returns-in-Ok-clause-headline g c =
    extracts_from c.args.words.now (g.S.Shelf.faults c.args.shelf.now) (g.S.Shelf.faults c.decide.new.shelf)
    (g.O.Sink.faults c.args.out.now) (g.O.Sink.faults c.deliver.new.out) (g.R.Sink.faults c.args.report.now) (g.R.Sink.faults c.deliver.new.report)
    (g.O.Sink.written c.args.out.now) (g.O.Sink.written c.deliver.new.out) (g.R.Sink.written c.args.report.now) (g.R.Sink.written c.deliver.new.report)
    c.deliver.result (g.S.Shelf.held c.args.shelf.now) (returns-in-Ok-clause-ends g c) (returns-in-Ok-clause-complete g c)

pub returns-in-Ok-clause-sound : goal.returns-in-Ok-clause-sound
returns-in-Ok-clause-sound g c =
    sound_from c.args.words.now (g.O.Sink.written c.args.out.now) (g.O.Sink.written c.deliver.new.out) (g.R.Sink.written c.args.report.now) (g.R.Sink.written c.deliver.new.report)
    c.deliver.result (shown c.in-Ok.decided) (g.S.Shelf.held c.args.shelf.now) c.in-Ok.ensures.job c.deliver.ensures.delivered

pub returns-in-Ok-clause-checks : goal.returns-in-Ok-clause-checks
returns-in-Ok-clause-checks g c =
    checks_from c.args.words.now (g.S.Shelf.faults c.args.shelf.now) (g.S.Shelf.faults c.decide.new.shelf)
    (g.O.Sink.faults c.args.out.now) (g.O.Sink.faults c.deliver.new.out) (g.R.Sink.faults c.args.report.now) (g.R.Sink.faults c.deliver.new.report)
    (g.O.Sink.written c.args.out.now) (g.O.Sink.written c.deliver.new.out) (g.R.Sink.written c.args.report.now) (g.R.Sink.written c.deliver.new.report)
    c.deliver.result (g.S.Shelf.held c.args.shelf.now) (returns-in-Ok-clause-ends g c) (returns-in-Ok-clause-complete g c)

pub returns-in-Ok-clause-verifies : goal.returns-in-Ok-clause-verifies
returns-in-Ok-clause-verifies g c =
    verifies_from c.args.words.now (g.S.Shelf.faults c.args.shelf.now) (g.S.Shelf.faults c.decide.new.shelf)
    (g.O.Sink.faults c.args.out.now) (g.O.Sink.faults c.deliver.new.out) (g.R.Sink.faults c.args.report.now) (g.R.Sink.faults c.deliver.new.report)
    (g.O.Sink.written c.args.out.now) (g.O.Sink.written c.deliver.new.out) (g.R.Sink.written c.args.report.now) (g.R.Sink.written c.deliver.new.report)
    c.deliver.result (g.S.Shelf.held c.args.shelf.now) (returns-in-Ok-clause-ends g c) (returns-in-Ok-clause-complete g c)

pub returns-in-Ok-clause-answers : goal.returns-in-Ok-clause-answers
returns-in-Ok-clause-answers g c =
    answers_from c.args.words.now (g.S.Shelf.faults c.args.shelf.now) (g.S.Shelf.faults c.decide.new.shelf)
    (g.O.Sink.faults c.args.out.now) (g.O.Sink.faults c.deliver.new.out) (g.R.Sink.faults c.args.report.now) (g.R.Sink.faults c.deliver.new.report)
    (g.O.Sink.written c.args.out.now) (g.O.Sink.written c.deliver.new.out) (g.R.Sink.written c.args.report.now) (g.R.Sink.written c.deliver.new.report)
    c.deliver.result (g.S.Shelf.held c.args.shelf.now) (returns-in-Ok-clause-ends g c) (returns-in-Ok-clause-complete g c)

pub returns-in-Ok-clause-rewrites : goal.returns-in-Ok-clause-rewrites
returns-in-Ok-clause-rewrites g c =
    rewrites_from c.args.words.now (g.S.Shelf.faults c.args.shelf.now) (g.S.Shelf.faults c.decide.new.shelf)
    (g.O.Sink.faults c.args.out.now) (g.O.Sink.faults c.deliver.new.out) (g.R.Sink.faults c.args.report.now) (g.R.Sink.faults c.deliver.new.report)
    (g.O.Sink.written c.args.out.now) (g.O.Sink.written c.deliver.new.out) (g.R.Sink.written c.args.report.now) (g.R.Sink.written c.deliver.new.report)
    c.deliver.result (g.S.Shelf.held c.args.shelf.now) (returns-in-Ok-clause-ends g c) (returns-in-Ok-clause-complete g c)

pub returns-in-Ok-clause-makes : goal.returns-in-Ok-clause-makes
returns-in-Ok-clause-makes g c =
    makes_from c.args.words.now
    (g.O.Sink.faults c.args.out.now) (g.O.Sink.faults c.deliver.new.out) (g.R.Sink.faults c.args.report.now) (g.R.Sink.faults c.deliver.new.report)
    (g.O.Sink.written c.args.out.now) (g.O.Sink.written c.deliver.new.out) (g.R.Sink.written c.args.report.now) (g.R.Sink.written c.deliver.new.report)
    c.deliver.result (shown c.in-Ok.decided) c.deliver.ensures.delivered c.deliver.ensures.write c.deliver.ensures.report c.in-Ok.ensures.made

pub returns-in-Ok-clause-checks_soundly : goal.returns-in-Ok-clause-checks_soundly
returns-in-Ok-clause-checks_soundly g c =
    checks_soundly_from c.args.words.now (g.O.Sink.written c.args.out.now) (g.O.Sink.written c.deliver.new.out) (g.R.Sink.written c.args.report.now) (g.R.Sink.written c.deliver.new.report)
    c.deliver.result (shown c.in-Ok.decided) (g.S.Shelf.held c.args.shelf.now) c.in-Ok.ensures.job c.deliver.ensures.delivered

pub returns-in-Ok-clause-verifies_soundly : goal.returns-in-Ok-clause-verifies_soundly
returns-in-Ok-clause-verifies_soundly g c =
    verifies_soundly_from c.args.words.now (g.O.Sink.written c.args.out.now) (g.O.Sink.written c.deliver.new.out) (g.R.Sink.written c.args.report.now) (g.R.Sink.written c.deliver.new.report)
    c.deliver.result (shown c.in-Ok.decided) (g.S.Shelf.held c.args.shelf.now) c.in-Ok.ensures.job c.deliver.ensures.delivered

pub returns-in-Ok-clause-lints : goal.returns-in-Ok-clause-lints
returns-in-Ok-clause-lints g c =
    lints_from c.args.words.now (g.S.Shelf.faults c.args.shelf.now) (g.S.Shelf.faults c.decide.new.shelf)
    (g.O.Sink.faults c.args.out.now) (g.O.Sink.faults c.deliver.new.out) (g.R.Sink.faults c.args.report.now) (g.R.Sink.faults c.deliver.new.report)
    (g.O.Sink.written c.args.out.now) (g.O.Sink.written c.deliver.new.out) (g.R.Sink.written c.args.report.now) (g.R.Sink.written c.deliver.new.report)
    c.deliver.result (g.S.Shelf.held c.args.shelf.now) (returns-in-Ok-clause-ends g c) (returns-in-Ok-clause-complete g c)

pub returns-in-Ok-clause-compares : goal.returns-in-Ok-clause-compares
returns-in-Ok-clause-compares g c =
    compares_from c.args.words.now (g.S.Shelf.faults c.args.shelf.now) (g.S.Shelf.faults c.decide.new.shelf)
    (g.O.Sink.faults c.args.out.now) (g.O.Sink.faults c.deliver.new.out) (g.R.Sink.faults c.args.report.now) (g.R.Sink.faults c.deliver.new.report)
    (g.O.Sink.written c.args.out.now) (g.O.Sink.written c.deliver.new.out) (g.R.Sink.written c.args.report.now) (g.R.Sink.written c.deliver.new.report)
    c.deliver.result (g.S.Shelf.held c.args.shelf.now) (returns-in-Ok-clause-ends g c) (returns-in-Ok-clause-complete g c)

pub returns-in-Ok-clause-lints_soundly : goal.returns-in-Ok-clause-lints_soundly
returns-in-Ok-clause-lints_soundly g c =
    lints_soundly_from c.args.words.now (g.O.Sink.written c.args.out.now) (g.O.Sink.written c.deliver.new.out) (g.R.Sink.written c.args.report.now) (g.R.Sink.written c.deliver.new.report)
    c.deliver.result (shown c.in-Ok.decided) (g.S.Shelf.held c.args.shelf.now) c.in-Ok.ensures.job c.deliver.ensures.delivered

pub returns-in-Ok-clause-compares_soundly : goal.returns-in-Ok-clause-compares_soundly
returns-in-Ok-clause-compares_soundly g c =
    compares_soundly_from c.args.words.now (g.O.Sink.written c.args.out.now) (g.O.Sink.written c.deliver.new.out) (g.R.Sink.written c.args.report.now) (g.R.Sink.written c.deliver.new.report)
    c.deliver.result (shown c.in-Ok.decided) (g.S.Shelf.held c.args.shelf.now) c.in-Ok.ensures.job c.deliver.ensures.delivered

pub returns-in-Ok-clause-explains : goal.returns-in-Ok-clause-explains
returns-in-Ok-clause-explains g c =
    explains_from c.args.words.now (g.S.Shelf.faults c.args.shelf.now) (g.S.Shelf.faults c.decide.new.shelf)
    (g.O.Sink.faults c.args.out.now) (g.O.Sink.faults c.deliver.new.out) (g.R.Sink.faults c.args.report.now) (g.R.Sink.faults c.deliver.new.report)
    (g.O.Sink.written c.args.out.now) (g.O.Sink.written c.deliver.new.out) (g.R.Sink.written c.args.report.now) (g.R.Sink.written c.deliver.new.report)
    c.deliver.result (g.S.Shelf.held c.args.shelf.now) (returns-in-Ok-clause-ends g c) (returns-in-Ok-clause-complete g c)

pub returns-in-Ok-clause-explains_soundly : goal.returns-in-Ok-clause-explains_soundly
returns-in-Ok-clause-explains_soundly g c =
    explains_soundly_from c.args.words.now (g.O.Sink.written c.args.out.now) (g.O.Sink.written c.deliver.new.out) (g.R.Sink.written c.args.report.now) (g.R.Sink.written c.deliver.new.report)
    c.deliver.result (shown c.in-Ok.decided) (g.S.Shelf.held c.args.shelf.now) c.in-Ok.ensures.job c.deliver.ensures.delivered
