-- What is computed is the log.
use Rattle.std.proofs.Common.{◌≡◌, sym, subst}
use Rattle.std.specs.List.{zip}
use Rattle.std.proofs.lemmas.Result.{IfOk-weaker}
use Rattle.vocabulary.specs.Lists.{In, IsListOf}
use Rattle.certain_semantics.specs.Certain.{IsCertain}
use Rattle.annotation_language.specs.declared.notes.Annotations.{Annotations}
use Rattle.log_assembly.specs.declared.asked.Asked.{Asked}
use Rattle.log_assembly.specs.Gathered.{log_of, occurrence_cmp, occurrences_from}
use Rattle.log_assembly.specs.TheLog.{IsLog, IsLogOf}
use Rattle.log_assembly.proofs.Making.{log_is}
use Rattle.log_assembly.proofs.traces.assemble.Goals as goal

pub returns : goal.returns
returns c =
    let notes : Annotations = c.args.notes.now in
    let asked : Asked = c.args.asked.now in
    let found : IsListOf occurrence_cmp (λ x. In x (occurrences_from asked.cases.tuples 0 (zip notes.events asked.events))) c.in_ok-found.found.items =
    rw (c.events.ensures, c.items-events.ensures) at c.in_ok-found.ensures in
    let listed : IsListOf occurrence_cmp (λ x. In x (occurrences_from asked.cases.tuples 0 (zip notes.events asked.events))) c.deref.result.now = subst (λ xs. IsListOf occurrence_cmp (λ x. In x (occurrences_from asked.cases.tuples 0 (zip notes.events asked.events))) xs) (sym c.deref.ensures.value) found in
    IfOk-weaker c.log_of.result (λ log. log ≡ log_of notes asked c.deref.result.now) (IsLogOf notes asked) (λ log is axioms facts all. subst (IsLog (IsCertain axioms facts) notes) (sym is) (log_is (IsCertain axioms facts) notes asked all c.deref.result.now listed)) c.log_of.ensures
