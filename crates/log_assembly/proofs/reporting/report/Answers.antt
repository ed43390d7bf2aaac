-- What is written is the report.
use Rattle.std.proofs.Common.{◌≡◌, ◌∙◌, ap, List, ℕ, ◌++◌, filter, length, map}
use Rattle.std.specs.List.{flat_map, sum_by, zip}
use Rattle.certain_semantics.specs.Certain.{IsCertain}
use Rattle.annotation_language.specs.declared.notes.Annotations.{Annotations}
use Rattle.log_assembly.specs.declared.asked.Asked.{Asked}
use Rattle.log_assembly.specs.declared.verdict.Judgement.{Judgement}
use Rattle.log_assembly.specs.Found.{names_of}
use Rattle.log_assembly.specs.Judged.{has_names, judgements_of}
use Rattle.log_assembly.specs.TheReport.{case_line, counts_line, event_text, events_in, left_in, report_text}
use Rattle.log_assembly.proofs.Making.{report_is}
use Rattle.log_assembly.proofs.reporting.report.Goals as goal

pub returns : goal.returns
returns c =
    let notes : Annotations = c.args.notes.now in
    let asked : Asked = c.args.asked.now in
    let several : List (List ℕ) = filter (has_names asked.names.tuples) (names_of asked.cases.tuples) in
    let judged : List (List Judgement) = map (judgements_of asked.cases.tuples) (zip notes.events asked.events) in
    let is_judged : c.in_ok-judged.judged.items ≡ judged = c.in_ok-judged.ensures ∙ (λ i. map (judgements_of asked.cases.tuples) (zip (c.events.ensures i) (c.items.ensures i))) in
    let traces : length c.items-traces.result.now ≡ length c.args.log.now.traces = ap length c.items-traces.ensures in
    let events : c.events_in.result ≡ events_in c.args.log.now = c.events_in.ensures ∙ ap (λ xs. sum_by (λ trace. length trace.events) xs) c.items-traces.ensures in
    let left : c.all_left-left.result ≡ sum_by left_in judged = c.all_left-left.ensures ∙ ap (sum_by left_in) (c.deref.ensures.value ∙ is_judged) in
    let first = c.in_ok-push_counts.ensures ∙ (λ i. c.new-text.ensures.items i ++ counts_line (traces i) (events i) (left i)) in
    let second = c.in_ok-push_several.ensures ∙ (λ i. first i ++ flat_map case_line ((c.deref-2.ensures.value ∙ c.in_ok-several.ensures) i)) in
    let third : c.push_events.new.out.items ≡ report_text notes.events c.args.log.now several judged =
    c.in_ok-push_events.ensures ∙ (λ i. second i ++ flat_map event_text (zip (c.events-2.ensures i) ((c.deref-3.ensures.value ∙ is_judged) i))) in
    λ axioms facts all. report_is (IsCertain axioms facts) notes asked all c.args.log.now c.push_events.new.out.items third
