-- How an extraction ends, by what was asked.
use Rattle.std.proofs.Common.{◌≡◌, List}
use Rattle.source_tables.specs.Tables.{Loaded}
use Rattle.log_assembly.specs.declared.asked.Asked.{Asked}
use Rattle.log_assembly.specs.Answered.{AreAsked, AsksTooWide}
use Rattle.mapping_facts.specs.Facts.{mapped_facts}
use Rattle.certain_answers.specs.Specified.{Specified}
use Rattle.certain_semantics.specs.Certain.{IsCertain}
use Rattle.annotation_language.specs.declared.notes.Annotations.{Annotations}
use Rattle.project_language.specs.declared.project.Project.{Project}
use Rattle.onprom_core.specs.Extracted.{ExtractedFrom}
use Rattle.onprom_core.specs.Jobs.{EndsExtraction, Ending, extracted, too_wide, wide_end}
use Rattle.onprom_core.specs.Meaning.{IsConsistentProject, IsWide, certain, facts, specified, tbox}

-- the job is done with the log and the report of the answers, or with none where a query is too wide
module _ (project : Project) (tables : List Loaded) (s : Specified) (notes : Annotations) (agrees : IsConsistentProject project tables)
    (same : s ≡ specified project) (noted : notes ≡ project.noted.notes) where
  pub ends_with_log : (asked : Asked) (e : Ending) → AreAsked (IsCertain s.axioms (mapped_facts s.mappings tables)) notes asked → (AsksTooWide s.axioms notes → ⊥)
      → ExtractedFrom project asked e → EndsExtraction project tables e
  ends_with_log asked e asks narrow from =
      let are : AreAsked (certain project tables) project.noted.notes asked = rw (same, noted) at asks in
      let fit : IsWide project → ⊥ = rw (same, noted) at narrow in
      extracted agrees fit from.done (record {
        log = from.log;
        the_log = from.the_log (tbox project).axioms (facts project tables) are;
        text = from.text;
        reported = from.the_report (tbox project).axioms (facts project tables) are;
      })

  pub ends_too_wide : (e : Ending) → AsksTooWide s.axioms notes → e ≡ wide_end → EndsExtraction project tables e
  ends_too_wide e wide is =
      let asks : IsWide project = rw (same, noted) at wide in
      too_wide agrees asks is
