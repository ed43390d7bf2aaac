-- The log and the report of answers, over any axioms and any facts.
use Rattle.std.specs.Prelude.{◌≡◌, List, ℕ}
use Rattle.xes_writer.specs.declared.log.Log.{Log}
use Rattle.xes_writer.specs.Xes.{xes_text}
use Rattle.log_assembly.specs.declared.asked.Asked.{Asked}
use Rattle.log_assembly.specs.TheLog.{IsLogOf}
use Rattle.log_assembly.specs.TheReport.{IsReportOf}
use Rattle.project_language.specs.declared.project.Project.{Project}
use Rattle.onprom_core.specs.declared.status.Status.TheVariants as status
use Rattle.onprom_core.specs.Jobs.{Ending}

-- the ending has the texts of the log and of its report, over those axioms and facts whose certain answers these are
pub record ExtractedFrom (project : Project) (asked : Asked) (e : Ending) : Type 0 where
  pub done : e.status ≡ status.Done
  pub log : Log (List ℕ)
  pub text : e.out ≡ xes_text log
  pub the_log : IsLogOf project.noted.notes asked log
  pub the_report : IsReportOf project.noted.notes asked log e.report
