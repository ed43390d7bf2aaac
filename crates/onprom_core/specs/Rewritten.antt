-- What is printed of a rewriting.
use Rattle.std.specs.Prelude.{◌≡◌, ℕ, List}
use Rattle.answer_text.specs.Queries.{queries_report}
use Rattle.queries.specs.declared.query.Query.{Query}
use Rattle.query_subsumption.specs.Kept.{NoneMaps, SameImages}
use Rattle.query_subsumption.specs.Subsumption.{AreKept}
use Rattle.project_language.specs.declared.project.Project.{Project}
use Rattle.onprom_core.specs.declared.status.Status.TheVariants as status
use Rattle.onprom_core.specs.Jobs.{Ending, printed}

-- a job that is done with this text and report
abbrev pub done_with : List ℕ → List ℕ → Ending
done_with out report = record { status = status.Done; out = out; report = report }

-- the ending prints what is kept of these queries
pub record PrintsKept (project : Project) (name : List ℕ) (queries : List Query) (e : Ending) : Type 0 where
  pub kept : List Query
  pub are_kept : AreKept queries kept
  pub none_maps : NoneMaps kept
  pub images : SameImages queries kept
  pub end : e ≡ done_with (printed project name kept) (queries_report kept)
