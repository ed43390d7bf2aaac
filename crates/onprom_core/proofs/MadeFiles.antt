-- What runs of `make` write, whatever the shelf holds.
use Rattle.std.proofs.Common.{◌≡◌, refl, sym, subst, ap, ◌∙◌, arith, ℕ, ◌≤◌, List, [], ◌∷◌, Bool, true, false, ◌||◌, codes, decimal, Option, None, Some, IfSome, Result, Ok, Err, if◌then◌else◌, inl, inr}
use Rattle.std.specs.Str.{bytes_eq}
use Rattle.std.specs.Io.KnownBytes.{Appends}
use Rattle.outside.specs.Counts.{Rose}
use Rattle.source_tables.specs.Tables.{Loaded}
use Rattle.big_project.specs.Files.{doc_file, file_of, made_files, project_file, step_file}
use Rattle.big_project.specs.Summary.{first_line}
use Rattle.project_language.specs.declared.project.Project.{Project}
use Rattle.onprom_core.specs.declared.halt.Stopped.{Stopped}
use Rattle.onprom_core.specs.declared.output.Output.{Output}
use Rattle.onprom_core.specs.declared.status.Status.{Status}
use Rattle.onprom_core.specs.declared.status.Status.TheVariants as status
use Rattle.onprom_core.specs.Commands.{Make, docs_named, is_made, is_make}
use Rattle.onprom_core.specs.Delivery.{Delivers, IsFirstEnd}
use Rattle.onprom_core.specs.Headline.{Makes, Summarises, WritesAlone, WritesSummary}
use Rattle.onprom_core.specs.Jobs.{Ending, EndsExtraction, EndsMade, EndsMaking, IsEnd, IsSummary, extracted, too_wide, contradicted}
use Rattle.onprom_core.specs.Meaning.{IsConsistentProject, IsWide}
use Rattle.onprom_core.specs.Outputs.{Works, ended}
use Rattle.onprom_core.specs.Walk.{Files, Job, Extracting, Checking, Verifying, Answering, Rewriting, Making, Explaining, Linting, Containing, command_step, extract_step, job_step, walk}
use Rattle.onprom_core.proofs.Headlines.{Keeps-of, onward, walked}
use Rattle.onprom_core.proofs.Numbering.{named}
use Rattle.onprom_core.proofs.Words.{make_named}

-- the job of `make` is done whatever is held
pub made_works : (held : Option Files) (docs : ℕ) (name : List ℕ) (output : Output) → EndsMaking docs name (file_of docs name) (ended output) → IfSome held (λ files. Works (Ok output) (job_step files (Make docs name)))
made_works None docs name output ends = tt
made_works (Some files) docs name output ends = (Making docs name, refl, ends)

-- and over no files
pub made_end : (words : List (List ℕ)) (docs : ℕ) (name : List ℕ) (output : Output) → (command_step words).end ≡ Ok (Make docs name) → EndsMaking docs name (file_of docs name) (ended output) → IsEnd (walk words []).end (ended output)
unfolding walk
made_end words docs name output named ends = rw named ends

-- a file of the made project is one that can be named
file_named : (n : ℕ) (name text : List ℕ) → file_of n name ≡ Some text → is_made name ≡ true
file_named n name text = by (bytes_eq name (codes "project.txt")) (bytes_eq name (codes "doc.csv")) (bytes_eq name (codes "step.csv")) (bytes_eq name (codes "summary"))
  where
    by : (a b c d : Bool) → (if a then Some project_file else (if b then Some (doc_file n) else (if c then Some (step_file n) else None))) ≡ Some text → (a || (b || (c || (d || false)))) ≡ true
    by true b c d e = refl
    by false true c d e = refl
    by false false true d e = refl
    by false false false d e = absurd cc

-- the walk of `make` comes to its job over no files
module _ (n : ℕ) (name : List ℕ) (some : 1 ≤ n) (few : n ≤ 100_000) (made : is_made name ≡ true) where
  abbrev words : List (List ℕ)
  words = codes "make" ∷ decimal n ∷ name ∷ []

  docs : docs_named words ≡ Some n
  docs = rw made (named 100_000 (omega arith) n some few)

  pub are_make : is_make words ≡ true
  are_make = rw docs refl

  pub make_walked : (walk words []).end ≡ Ok (Making n name)
  unfolding walk
  make_walked = onward (command_step words) (job_step []) (Make n name) _ (make_named words n name refl refl refl docs refl) refl

-- the end of the extraction of the made project is the first end of `extract`
made_first : (files : Files) (e : Ending) → EndsMade (extract_step files (codes "project.txt")).end e → IsFirstEnd (codes "extract" ∷ codes "project.txt" ∷ []) files e
unfolding walk
made_first files e = by (extract_step files (codes "project.txt")).end
  where
    by : (o : Result Job Stopped) → EndsMade o e → IsEnd o e
    by (Ok (Extracting project tables)) ends = ends
    by (Ok (Checking project tables)) ends = absurd ends
    by (Ok (Verifying project tables ds)) ends = absurd ends
    by (Ok (Answering project tables q)) ends = absurd ends
    by (Ok (Rewriting project name q)) ends = absurd ends
    by (Ok (Making n name)) ends = absurd ends
    by (Ok (Explaining project tables q number)) ends = absurd ends
    by (Ok (Linting project)) ends = absurd ends
    by (Ok (Containing project first second)) ends = absurd ends
    by (Err stopped) ends = ends

module _ (out out' report report' : Option (List ℕ)) (r : Status) (e : Ending) (same : r ≡ e.status) (written : Appends out out' e.out) (reported : Appends report report' e.report) where
  -- a file
  alone : (text : List ℕ) → e ≡ record { status = status.Done; out = text; report = [] } → WritesAlone text out out' report report' r
  alone text is = record {
    done = same ∙ ap (λ e. e.status) is;
    written = subst (Appends out out') (ap (λ e. e.out) is) written;
    unreported = Keeps-of report report' (subst (Appends report report') (ap (λ e. e.report) is) reported);
  }

  -- a summary
  summarised : (files : Files) (of : Ending) → IsFirstEnd (codes "extract" ∷ codes "project.txt" ∷ []) files of → IsSummary of e → Summarises files out out' report report' r
  summarised files of first (inl (ok, is)) =
      let w = alone (first_line of.report) is in record {
        extraction = of;
        first = first;
        same = w.done ∙ sym ok;
        done = λ done. (w.written, w.unreported);
        other = λ no_end. absurd (no_end w.done);
      }
  summarised files of first (inr (other, is)) =
      let stops : r ≡ of.status = same ∙ ap (λ e. e.status) is in record {
        extraction = of;
        first = first;
        same = stops;
        done = λ done. absurd (other (sym stops ∙ done));
        other = λ no_end. (
          Keeps-of out out' (subst (Appends out out') (ap (λ e. e.out) is) written),
          subst (Appends report report') (ap (λ e. e.report) is) reported,
        );
      }

  -- the summary of a log
  log_summarised : (project : Project) (tables : List Loaded) (of : Ending) → EndsExtraction project tables of → IsSummary of e → IsConsistentProject project tables → (IsWide project → ⊥) → WritesSummary project tables out out' report report' r
  log_summarised project tables of (extracted agrees narrow done texts) (inl (ok, is)) agreed free =
      record { text = of.out; said = of.report; extracted = texts; alone = alone (first_line of.report) is }
  log_summarised project tables of (extracted agrees narrow done texts) (inr (other, is)) agreed free = absurd (other done)
  log_summarised project tables of (too_wide agrees wide is) sum agreed free = absurd (free wide)
  log_summarised project tables of (contradicted clash ds are back is) sum agreed free = absurd (clash agreed)

module _ (words : List (List ℕ)) (written written' reported reported' : ℕ) (out out' report report' : Option (List ℕ)) (r : Status) (e : Ending) (d : Delivers e out out' report report' r)
    (write : r ≡ status.WriteFault → Rose written written') (tell : r ≡ status.ReportFault → Rose reported reported') (first : is_make words ≡ true → IsFirstEnd words [] e) where
  -- the end of the job
  ends : (n : ℕ) (name : List ℕ) → 1 ≤ n → n ≤ 100_000 → words ≡ codes "make" ∷ decimal n ∷ name ∷ [] → is_made name ≡ true → EndsMaking n name (file_of n name) e
  ends n name some few is made =
      let end : IsFirstEnd (codes "make" ∷ decimal n ∷ name ∷ []) [] e = rw is at (first (rw is (are_make n name some few made))) in
      rw (make_walked n name some few made) at end

  summary_ends : (n : ℕ) (name : List ℕ) → 1 ≤ n → n ≤ 100_000 → words ≡ codes "make" ∷ decimal n ∷ name ∷ [] → name ≡ codes "summary" → EndsMaking n [] None e
  summary_ends n name some few is summary =
      let end : EndsMaking n (codes "summary") None e = rw summary at (ends n name some few is (rw summary refl)) in
      end

  pub makes_from : Makes words written written' reported reported' out out' report report' r
  makes_from n name some few is wrote told memory =
      let w = d.whole (record { written = λ same. wrote (write same); reported = λ same. told (tell same); memory = memory }) in (
        (λ text file.
            let end : EndsMaking n name (Some text) e = rw file at (ends n name some few is (file_named n name text file)) in
            alone out out' report report' r e w.0 w.1 w.2 text end),
        (λ summary.
            let end = summary_ends n name some few is summary in
            summarised out out' report report' r e w.0 w.1 w.2 (made_files n) end.0 (made_first (made_files n) end.0 end.1) end.2),
        (λ project tables summary accepted agreed free.
            let end = summary_ends n name some few is summary in
            let first : IsFirstEnd (codes "extract" ∷ codes "project.txt" ∷ []) (made_files n) end.0 = made_first (made_files n) end.0 end.1 in
            let extraction : EndsExtraction project tables end.0 = rw (walked (made_files n) (codes "project.txt") project tables accepted) at first in
            log_summarised out out' report report' r e w.0 w.1 w.2 project tables end.0 extraction end.2 agreed free),
      )
