-- The query of a name, the steps behind it, and what runs of `answer` and of `rewrite` write.
use Rattle.std.proofs.Common.{◌≡◌, ◌≢◌, refl, subst, ap, ◌∙◌, ℕ, List, [], ◌∷◌, Bool, true, false, codes, Option, None, Some, IfSome, IfErr, Result, Ok, Err, arith, position, slice_get, option_and_then, option_map, if◌then◌else◌}
use Rattle.std.specs.Str.{bytes_eq}
use Rattle.std.specs.Io.KnownBytes.{Appends}
use Rattle.vocabulary.specs.Lists.{In}
use Rattle.line_lexer.specs.Grammar.{either}
use Rattle.source_tables.specs.Tables.{Loaded}
use Rattle.mapping_facts.proofs.Members.{In-slice_get}
use Rattle.queries.specs.declared.query.Query.{Query}
use Rattle.annotation_language.specs.declared.notes.Annotations.{Annotations}
use Rattle.annotation_language.specs.declared.notes.EventNote.{EventNote}
use Rattle.annotation_language.specs.declared.notes.NamedQuery.{NamedQuery}
use Rattle.annotation_language.specs.Askable.{AreAskable, IsAskable}
use Rattle.annotation_language.specs.Lines.{event_named}
use Rattle.annotation_language.specs.Named.{noted_query, query_named}
use Rattle.project_language.specs.declared.project.Project.{Project}
use Rattle.onprom_core.specs.declared.halt.Halt.{Halt}
use Rattle.onprom_core.specs.declared.halt.Halt.TheVariants as halt
use Rattle.onprom_core.specs.declared.output.Output.{Output}
use Rattle.onprom_core.specs.declared.status.Status.{Status}
use Rattle.onprom_core.specs.declared.status.Status.TheVariants as status
use Rattle.onprom_core.specs.Causes.{CountsHalt, CountsReading, IsLocal, IsWhole}
use Rattle.onprom_core.specs.Commands.{Answer, Rewrite}
use Rattle.onprom_core.specs.Delivery.{Completes, EndsAs}
use Rattle.onprom_core.specs.Headline.{Answers, IsProjectOf, IsReadProject, Rewrites, TellsWidth, WritesAnswers, WritesRewriting}
use Rattle.onprom_core.specs.Jobs.{Ending, EndsAnswering, EndsRewriting, answered, rewritten, too_wide, wide_end}
use Rattle.onprom_core.specs.Meaning.{IsTooWideToAnswer, IsTooWideToRewrite}
use Rattle.onprom_core.specs.Outputs.{Works, answer_behind, answer_rest, ended, rewrite_rest}
use Rattle.onprom_core.specs.Walk.{Files, Answering, Rewriting, answer_step, command_step, job_step, project_step, query_step, rewrite_step, sources_step, tables_step, walk}
use Rattle.onprom_core.proofs.Headlines.{Keeps-of, onward, text_walked}
use Rattle.onprom_core.proofs.Judging.{ends_well, project_walked, sources_walked, told}
use Rattle.onprom_core.proofs.Walks.{Works-then}

-- what stands at a place is an item
placed : {A : Type 0} (xs : List A) (at : Option ℕ) (x : A) → option_and_then (slice_get xs) at ≡ Some x → In x xs
placed xs None x e = absurd cc
placed xs (Some i) x e = In-slice_get xs i x e

module _ (notes : Annotations) (all : AreAskable notes) (q : Query) where
  -- the query of a `query` line
  of_line : (o : Option NamedQuery) → ((named : NamedQuery) → o ≡ Some named → In named notes.queries) → option_map (λ named. named.query) o ≡ Some q → IsAskable q
  of_line None stands e = absurd cc
  of_line (Some named) stands e =
      let is : named.query ≡ q = cc in
      subst IsAskable is (all.queries named (stands named refl))

  -- the objects of an event, or the other query
  of_event : (o : Option EventNote) (other : Option Query) → ((event : EventNote) → o ≡ Some event → In event notes.events) → (other ≡ Some q → IsAskable q) → either o (λ event. Some event.objects) other ≡ Some q → IsAskable q
  of_event None other stands rest e = rest e
  of_event (Some event) other stands rest e =
      let is : event.objects ≡ q = cc in
      subst IsAskable is (all.events event (stands event refl)).objects

  -- each query that can be asked by a name
  pub named_askable : (name : List ℕ) → query_named notes name ≡ Some q → IsAskable q
  named_askable name = by (bytes_eq name (codes "case"))
    where
      by : (b : Bool) → (if b then notes.case_query else either (event_named notes name) (λ event. Some event.objects) (noted_query notes.queries name)) ≡ Some q → IsAskable q
      by true e = all.case_query q e
      by false e =
          of_event (event_named notes name) (noted_query notes.queries name)
          (λ event at. placed notes.events (position (λ event. bytes_eq event.name name) notes.events) event at)
          (λ line. of_line (option_and_then (slice_get notes.queries) (position (λ q. bytes_eq q.name name) notes.queries))
          (λ named at. placed notes.queries (position (λ q. bytes_eq q.name name) notes.queries) named at) line) e

-- a command does what the steps behind its project do
module _ (held : Option Files) (p : List ℕ) (project : Project) (name : List ℕ) (r : Result Output Halt) (read : IfSome held (λ files. (project_step files p).end ≡ Ok project)) where
  pub answer_from : IfSome held (λ files. Works r (answer_rest files name project)) → IfSome held (λ files. Works r (answer_step files p name))
  unfolding answer_step answer_rest answer_behind
  answer_from = by held read
    where
      by : (h : Option Files) → IfSome h (λ files. (project_step files p).end ≡ Ok project) → IfSome h (λ files. Works r (answer_rest files name project)) → IfSome h (λ files. Works r (answer_step files p name))
      by None read last = tt
      by (Some files) read last = Works-then (project_step files p) (answer_rest files name) project r read last

  pub rewrite_from : Works r (rewrite_rest name project) → IfSome held (λ files. Works r (rewrite_step files p name))
  unfolding rewrite_step rewrite_rest
  rewrite_from last = by held read
    where
      by : (h : Option Files) → IfSome h (λ files. (project_step files p).end ≡ Ok project) → IfSome h (λ files. Works r (rewrite_step files p name))
      by None read = tt
      by (Some files) read = Works-then (project_step files p) (rewrite_rest name) project r read last

-- what calls no shelf leaves the counts
pub counts_local : (faults faults' absences absences' : ℕ) (failed' : Bool) (r : Result Output Halt) → faults' ≡ faults → absences' ≡ absences → IfErr r IsLocal → CountsReading faults faults' absences absences' failed' r
counts_local faults faults' absences absences' failed' (Ok output) f a local = record {
  faults_later = omega arith;
  absences_later = omega arith;
  no_fault = f;
  no_absence = a;
  halted = tt;
}
counts_local faults faults' absences absences' failed' (Err h) f a local = record {
  faults_later = omega arith;
  absences_later = omega arith;
  no_fault = tt;
  no_absence = tt;
  halted = by h local;
}
  where
    by : (h : Halt) → IsLocal h → CountsHalt h faults faults' absences absences' failed'
    by (halt.Stopped stopped) l = (l.0, l.1, l.2, l.4, f, λ absent. absurd (l.3 absent), λ other. a)
    by (halt.ReadFault name) l = absurd l
    by halt.NoMemory l = λ other. absurd (other f)

-- and what those behind its query do
module _ (project : Project) (name : List ℕ) (q : Query) (found : (query_step project name).end ≡ Ok q) where
  pub behind_query : (held : Option Files) (r : Result Output Halt) → IfSome held (λ files. Works r (answer_behind files project q)) → IfSome held (λ files. Works r (answer_rest files name project))
  unfolding answer_rest
  behind_query None r last = tt
  behind_query (Some files) r last = Works-then (query_step project name) _ q r found last

  pub rewritten_from : (output : Output) → EndsRewriting project name q (ended output) → Works (Ok output) (rewrite_rest name project)
  unfolding rewrite_rest
  rewritten_from output ends = Works-then (query_step project name) _ q (Ok output) found (Rewriting project name q, refl, ends)

-- an answer is given, where the tables are read
pub answered_from : (held : Option Files) (project : Project) (tables : List Loaded) (q : Query) (output : Output) → IfSome held (λ files. (tables_step files 0 project.sources.tables).end ≡ Ok tables) → EndsAnswering project tables q (ended output)
    → IfSome held (λ files. Works (Ok output) (answer_behind files project q))
unfolding answer_behind
answered_from None project tables q output loaded ends = tt
answered_from (Some files) project tables q output loaded ends = Works-then (sources_step files project) _ tables (Ok output) loaded (Answering project tables q, refl, ends)

-- the walks come to their jobs
answer_walked : (files : Files) (p name : List ℕ) (project : Project) (tables : List Loaded) (q : Query) → IsReadProject files p project tables → query_named project.noted.notes name ≡ Some q
    → (walk (codes "answer" ∷ p ∷ name ∷ []) files).end ≡ Ok (Answering project tables q)
unfolding walk answer_step
answer_walked files p name project tables q a found =
    onward (command_step (codes "answer" ∷ p ∷ name ∷ [])) (job_step files) (Answer p name) _ refl
    (onward (project_step files p) _ project _ (project_walked files p project tables a)
    (onward (query_step project name) _ q _ (rw found refl)
    (onward (sources_step files project) _ tables _ (sources_walked files p project tables a) refl)))

-- a project is read, whatever its tables are
pub project_alone : (files : Files) (p : List ℕ) (project : Project) → IsProjectOf files p project → (project_step files p).end ≡ Ok project
project_alone files p project a = text_walked files p a.bytes project a.held a.read

rewrite_walked : (files : Files) (p name : List ℕ) (project : Project) (q : Query) → IsProjectOf files p project → query_named project.noted.notes name ≡ Some q
    → (walk (codes "rewrite" ∷ p ∷ name ∷ []) files).end ≡ Ok (Rewriting project name q)
unfolding walk rewrite_step
rewrite_walked files p name project q a found =
    onward (command_step (codes "rewrite" ∷ p ∷ name ∷ [])) (job_step files) (Rewrite p name) _ refl
    (onward (project_step files p) _ project _ (project_alone files p project a)
    (onward (query_step project name) _ q _ (rw found refl) refl))

-- neither ends with a failed call
answer_whole : (project : Project) (tables : List Loaded) (q : Query) (e : Ending) (r : Status) → EndsAnswering project tables q e → r ≡ e.status → IsWhole r × (r ≢ status.ReadFault)
answer_whole project tables q e r (answered narrow done are) same = ends_well r status.Done (same ∙ done) (λ x. cc) (λ x. cc) (λ x. cc) (λ x. cc)
answer_whole project tables q e r (too_wide wide is) same = ends_well r status.Limit (same ∙ ap (λ e. e.status) is) (λ x. cc) (λ x. cc) (λ x. cc) (λ x. cc)

rewrite_whole : (project : Project) (name : List ℕ) (q : Query) (e : Ending) (r : Status) → EndsRewriting project name q e → r ≡ e.status → IsWhole r × (r ≢ status.ReadFault)
rewrite_whole project name q e r (rewritten narrow reached queries listed kept answers minimal is) same = ends_well r status.Done (same ∙ ap (λ e. e.status) is) (λ x. cc) (λ x. cc) (λ x. cc) (λ x. cc)
rewrite_whole project name q e r (too_wide wide is) same = ends_well r status.Limit (same ∙ ap (λ e. e.status) is) (λ x. cc) (λ x. cc) (λ x. cc) (λ x. cc)

module _ (out out' report report' : Option (List ℕ)) (r : Status) (e : Ending) (same : r ≡ e.status) (written : Appends out out' e.out) (reported : Appends report report' e.report) where
  -- a query is too wide
  pub width_told : e ≡ wide_end → TellsWidth out out' report report' r
  width_told is = record {
    limit = same ∙ ap (λ e. e.status) is;
    unwritten = Keeps-of out out' (subst (Appends out out') (ap (λ e. e.out) is) written);
    reported = subst (Appends report report') (ap (λ e. e.report) is) reported;
  }

  module _ (project : Project) (tables : List Loaded) (q : Query) where
    answers_written : EndsAnswering project tables q e → (IsTooWideToAnswer project q → ⊥) → WritesAnswers project tables q out out' report report' r
    answers_written (answered narrow done are) fit = record {
      done = same ∙ done;
      tuples = are.tuples;
      listed = are.listed;
      written = subst (Appends out out') are.text written;
      reported = subst (Appends report report') are.count reported;
    }
    answers_written (too_wide wide is) fit = absurd (fit wide)

    answers_wide : EndsAnswering project tables q e → IsTooWideToAnswer project q → TellsWidth out out' report report' r
    answers_wide (answered narrow done are) wide = absurd (narrow wide)
    answers_wide (too_wide other is) wide = width_told is

  module _ (project : Project) (name : List ℕ) (q : Query) where
    rewriting_written : EndsRewriting project name q e → (IsTooWideToRewrite project q → ⊥) → WritesRewriting project name q out out' report report' r
    rewriting_written (rewritten narrow reached queries listed kept answers minimal is) fit = record {
      done = same ∙ ap (λ e. e.status) is;
      reached = reached;
      listed = listed;
      queries = queries;
      kept = kept;
      answers = answers;
      minimal = minimal;
      written = subst (Appends out out') (ap (λ e. e.out) is) written;
      reported = subst (Appends report report') (ap (λ e. e.report) is) reported;
    }
    rewriting_written (too_wide wide is) fit = absurd (fit wide)

    rewriting_wide : EndsRewriting project name q e → IsTooWideToRewrite project q → TellsWidth out out' report report' r
    rewriting_wide (rewritten narrow reached queries listed kept answers minimal is) wide = absurd (narrow wide)
    rewriting_wide (too_wide other is) wide = width_told is

module _ (words : List (List ℕ)) (faults faults' written written' reported reported' : ℕ) (out out' report report' : Option (List ℕ)) (r : Status) where
  answers : (files : Files) → (r ≢ status.ReadFault → IsWhole r → EndsAs words files out out' report report' r) → Completes (walk words files).end faults faults' written written' reported reported' r
      → Answers words files faults faults' written written' reported reported' out out' report report' r
  answers files ends complete p name project tables q named a found quiet memory =
      let t = told words faults faults' written written' reported reported' out out' report report' r files (Answering project tables q) (rw named (answer_walked files p name project tables q a found)) ends complete quiet memory (λ e end same. answer_whole project tables q e r end same) in
      (answers_written out out' report report' r t.0 t.2 t.3 t.4 project tables q t.1, answers_wide out out' report report' r t.0 t.2 t.3 t.4 project tables q t.1)

  rewrites : (files : Files) → (r ≢ status.ReadFault → IsWhole r → EndsAs words files out out' report report' r) → Completes (walk words files).end faults faults' written written' reported reported' r
      → Rewrites words files faults faults' written written' reported reported' out out' report report' r
  rewrites files ends complete p name project q named a found quiet memory =
      let t = told words faults faults' written written' reported reported' out out' report report' r files (Rewriting project name q) (rw named (rewrite_walked files p name project q a found)) ends complete quiet memory (λ e end same. rewrite_whole project name q e r end same) in
      (rewriting_written out out' report report' r t.0 t.2 t.3 t.4 project name q t.1, rewriting_wide out out' report report' r t.0 t.2 t.3 t.4 project name q t.1)

  pub answers_from : (held : Option Files) → IfSome held (λ files. r ≢ status.ReadFault → IsWhole r → EndsAs words files out out' report report' r)
      → IfSome held (λ files. Completes (walk words files).end faults faults' written written' reported reported' r)
      → IfSome held (λ files. Answers words files faults faults' written written' reported reported' out out' report report' r)
  answers_from None ends complete = tt
  answers_from (Some files) ends complete = answers files ends complete

  pub rewrites_from : (held : Option Files) → IfSome held (λ files. r ≢ status.ReadFault → IsWhole r → EndsAs words files out out' report report' r)
      → IfSome held (λ files. Completes (walk words files).end faults faults' written written' reported reported' r)
      → IfSome held (λ files. Rewrites words files faults faults' written written' reported reported' out out' report report' r)
  rewrites_from None ends complete = tt
  rewrites_from (Some files) ends complete = rewrites files ends complete
