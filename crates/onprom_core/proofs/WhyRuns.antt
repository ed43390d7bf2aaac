-- What runs of `why` write for a project that is read.
use Rattle.std.proofs.Common.{◌≡◌, ◌≢◌, refl, sym, subst, ap, ◌∙◌, ℕ, zero, suc, ◌<◌, ◌≤◌, ◌+◌, ◌^◌, List, [], ◌∷◌, length, codes, decimal, arith, Option, None, Some, IfSome, Result, Ok, ◌⊎◌, inl, inr, slice_get, Bool, true, false, if◌then◌else◌}
use Rattle.std.specs.Str.{bytes_eq}
use Rattle.std.specs.Io.KnownBytes.{Appends}
use Rattle.std.proofs.lemmas.Option.{slice_get_within}
use Rattle.vocabulary.specs.Lists.{In, IsListOf, item}
use Rattle.vocabulary.specs.declared.term.Term.{Term}
use Rattle.vocabulary.proofs.OneList.{one_list}
use Rattle.source_tables.specs.Tables.{Loaded}
use Rattle.dllite_axioms.specs.declared.axioms.Tbox.{Tbox}
use Rattle.mapping_facts.specs.declared.mapping.Mapping.{Mapping}
use Rattle.queries.specs.declared.query.Query.{Query}
use Rattle.queries.specs.Order.{tuple_cmp}
use Rattle.queries.proofs.Ordered.{tuples_ordered}
use Rattle.annotation_language.specs.Named.{query_named}
use Rattle.why_answers.specs.Explanations.{Explains as ExplainsOf}
use Rattle.why_answers.specs.declared.explanation.Why.{Why}
use Rattle.project_language.specs.declared.project.Project.{Project}
use Rattle.onprom_core.specs.declared.halt.Halt.{Halt}
use Rattle.onprom_core.specs.declared.output.Output.{Output}
use Rattle.onprom_core.specs.declared.status.Status.{Status}
use Rattle.onprom_core.specs.declared.status.Status.TheVariants as status
use Rattle.onprom_core.specs.Causes.{IsWhole}
use Rattle.onprom_core.specs.Commands.{Why as WhyCommand, number_named, is_count, value_behind}
use Rattle.onprom_core.specs.Delivery.{ComesToJob, Completes, Delivers, EndsAs}
use Rattle.onprom_core.specs.Explained.{EndsExplaining, ExplainsTuple}
use Rattle.onprom_core.specs.Headline.{Explains, ExplainsSoundly, IsReadProject, TellsUnknown, TellsWidth, WritesExplanation}
use Rattle.onprom_core.specs.Jobs.{Ending, EndsWhy, explained_end, told as told_why, too_wide, unknown, unknown_end, wide_end}
use Rattle.onprom_core.specs.Meaning.{IsTooWideToAnswer, certain, tbox}
use Rattle.onprom_core.specs.Outputs.{Works, ended, why_behind, why_rest}
use Rattle.onprom_core.specs.Walk.{Files, Job, Explaining, command_step, job_step, project_step, query_step, sources_step, tables_step, walk, why_step}
use Rattle.onprom_core.proofs.Asking.{width_told}
use Rattle.onprom_core.proofs.Headlines.{Keeps-of, onward}
use Rattle.onprom_core.proofs.Judging.{ends_well, project_walked, sources_walked, told}
use Rattle.onprom_core.proofs.ModelRuns.{query_back}
use Rattle.onprom_core.proofs.Numbering.{named}
use Rattle.onprom_core.proofs.Walks.{Works-then}
use Rattle.onprom_core.proofs.WalksBack.{back, job_back, project_back}
use Rattle.onprom_core.proofs.Words.{why_named}

-- the command does what the steps behind its project do
pub why_from : (held : Option Files) (p : List ℕ) (project : Project) (name : List ℕ) (number : ℕ) (r : Result Output Halt) → IfSome held (λ files. (project_step files p).end ≡ Ok project)
    → IfSome held (λ files. Works r (why_rest files name number project)) → IfSome held (λ files. Works r (why_step files p name number))
unfolding why_step why_rest why_behind
why_from None p project name number r read last = tt
why_from (Some files) p project name number r read last = Works-then (project_step files p) (why_rest files name number) project r read last

-- these what those behind the query do
pub why_query : (held : Option Files) (project : Project) (name : List ℕ) (number : ℕ) (q : Query) (r : Result Output Halt) → (query_step project name).end ≡ Ok q → IfSome held (λ files. Works r (why_behind files project q number))
    → IfSome held (λ files. Works r (why_rest files name number project))
unfolding why_rest
why_query None project name number q r found last = tt
why_query (Some files) project name number q r found last = Works-then (query_step project name) _ q r found last

-- and these its job, where the tables are read
pub explained_from : (held : Option Files) (project : Project) (tables : List Loaded) (q : Query) (number : ℕ) (output : Output) → IfSome held (λ files. (tables_step files 0 project.sources.tables).end ≡ Ok tables) → EndsWhy project tables q number (ended output)
    → IfSome held (λ files. Works (Ok output) (why_behind files project q number))
unfolding why_behind
explained_from None project tables q number output loaded ends = tt
explained_from (Some files) project tables q number output loaded ends = Works-then (sources_step files project) _ tables (Ok output) loaded (Explaining project tables q number, refl, ends)

-- the job is done by the answers
module _ (project : Project) (tables : List Loaded) (q : Query) (number : ℕ) (narrow : IsTooWideToAnswer project q → ⊥) where
  pub ends_explained : (tuples : List (List Term)) (e : Ending) → IsListOf tuple_cmp (certain project tables q) tuples → EndsExplaining project tables q tuples number e → EndsWhy project tables q number e
  ends_explained tuples e listed (inl t) = told_why narrow tuples listed t.0 t.1 t.2.0 t.2.1 t.2.2
  ends_explained tuples e listed (inr u) = unknown narrow tuples listed u.0 u.1

-- an explanation is of the project
pub explains_tuple : (project : Project) (tables : List Loaded) (q : Query) (tuple : List Term) (t : Tbox) (mappings : List Mapping) → t ≡ tbox project → mappings ≡ project.sources.mappings → (why : Why) (e : Ending) → ExplainsOf t mappings tables q why tuple
    → e ≡ explained_end project why tuple → ExplainsTuple project tables q tuple e
explains_tuple project tables q tuple t mappings axioms mapped why e explains is =
    let of_project : ExplainsOf (tbox project) project.sources.mappings tables q why tuple = rw (axioms, mapped) at explains in
    (why, of_project, is)

-- the walk comes to its job
module _ (number : ℕ) (some : 1 ≤ number) (few : number ≤ 4_294_967_295) where
  names_why : (p name : List ℕ) → (command_step (codes "why" ∷ p ∷ name ∷ decimal number ∷ [])).end ≡ Ok (WhyCommand p name number)
  names_why p name =
      let digits : number_named (codes "why" ∷ p ∷ name ∷ decimal number ∷ []) ≡ Some number = named 4_294_967_295 (omega arith) number some few in
      why_named (codes "why" ∷ p ∷ name ∷ decimal number ∷ []) p name number digits refl refl

  why_walked : (files : Files) (p name : List ℕ) (project : Project) (tables : List Loaded) (q : Query) → IsReadProject files p project tables → query_named project.noted.notes name ≡ Some q
      → (walk (codes "why" ∷ p ∷ name ∷ decimal number ∷ []) files).end ≡ Ok (Explaining project tables q number)
  unfolding walk why_step
  why_walked files p name project tables q a found =
      onward (command_step (codes "why" ∷ p ∷ name ∷ decimal number ∷ [])) (job_step files) (WhyCommand p name number) _ (names_why p name)
      (onward (project_step files p) _ project _ (project_walked files p project tables a)
      (onward (query_step project name) _ q _ (rw found refl)
      (onward (sources_step files project) _ tables _ (sources_walked files p project tables a) refl)))

  explained_walk : (files : Files) (p name : List ℕ) (job : Job) → (walk (codes "why" ∷ p ∷ name ∷ decimal number ∷ []) files).end ≡ Ok job
      → (project : Project) × (tables : List Loaded) × (q : Query) × IsReadProject files p project tables × (query_named project.noted.notes name ≡ Some q) × (job ≡ Explaining project tables q number)
  unfolding why_step
  explained_walk files p name job e =
      let f : (why_step files p name number).end ≡ Ok job = job_back files (codes "why" ∷ p ∷ name ∷ decimal number ∷ []) (WhyCommand p name number) job (names_why p name) e in
      let b = back (project_step files p) _ job f in
      let found = back (query_step b.0 name) _ job b.2 in
      let d = back (sources_step files b.0) _ job found.2 in
      let is_job : job ≡ Explaining b.0 d.0 found.0 number = cc in
      (b.0, d.0, found.0, project_back files p b.0 d.0 b.1 d.1, query_back b.0 name found.0 found.1, is_job)

-- it does not end with a failed call
why_whole : (project : Project) (tables : List Loaded) (q : Query) (number : ℕ) (e : Ending) (r : Status) → EndsWhy project tables q number e → r ≡ e.status → IsWhole r × (r ≢ status.ReadFault)
why_whole project tables q number e r (told_why narrow tuples listed tuple at why explains is) same = ends_well r status.Done (same ∙ ap (λ e. e.status) is) (λ x. cc) (λ x. cc) (λ x. cc) (λ x. cc)
why_whole project tables q number e r (unknown narrow tuples listed none is) same = ends_well r status.Refused (same ∙ ap (λ e. e.status) is) (λ x. cc) (λ x. cc) (λ x. cc) (λ x. cc)
why_whole project tables q number e r (too_wide wide is) same = ends_well r status.Limit (same ∙ ap (λ e. e.status) is) (λ x. cc) (λ x. cc) (λ x. cc) (λ x. cc)

-- an item stands at no place behind the list
within : {A : Type 0} (xs : List A) (n : ℕ) (x : A) → item xs n ≡ Some x → length xs < n → ⊥
within xs zero x at low = absurd (omega arith)
within xs (suc n) x at low = let inside = slice_get_within xs n x at in omega arith

module _ (out out' report report' : Option (List ℕ)) (r : Status) (e : Ending) (same : r ≡ e.status) (written : Appends out out' e.out) (reported : Appends report report' e.report) (project : Project) (tables : List Loaded) (q : Query) (number : ℕ) where
  -- the list of the answers is one
  one_tuple : (tuples others : List (List Term)) → IsListOf tuple_cmp (certain project tables q) tuples → IsListOf tuple_cmp (certain project tables q) others → tuples ≡ others
  one_tuple = one_list tuple_cmp tuples_ordered.tuples (certain project tables q)

  explanation : (tuple : List Term) (why : Why) → ExplainsOf (tbox project) project.sources.mappings tables q why tuple → e ≡ explained_end project why tuple → WritesExplanation project tables q tuple out out' report report' r
  explanation tuple why explains is = record {
    done = same ∙ ap (λ e. e.status) is;
    why = why;
    explains = explains;
    written = subst (Appends out out') (ap (λ e. e.out) is) written;
    reported = subst (Appends report report') (ap (λ e. e.report) is) reported;
  }

  explanation_written : EndsWhy project tables q number e → (IsTooWideToAnswer project q → ⊥) → (tuples : List (List Term)) → IsListOf tuple_cmp (certain project tables q) tuples
      → (tuple : List Term) → item tuples number ≡ Some tuple → WritesExplanation project tables q tuple out out' report report' r
  explanation_written (told_why narrow others those other there why explains is) fit tuples listed tuple at =
      let found : Some other ≡ Some tuple = sym there ∙ ap (λ ts. item ts number) (one_tuple others tuples those listed) ∙ at in
      let agreed : other ≡ tuple = cc in
      subst (λ t. WritesExplanation project tables q t out out' report report' r) agreed (explanation other why explains is)
  explanation_written (unknown narrow others those none is) fit tuples listed tuple at =
      let found : None ≡ Some tuple = sym none ∙ ap (λ ts. item ts number) (one_tuple others tuples those listed) ∙ at in
      absurd cc
  explanation_written (too_wide wide is) fit tuples listed tuple at = absurd (fit wide)

  unknown_told : EndsWhy project tables q number e → (IsTooWideToAnswer project q → ⊥) → (tuples : List (List Term)) → IsListOf tuple_cmp (certain project tables q) tuples → length tuples < number
      → TellsUnknown number out out' report report' r
  unknown_told (told_why narrow others those other there why explains is) fit tuples listed fewer =
      absurd (within tuples number other (subst (λ ts. item ts number ≡ Some other) (one_tuple others tuples those listed) there) fewer)
  unknown_told (unknown narrow others those none is) fit tuples listed fewer = record {
    refused = same ∙ ap (λ e. e.status) is;
    unwritten = Keeps-of out out' (subst (Appends out out') (ap (λ e. e.out) is) written);
    reported = subst (Appends report report') (ap (λ e. e.report) is) reported;
  }
  unknown_told (too_wide wide is) fit tuples listed fewer = absurd (fit wide)

  why_wide : EndsWhy project tables q number e → IsTooWideToAnswer project q → TellsWidth out out' report report' r
  why_wide (told_why narrow others those other there why explains is) wide = absurd (narrow wide)
  why_wide (unknown narrow others those none is) wide = absurd (narrow wide)
  why_wide (too_wide other is) wide = width_told out out' report report' r e same written reported is

  why_done : EndsWhy project tables q number e → r ≡ status.Done → (tuples : List (List Term)) × (tuple : List Term) × IsListOf tuple_cmp (certain project tables q) tuples × (item tuples number ≡ Some tuple) × WritesExplanation project tables q tuple out out' report report' r
  why_done (told_why narrow tuples listed tuple at why explains is) done = (tuples, tuple, listed, at, explanation tuple why explains is)
  why_done (unknown narrow tuples listed none is) done = let other : status.Done ≡ status.Refused = sym done ∙ same ∙ ap (λ e. e.status) is in absurd cc
  why_done (too_wide wide is) done = let other : status.Done ≡ status.Limit = sym done ∙ same ∙ ap (λ e. e.status) is in absurd cc

module _ (words : List (List ℕ)) (faults faults' written written' reported reported' : ℕ) (out out' report report' : Option (List ℕ)) (r : Status) where
  explains : (files : Files) → (r ≢ status.ReadFault → IsWhole r → EndsAs words files out out' report report' r) → Completes (walk words files).end faults faults' written written' reported reported' r
      → Explains words files faults faults' written written' reported reported' out out' report report' r
  explains files ends complete p name number project tables q some few is a found quiet memory =
      let t = told words faults faults' written written' reported reported' out out' report report' r files (Explaining project tables q number) (rw is (why_walked number some few files p name project tables q a found)) ends complete quiet memory (λ e end same. why_whole project tables q number e r end same) in (
        (λ fit tuples listed. (
          explanation_written out out' report report' r t.0 t.2 t.3 t.4 project tables q number t.1 fit tuples listed,
          unknown_told out out' report report' r t.0 t.2 t.3 t.4 project tables q number t.1 fit tuples listed,
        )),
        why_wide out out' report report' r t.0 t.2 t.3 t.4 project tables q number t.1,
      )

  pub explains_from : (held : Option Files) → IfSome held (λ files. r ≢ status.ReadFault → IsWhole r → EndsAs words files out out' report report' r)
      → IfSome held (λ files. Completes (walk words files).end faults faults' written written' reported reported' r)
      → IfSome held (λ files. Explains words files faults faults' written written' reported reported' out out' report report' r)
  explains_from None ends complete = tt
  explains_from (Some files) ends complete = explains files ends complete

-- what is done
module _ (words : List (List ℕ)) (out out' report report' : Option (List ℕ)) (r : Status) (e : Ending) where
  explains_done : (files : Files) → ComesToJob words files e → Delivers e out out' report report' r → ExplainsSoundly words files out out' report report' r
  explains_done files comes d p name number some few is done =
      let w = d.whole (rw done (record { written = λ x. cc; reported = λ x. cc; memory = λ x. cc })) in
      let job = comes (sym w.0 ∙ done) in
      let a = explained_walk number some few files p name job.0 (rw is at job.1) in
      let t = why_done out out' report report' r e w.0 w.1 w.2 a.0 a.1 a.2 number (rw a.5 at job.2) done in
      (a.0, a.1, a.2, t.0, t.1, a.3, a.4, t.2, t.3, t.4)

  pub explains_soundly_from : (held : Option Files) → IfSome held (λ files. ComesToJob words files e) → Delivers e out out' report report' r → IfSome held (λ files. ExplainsSoundly words files out out' report report' r)
  explains_soundly_from None comes d = tt
  explains_soundly_from (Some files) comes d = explains_done files comes d
