-- What runs of `lint` and of `contained` write for a project that is read.
use Rattle.std.proofs.Common.{◌≡◌, ◌≢◌, ◌↔◌, refl, sym, subst, ap, ◌∙◌, ℕ, ◌<◌, ◌^◌, ◌-◌, is_some, List, [], ◌∷◌, length, ◌==◌, Bool, true, false, codes, arith, Option, None, Some, IfSome, Result, Ok, ◌⊎◌, inl, inr, if◌then◌else◌}
use Rattle.std.proofs.lemmas.Bool.Decides.{nat_tests}
use Rattle.std.specs.Io.KnownBytes.{Appends}
use Rattle.answer_text.specs.Containment.{containment_report, containment_text}
use Rattle.answer_text.specs.Voids.{voids_report, voids_text}
use Rattle.vocabulary.specs.Lists.{In}
use Rattle.dllite_axioms.specs.declared.axioms.Axiom.{Axiom}
use Rattle.dllite_axioms.specs.declared.axioms.Constraint.{Constraint}
use Rattle.dllite_axioms.specs.declared.axioms.Constraint.TheVariants.{Identified}
use Rattle.dllite_axioms.specs.declared.axioms.Tbox.{Tbox}
use Rattle.dllite_axioms.specs.Within.{IsAxiomWithin, IsConstraintWithin}
use Rattle.perfect_rewriting.specs.Rewriting.{IsTooWide}
use Rattle.queries.specs.declared.query.Query.{Query}
use Rattle.annotation_language.specs.Named.{query_named}
use Rattle.model_lint.specs.Containment.{IsContained, IsCovered}
use Rattle.model_lint.specs.Voids.{AreVoids as VoidsOf, HaveAttributes}
use Rattle.model_lint.specs.declared.element.VoidProof.{VoidProof}
use Rattle.project_language.specs.declared.project.Project.{Project}
use Rattle.project_language.specs.Sound.{IsSound}
use Rattle.onprom_core.specs.declared.halt.Halt.{Halt}
use Rattle.onprom_core.specs.declared.output.Output.{Output}
use Rattle.onprom_core.specs.declared.status.Status.{Status}
use Rattle.onprom_core.specs.declared.status.Status.TheVariants as status
use Rattle.onprom_core.specs.Causes.{IsWhole}
use Rattle.onprom_core.specs.Commands.{Contained, Lint}
use Rattle.onprom_core.specs.Delivery.{ComesToJob, Completes, Delivers, EndsAs}
use Rattle.onprom_core.specs.Headline.{AreComparable, Compares, ComparesSoundly, IsProjectOf, Lints, LintsSoundly, TellsPlace, TellsWidth, WritesContainment, WritesVoids}
use Rattle.onprom_core.specs.Jobs.{Ending, EndsContainment, EndsLint, contained, containment_end, linted, not_contained, too_wide, wide_end}
use Rattle.onprom_core.specs.Lines.{width_refused}
use Rattle.onprom_core.specs.Meaning.{IsContainedIn, IsTooWideToRewrite, tbox}
use Rattle.onprom_core.specs.Outputs.{Works, contained_rest, ended, lint_rest}
use Rattle.onprom_core.specs.Rewritten.{done_with}
use Rattle.onprom_core.specs.Walk.{Files, Job, Containing, Linting, command_step, contained_step, found_step, job_step, lint_step, project_step, query_step, stop, walk, width_step}
use Rattle.onprom_core.specs.Steps.{goes}
use Rattle.onprom_core.proofs.Asking.{project_alone, width_told}
use Rattle.onprom_core.proofs.Headlines.{onward}
use Rattle.onprom_core.proofs.Judging.{ends_well, told}
use Rattle.onprom_core.proofs.Walks.{Works-then}
use Rattle.onprom_core.proofs.WalksBack.{back, job_back, text_back}

-- `lint` does what the steps behind its project do
pub lint_from : (held : Option Files) (p : List ℕ) (project : Project) (result : Result Output Halt) → IfSome held (λ files. (project_step files p).end ≡ Ok project) → Works result (lint_rest project)
    → IfSome held (λ files. Works result (lint_step files p))
unfolding lint_step
lint_from None p project result read last = tt
lint_from (Some files) p project result read last = Works-then (project_step files p) lint_rest project result read last

-- `contained` does what the steps behind its project do
pub contained_from : (held : Option Files) (p : List ℕ) (project : Project) (q r : List ℕ) (result : Result Output Halt) → IfSome held (λ files. (project_step files p).end ≡ Ok project) → Works result (contained_rest q r project)
    → IfSome held (λ files. Works result (contained_step files p q r))
unfolding contained_step contained_rest
contained_from None p project q r result read last = tt
contained_from (Some files) p project q r result read last = Works-then (project_step files p) (contained_rest q r) project result read last

-- and these its job, where both queries are found and are comparable
pub compared_from : (project : Project) (q r : List ℕ) (first second : Query) (output : Output) → (query_step project q).end ≡ Ok first → (query_step project r).end ≡ Ok second → (width_step r first second).end ≡ Ok second
    → EndsContainment project first second (ended output) → Works (Ok output) (contained_rest q r project)
unfolding contained_rest
compared_from project q r first second output one other alike ends =
    Works-then (query_step project q) _ first (Ok output) one
    (Works-then (query_step project r) _ second (Ok output) other
    (Works-then (width_step r first second) _ second (Ok output) alike (Containing project first second, refl, ends)))

-- the axioms and constraints of a sound project are such that void classes and links can be sought
module _ (project : Project) (sound : IsSound project) (t : Tbox) (same : t ≡ tbox project) where
  pub few_axioms : length t.axioms < 2 ^ 32 - 1
  few_axioms = rw same (let few = sound.tbox.few_axioms in omega arith)

  pub few_constraints : length t.constraints < 2 ^ 32 - 1
  few_constraints = rw same (let few = sound.tbox.few_constraints in omega arith)

  pub axioms_within : (a : Axiom) → In a t.axioms → IsAxiomWithin (length project.model.classes) (length project.model.links) a
  axioms_within a stands = sound.tbox.axioms_within a (rw same at stands)

  pub constraints_within : (c : Constraint) → In c t.constraints → IsConstraintWithin (length project.model.classes) (length project.model.links) c
  constraints_within c stands = sound.tbox.constraints_within c (rw same at stands)

  -- an identification has an attribute
  have_attributes : HaveAttributes (tbox project).constraints
  have_attributes a stands = let some = (sound.tbox.constraints_sorted (Identified a []) stands).some in absurd (omega arith)

  -- what is void is printed
  pub ends_linted : (proofs : List VoidProof) (e : Ending) → VoidsOf t (length project.model.classes) (length project.model.links) proofs
      → e ≡ done_with (voids_text project.model.classes project.model.links proofs) (voids_report proofs) → EndsLint project e
  ends_linted proofs e found is =
      let are : VoidsOf (tbox project) (length project.model.classes) (length project.model.links) proofs = rw same at found in
      linted proofs (record {
        listed = record { ordered = are.ordered; each = are.elements; all = λ v void. are.all have_attributes v void.0 void.1 };
        shown = are.shown;
      }) is

-- the second query is told to have the first, or not
module _ (project : Project) (first second : Query) (t : Tbox) (axioms : t ≡ tbox project) where
  pub ends_compared : (place : Option ℕ) (e : Ending) → (is_some place ≡ true) ↔ IsContained t.axioms first second → IfSome place (IsCovered t.axioms first second) → (IsTooWide t.axioms second → ⊥)
      → e ≡ done_with (containment_text place) (containment_report place) → EndsContainment project first second e
  ends_compared None e tells covered narrow is =
      let fit : IsTooWide (tbox project).axioms second → ⊥ = rw axioms at narrow in
      not_contained fit (λ agreed. let some = tells.1 (rw axioms agreed) in absurd cc) is
  ends_compared (Some number) e tells covered narrow is =
      let fit : IsTooWide (tbox project).axioms second → ⊥ = rw axioms at narrow in
      let agreed : IsContained (tbox project).axioms first second = rw axioms at (tells.0 refl) in
      let place : IsCovered (tbox project).axioms first second number = rw axioms at covered in
      contained fit agreed number place is

  pub compares_too_wide : (e : Ending) → IsTooWide t.axioms second → e ≡ wide_end → EndsContainment project first second e
  compares_too_wide e wide is =
      let asks : IsTooWide (tbox project).axioms second = rw axioms at wide in
      too_wide asks is

-- heads of one length
alike : (n m : ℕ) → n ≡ m → (n == m) ≡ true
alike n m same = grind (arith, nat_tests)

same_length : (n m : ℕ) → (n == m) ≡ true → n ≡ m
same_length n m is = grind (arith, nat_tests, is)

width_walked : (r : List ℕ) (first second : Query) → length first.head ≡ length second.head → (width_step r first second).end ≡ Ok second
width_walked r first second same = rw (alike (length first.head) (length second.head) same) refl

width_back : (r : List ℕ) (first other second : Query) → (width_step r first other).end ≡ Ok second → (length first.head ≡ length other.head) × (other ≡ second)
width_back r first other second = by (length first.head == length other.head) refl
  where
    by : (b : Bool) → (length first.head == length other.head) ≡ b → (if b then goes other else stop status.Refused (width_refused r)).end ≡ Ok second → (length first.head ≡ length other.head) × (other ≡ second)
    by true is e = (same_length (length first.head) (length other.head) is, cc)
    by false is e = absurd cc

-- a query went on: it is the one of its name
pub query_back : (project : Project) (name : List ℕ) (q : Query) → (query_step project name).end ≡ Ok q → query_named project.noted.notes name ≡ Some q
query_back project name q = by (query_named project.noted.notes name)
  where
    by : (o : Option Query) → (found_step name o).end ≡ Ok q → o ≡ Some q
    by None e = absurd cc
    by (Some other) e = cc

-- a project went on, whatever its tables are
alone_back : (files : Files) (p : List ℕ) (project : Project) → (project_step files p).end ≡ Ok project → IsProjectOf files p project
alone_back files p project e =
    let t = text_back files p project e in
    record { bytes = t.0; held = t.1; read = t.2 }

-- the walks come to their jobs
lint_walked : (files : Files) (p : List ℕ) (project : Project) → IsProjectOf files p project → (walk (codes "lint" ∷ p ∷ []) files).end ≡ Ok (Linting project)
unfolding walk lint_step
lint_walked files p project a =
    onward (command_step (codes "lint" ∷ p ∷ [])) (job_step files) (Lint p) _ refl
    (onward (project_step files p) _ project _ (project_alone files p project a) refl)

contained_walked : (files : Files) (p q r : List ℕ) (project : Project) (first second : Query) → IsProjectOf files p project → AreComparable project q r first second
    → (walk (codes "contained" ∷ p ∷ q ∷ r ∷ []) files).end ≡ Ok (Containing project first second)
unfolding walk contained_step
contained_walked files p q r project first second a are =
    onward (command_step (codes "contained" ∷ p ∷ q ∷ r ∷ [])) (job_step files) (Contained p q r) _ refl
    (onward (project_step files p) _ project _ (project_alone files p project a)
    (onward (query_step project q) _ first _ (rw are.one refl)
    (onward (query_step project r) _ second _ (rw are.other refl)
    (onward (width_step r first second) _ second _ (width_walked r first second are.heads) refl))))

-- and of what they have read
linting : (files : Files) (p : List ℕ) (job : Job) → (walk (codes "lint" ∷ p ∷ []) files).end ≡ Ok job → (project : Project) × IsProjectOf files p project × (job ≡ Linting project)
unfolding lint_step
linting files p job e =
    let f : (lint_step files p).end ≡ Ok job = job_back files (codes "lint" ∷ p ∷ []) (Lint p) job refl e in
    let b = back (project_step files p) _ job f in
    let is_job : job ≡ Linting b.0 = cc in
    (b.0, alone_back files p b.0 b.1, is_job)

containing : (files : Files) (p q r : List ℕ) (job : Job) → (walk (codes "contained" ∷ p ∷ q ∷ r ∷ []) files).end ≡ Ok job
    → (project : Project) × (first : Query) × (second : Query) × IsProjectOf files p project × AreComparable project q r first second × (job ≡ Containing project first second)
unfolding contained_step
containing files p q r job e =
    let f : (contained_step files p q r).end ≡ Ok job = job_back files (codes "contained" ∷ p ∷ q ∷ r ∷ []) (Contained p q r) job refl e in
    let b = back (project_step files p) _ job f in
    let one = back (query_step b.0 q) _ job b.2 in
    let other = back (query_step b.0 r) _ job one.2 in
    let second = back (width_step r one.0 other.0) _ job other.2 in
    let w = width_back r one.0 other.0 second.0 second.1 in
    let is_job : job ≡ Containing b.0 one.0 second.0 = cc in (
      b.0,
      one.0,
      second.0,
      alone_back files p b.0 b.1,
      record { one = query_back b.0 q one.0 one.1; other = query_back b.0 r other.0 other.1 ∙ ap Some w.1; heads = w.0 ∙ ap (λ x. length x.head) w.1 },
      is_job,
    )

-- neither ends with a failed call
lint_whole : (project : Project) (e : Ending) (r : Status) → EndsLint project e → r ≡ e.status → IsWhole r × (r ≢ status.ReadFault)
lint_whole project e r (linted proofs are is) same = ends_well r status.Done (same ∙ ap (λ e. e.status) is) (λ x. cc) (λ x. cc) (λ x. cc) (λ x. cc)

contained_whole : (project : Project) (first second : Query) (e : Ending) (r : Status) → EndsContainment project first second e → r ≡ e.status → IsWhole r × (r ≢ status.ReadFault)
contained_whole project first second e r (contained narrow is_in number place is) same = ends_well r status.Done (same ∙ ap (λ e. e.status) is) (λ x. cc) (λ x. cc) (λ x. cc) (λ x. cc)
contained_whole project first second e r (not_contained narrow none is) same = ends_well r status.Done (same ∙ ap (λ e. e.status) is) (λ x. cc) (λ x. cc) (λ x. cc) (λ x. cc)
contained_whole project first second e r (too_wide wide is) same = ends_well r status.Limit (same ∙ ap (λ e. e.status) is) (λ x. cc) (λ x. cc) (λ x. cc) (λ x. cc)

module _ (out out' report report' : Option (List ℕ)) (r : Status) (e : Ending) (same : r ≡ e.status) (written : Appends out out' e.out) (reported : Appends report report' e.report) where
  voids_written : (project : Project) → EndsLint project e → WritesVoids project out out' report report' r
  voids_written project (linted proofs are is) = record {
    done = same ∙ ap (λ e. e.status) is;
    proofs = proofs;
    voids = are;
    written = subst (Appends out out') (ap (λ e. e.out) is) written;
    reported = subst (Appends report report') (ap (λ e. e.report) is) reported;
  }

  containment_written : (number : Option ℕ) → e ≡ containment_end number → WritesContainment number out out' report report' r
  containment_written number is = record {
    done = same ∙ ap (λ e. e.status) is;
    written = subst (Appends out out') (ap (λ e. e.out) is) written;
    reported = subst (Appends report report') (ap (λ e. e.report) is) reported;
  }

  module _ (project : Project) (first second : Query) where
    place_told : EndsContainment project first second e → (IsTooWideToRewrite project second → ⊥) → IsContainedIn project first second → TellsPlace project first second out out' report report' r
    place_told (contained narrow is_in number place is) fit agreed = (number, place, containment_written (Some number) is)
    place_told (not_contained narrow none is) fit agreed = absurd (none agreed)
    place_told (too_wide wide is) fit agreed = absurd (fit wide)

    none_told : EndsContainment project first second e → (IsTooWideToRewrite project second → ⊥) → (IsContainedIn project first second → ⊥) → WritesContainment None out out' report report' r
    none_told (contained narrow is_in number place is) fit other = absurd (other is_in)
    none_told (not_contained narrow none is) fit other = containment_written None is
    none_told (too_wide wide is) fit other = absurd (fit wide)

    comparison_wide : EndsContainment project first second e → IsTooWideToRewrite project second → TellsWidth out out' report report' r
    comparison_wide (contained narrow is_in number place is) wide = absurd (narrow wide)
    comparison_wide (not_contained narrow none is) wide = absurd (narrow wide)
    comparison_wide (too_wide other is) wide = width_told out out' report report' r e same written reported is

    either_told : EndsContainment project first second e → r ≡ status.Done → (IsContainedIn project first second × TellsPlace project first second out out' report report' r) ⊎ ((IsContainedIn project first second → ⊥) × WritesContainment None out out' report report' r)
    either_told (contained narrow is_in number place is) done = inl (is_in, (number, place, containment_written (Some number) is))
    either_told (not_contained narrow none is) done = inr (none, containment_written None is)
    either_told (too_wide wide is) done = let other : status.Done ≡ status.Limit = sym done ∙ same ∙ ap (λ e. e.status) is in absurd cc

module _ (words : List (List ℕ)) (faults faults' written written' reported reported' : ℕ) (out out' report report' : Option (List ℕ)) (r : Status) where
  lints : (files : Files) → (r ≢ status.ReadFault → IsWhole r → EndsAs words files out out' report report' r) → Completes (walk words files).end faults faults' written written' reported reported' r
      → Lints words files faults faults' written written' reported reported' out out' report report' r
  lints files ends complete p project named a quiet memory =
      let t = told words faults faults' written written' reported reported' out out' report report' r files (Linting project) (rw named (lint_walked files p project a)) ends complete quiet memory (λ e end same. lint_whole project e r end same) in
      voids_written out out' report report' r t.0 t.2 t.3 t.4 project t.1

  compares : (files : Files) → (r ≢ status.ReadFault → IsWhole r → EndsAs words files out out' report report' r) → Completes (walk words files).end faults faults' written written' reported reported' r
      → Compares words files faults faults' written written' reported reported' out out' report report' r
  compares files ends complete p q other project first second named a are quiet memory =
      let t = told words faults faults' written written' reported reported' out out' report report' r files (Containing project first second) (rw named (contained_walked files p q other project first second a are)) ends complete quiet memory (λ e end same. contained_whole project first second e r end same) in (
        place_told out out' report report' r t.0 t.2 t.3 t.4 project first second t.1,
        none_told out out' report report' r t.0 t.2 t.3 t.4 project first second t.1,
        comparison_wide out out' report report' r t.0 t.2 t.3 t.4 project first second t.1,
      )

  pub lints_from : (held : Option Files) → IfSome held (λ files. r ≢ status.ReadFault → IsWhole r → EndsAs words files out out' report report' r)
      → IfSome held (λ files. Completes (walk words files).end faults faults' written written' reported reported' r)
      → IfSome held (λ files. Lints words files faults faults' written written' reported reported' out out' report report' r)
  lints_from None ends complete = tt
  lints_from (Some files) ends complete = lints files ends complete

  pub compares_from : (held : Option Files) → IfSome held (λ files. r ≢ status.ReadFault → IsWhole r → EndsAs words files out out' report report' r)
      → IfSome held (λ files. Completes (walk words files).end faults faults' written written' reported reported' r)
      → IfSome held (λ files. Compares words files faults faults' written written' reported reported' out out' report report' r)
  compares_from None ends complete = tt
  compares_from (Some files) ends complete = compares files ends complete

-- what is done
module _ (words : List (List ℕ)) (out out' report report' : Option (List ℕ)) (r : Status) (e : Ending) where
  lints_done : (files : Files) → ComesToJob words files e → Delivers e out out' report report' r → LintsSoundly words files out out' report report' r
  lints_done files comes d p named done =
      let w = d.whole (rw done (record { written = λ x. cc; reported = λ x. cc; memory = λ x. cc })) in
      let job = comes (sym w.0 ∙ done) in
      let a = linting files p job.0 (rw named at job.1) in
      (a.0, a.1, voids_written out out' report report' r e w.0 w.1 w.2 a.0 (rw a.2 at job.2))

  compares_done : (files : Files) → ComesToJob words files e → Delivers e out out' report report' r → ComparesSoundly words files out out' report report' r
  compares_done files comes d p q other named done =
      let w = d.whole (rw done (record { written = λ x. cc; reported = λ x. cc; memory = λ x. cc })) in
      let job = comes (sym w.0 ∙ done) in
      let a = containing files p q other job.0 (rw named at job.1) in
      (a.0, a.1, a.2, a.3, a.4, either_told out out' report report' r e w.0 w.1 w.2 a.0 a.1 a.2 (rw a.5 at job.2) done)

  pub lints_soundly_from : (held : Option Files) → IfSome held (λ files. ComesToJob words files e) → Delivers e out out' report report' r → IfSome held (λ files. LintsSoundly words files out out' report report' r)
  lints_soundly_from None comes d = tt
  lints_soundly_from (Some files) comes d = lints_done files comes d

  pub compares_soundly_from : (held : Option Files) → IfSome held (λ files. ComesToJob words files e) → Delivers e out out' report report' r → IfSome held (λ files. ComparesSoundly words files out out' report report' r)
  compares_soundly_from None comes d = tt
  compares_soundly_from (Some files) comes d = compares_done files comes d
