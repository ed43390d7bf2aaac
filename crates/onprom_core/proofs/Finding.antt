-- How an answer and a rewriting end, by what was found.
use Rattle.std.proofs.Common.{◌≡◌, refl, List, ℕ}
use Rattle.vocabulary.specs.Lists.{IsListOf}
use Rattle.vocabulary.specs.declared.term.Term.{Term}
use Rattle.dllite_axioms.specs.declared.axioms.Tbox.{Tbox}
use Rattle.source_tables.specs.Tables.{Loaded}
use Rattle.queries.specs.declared.query.Query.{Query}
use Rattle.queries.specs.Order.{query_cmp, tuple_cmp}
use Rattle.certain_semantics.specs.Certain.{IsCertain}
use Rattle.mapping_facts.specs.Facts.{mapped_facts}
use Rattle.perfect_rewriting.specs.Reach.{Reach}
use Rattle.perfect_rewriting.specs.Rewriting.{GiveCertain, IsTooWide as HasWideReach}
use Rattle.fold_rewriting.specs.Listing.{IsTooWide}
use Rattle.certain_answers.specs.Specified.{Specified}
use Rattle.query_subsumption.specs.Kept.{SameImages}
use Rattle.annotation_language.specs.Askable.{IsAskable}
use Rattle.answer_text.specs.Answers.{answers_report, answers_text}
use Rattle.project_language.specs.declared.project.Project.{Project}
use Rattle.onprom_core.specs.Jobs.{EndsAnswering, EndsRewriting, Ending, answered, rewritten, too_wide, wide_end}
use Rattle.onprom_core.specs.Meaning.{AnswerAs, certain, specified, tbox}
use Rattle.onprom_core.specs.Rewritten.{PrintsKept, done_with}

-- the certain answers are listed, or the query is too wide
module _ (project : Project) (tables : List Loaded) (q : Query) (s : Specified) (same : s ≡ specified project) where
  pub ends_answered : (tuples : List (List Term)) (e : Ending) → IsListOf tuple_cmp (IsCertain s.axioms (mapped_facts s.mappings tables) q) tuples → (IsTooWide s.axioms q → ⊥)
      → e ≡ done_with (answers_text tuples) (answers_report tuples) → EndsAnswering project tables q e
  ends_answered tuples e listed narrow is =
      let are : IsListOf tuple_cmp (certain project tables q) tuples = rw same at listed in
      let fit : IsTooWide (tbox project).axioms q → ⊥ = rw same at narrow in
      rw is (answered fit refl (record { tuples = tuples; listed = are; text = refl; count = refl }))

  pub answers_too_wide : (e : Ending) → IsTooWide s.axioms q → e ≡ wide_end → EndsAnswering project tables q e
  answers_too_wide e wide is =
      let asks : IsTooWide (tbox project).axioms q = rw same at wide in
      too_wide asks is

-- queries that have the same head images give the certain answers as well
pub same_answers : (project : Project) (q : Query) (members kept : List Query) → IsAskable q → SameImages members kept → GiveCertain (tbox project).axioms q members → AnswerAs project q kept
same_answers project q members kept askable same give = λ facts are tuple.
    let g = give askable.known askable.stands facts are tuple in
    let s = same facts tuple in (
      (λ c. let m = g.0 c in s.0 (m.0, m.2, (m.1, m.3))),
      (λ k. let m = s.1 k in g.1 (m.0, m.2.0, m.1, m.2.1)),
    )

-- the kept queries are printed, or the query is too wide
module _ (project : Project) (name : List ℕ) (q : Query) (t : Tbox) (axioms : t ≡ tbox project) where
  pub ends_rewritten : (members : List Query) (e : Ending) → IsAskable q → IsListOf query_cmp (Reach t.axioms q) members → (HasWideReach t.axioms q → ⊥) → GiveCertain t.axioms q members
      → PrintsKept project name members e → EndsRewriting project name q e
  ends_rewritten members e askable listed narrow give prints =
      let are : IsListOf query_cmp (Reach (tbox project).axioms q) members = rw axioms at listed in
      let fit : HasWideReach (tbox project).axioms q → ⊥ = rw axioms at narrow in
      let gives : GiveCertain (tbox project).axioms q members = rw axioms at give in
      rewritten fit members prints.kept are prints.are_kept (same_answers project q members prints.kept askable prints.images gives) prints.none_maps prints.end

  pub rewrites_too_wide : (e : Ending) → HasWideReach t.axioms q → e ≡ wide_end → EndsRewriting project name q e
  rewrites_too_wide e wide is =
      let asks : HasWideReach (tbox project).axioms q = rw axioms at wide in
      too_wide asks is
