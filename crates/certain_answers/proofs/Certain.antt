-- The images of the folds that are kept, in the facts of the saturated mappings, are the certain answers.
use Rattle.std.proofs.Common.{ℕ, List, ◌↔◌, ◌≤◌, length, arith, All}
use Rattle.vocabulary.specs.declared.term.Term.{Term}
use Rattle.vocabulary.specs.declared.term.Fact.{Fact}
use Rattle.vocabulary.specs.Lists.{In, IsListOf}
use Rattle.dllite_axioms.specs.declared.axioms.Axiom.{Axiom}
use Rattle.dllite_axioms.specs.Chase.{AreKnown, Derived, chase}
use Rattle.dllite_axioms.specs.Laws.{ChaseIsWhatIsDerived}
use Rattle.source_tables.specs.Tables.{Loaded}
use Rattle.queries.specs.declared.query.Query.{Query}
use Rattle.queries.specs.Occurrences.{HeadStands, KnownConstants}
use Rattle.queries.specs.Order.{tuple_cmp}
use Rattle.certain_semantics.specs.Certain.{IsCertain}
use Rattle.certain_semantics.specs.Laws.{CertainIsDerived}
use Rattle.negative_closure.specs.Laws.{KnownComeByChains}
use Rattle.perfect_rewriting.specs.Rewriting.{KeepsShape}
use Rattle.fold_rewriting.specs.Folds.{HoldsKnown}
use Rattle.fold_rewriting.specs.Listing.{GiveCertain}
use Rattle.query_subsumption.specs.Kept.{AreAmong, SameImages}
use Rattle.query_images.specs.Images.{CanUnfold, IsImage, IsImageOfOne}
use Rattle.mapping_facts.specs.declared.mapping.Mapping.{Mapping}
use Rattle.mapping_facts.specs.Facts.{mapped_facts}
use Rattle.mapping_facts.specs.Fits.{AreFit}
use Rattle.mapping_facts.proofs.Members.{In-All}
use Rattle.mapping_saturation.specs.Laws.{KnownHaveTheChase, KnownHoldTheirKnown}
use Rattle.mapping_saturation.specs.Saturation.{GiveTheKnown}
use Rattle.certain_answers.specs.Lean.{AllLean}
use Rattle.certain_answers.proofs.Keeping.{lean_stands, same_images}

-- folds can be unfolded, lean ones too, and so can those that are kept
pub kept_unfold : (axioms : List Axiom) (q : Query) (folds leans kept : List Query) → KnownConstants q → HeadStands q → length q.atoms ≤ 16 → ((m : Query) → In m folds → KeepsShape q m) → AllLean axioms folds leans → AreAmong leans kept → All CanUnfold kept
kept_unfold axioms q folds leans kept known stands few shape lean among =
    In-All CanUnfold kept (λ m i. (let l = lean.each m (among m i) in
    let s = shape l.0 l.1 in
    let less = l.2.atoms.few in
    record { stands = lean_stands l.2 (s.stands known stands).1; few = omega (arith, s.atoms, less) }))

-- where more is derived, more is certain
more_certain : CertainIsDerived → (axioms : List Axiom) (facts facts' : List Fact) → ((f : Fact) → Derived axioms facts f → Derived axioms facts' f) → (q : Query) (ts : List Term) → IsCertain axioms facts q ts → IsCertain axioms facts' q ts
more_certain law axioms facts facts' more q ts c =
    let h = (law axioms facts q ts).0 c in
    (law axioms facts' q ts).1 (h.0, (h.1.0, (λ a i. (let w = h.1.1 a i in (w.0, more w.0 w.1, w.2))), h.1.2))

-- where the chases hold the same facts, the certain answers are the same
same_certain : CertainIsDerived → ChaseIsWhatIsDerived → (axioms : List Axiom) (facts facts' : List Fact) → ((f : Fact) → ((k : ℕ) × In f (chase axioms facts k)) ↔ ((k : ℕ) × In f (chase axioms facts' k))) →
    (q : Query) (ts : List Term) → IsCertain axioms facts q ts ↔ IsCertain axioms facts' q ts
same_certain certain derived axioms facts facts' same q ts = (
  more_certain certain axioms facts facts' (λ f d. (derived axioms facts' f).0 ((same f).0 ((derived axioms facts f).1 d))) q ts,
  more_certain certain axioms facts' facts (λ f d. (derived axioms facts f).0 ((same f).1 ((derived axioms facts' f).1 d))) q ts,
)

-- the images of the kept folds in known facts that hold the known facts of their chase
images_certain : KnownComeByChains → (axioms : List Axiom) (facts : List Fact) → AreKnown facts → HoldsKnown axioms facts → (q : Query) (folds leans kept : List Query) → KnownConstants q → HeadStands q → GiveCertain axioms q folds →
    AllLean axioms folds leans → SameImages leans kept → (ts : List Term) → IsImageOfOne facts kept ts ↔ IsCertain axioms facts q ts
unfolding IsImage
images_certain chains axioms facts known holds q folds leans kept constants stands certain lean same ts = (
  (λ h. (let f = (same_images chains axioms facts known holds folds leans lean ts).1 ((same facts ts).1 h) in (certain constants stands facts known holds ts).1 (f.0, f.2.0, f.1, f.2.1))),
  (λ c. (let f = (certain constants stands facts known holds ts).0 c in (same facts ts).0 ((same_images chains axioms facts known holds folds leans lean ts).0 (f.0, f.2, (f.1, f.3))))),
)

module _ (axioms : List Axiom) (given saturated : List Mapping) (fit : AreFit given) (known : GiveTheKnown axioms given saturated) (tables : List Loaded) where
  -- the images in the facts of the saturated mappings, and the certain answers over the chase of those of the given ones
  pub answers_certain : CertainIsDerived → ChaseIsWhatIsDerived → KnownComeByChains → KnownHaveTheChase → KnownHoldTheirKnown → (q : Query) (folds leans kept : List Query) → KnownConstants q → HeadStands q →
      GiveCertain axioms q folds → AllLean axioms folds leans → SameImages leans kept →
      (tuples : List (List Term)) → IsListOf tuple_cmp (IsImageOfOne (mapped_facts saturated tables) kept) tuples → IsListOf tuple_cmp (IsCertain axioms (mapped_facts given tables) q) tuples
  answers_certain certain derived chains have hold q folds leans kept constants stands gives lean same tuples list = record {
    ordered = list.ordered;
    each = λ ts i. (back ts).1 ((images ts).0 (list.each ts i));
    all = λ ts c. list.all ts ((images ts).1 ((back ts).0 c));
  }
    where
      facts : List Fact
      facts = mapped_facts saturated tables

      images : (ts : List Term) → IsImageOfOne facts kept ts ↔ IsCertain axioms facts q ts
      images = images_certain chains axioms facts (λ f i. ((known tables f).0 i).1) (hold axioms given saturated known tables) q folds leans kept constants stands gives lean same

      back : (ts : List Term) → IsCertain axioms (mapped_facts given tables) q ts ↔ IsCertain axioms facts q ts
      back = same_certain certain derived axioms (mapped_facts given tables) facts (have axioms given saturated fit known tables) q
