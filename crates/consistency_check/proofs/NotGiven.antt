-- Mapped facts are of classes and links that are marked.
use Rattle.std.proofs.Common.{◌≡◌, refl, sym, ◌∙◌, subst, Bool, true, false, ◌&&◌, List, Some}
use Rattle.vocabulary.specs.declared.ids.LinkId.{LinkId}
use Rattle.vocabulary.specs.declared.ids.Dir.{Dir}
use Rattle.vocabulary.specs.declared.ids.Dir.TheVariants.{Fwd, Back}
use Rattle.vocabulary.specs.declared.term.Term.{Term}
use Rattle.vocabulary.specs.declared.term.Fact.{Fact}
use Rattle.vocabulary.specs.declared.term.Fact.TheVariants.{InClass, Linked}
use Rattle.vocabulary.specs.Lists.{In}
use Rattle.source_tables.specs.Tables.{Loaded}
use Rattle.dllite_axioms.specs.declared.axioms.Basic.{Basic}
use Rattle.dllite_axioms.specs.declared.axioms.Basic.TheVariants.{Class, Has}
use Rattle.dllite_axioms.specs.Basics.{link_fact, match_at}
use Rattle.dllite_axioms.proofs.Firing.{class_match, link_match}
use Rattle.mapping_facts.specs.declared.mapping.Target.{Target}
use Rattle.mapping_facts.specs.declared.mapping.Target.TheVariants.{InClass as ClassTarget, Linked as LinkTarget}
use Rattle.mapping_facts.specs.declared.mapping.Mapping.{Mapping}
use Rattle.mapping_facts.specs.Facts.{mapped_facts}
use Rattle.mapping_facts.specs.Tuples.{cell_of}
use Rattle.mapping_facts.proofs.Facts.{Gives, in_mapped}
use Rattle.mapping_facts.proofs.Tuples.{CellsAt}
use Rattle.negative_closure.specs.declared.source.Source.{Source}
use Rattle.negative_closure.specs.declared.source.Source.TheVariants.{One, Two, TwoFillers, TwoLinks}
use Rattle.negative_closure.specs.Sources.{IsMetBy, Meets}
use Rattle.consistency_check.specs.declared.given.Given.{Given}
use Rattle.consistency_check.specs.Given.{AreMarked, IsMarked, is_marked, may_match, may_meet}

-- the class or the link of a fact is marked
abbrev FactMarked : Given → Fact → Type 0
FactMarked given (InClass a t) = is_marked given.classes.items a.0 ≡ true
FactMarked given (Linked p s t) = is_marked given.links.items p.0 ≡ true

gives_marked : (given : Given) (c : CellsAt) (g : Target) (f : Fact) → Gives c g f → IsMarked given g → FactMarked given f
gives_marked given c (ClassTarget a r) (InClass b t) h m = subst (λ z. is_marked given.classes.items z.0 ≡ true) h.0 m
gives_marked given c (ClassTarget a r) (Linked q s t) h m = absurd h
gives_marked given c (LinkTarget p r s) (InClass b t) h m = absurd h
gives_marked given c (LinkTarget p r s) (Linked q t u) h m = subst (λ z. is_marked given.links.items z.0 ≡ true) h.0 m

link_marked : (given : Given) (p : LinkId) (d : Dir) (s t : Term) (f : Fact) → f ≡ link_fact p d s t → FactMarked given f → is_marked given.links.items p.0 ≡ true
link_marked given p Fwd s t f e m = subst (FactMarked given) e m
link_marked given p Back s t f e m = subst (FactMarked given) e m

basic_marked : (given : Given) (x : Basic) (f : Fact) (t : Term) → match_at x f ≡ Some t → FactMarked given f → may_match given x ≡ true
basic_marked given (Class a) f t h m = subst (FactMarked given) (class_match a f t h) m
basic_marked given (Has p d) f t h m = let r = link_match p d f t h in link_marked given p d t r.0 f r.1 m

both_true : (a b : Bool) → a ≡ true → b ≡ true → (a && b) ≡ true
both_true a b e h = rw (e, h) refl

source_marked : (given : Given) (s : Source) (f g : Fact) → FactMarked given f → FactMarked given g → IsMetBy s f g → may_meet given s ≡ true
source_marked given (One x) f g m n met = basic_marked given x f met.1.0 met.1.1 m
source_marked given (Two x y) f g m n met = both_true (may_match given x) (may_match given y) (basic_marked given x f met.0 met.1 m) (basic_marked given y g met.0 met.2 n)
source_marked given (TwoFillers p d) f g m n (s, t, u, e, h, ks, ku, apart) = link_marked given p d s t f e m
source_marked given (TwoLinks q d p) f g m n (s, t, e, h) =
    both_true (is_marked given.links.items q.0) (is_marked given.links.items p.0) (link_marked given q Fwd s t f e m) (link_marked given p d s t g h n)

module _ (mappings : List Mapping) (tables : List Loaded) (given : Given) (marked : AreMarked mappings given) where
  mapped_marked : (f : Fact) → In f (mapped_facts mappings tables) → FactMarked given f
  mapped_marked f i =
      let m = (in_mapped mappings tables f).0 i in
      gives_marked given (cell_of tables m.mapping.query.tables m.rows) m.target f m.gives (marked m.mapping m.is_mapping m.target m.is_target)

  -- a source of which they are not is not met
  pub not_given : (s : Source) → may_meet given s ≡ false → Meets (mapped_facts mappings tables) s → ⊥
  not_given s unmet met =
      let yes = source_marked given s met.0 met.1 (mapped_marked met.0 met.2) (mapped_marked met.1 met.3) met.4 in
      let wrong : true ≡ false = sym yes ∙ unmet in
      cc
