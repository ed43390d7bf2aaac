-- Atoms of constants, and the facts that they stand for.
use Rattle.std.proofs.Common.{◌≡◌, refl, sym, ◌∙◌, ap, subst, Some}
use Rattle.vocabulary.specs.declared.ids.LinkId.{LinkId}
use Rattle.vocabulary.specs.declared.ids.Dir.{Dir}
use Rattle.vocabulary.specs.declared.ids.Dir.TheVariants.{Fwd, Back}
use Rattle.vocabulary.specs.declared.term.Term.{Term}
use Rattle.vocabulary.specs.declared.term.Fact.{Fact}
use Rattle.vocabulary.specs.declared.term.Fact.TheVariants.{InClass, Linked}
use Rattle.dllite_axioms.specs.declared.axioms.Basic.{Basic}
use Rattle.dllite_axioms.specs.declared.axioms.Basic.TheVariants.{Class, Has}
use Rattle.dllite_axioms.specs.Basics.{link_fact, match_at}
use Rattle.dllite_axioms.proofs.Firing.{class_match, link_match, match_class, match_link}
use Rattle.queries.specs.Matches.{AtomIs, Terms}
use Rattle.fact_derivation.specs.Asking.{basic_atom, link_atom}

pub link_is : (σ : Terms) (p : LinkId) (d : Dir) (s t : Term) → AtomIs σ (link_atom p d s t) (link_fact p d s t)
link_is σ p Fwd s t = (refl, refl, refl)
link_is σ p Back s t = (refl, refl, refl)

pub link_back : (σ : Terms) (p : LinkId) (d : Dir) (s t : Term) (f : Fact) → AtomIs σ (link_atom p d s t) f → f ≡ link_fact p d s t
link_back σ p Fwd s t (InClass b u) i = absurd i
link_back σ p Fwd s t (Linked q u v) i = λ j. Linked (sym i.0 j) (sym i.1 j) (sym i.2 j)
link_back σ p Back s t (InClass b u) i = absurd i
link_back σ p Back s t (Linked q u v) i = λ j. Linked (sym i.0 j) (sym i.1 j) (sym i.2 j)

pub basic_is : (σ : Terms) (b : Basic) (f : Fact) (t : Term) → match_at b f ≡ Some t → AtomIs σ (basic_atom b t) f
basic_is σ (Class a) f t m = subst (AtomIs σ (basic_atom (Class a) t)) (sym (class_match a f t m)) (refl, refl)
basic_is σ (Has p Fwd) f t m = let r = link_match p Fwd f t m in subst (AtomIs σ (basic_atom (Has p Fwd) t)) (sym r.1) (refl, refl, tt)
basic_is σ (Has p Back) f t m = let r = link_match p Back f t m in subst (AtomIs σ (basic_atom (Has p Back) t)) (sym r.1) (refl, tt, refl)

pub basic_back : (σ : Terms) (b : Basic) (t : Term) (f : Fact) → AtomIs σ (basic_atom b t) f → match_at b f ≡ Some t
basic_back σ (Class a) t (InClass b u) i = ap (λ z. match_at (Class a) (InClass z u)) (sym i.0) ∙ match_class a u ∙ ap Some (sym i.1)
basic_back σ (Class a) t (Linked q u v) i = absurd i
basic_back σ (Has p Fwd) t (InClass b u) i = absurd i
basic_back σ (Has p Fwd) t (Linked q u v) i = ap (λ z. match_at (Has p Fwd) (Linked z u v)) (sym i.0) ∙ match_link p Fwd u v ∙ ap Some (sym i.1)
basic_back σ (Has p Back) t (InClass b u) i = absurd i
basic_back σ (Has p Back) t (Linked q u v) i = ap (λ z. match_at (Has p Back) (Linked z u v)) (sym i.0) ∙ match_link p Back v u ∙ ap Some (sym i.2)
