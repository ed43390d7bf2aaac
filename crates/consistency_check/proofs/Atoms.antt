-- Facts that meet a source, and matches of its atoms.
use Rattle.std.proofs.Common.{◌≡◌, ◌≢◌, refl, sym, ◌∙◌, ap, subst, ℕ, ◌≤◌, nat_eq, if◌then◌else◌, List, [], ◌∷◌, length, Some, arith}
use Rattle.vocabulary.specs.declared.ids.VarId.{VarId}
use Rattle.vocabulary.specs.declared.ids.LinkId.{LinkId}
use Rattle.vocabulary.specs.declared.ids.Dir.{Dir}
use Rattle.vocabulary.specs.declared.ids.Dir.TheVariants.{Fwd, Back}
use Rattle.vocabulary.specs.declared.term.Term.{Term}
use Rattle.vocabulary.specs.declared.term.Fact.{Fact}
use Rattle.vocabulary.specs.declared.term.Fact.TheVariants.{InClass as ClassFact, Linked as LinkFact}
use Rattle.vocabulary.specs.Lists.{here, there}
use Rattle.dllite_axioms.specs.declared.axioms.Basic.{Basic}
use Rattle.dllite_axioms.specs.declared.axioms.Basic.TheVariants.{Class, Has}
use Rattle.dllite_axioms.specs.Basics.{link_fact, match_at}
use Rattle.dllite_axioms.proofs.Firing.{class_match, link_match, match_class, match_link}
use Rattle.queries.specs.declared.query.Arg.{Arg}
use Rattle.queries.specs.declared.query.Arg.TheVariants.{Blank, Var}
use Rattle.queries.specs.declared.query.Atom.{Atom}
use Rattle.queries.specs.declared.query.Atom.TheVariants.{InClass}
use Rattle.queries.specs.Matches.{AtomIs, Terms}
use Rattle.queries.specs.Occurrences.{HeadStands, KnownArg, count}
use Rattle.negative_closure.specs.declared.source.Source.{Source}
use Rattle.negative_closure.specs.declared.source.Source.TheVariants.{One, Two, TwoFillers, TwoLinks}
use Rattle.consistency_check.specs.Asking.{basic_atom, link_atom, source_query, var}

-- the query can be unfolded
var_is : (v w : VarId) → Var v ≡ Var w → v ≡ w
var_is v w e = cc

not_blank : (v : VarId) (x : Arg) → Var v ≡ x → x ≡ Blank → ⊥
not_blank v x e f = let g : Var v ≡ Blank = e ∙ f in cc

stands_at : (k : ℕ) (atoms : List Atom) (x : Arg) → Var (var k) ≡ x → 1 ≤ count (var k) atoms → KnownArg x × (x ≢ Blank) × ((v : VarId) → x ≡ Var v → 1 ≤ count v atoms)
stands_at k atoms x e l = (subst KnownArg e tt, (λ f. not_blank (var k) x e f), (λ v f. subst (λ z. 1 ≤ count z atoms) (var_is (var k) v (e ∙ f)) l))

first_stands : (p : LinkId) (d : Dir) → 1 ≤ count (var 1) (link_atom p d 1 ∷ link_atom p d 2 ∷ [])
first_stands p Fwd = omega arith
first_stands p Back = omega arith

second_stands : (p : LinkId) (d : Dir) → 1 ≤ count (var 2) (link_atom p d 1 ∷ link_atom p d 2 ∷ [])
second_stands p Fwd = omega arith
second_stands p Back = omega arith

pub source_stands : (s : Source) → HeadStands (source_query s)
source_stands (One x) a i = elim i [ ]
source_stands (Two x y) a i = elim i [ ]
source_stands (TwoLinks q d p) a i = elim i [ ]
source_stands (TwoFillers p d) a (here e) = stands_at 1 (link_atom p d 1 ∷ link_atom p d 2 ∷ []) a e (first_stands p d)
source_stands (TwoFillers p d) a (there (here e)) = stands_at 2 (link_atom p d 1 ∷ link_atom p d 2 ∷ []) a e (second_stands p d)
source_stands (TwoFillers p d) a (there (there i)) = elim i [ ]

pub source_few : (s : Source) → length (source_query s).atoms ≤ 16
source_few (One x) = omega arith
source_few (Two x y) = omega arith
source_few (TwoFillers p d) = omega arith
source_few (TwoLinks q d p) = omega arith

-- terms for the three variables
abbrev pub three : Term → Term → Term → Terms
three s t u v = if nat_eq v.0 0 then s else (if nat_eq v.0 1 then t else u)

-- an atom stands for a fact that matches
pub link_is : (σ : Terms) (p : LinkId) (d : Dir) (s t : Term) (k : ℕ) → σ (var 0) ≡ s → σ (var k) ≡ t → AtomIs σ (link_atom p d k) (link_fact p d s t)
link_is σ p Fwd s t k e f = (refl, e, f)
link_is σ p Back s t k e f = (refl, f, e)

pub basic_is : (b : Basic) (f : Fact) (t : Term) → match_at b f ≡ Some t → (u : Term) × ((σ : Terms) (k : ℕ) → σ (var 0) ≡ t → σ (var k) ≡ u → AtomIs σ (basic_atom b k) f)
basic_is (Class a) f t m = (t, λ σ k e e'. subst (AtomIs σ (InClass a (Var (var 0)))) (sym (class_match a f t m)) (refl, e))
basic_is (Has p d) f t m = let r = link_match p d f t m in (r.0, λ σ k e e'. subst (AtomIs σ (link_atom p d k)) (sym r.1) (link_is σ p d t r.0 k e e'))

-- and a fact matches for which it stands
pub link_back : (σ : Terms) (p : LinkId) (d : Dir) (k : ℕ) (f : Fact) → AtomIs σ (link_atom p d k) f → f ≡ link_fact p d (σ (var 0)) (σ (var k))
link_back σ p Fwd k (ClassFact b t) i = absurd i
link_back σ p Fwd k (LinkFact q s t) i = λ j. LinkFact (sym i.0 j) (sym i.1 j) (sym i.2 j)
link_back σ p Back k (ClassFact b t) i = absurd i
link_back σ p Back k (LinkFact q s t) i = λ j. LinkFact (sym i.0 j) (sym i.1 j) (sym i.2 j)

pub basic_back : (σ : Terms) (b : Basic) (k : ℕ) (f : Fact) → AtomIs σ (basic_atom b k) f → match_at b f ≡ Some (σ (var 0))
basic_back σ (Class a) k (ClassFact b t) i = ap (λ z. match_at (Class a) (ClassFact z t)) (sym i.0) ∙ match_class a t ∙ ap Some (sym i.1)
basic_back σ (Class a) k (LinkFact q s t) i = absurd i
basic_back σ (Has p d) k f i = ap (match_at (Has p d)) (link_back σ p d k f i) ∙ match_link p d (σ (var 0)) (σ (var k))
