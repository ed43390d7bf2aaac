-- One fact contradicts only disjointnesses, and those by which its basic is empty.
use Rattle.std.proofs.Common.{◌≡◌, refl, sym, ◌∙◌, ap, subst, ℕ, List, [], ◌∷◌, ◌⊎◌, inl, inr, Some, nat_eq, arith}
use Rattle.std.specs.Prelude.{codes}
use Rattle.vocabulary.specs.declared.ids.ClassId.{ClassId}
use Rattle.vocabulary.specs.declared.ids.LinkId.{LinkId}
use Rattle.vocabulary.specs.declared.ids.Dir.{Dir}
use Rattle.vocabulary.specs.declared.ids.Dir.TheVariants.{Fwd, Back}
use Rattle.vocabulary.specs.declared.term.Term.{Term, New, Named}
use Rattle.vocabulary.specs.declared.term.Fact.{Fact}
use Rattle.vocabulary.specs.declared.term.Fact.TheVariants.{InClass, Linked}
use Rattle.vocabulary.specs.Lists.{In, here, there}
use Rattle.vocabulary.specs.Terms.{IsKnown, IsKnownFact, text_of}
use Rattle.vocabulary.proofs.Fresh.{new_unknown, new_injective}
use Rattle.dllite_axioms.specs.declared.axioms.Basic.{Basic}
use Rattle.dllite_axioms.specs.declared.axioms.Basic.TheVariants.{Class as ClassBasic, Has}
use Rattle.dllite_axioms.specs.declared.axioms.Axiom.{Axiom}
use Rattle.dllite_axioms.specs.declared.axioms.Constraint.{Constraint}
use Rattle.dllite_axioms.specs.declared.axioms.Constraint.TheVariants.{Disjoint, Func, Apart, Identified}
use Rattle.dllite_axioms.specs.declared.axioms.Tbox.{Tbox}
use Rattle.dllite_axioms.specs.Basics.{link_fact, match_at, turn}
use Rattle.dllite_axioms.specs.Chains.{Chain, Under}
use Rattle.dllite_axioms.specs.Chase.{AreKnown, Derived}
use Rattle.dllite_axioms.specs.Clashes.{AreTwo, Clash, IsContradicted}
use Rattle.dllite_axioms.proofs.ChaseLaws.{chase_derived}
use Rattle.dllite_axioms.proofs.Firing.{when_some, same_class, same_link, match_class, match_fwd}
use Rattle.dllite_axioms.proofs.Links.{LinkFrom, from_given, from_birth, link_trace}
use Rattle.dllite_axioms.proofs.Origins.{same_linked}
use Rattle.dllite_axioms.proofs.Turning.{turn_solved}
use Rattle.negative_closure.specs.declared.source.Source.{Source}
use Rattle.negative_closure.specs.declared.source.Source.TheVariants.{One}
use Rattle.negative_closure.specs.Sources.{Empty, in_both, under_both, across, HasExactSources, IsSource, two, one, fillers, two_links, Meets}
use Rattle.negative_closure.proofs.Negative.{contradicted_where_met}
use Rattle.negative_closure.proofs.Places.{only_item}
use Rattle.model_lint.specs.declared.element.Void.{Void}
use Rattle.model_lint.specs.declared.element.Void.TheVariants.{Class, Link}
use Rattle.model_lint.specs.Marks.{basic_of}
use Rattle.model_lint.specs.Voids.{HaveAttributes, IsFactOf, IsVoid, made_up}
use Rattle.dllite_axioms.specs.Worlds.{IsDisjointness}

abbrev pub x : Term
x = Named (codes "x")

abbrev pub y : Term
y = Named (codes "y")

abbrev first_of : List ℕ → ℕ
first_of [] = 0
first_of (c ∷ text) = c

-- the two made-up objects are two
made_up_apart : x ≡ y → ⊥
made_up_apart e = let no : 120 ≡ 121 = ap (λ t. first_of (text_of t)) e in omega (arith, no)

-- at one element's fact a basic that matches at both ends is at one of them
class_basic : (b : Basic) (a : ClassId) (s t : Term) → match_at b (InClass a s) ≡ Some t → ClassBasic a ≡ b
class_basic (ClassBasic c) a s t e = let w = when_some (nat_eq a.0 c.0) s t e in λ i. ClassBasic (same_class c a w.0 i)
class_basic (Has p d) a s t e = cc

link_basic : (b : Basic) (p : LinkId) (s u t : Term) → match_at b (Linked p s u) ≡ Some t → ((Has p Fwd ≡ b) × (s ≡ t)) ⊎ ((Has p Back ≡ b) × (u ≡ t))
link_basic (ClassBasic c) p s u t e = cc
link_basic (Has q Fwd) p s u t e = let w = when_some (nat_eq p.0 q.0) s t e in inl ((λ i. Has (same_link q p w.0 i) Fwd), w.1)
link_basic (Has q Back) p s u t e = let w = when_some (nat_eq p.0 q.0) u t e in inr ((λ i. Has (same_link q p w.0 i) Back), w.1)

-- how two things that are linked come from the two made-up ones
data Joined (s t : Term) : Type 0 where
  straight : x ≡ s → y ≡ t → Joined s t
  exchanged : x ≡ t → y ≡ s → Joined s t
  forth : (p : LinkId) (d : Dir) (u : Term) → u ≡ s → New p d u ≡ t → Joined s t
  back : (p : LinkId) (d : Dir) (u : Term) → u ≡ t → New p d u ≡ s → Joined s t

other_way : {s t : Term} → Joined s t → Joined t s
other_way (straight e e') = exchanged e e'
other_way (exchanged e e') = straight e e'
other_way (forth p d u e e') = back p d u e e'
other_way (back p d u e e') = forth p d u e e'

one_way : (q : LinkId) (d : Dir) (a b s t : Term) → link_fact q d a b ≡ Linked q s t → Joined a b → Joined s t
one_way q Fwd a b s t e j = let w = same_linked e in subst (λ z. Joined z t) w.1 (subst (Joined a) w.2 j)
one_way q Back a b s t e j = let w = same_linked e in subst (λ z. Joined z t) w.1 (subst (Joined b) w.2 (other_way j))

given_way : (v : Void) (p : LinkId) (a b : Term) → made_up v ≡ Linked p a b → Joined a b
given_way (Class c) p a b e = cc
given_way (Link q) p a b e = let w = same_linked e in straight w.1 w.2

module _ {axioms : List Axiom} (v : Void) where
  joined : (q : LinkId) (s t : Term) {f : Fact} → Derived axioms (made_up v ∷ []) f → f ≡ Linked q s t → Joined s t
  joined q s t d e = by (link_trace q s t d e)
    where
      by : LinkFrom axioms (made_up v ∷ []) q s t → Joined s t
      by (from_given p e a b m u o) = one_way q e a b s t o (given_way v p a b (only_item m))
      by (from_birth r d u e born w o) = one_way q e u (New r d u) s t o (forth r d u refl refl)

  joined_at : (q : LinkId) (d : Dir) (s t : Term) {f : Fact} → Derived axioms (made_up v ∷ []) f → f ≡ link_fact q d s t → Joined s t
  joined_at q Fwd s t k e = joined q s t k e
  joined_at q Back s t k e = other_way (joined q t s k e)

-- a thing has one known other end
known_new : (p : LinkId) (d : Dir) (u t : Term) → New p d u ≡ t → IsKnown t → ⊥
known_new p d u t e k = new_unknown p d u (subst IsKnown (sym e) k)

one_known_end : (s t u : Term) → IsKnown t → IsKnown u → Joined s t → Joined s u → t ≡ u
one_known_end s t u k l (straight e e') (straight h h') = sym e' ∙ h'
one_known_end s t u k l (straight e e') (exchanged h h') = absurd (made_up_apart (e ∙ sym h'))
one_known_end s t u k l (straight e e') (forth p d w h h') = absurd (known_new p d w u h' l)
one_known_end s t u k l (straight e e') (back p d w h h') = absurd (new_unknown p d w (subst IsKnown (e ∙ sym h') tt))
one_known_end s t u k l (exchanged e e') (straight h h') = absurd (made_up_apart (h ∙ sym e'))
one_known_end s t u k l (exchanged e e') (exchanged h h') = sym e ∙ h
one_known_end s t u k l (exchanged e e') (forth p d w h h') = absurd (known_new p d w u h' l)
one_known_end s t u k l (exchanged e e') (back p d w h h') = absurd (new_unknown p d w (subst IsKnown (e' ∙ sym h') tt))
one_known_end s t u k l (forth p d w e e') j = absurd (known_new p d w t e' k)
one_known_end s t u k l (back p d w e e') (straight h h') = absurd (new_unknown p d w (subst IsKnown (h ∙ sym e') tt))
one_known_end s t u k l (back p d w e e') (exchanged h h') = absurd (new_unknown p d w (subst IsKnown (h' ∙ sym e') tt))
one_known_end s t u k l (back p d w e e') (forth q b z h h') = absurd (known_new q b z u h' l)
one_known_end s t u k l (back p d w e e') (back q b z h h') = sym e ∙ new_injective (e' ∙ sym h') ∙ h

-- the two facts of a list
two_of : (R : Fact → Fact → Type 0) (facts : List Fact) → AreTwo R facts → (f g : Fact) × In f facts × In g facts × R f g
two_of R [] h = absurd h
two_of R (f ∷ []) h = absurd h
two_of R (f ∷ g ∷ []) h = (f, g, here refl, there (here refl), h)
two_of R (f ∷ g ∷ k ∷ more) h = absurd h

-- no functional link and no identification by an attribute is contradicted
not_functional : (axioms : List Axiom) (v : Void) (p : LinkId) (d : Dir) → IsContradicted axioms (made_up v ∷ []) (Func p d) → ⊥
not_functional axioms v p d r =
    let (f, g, m, n, (s, t, u, e, e', k, l, apart)) = two_of _ r.clashing r.clash in
    let j = joined_at v p d s t (chase_derived axioms (made_up v ∷ []) r.round (r.stand f m)) e in
    let j' = joined_at v p d s u (chase_derived axioms (made_up v ∷ []) r.round (r.stand g n)) e' in
    apart (one_known_end s t u k l j j')

not_identified : (axioms : List Axiom) (v : Void) (a : ClassId) (u : LinkId) (us : List LinkId) → IsContradicted axioms (made_up v ∷ []) (Identified a (u ∷ us)) → ⊥
not_identified axioms v a u us r = by r.clash
  where
    by : Clash (Identified a (u ∷ us)) r.clashing → ⊥
    by (s, t, more, e, k, l, apart, (w, rest, e', known, others)) =
        let all : r.clashing ≡ InClass a s ∷ InClass a t ∷ Linked u s w ∷ Linked u t w ∷ rest = e ∙ ap (λ z. InClass a s ∷ InClass a t ∷ z) e' in
        let m : In (Linked u s w) r.clashing = subst (In (Linked u s w)) (sym all) (there (there (here refl))) in
        let n : In (Linked u t w) r.clashing = subst (In (Linked u t w)) (sym all) (there (there (there (here refl)))) in
        let j = joined v u s w (chase_derived axioms (made_up v ∷ []) r.round (r.stand (Linked u s w) m)) refl in
        let j' = joined v u t w (chase_derived axioms (made_up v ∷ []) r.round (r.stand (Linked u t w) n)) refl in
        apart (one_known_end w s t k l (other_way j) (other_way j'))

-- a disjointness that one fact contradicts
exact_sources : (axioms : List Axiom) (c : Constraint) → IsDisjointness c → HasExactSources axioms c
exact_sources axioms (Disjoint b c) k = tt
exact_sources axioms (Func p d) k = absurd k
exact_sources axioms (Apart q d p) k = tt
exact_sources axioms (Identified a us) k = absurd k

known_made_up : (v : Void) → AreKnown (made_up v ∷ [])
known_made_up v f m = by v f (only_item m)
  where
    by : (v : Void) (f : Fact) → made_up v ≡ f → IsKnownFact f
    by (Class a) f e = subst IsKnownFact e tt
    by (Link p) f e = subst IsKnownFact e (tt, tt)

-- what is empty at one end of a link is so at its other
empty_basic : {axioms : List Axiom} {c : Constraint} (v : Void) (b : Basic) (t : Term) → match_at b (made_up v) ≡ Some t → Empty axioms c b → Empty axioms c (basic_of v)
empty_basic {axioms} {c} (Class a) b t e h = subst (Empty axioms c) (sym (class_basic b a x t e)) h
empty_basic {axioms} {c} (Link p) b t e h =
    elim (link_basic b p x y t e) [
      | inl w ↦ subst (Empty axioms c) (sym w.0) h
      | inr w ↦ across {p = p} {d = Fwd} (subst (Empty axioms c) (sym w.0) h)
    ]

both_empty : {axioms : List Axiom} {b c : Basic} (v : Void) (b' c' : Basic) (t : Term) → match_at b' (made_up v) ≡ Some t → match_at c' (made_up v) ≡ Some t →
    Chain axioms b' b → Chain axioms c' c → Empty axioms (Disjoint b c) (basic_of v)
both_empty {axioms} {b} {c} (Class a) b' c' t e e' k k' =
    let same : c' ≡ b' = sym (class_basic c' a x t e') ∙ class_basic b' a x t e in
    empty_basic (Class a) b' t e (in_both k (subst (λ z. Chain axioms z c) same k'))
both_empty {axioms} {b} {c} (Link p) b' c' t e e' k k' =
    let on : c' ≡ b' → Empty axioms (Disjoint b c) (basic_of (Link p)) = λ same. empty_basic (Link p) b' t e (in_both k (subst (λ z. Chain axioms z c) same k')) in
    elim (link_basic b' p x y t e) [
      | inl w ↦ elim (link_basic c' p x y t e') [ inl w' ↦ on (sym w'.0 ∙ w.0) | inr w' ↦ absurd (made_up_apart (w.1 ∙ sym w'.1)) ]
      | inr w ↦ elim (link_basic c' p x y t e') [ inl w' ↦ absurd (made_up_apart (w'.1 ∙ sym w.1)) | inr w' ↦ on (sym w'.0 ∙ w.0) ]
    ]

-- a link's fact that is of two links between the same ends
same_ends : (p q p' : LinkId) (d : Dir) (s t : Term) → Linked p x y ≡ Linked q s t → Linked p x y ≡ link_fact p' d s t → (p ≡ q) × (p ≡ p') × (d ≡ Fwd)
same_ends p q p' Fwd s t e e' = ((same_linked e).0, (same_linked e').0, refl)
same_ends p q p' Back s t e e' = absurd (made_up_apart ((same_linked e).1 ∙ sym (same_linked e').2))

links_empty : {axioms : List Axiom} {q p q' p' : LinkId} {d e f : Dir} (v : Void) → Under axioms q' e q → Under axioms p' f p → (s t : Term) → made_up v ≡ Linked q' s t → made_up v ≡ link_fact p' (turn e (turn d f)) s t →
    Empty axioms (Apart q d p) (basic_of v)
links_empty (Class a) u u' s t h h' = cc
links_empty {axioms} {q} {p} {q'} {p'} {d} {e} {f} (Link r) u u' s t h h' =
    let w = same_ends r q' p' (turn e (turn d f)) s t h h' in
    under_both {x = Fwd} (subst (λ z. Under axioms z e q) (sym w.0) u) (subst (λ z. Under axioms z (turn e d) p) (sym w.1) (subst (λ z. Under axioms p' z p) (turn_solved e d f w.2) u'))

source_empty : {axioms : List Axiom} {c : Constraint} (v : Void) (s : Source) → IsDisjointness c → IsSource axioms c s → Meets (made_up v ∷ []) s → Empty axioms c (basic_of v)
source_empty v s k (two {x = b'} {y = c'} w w') (f, g, m, n, (t, e, e')) =
    both_empty v b' c' t (ap (match_at b') (only_item m) ∙ e) (ap (match_at c') (only_item n) ∙ e') w w'
source_empty v s k (one {x = b} h) (f, g, m, n, (same, (t, e))) = empty_basic v b t (ap (match_at b) (only_item m) ∙ e) h
source_empty v s k fillers met = absurd k
source_empty v s k (two_links u u') (f, g, m, n, (a, b, e, e')) = links_empty v u u' a b (only_item m ∙ e) (only_item n ∙ e')

contradicted_empty : (axioms : List Axiom) (v : Void) (c : Constraint) → IsDisjointness c → IsContradicted axioms (made_up v ∷ []) c → Empty axioms c (basic_of v)
contradicted_empty axioms v c k r =
    let m = (contradicted_where_met axioms (made_up v ∷ []) (known_made_up v) c (exact_sources axioms c k)).0 r in
    source_empty v m.0 k m.1 m.2

fact_of_it : (v : Void) → IsFactOf v (made_up v)
fact_of_it (Class a) = (x, refl)
fact_of_it (Link p) = (x, y, refl)

-- an element that no constraint makes empty is not void
pub not_void : (tbox : Tbox) → HaveAttributes tbox.constraints → (v : Void) → ((c : Constraint) → In c tbox.constraints → IsSource tbox.axioms c (One (basic_of v)) → ⊥) → IsVoid tbox v → ⊥
not_void tbox attributes v none void = void (made_up v ∷ []) (known_made_up v) (λ c m r. consistent c m r) (made_up v) (here refl) (fact_of_it v)
  where
    consistent : (c : Constraint) → In c tbox.constraints → IsContradicted tbox.axioms (made_up v ∷ []) c → ⊥
    consistent (Disjoint b c) m r = none (Disjoint b c) m (one (contradicted_empty tbox.axioms v (Disjoint b c) tt r))
    consistent (Func p d) m r = not_functional tbox.axioms v p d r
    consistent (Apart q d p) m r = none (Apart q d p) m (one (contradicted_empty tbox.axioms v (Apart q d p) tt r))
    consistent (Identified a []) m r = attributes a m
    consistent (Identified a (u ∷ us)) m r = not_identified tbox.axioms v a u us r

-- the made-up fact matches its basic
pub made_up_matches : (v : Void) → match_at (basic_of v) (made_up v) ≡ Some x
made_up_matches (Class a) = match_class a x
made_up_matches (Link p) = match_fwd p x y
