-- Known facts that are consistent, and of which no model meets the constraints fully: a functional link with another under it.
use Rattle.std.proofs.Common.{◌≡◌, refl, sym, ◌∙◌, ap, subst, ℕ, List, [], ◌∷◌, Some, None, arith}
use Rattle.vocabulary.specs.declared.ids.LinkId.{LinkId}
use Rattle.vocabulary.specs.declared.ids.Dir.{Dir}
use Rattle.vocabulary.specs.declared.ids.Dir.TheVariants.{Fwd, Back}
use Rattle.vocabulary.specs.declared.term.Term.{Term, New, Named}
use Rattle.vocabulary.specs.declared.term.Fact.{Fact}
use Rattle.vocabulary.specs.declared.term.Fact.TheVariants.{InClass, Linked}
use Rattle.vocabulary.specs.Lists.{In, here, there}
use Rattle.vocabulary.specs.Terms.{IsKnown, IsKnownFact}
use Rattle.vocabulary.proofs.Fresh.{new_unknown}
use Rattle.dllite_axioms.specs.declared.axioms.Basic.{Basic}
use Rattle.dllite_axioms.specs.declared.axioms.Basic.TheVariants.{Class, Has}
use Rattle.dllite_axioms.specs.declared.axioms.Axiom.{Axiom}
use Rattle.dllite_axioms.specs.declared.axioms.Axiom.TheVariants.{Sub, SubLink}
use Rattle.dllite_axioms.specs.declared.axioms.Constraint.{Constraint}
use Rattle.dllite_axioms.specs.declared.axioms.Constraint.TheVariants.{Disjoint, Func}
use Rattle.dllite_axioms.specs.Basics.{match_at}
use Rattle.dllite_axioms.specs.Chase.{apply_of, AreKnown}
use Rattle.dllite_axioms.specs.Clashes.{IsConsistent}
use Rattle.dllite_axioms.proofs.Firing.{some_same, fwd_match}
use Rattle.dllite_axioms.proofs.Origins.{same_linked}
use Rattle.dllite_axioms.specs.Worlds.{Holds, IsModel, Meets, MeetsFully, World}
use Rattle.dllite_axioms.proofs.Worlds.{consistent_where_modelled}

abbrev class : ℕ → Basic
class n = Class (record { 0 = n })

abbrev p : LinkId
p = record { 0 = 0 }

abbrev q : LinkId
q = record { 0 = 1 }

abbrev a : Term
a = Named (97 ∷ [])

abbrev b : Term
b = Named (98 ∷ [])

abbrev n : Term
n = New q Fwd a

-- each member of class 0 has a filler of q, which is under p
abbrev axioms : List Axiom
axioms = Sub (class 0) (Has q Fwd) ∷ SubLink q Fwd p ∷ []

-- p is functional, and no filler of q is in class 1
abbrev constraints : List Constraint
constraints = Func p Fwd ∷ Disjoint (Has q Back) (class 1) ∷ []

-- a's filler of p is b, of class 1
abbrev facts : List Fact
facts = InClass (record { 0 = 0 }) a ∷ Linked p a b ∷ InClass (record { 0 = 1 }) b ∷ []

known : AreKnown facts
known f (here e) = subst IsKnownFact e tt
known f (there (here e)) = subst IsKnownFact e (tt, tt)
known f (there (there (here e))) = subst IsKnownFact e tt
known f (there (there (there m))) = elim m [ ]

-- a's filler of q is another, which is unknown
abbrev model : List Fact
model = InClass (record { 0 = 0 }) a ∷ Linked p a b ∷ InClass (record { 0 = 1 }) b ∷ Linked q a n ∷ Linked p a n ∷ []

of_class_0 : (f : Fact) (t : Term) → In f model → match_at (class 0) f ≡ Some t → a ≡ t
of_class_0 f t (here e) h = some_same (ap (match_at (class 0)) e ∙ h)
of_class_0 f t (there (here e)) h = let no : None ≡ Some t = ap (match_at (class 0)) e ∙ h in cc
of_class_0 f t (there (there (here e))) h = let no : None ≡ Some t = ap (match_at (class 0)) e ∙ h in cc
of_class_0 f t (there (there (there (here e)))) h = let no : None ≡ Some t = ap (match_at (class 0)) e ∙ h in cc
of_class_0 f t (there (there (there (there (here e))))) h = let no : None ≡ Some t = ap (match_at (class 0)) e ∙ h in cc
of_class_0 f t (there (there (there (there (there m))))) h = elim m [ ]

of_class_1 : (f : Fact) (t : Term) → In f model → match_at (class 1) f ≡ Some t → b ≡ t
of_class_1 f t (here e) h = let no : None ≡ Some t = ap (match_at (class 1)) e ∙ h in cc
of_class_1 f t (there (here e)) h = let no : None ≡ Some t = ap (match_at (class 1)) e ∙ h in cc
of_class_1 f t (there (there (here e))) h = some_same (ap (match_at (class 1)) e ∙ h)
of_class_1 f t (there (there (there (here e)))) h = let no : None ≡ Some t = ap (match_at (class 1)) e ∙ h in cc
of_class_1 f t (there (there (there (there (here e))))) h = let no : None ≡ Some t = ap (match_at (class 1)) e ∙ h in cc
of_class_1 f t (there (there (there (there (there m))))) h = elim m [ ]

filled_by : (f : Fact) (t : Term) → In f model → match_at (Has q Back) f ≡ Some t → n ≡ t
filled_by f t (here e) h = let no : None ≡ Some t = ap (match_at (Has q Back)) e ∙ h in cc
filled_by f t (there (here e)) h = let no : None ≡ Some t = ap (match_at (Has q Back)) e ∙ h in cc
filled_by f t (there (there (here e))) h = let no : None ≡ Some t = ap (match_at (Has q Back)) e ∙ h in cc
filled_by f t (there (there (there (here e)))) h = some_same (ap (match_at (Has q Back)) e ∙ h)
filled_by f t (there (there (there (there (here e))))) h = let no : None ≡ Some t = ap (match_at (Has q Back)) e ∙ h in cc
filled_by f t (there (there (there (there (there m))))) h = elim m [ ]

abbrev number : LinkId → ℕ
number l = l.0

-- the one known filler of p
known_filler : (s t : Term) → In (Linked p s t) model → IsKnown t → b ≡ t
known_filler s t (here e) k = cc
known_filler s t (there (here e)) k = (same_linked e).2
known_filler s t (there (there (here e))) k = cc
known_filler s t (there (there (there (here e)))) k = let no : 1 ≡ 0 = ap number ((same_linked e).0) in absurd (omega (arith, no))
known_filler s t (there (there (there (there (here e))))) k = absurd (new_unknown q Fwd a (subst IsKnown (sym (same_linked e).2) k))
known_filler s t (there (there (there (there (there m))))) k = elim m [ ]

abbrev world : World
world k = model

-- what the axiom between links gives is there
wider : (f g : Fact) → In f model → apply_of (SubLink q Fwd p) f ≡ Some g → In g model
wider f g (here e) h = let no : None ≡ Some g = ap (apply_of (SubLink q Fwd p)) e ∙ h in cc
wider f g (there (here e)) h = let no : None ≡ Some g = ap (apply_of (SubLink q Fwd p)) e ∙ h in cc
wider f g (there (there (here e))) h = let no : None ≡ Some g = ap (apply_of (SubLink q Fwd p)) e ∙ h in cc
wider f g (there (there (there (here e)))) h = there (there (there (there (here (some_same (ap (apply_of (SubLink q Fwd p)) e ∙ h))))))
wider f g (there (there (there (there (here e))))) h = let no : None ≡ Some g = ap (apply_of (SubLink q Fwd p)) e ∙ h in cc
wider f g (there (there (there (there (there m))))) h = elim m [ ]

has_all : (f : Fact) → In f facts → In f model
has_all f (here e) = here e
has_all f (there (here e)) = there (here e)
has_all f (there (there (here e))) = there (there (here e))
has_all f (there (there (there m))) = elim m [ ]

abbrev left_or : Basic → Axiom → Basic
left_or l (Sub x y) = x
left_or l (SubLink r d s) = l

abbrev right_or : Basic → Axiom → Basic
right_or r (Sub x y) = y
right_or r (SubLink s d t) = r

is_model : IsModel axioms facts world
is_model = record {
  has = λ f m. (0, has_all f m);
  closed = λ l r i f t m e. basics l r i f t m.1 e;
  closed_links = λ s d t i f g m e. links s d t i f g m.1 e;
}
  where
    basics : (l r : Basic) → In (Sub l r) axioms → (f : Fact) (t : Term) → In f model → match_at l f ≡ Some t → (g : Fact) × Holds world g × (match_at r g ≡ Some t)
    basics l r (here e) f t m h =
        let same = of_class_0 f t m (ap (λ x. match_at (left_or l x) f) e ∙ h) in
        (Linked q a n, (0, there (there (there (here refl)))), ap (λ x. match_at (right_or r x) (Linked q a n)) (sym e) ∙ ap Some same)
    basics l r (there (here e)) f t m h = cc
    basics l r (there (there i)) f t m h = elim i [ ]

    links : (s : LinkId) (d : Dir) (t : LinkId) → In (SubLink s d t) axioms → (f g : Fact) → In f model → apply_of (SubLink s d t) f ≡ Some g → Holds world g
    links s d t (here e) f g m h = cc
    links s d t (there (here e)) f g m h = (0, wider f g m (ap (λ x. apply_of x f) e ∙ h))
    links s d t (there (there i)) f g m h = elim i [ ]

meets_each : (c : Constraint) → In c constraints → Meets world c
meets_each c (here e) = subst (Meets world) e functional
  where
    functional : Meets world (Func p Fwd)
    functional [] all k = absurd k
    functional (f ∷ []) all k = absurd k
    functional (f ∷ g ∷ []) all (s, t, u, e, e', kt, ku, apart) =
        let one = known_filler s t (subst (λ x. In x model) e (all f (here refl)).1) kt in
        let two = known_filler s u (subst (λ x. In x model) e' (all g (there (here refl))).1) ku in
        apart (sym one ∙ two)
    functional (f ∷ g ∷ h ∷ more) all k = absurd k
meets_each c (there (here e)) = subst (Meets world) e disjoint
  where
    disjoint : Meets world (Disjoint (Has q Back) (class 1))
    disjoint [] all k = absurd k
    disjoint (f ∷ []) all k = absurd k
    disjoint (f ∷ g ∷ []) all (t, e, e') =
        let one = filled_by f t (all f (here refl)).1 e in
        let two = of_class_1 g t (all g (there (here refl))).1 e' in
        new_unknown q Fwd a (subst IsKnown (two ∙ sym one) tt)
    disjoint (f ∷ g ∷ h ∷ more) all k = absurd k
meets_each c (there (there m)) = elim m [ ]

consistent : IsConsistent axioms constraints facts
consistent = (consistent_where_modelled axioms constraints facts known).1 (world, is_model, meets_each)

-- in a model that meets the constraints fully the filler of q would be b
no_full_model : (w : World) → IsModel axioms facts w → ((c : Constraint) → In c constraints → MeetsFully w c) → ⊥
no_full_model w is full =
    let g = is.closed (class 0) (Has q Fwd) (here refl) (InClass (record { 0 = 0 }) a) a (is.has (InClass (record { 0 = 0 }) a) (here refl)) refl in
    let r = fwd_match q g.0 a g.2 in
    let narrow : Holds w (Linked q a r.0) = subst (Holds w) r.1 g.1 in
    let wide : Holds w (Linked p a r.0) = is.closed_links q Fwd p (there (here refl)) (Linked q a r.0) (Linked p a r.0) narrow refl in
    let same : r.0 ≡ b = full (Func p Fwd) (here refl) a r.0 b wide (is.has (Linked p a b) (there (here refl))) in
    full (Disjoint (Has q Back) (class 1)) (there (here refl)) (Linked q a r.0) (InClass (record { 0 = 1 }) b) r.0 narrow (is.has (InClass (record { 0 = 1 }) b) (there (there (here refl)))) refl (ap Some (sym same))
