-- The definitions, evaluated on a small model with a mistake.
use Rattle.std.proofs.Common.{ℕ, ◌≡◌, refl, ◌∙◌, ap, subst, List, [], ◌∷◌, Some, None}
use Rattle.std.specs.Prelude.{codes}
use Rattle.std.specs.declared.cmp.Ordering.TheVariants.{Less}
use Rattle.vocabulary.specs.declared.ids.LinkId.{LinkId}
use Rattle.vocabulary.specs.declared.ids.Dir.{Dir}
use Rattle.vocabulary.specs.declared.ids.Dir.TheVariants.{Fwd, Back}
use Rattle.vocabulary.specs.declared.term.Term.{Term, New, Named}
use Rattle.vocabulary.specs.declared.term.Fact.{Fact}
use Rattle.vocabulary.specs.declared.term.Fact.TheVariants.{InClass, Linked}
use Rattle.vocabulary.specs.Lists.{In, here, there}
use Rattle.vocabulary.specs.Terms.{IsKnownFact}
use Rattle.dllite_axioms.specs.declared.axioms.Axiom.{Axiom}
use Rattle.dllite_axioms.specs.declared.axioms.Axiom.TheVariants.{Sub, SubLink}
use Rattle.dllite_axioms.specs.declared.axioms.Basic.{Basic}
use Rattle.dllite_axioms.specs.declared.axioms.Basic.TheVariants.{Class as ClassBasic, Has}
use Rattle.dllite_axioms.specs.declared.axioms.Constraint.{Constraint}
use Rattle.dllite_axioms.specs.declared.axioms.Constraint.TheVariants.{Disjoint, Identified}
use Rattle.dllite_axioms.specs.declared.axioms.Tbox.{Tbox}
use Rattle.dllite_axioms.specs.Basics.{match_at}
use Rattle.dllite_axioms.specs.Chase.{AreKnown}
use Rattle.dllite_axioms.specs.Clashes.{IsConsistent}
use Rattle.dllite_axioms.specs.Worlds.{IsModel, Meets}
use Rattle.dllite_axioms.proofs.Worlds.{consistent_where_modelled}
use Rattle.negative_closure.specs.Plans.{run_of}
use Rattle.negative_closure.proofs.Places.{only_item}
use Rattle.model_lint.specs.declared.element.Void.{Void}
use Rattle.model_lint.specs.declared.element.Void.TheVariants.{Class, Link}
use Rattle.model_lint.specs.declared.element.VoidProof.{VoidProof}
use Rattle.model_lint.specs.Voids.{HaveAttributes, IsVoid, made_up, Shows, void_cmp}
use Rattle.model_lint.proofs.Renaming.{shown_is_void}

abbrev class : ℕ → Basic
class n = ClassBasic (record { 0 = n })

abbrev link : LinkId
link = record { 0 = 0 }

-- each A is linked to something, what it is linked to is a B, and each B is a C: classes 0, 1, 2; the mistake is that no B is a C
abbrev model : Tbox
model = record {
  axioms = Sub (Has link Fwd) (class 0) ∷ Sub (Has link Back) (class 1) ∷ Sub (class 0) (Has link Fwd) ∷ Sub (class 1) (class 2) ∷ [];
  constraints = Disjoint (class 1) (class 2) ∷ [];
}

abbrev an_a : Void
an_a = Class (record { 0 = 0 })

abbrev a_link : Void
a_link = Link link

abbrev x : Term
x = Named (codes "x")

abbrev filler : Term
filler = New link Fwd x

-- an A has a filler, which is a B and a C
abbrev proof_a : VoidProof
proof_a = record { what = an_a; constraint = 1; rules = (3, 1) ∷ (2, 2) ∷ (4, 3) ∷ []; first = 3; second = 4 }

a_shown : Shows model proof_a
a_shown = record {
  constraint = Disjoint (class 1) (class 2);
  numbered = refl;
  disjointness = tt;
  clash = record {
    facts = InClass (record { 0 = 0 }) x ∷ Linked link x filler ∷ InClass (record { 0 = 1 }) filler ∷ InClass (record { 0 = 2 }) filler ∷ [];
    run = refl;
    first = InClass (record { 0 = 1 }) filler;
    second = InClass (record { 0 = 2 }) filler;
    first_is = refl;
    second_is = refl;
    clash = (filler, refl, refl);
  };
}

a_void : IsVoid model an_a
a_void = shown_is_void model proof_a a_shown

-- what is linked to is a B and a C
abbrev proof_link : VoidProof
proof_link = record { what = a_link; constraint = 1; rules = (2, 1) ∷ (4, 2) ∷ []; first = 2; second = 3 }

link_shown : Shows model proof_link
link_shown = record {
  constraint = Disjoint (class 1) (class 2);
  numbered = refl;
  disjointness = tt;
  clash = record {
    facts = Linked link x (Named (codes "y")) ∷ InClass (record { 0 = 1 }) (Named (codes "y")) ∷ InClass (record { 0 = 2 }) (Named (codes "y")) ∷ [];
    run = refl;
    first = InClass (record { 0 = 1 }) (Named (codes "y"));
    second = InClass (record { 0 = 2 }) (Named (codes "y"));
    first_is = refl;
    second_is = refl;
    clash = (Named (codes "y"), refl, refl);
  };
}

-- a rule of a later step has no fact, nor has one by an axiom that does not apply
too_late : run_of model.axioms (made_up an_a ∷ []) ((3, 2) ∷ []) ≡ None
too_late = refl

not_there : run_of model.axioms (made_up a_link ∷ []) ((4, 1) ∷ []) ≡ None
not_there = refl

-- classes come before links, whatever their numbers
class_first : void_cmp (Class (record { 0 = 7 })) a_link ≡ Less
class_first = refl

-- a C alone is consistent: it is all of a model in which no facts clash
abbrev one_c : List Fact
one_c = InClass (record { 0 = 2 }) x ∷ []

abbrev left_or : Basic → Axiom → Basic
left_or l (Sub b c) = b
left_or l (SubLink q d p) = l

c_known : AreKnown one_c
c_known f m = subst IsKnownFact (only_item m) tt

c_is_all : (l r : Basic) → In (Sub l r) model.axioms → (f : Fact) (t : Term) → In f one_c → match_at l f ≡ Some t → ⊥
c_is_all l r n f t m e = by n (ap (match_at l) (only_item m) ∙ e)
  where
    by : In (Sub l r) model.axioms → match_at l (InClass (record { 0 = 2 }) x) ≡ Some t → ⊥
    by (here w) h = let no : None ≡ Some t = ap (λ ax. match_at (left_or l ax) (InClass (record { 0 = 2 }) x)) w ∙ h in cc
    by (there (here w)) h = let no : None ≡ Some t = ap (λ ax. match_at (left_or l ax) (InClass (record { 0 = 2 }) x)) w ∙ h in cc
    by (there (there (here w))) h = let no : None ≡ Some t = ap (λ ax. match_at (left_or l ax) (InClass (record { 0 = 2 }) x)) w ∙ h in cc
    by (there (there (there (here w)))) h = let no : None ≡ Some t = ap (λ ax. match_at (left_or l ax) (InClass (record { 0 = 2 }) x)) w ∙ h in cc
    by (there (there (there (there n)))) h = elim n [ ]

no_links : (q : LinkId) (d : Dir) (p : LinkId) → In (SubLink q d p) model.axioms → ⊥
no_links q d p (here w) = cc
no_links q d p (there (here w)) = cc
no_links q d p (there (there (here w))) = cc
no_links q d p (there (there (there (here w)))) = cc
no_links q d p (there (there (there (there n)))) = elim n [ ]

c_model : IsModel model.axioms one_c (λ k. one_c)
c_model = record {
  has = λ f m. (0, m);
  closed = λ l r n f t m e. absurd (c_is_all l r n f t m.1 e);
  closed_links = λ q d p n f g m e. absurd (no_links q d p n);
}

c_meets : (c : Constraint) → In c model.constraints → Meets (λ k. one_c) c
c_meets c m = subst (Meets (λ k. one_c)) (only_item m) disjoint
  where
    disjoint : Meets (λ k. one_c) (Disjoint (class 1) (class 2))
    disjoint [] all k = absurd k
    disjoint (f ∷ []) all k = absurd k
    disjoint (f ∷ g ∷ []) all (t, e, e') = let no : None ≡ Some t = ap (match_at (class 1)) (only_item (all f (here refl)).1) ∙ e in cc
    disjoint (f ∷ g ∷ h ∷ more) all k = absurd k

c_consistent : IsConsistent model.axioms model.constraints one_c
c_consistent = (consistent_where_modelled model.axioms model.constraints one_c c_known).1 ((λ k. one_c), c_model, c_meets)

c_not_void : IsVoid model (Class (record { 0 = 2 })) → ⊥
c_not_void void = void one_c c_known c_consistent (InClass (record { 0 = 2 }) x) (here refl) (x, refl)

-- where a class has one member at most and no link joins a thing to itself, a link between members is void, and no proof from one fact shows it: an identification has an attribute
by_nothing : HaveAttributes (Identified (record { 0 = 0 }) [] ∷ []) → ⊥
by_nothing h = h (record { 0 = 0 }) (here refl)

by_one : HaveAttributes (Identified (record { 0 = 0 }) (link ∷ []) ∷ [])
by_one a (here e) = cc
by_one a (there m) = elim m [ ]
