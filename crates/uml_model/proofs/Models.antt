-- What the lines of a model keep, its axioms and constraints keep.
use Rattle.std.proofs.Common.{ℕ, ◌≡◌, refl, sym, ◌∙◌, ap, subst, ◌≤◌, Bool, true, false, ◌||◌, ◌&&◌, ◌==◌, List, [], ◌∷◌, ◌++◌, length, ◌⊎◌, inl, inr, Some, arith}
use Rattle.std.proofs.lemmas.Bool.{eq-eqb}
use Rattle.std.specs.List.{flat_map}
use Rattle.vocabulary.specs.declared.ids.LinkId.{LinkId}
use Rattle.vocabulary.specs.declared.ids.Dir.{Dir}
use Rattle.vocabulary.specs.declared.ids.Dir.TheVariants.{Fwd, Back}
use Rattle.vocabulary.specs.declared.ids.Side.{Side}
use Rattle.vocabulary.specs.declared.ids.Side.TheVariants.{Object, Value}
use Rattle.vocabulary.specs.Lists.{In, here, there}
use Rattle.vocabulary.proofs.Lists.{In-append_cases}
use Rattle.dllite_axioms.specs.declared.axioms.Basic.TheVariants.{Class, Has}
use Rattle.dllite_axioms.specs.declared.axioms.Axiom.{Axiom}
use Rattle.dllite_axioms.specs.declared.axioms.Axiom.TheVariants.{Sub, SubLink}
use Rattle.dllite_axioms.specs.declared.axioms.Constraint.{Constraint}
use Rattle.dllite_axioms.specs.declared.axioms.Constraint.TheVariants.{Disjoint, Func, Apart, Identified}
use Rattle.uml_model.specs.declared.statement.Statement.{Statement}
use Rattle.uml_model.specs.declared.statement.Statement.TheVariants as states
use Rattle.uml_model.specs.Axioms.{begins_with_one, ends_with_one, when, axioms_of_line, constraints_of_line, axioms_of, constraints_of}
use Rattle.uml_model.specs.Bounds.{AreFunctionalFree}
use Rattle.uml_model.specs.Kept.{IsLineSorted, AreLinesSorted, Widens, AreLinesFree, AreLinesKept}
use Rattle.uml_model.specs.Rules.{Known, bounds, nothing}
use Rattle.uml_model.specs.Sorts.{HasSide, IsAxiomSorted, IsConstraintSorted, AreLinksSorted, IsModel}
use Rattle.uml_model.proofs.Keeping.{none_kept, nothing_kept}
use Rattle.uml_model.proofs.Bounds.{from_lines, of_when, two_whens, axioms_within, constraints_within}

associations : (sides : List Side) (q : LinkId) (d : Dir) (p : LinkId) → HasSide sides q Object × HasSide sides p Object → AreLinksSorted sides q d p
associations sides q Fwd p w = (Object, w.0, w.1)
associations sides q Back p w = w

line_axioms : (sides : List Side) (line : Statement) (ax : Axiom) → IsLineSorted sides line → In ax (axioms_of_line line) → IsAxiomSorted sides ax
line_axioms sides (states.Class a) ax w m = elim m [ ]
line_axioms sides (states.Sub a b) ax w (here e) = subst (IsAxiomSorted sides) e (tt, tt)
line_axioms sides (states.Sub a b) ax w (there m) = elim m [ ]
line_axioms sides (states.Disjoint a b) ax w m = elim m [ ]
line_axioms sides (states.Assoc p a m b n) ax w (here e) = subst (IsAxiomSorted sides) e ((Object, w), tt)
line_axioms sides (states.Assoc p a m b n) ax w (there (here e)) = subst (IsAxiomSorted sides) e (w, tt)
line_axioms sides (states.Assoc p a m b n) ax w (there (there h)) =
    two_whens (IsAxiomSorted sides) (begins_with_one n) (begins_with_one m) (Sub (Class a) (Has p Fwd)) (Sub (Class b) (Has p Back)) ax (tt, (Object, w)) (tt, w) h
line_axioms sides (states.Attr a u k m) ax w (here e) = subst (IsAxiomSorted sides) e ((Value k, w), tt)
line_axioms sides (states.Attr a u k m) ax w (there h) = subst (IsAxiomSorted sides) (of_when (begins_with_one m) (Sub (Class a) (Has u Fwd)) ax h) (tt, (Value k, w))
line_axioms sides (states.SubAssoc q d p) ax w (here e) = subst (IsAxiomSorted sides) e (associations sides q d p w)
line_axioms sides (states.SubAssoc q d p) ax w (there m) = elim m [ ]
line_axioms sides (states.SubAttr u v) ax w (here e) = subst (IsAxiomSorted sides) e (Value w.0, w.1, w.2)
line_axioms sides (states.SubAttr u v) ax w (there m) = elim m [ ]
line_axioms sides (states.DisjointAssoc q d p) ax w m = elim m [ ]
line_axioms sides (states.Identify a us) ax w m = elim m [ ]

line_constraints : (sides : List Side) (line : Statement) (c : Constraint) → IsLineSorted sides line → In c (constraints_of_line line) → IsConstraintSorted sides c
line_constraints sides (states.Class a) c w m = elim m [ ]
line_constraints sides (states.Sub a b) c w m = elim m [ ]
line_constraints sides (states.Disjoint a b) c w (here e) = subst (IsConstraintSorted sides) e (tt, tt)
line_constraints sides (states.Disjoint a b) c w (there m) = elim m [ ]
line_constraints sides (states.Assoc p a m b n) c w h = two_whens (IsConstraintSorted sides) (ends_with_one n) (ends_with_one m) (Func p Fwd) (Func p Back) c (Object, w) w h
line_constraints sides (states.Attr a u k m) c w h = subst (IsConstraintSorted sides) (of_when (ends_with_one m) (Func u Fwd) c h) (Value k, w)
line_constraints sides (states.SubAssoc q d p) c w m = elim m [ ]
line_constraints sides (states.SubAttr u v) c w m = elim m [ ]
line_constraints sides (states.DisjointAssoc q d p) c w (here e) = subst (IsConstraintSorted sides) e w
line_constraints sides (states.DisjointAssoc q d p) c w (there m) = elim m [ ]
line_constraints sides (states.Identify a us) c w (here e) = subst (IsConstraintSorted sides) e w
line_constraints sides (states.Identify a us) c w (there m) = elim m [ ]

-- the right side of an axiom of links
abbrev IsRight : LinkId → Axiom → Type 0
IsRight p (Sub l r) = ⊥
IsRight p (SubLink q d r) = r ≡ p

line_widens : (line : Statement) (p : LinkId) (ax : Axiom) → In ax (axioms_of_line line) → IsRight p ax → Widens p line
line_widens (states.Class a) p ax m r = elim m [ ]
line_widens (states.Sub a b) p ax (here e) r = elim (subst (IsRight p) (sym e) r) [ ]
line_widens (states.Sub a b) p ax (there m) r = elim m [ ]
line_widens (states.Disjoint a b) p ax m r = elim m [ ]
line_widens (states.Assoc q a m b n) p ax (here e) r = elim (subst (IsRight p) (sym e) r) [ ]
line_widens (states.Assoc q a m b n) p ax (there (here e)) r = elim (subst (IsRight p) (sym e) r) [ ]
line_widens (states.Assoc q a m b n) p ax (there (there h)) r =
    elim (two_whens (λ z. IsRight p z → ⊥) (begins_with_one n) (begins_with_one m) (Sub (Class a) (Has q Fwd)) (Sub (Class b) (Has q Back)) ax (λ z. z) (λ z. z) h r) [ ]
line_widens (states.Attr a u k m) p ax (here e) r = elim (subst (IsRight p) (sym e) r) [ ]
line_widens (states.Attr a u k m) p ax (there h) r = elim (subst (IsRight p) (sym (of_when (begins_with_one m) (Sub (Class a) (Has u Fwd)) ax h)) r) [ ]
line_widens (states.SubAssoc q d s) p ax (here e) r = subst (IsRight p) (sym e) r
line_widens (states.SubAssoc q d s) p ax (there m) r = elim m [ ]
line_widens (states.SubAttr u v) p ax (here e) r = subst (IsRight p) (sym e) r
line_widens (states.SubAttr u v) p ax (there m) r = elim m [ ]
line_widens (states.DisjointAssoc q d s) p ax m r = elim m [ ]
line_widens (states.Identify a us) p ax m r = elim m [ ]

-- the link of a functionality
abbrev IsOf : LinkId → Constraint → Type 0
IsOf p (Func q d) = q ≡ p
IsOf p (Disjoint l r) = ⊥
IsOf p (Apart q d r) = ⊥
IsOf p (Identified a us) = ⊥

-- an item that may be there is there where its test holds
held : {A : Type 0} (test : Bool) (x y : A) → In y (when test x) → test ≡ true
held true x y m = refl
held false x y m = elim m [ ]

either_held : {A : Type 0} (s t : Bool) (x y z : A) → In z (when s x ++ when t y) → (t || s) ≡ true
either_held s t x y z m = elim (In-append_cases (when s x) (when t y) m) [ inl h ↦ second s t (held s x z h) | inr h ↦ first s t (held t y z h) ]
  where
    second : (s t : Bool) → s ≡ true → (t || s) ≡ true
    second s true e = refl
    second s false e = e

    first : (s t : Bool) → t ≡ true → (t || s) ≡ true
    first s true e = refl
    first s false e = cc

-- of the same link, and so bounded
bounded : (q p : LinkId) (b : Bool) → q ≡ p → b ≡ true → ((q.0 == p.0) && b) ≡ true
bounded q p b e t = ap (λ z. z && b) (eq-eqb q.0 p.0 (ap (λ z. z.0) e)) ∙ t

line_bounds : (line : Statement) (p : LinkId) (c : Constraint) → In c (constraints_of_line line) → IsOf p c → bounds p line ≡ true
line_bounds (states.Class a) p c m r = elim m [ ]
line_bounds (states.Sub a b) p c m r = elim m [ ]
line_bounds (states.Disjoint a b) p c (here e) r = elim (subst (IsOf p) (sym e) r) [ ]
line_bounds (states.Disjoint a b) p c (there m) r = elim m [ ]
line_bounds (states.Assoc q a m b n) p c h r =
    let same : q ≡ p = two_whens (λ z. IsOf p z → q ≡ p) (ends_with_one n) (ends_with_one m) (Func q Fwd) (Func q Back) c (λ z. z) (λ z. z) h r in
    bounded q p (ends_with_one m || ends_with_one n) same (either_held (ends_with_one n) (ends_with_one m) (Func q Fwd) (Func q Back) c h)
line_bounds (states.Attr a u k m) p c h r =
    let same : u ≡ p = subst (IsOf p) (sym (of_when (ends_with_one m) (Func u Fwd) c h)) r in
    bounded u p (ends_with_one m) same (held (ends_with_one m) (Func u Fwd) c h)
line_bounds (states.SubAssoc q d s) p c m r = elim m [ ]
line_bounds (states.SubAttr u v) p c m r = elim m [ ]
line_bounds (states.DisjointAssoc q d s) p c (here e) r = elim (subst (IsOf p) (sym e) r) [ ]
line_bounds (states.DisjointAssoc q d s) p c (there m) r = elim m [ ]
line_bounds (states.Identify a us) p c (here e) r = elim (subst (IsOf p) (sym e) r) [ ]
line_bounds (states.Identify a us) p c (there m) r = elim m [ ]

functional_free : (statements : List Statement) → AreLinesFree statements → AreFunctionalFree (axioms_of statements) (constraints_of statements)
functional_free statements free p d m q e n =
    let one = from_lines axioms_of_line (SubLink q e p) statements n in
    let other = from_lines constraints_of_line (Func p d) statements m in
    let not_bounded : bounds p other.0 ≡ false = free p one.0 other.0 one.1 (line_widens one.0 p (SubLink q e p) one.2 refl) other.1 in
    let is_bounded : bounds p other.0 ≡ true = line_bounds other.0 p (Func p d) other.2 refl in
    cc

pub kept_model : (s : Known) → length s.classes ≤ 400 → length s.links ≤ 600 → length s.sides ≡ length s.links → length (axioms_of s.lines) ≤ 6_000 → length (constraints_of s.lines) ≤ 3_000 → AreLinesKept s → IsModel s
kept_model s c l e a k w = record {
  few_classes = c;
  few_links = l;
  each_side = e;
  few_axioms = a;
  few_constraints = k;
  axioms_within = axioms_within (length s.classes) (length s.links) s.lines w.within;
  constraints_within = constraints_within (length s.classes) (length s.links) s.lines w.within;
  functional_free = functional_free s.lines w.free;
  axioms_sorted = λ ax m. let r = from_lines axioms_of_line ax s.lines m in line_axioms s.sides r.0 ax (w.sorted r.0 r.1) r.2;
  constraints_sorted = λ x m. let r = from_lines constraints_of_line x s.lines m in line_constraints s.sides r.0 x (w.sorted r.0 r.1) r.2;
}

pub named_model : (s : Known) → s.lines ≡ [] → length s.classes ≤ 400 → length s.links ≤ 600 → length s.sides ≡ length s.links → IsModel s
named_model s none c l e =
    let same : record { classes = s.classes; links = s.links; sides = s.sides; lines = [] } ≡ s = ap (λ lines. record { classes = s.classes; links = s.links; sides = s.sides; lines = lines }) (sym none) in
    subst IsModel same (kept_model (record { classes = s.classes; links = s.links; sides = s.sides; lines = [] }) c l e (omega arith) (omega arith) (nothing_kept s.classes s.links s.sides))

pub no_model : (s : Known) → s ≡ nothing → IsModel s
no_model s is = subst IsModel (sym is) (kept_model nothing (omega arith) (omega arith) refl (omega arith) (omega arith) none_kept)

-- the invariant of a model
pub invariant_model : (classes links : List (List ℕ)) (sides : List Side) (lines : List Statement) (axioms constraints : ℕ) →
    (length classes ≤ 400) × (length links ≤ 600) × (length sides ≡ length links) × (axioms ≡ length (axioms_of lines)) × (axioms ≤ 6000) × (constraints ≡ length (constraints_of lines)) × (constraints ≤ 3000)
    × AreLinesKept (record { classes = classes; links = links; sides = sides; lines = lines }) →
    IsModel (record { classes = classes; links = links; sides = sides; lines = lines })
invariant_model classes links sides lines axioms constraints w =
    kept_model (record { classes = classes; links = links; sides = sides; lines = lines }) w.0 w.1 w.2 (subst (λ n. n ≤ 6000) w.3 w.4) (subst (λ n. n ≤ 3000) w.5 w.6) w.7
