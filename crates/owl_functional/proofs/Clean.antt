-- Of axioms without a fault each name is that of one class or property, and what is named is declared.
use Rattle.std.proofs.Common.{◌≡◌, refl, sym, subst, ap, ◌∙◌, ℕ, Bool, true, false, cond, not, ◌&&◌, ◌||◌, ◌==◌, List, [], ◌∷◌, ◌++◌, inl, inr, Option, Some, None, append_assoc, append-nil}
use Rattle.std.specs.List.{list_any}
use Rattle.std.specs.Str.{bytes_eq}
use Rattle.std.proofs.lemmas.Slice.Eq.{bytes_eq-Decides}
use Rattle.vocabulary.specs.Lists.{In, here, there}
use Rattle.vocabulary.proofs.Lists.{In-append_cases}
use Rattle.owl_functional.specs.declared.fault.OwlFault.TheVariants as fault
use Rattle.owl_functional.specs.declared.tree.Sort.{Sort}
use Rattle.owl_functional.specs.declared.tree.Sort.TheVariants.{Class as ClassSort, ObjectProperty, DataProperty}
use Rattle.owl_functional.specs.declared.tree.Entity.{Entity}
use Rattle.owl_functional.specs.declared.tree.Form.{Form}
use Rattle.owl_functional.specs.declared.tree.Form.TheVariants.{Unsupported, Silent, Declaration, Sub, Disjoint, Kind, SubLink, Func}
use Rattle.owl_functional.specs.declared.tree.Axiom.{Axiom}
use Rattle.owl_functional.specs.Rules.{name_of, sort_rank, same, entities, is_declaration_of, is_declaration_beside, is_unsupported, is_bad, declares, takes, is_double, is_undeclared, fault_of, or_else, first_fault, specialises, specialised_in, first_specialised}

-- truth values
pub both : (a b : Bool) → (a && b) ≡ true → (a ≡ true) × (b ≡ true)
both true b e = (refl, e)
both false b e = cc

pub second_fails : (a b : Bool) → a ≡ true → (a && b) ≡ false → b ≡ false
second_fails true b h e = e
second_fails false b h e = cc

pub not_false : (b : Bool) → not b ≡ false → b ≡ true
not_false true e = refl
not_false false e = cc

pub neither : (a b : Bool) → (a || b) ≡ false → (a ≡ false) × (b ≡ false)
neither true b e = cc
neither false b e = (refl, e)

pub not_then : {A : Type 0} (t : Bool) (x : A) (rest : Option A) → cond t (Some x) rest ≡ None → (t ≡ false) × (rest ≡ None)
not_then true x rest e = cc
not_then false x rest e = (refl, e)

-- lists
pub none_of : {X : Type 0} (p : X → Bool) (x : X) (xs : List X) → list_any p xs ≡ false → In x xs → p x ≡ false
none_of p x [] e m = elim m [ ]
none_of p x (y ∷ ys) e (here h) = subst (λ z. p z ≡ false) h (neither (p y) (list_any p ys) e).0
none_of p x (y ∷ ys) e (there m) = none_of p x ys (neither (p y) (list_any p ys) e).1 m

pub some_of : {X : Type 0} (p : X → Bool) (xs : List X) → list_any p xs ≡ true → (x : X) × In x xs × (p x ≡ true)
some_of {X} p [] e = cc
some_of {X} p (x ∷ xs) e = by (p x) (some_of p xs) refl e
  where
    by : (b : Bool) → (list_any p xs ≡ true → (y : X) × In y xs × (p y ≡ true)) → p x ≡ b → (b || list_any p xs) ≡ true → (y : X) × In y (x ∷ xs) × (p y ≡ true)
    by true more is h = (x, here refl, is)
    by false more is h = let r = more h in (r.0, there r.1, r.2)

-- classes and properties
sort_is : (s t : Sort) → (sort_rank s == sort_rank t) ≡ true → s ≡ t
sort_is ClassSort ClassSort e = refl
sort_is ObjectProperty ObjectProperty e = refl
sort_is DataProperty DataProperty e = refl
sort_is s t e = cc

sort_itself : (s : Sort) → (sort_rank s == sort_rank s) ≡ true
sort_itself ClassSort = refl
sort_itself ObjectProperty = refl
sort_itself DataProperty = refl

entity_is : (e f : Entity) → e.sort ≡ f.sort → e.iri ≡ f.iri → e ≡ f
entity_is e f s i = ap (λ (x : Sort). record { sort = x; iri = e.iri }) s ∙ ap (λ (x : List ℕ). record { sort = f.sort; iri = x }) i

pub same_is : (e f : Entity) → same e f ≡ true → e ≡ f
same_is e f h = let parts = both (sort_rank e.sort == sort_rank f.sort) (bytes_eq e.iri f.iri) h in entity_is e f (sort_is e.sort f.sort parts.0) ((bytes_eq-Decides e.iri f.iri).0 parts.1)

pub same_itself : (e : Entity) → same e e ≡ true
same_itself e = ap (λ b. b && bytes_eq e.iri e.iri) (sort_itself e.sort) ∙ (bytes_eq-Decides e.iri e.iri).1 refl

-- what an axiom declares
entity_or : Entity → Form → Entity
entity_or d Unsupported = d
entity_or d Silent = d
entity_or d (Declaration e) = e
entity_or d (Sub b c) = d
entity_or d (Disjoint cs) = d
entity_or d (Kind u k) = d
entity_or d (SubLink q x p) = d
entity_or d (Func p x) = d

one_declared : (e f : Entity) → Declaration e ≡ Declaration f → e ≡ f
unfolding entity_or
one_declared e f h = ap (entity_or e) h

declaration_is : (x : Form) (e : Entity) → is_declaration_of x e ≡ true → x ≡ Declaration e
declaration_is Unsupported e h = cc
declaration_is Silent e h = cc
declaration_is (Declaration f) e h = ap Declaration (same_is f e h)
declaration_is (Sub b c) e h = cc
declaration_is (Disjoint cs) e h = cc
declaration_is (Kind u k) e h = cc
declaration_is (SubLink q d p) e h = cc
declaration_is (Func p d) e h = cc

-- one that is declared, and by which axiom
pub record Declares (all : List Axiom) (e : Entity) : Type 0 where
  pub said : Axiom
  pub stands : In said all
  pub says : said.form ≡ Declaration e

pub declared : (all : List Axiom) (e : Entity) → is_undeclared all e ≡ false → Declares all e
declared all e h = let r = some_of (declares e) all (not_false (list_any (declares e) all) h) in record { said = r.0; stands = r.1; says = declaration_is r.0.form e r.2 }

-- each name that the axioms declare is that of one class or property
pub AreOne : List Axiom → Type 0
AreOne axioms = (a b : Axiom) → In a axioms → In b axioms → (e f : Entity) → a.form ≡ Declaration e → b.form ≡ Declaration f → name_of e.iri ≡ name_of f.iri → e ≡ f

beside_is : (x : Form) (f e : Entity) → x ≡ Declaration f → is_declaration_beside x e ≡ false → name_of f.iri ≡ name_of e.iri → f ≡ e
beside_is x f e is none names =
    let h : (bytes_eq (name_of f.iri) (name_of e.iri) && not (same f e)) ≡ false = subst (λ y. is_declaration_beside y e ≡ false) is none in
    same_is f e (not_false (same f e) (second_fails (bytes_eq (name_of f.iri) (name_of e.iri)) (not (same f e)) ((bytes_eq-Decides (name_of f.iri) (name_of e.iri)).1 names) h))

not_taken : (before : List Axiom) (x : Form) (e : Entity) → x ≡ Declaration e → is_double before x ≡ false → list_any (takes e) before ≡ false
not_taken before x e is h = subst (λ y. is_double before y ≡ false) is h

one_more : (before : List Axiom) (a : Axiom) → AreOne before → is_double before a.form ≡ false → AreOne (before ++ a ∷ [])
unfolding AreOne
one_more before a one none = λ x y m n e f i j names.
    elim (In-append_cases before (a ∷ []) m) [
      | inl h ↦ elim (In-append_cases before (a ∷ []) n) [
        | inl k ↦ one x y h k e f i j names
        | inr (here q) ↦ (let taken = not_taken before a.form f (ap (λ z. z.form) q ∙ j) none in beside_is x.form e f i (none_of (takes f) x before taken h) names)
        | inr (there k) ↦ elim k [ ]
      ]
      | inr (here p) ↦ elim (In-append_cases before (a ∷ []) n) [
        | inl k ↦ (let taken = not_taken before a.form e (ap (λ z. z.form) p ∙ i) none in sym (beside_is y.form f e j (none_of (takes e) y before taken k) (sym names)))
        | inr (here q) ↦ one_declared e f (sym i ∙ ap (λ (z : Axiom). z.form) (sym p ∙ q) ∙ j)
        | inr (there k) ↦ elim k [ ]
      ]
      | inr (there k) ↦ elim k [ ]
    ]

-- an axiom without a fault
pub record IsClean (all : List Axiom) (a : Axiom) : Type 0 where
  pub supported : is_unsupported all a.form ≡ false
  pub good : list_any is_bad (entities a.form) ≡ false
  pub told : list_any (is_undeclared all) (entities a.form) ≡ false

clean_of : (all before : List Axiom) (a : Axiom) → fault_of all before a ≡ None → IsClean all a × (is_double before a.form ≡ false)
clean_of all before a h =
    let one = not_then (is_unsupported all a.form) (fault.Unsupported a.line) _ h in
    let two = not_then (list_any is_bad (entities a.form)) (fault.BadName a.line) _ one.1 in
    let three = not_then (is_double before a.form) (fault.DoubleName a.line) _ two.1 in
    let four = not_then (list_any (is_undeclared all) (entities a.form)) (fault.Undeclared a.line) _ three.1 in
    (record { supported = one.0; good = two.0; told = four.0 }, three.0)

pub no_first : {A : Type 0} (x y : Option A) → or_else x y ≡ None → (x ≡ None) × (y ≡ None)
no_first None y e = (refl, e)
no_first (Some x) y e = cc

all_one : (all before rest : List Axiom) → AreOne before → first_fault all before rest ≡ None → AreOne (before ++ rest)
unfolding first_fault
all_one all before [] one h = subst AreOne (sym (append-nil before)) one
all_one all before (a ∷ rest) one h =
    let parts = no_first (fault_of all before a) (first_fault all (before ++ a ∷ []) rest) h in
    let clean = clean_of all before a parts.0 in
    subst AreOne (append_assoc before (a ∷ []) rest) (all_one all (before ++ a ∷ []) rest (one_more before a one clean.1) parts.1)

each_clean : (all before rest : List Axiom) → first_fault all before rest ≡ None → (a : Axiom) → In a rest → IsClean all a
unfolding first_fault
each_clean all before [] h a m = elim m [ ]
each_clean all before (b ∷ rest) h a (here e) = let parts = no_first (fault_of all before b) (first_fault all (before ++ b ∷ []) rest) h in subst (IsClean all) e (clean_of all before b parts.0).0
each_clean all before (b ∷ rest) h a (there m) = let parts = no_first (fault_of all before b) (first_fault all (before ++ b ∷ []) rest) h in each_clean all (before ++ b ∷ []) rest parts.1 a m

each_free : (all rest : List Axiom) → first_specialised all rest ≡ None → (a : Axiom) → In a rest → specialises all a.form ≡ false
unfolding first_specialised
each_free all [] h a m = elim m [ ]
each_free all (b ∷ rest) h a (here e) =
    let parts = no_first (specialised_in all b) (first_specialised all rest) h in
    subst (λ x. specialises all x.form ≡ false) e (not_then (specialises all b.form) (fault.FunctionalSpecialised b.line) None parts.0).0
each_free all (b ∷ rest) h a (there m) = let parts = no_first (specialised_in all b) (first_specialised all rest) h in each_free all rest parts.1 a m

-- axioms without a fault
pub record AreClean (all : List Axiom) : Type 0 where
  pub each : (a : Axiom) → In a all → IsClean all a
  pub one : AreOne all
  pub free : (a : Axiom) → In a all → specialises all a.form ≡ false

none_yet : AreOne []
unfolding AreOne
none_yet = λ a b m. elim m [ ]

pub clean : (all : List Axiom) → first_fault all [] all ≡ None → first_specialised all all ≡ None → AreClean all
clean all faults specialised = record { each = each_clean all [] all faults; one = all_one all [] all none_yet faults; free = each_free all all specialised }

-- a name of two is one
pub one_entity : (all : List Axiom) → AreClean all → (e f : Entity) → Declares all e → Declares all f → name_of e.iri ≡ name_of f.iri → e ≡ f
unfolding AreOne
one_entity all c e f d i names = c.one d.said i.said d.stands i.stands e f d.says i.says names

-- what an axiom names is declared
pub named_declared : (all : List Axiom) → AreClean all → (a : Axiom) → In a all → (e : Entity) → In e (entities a.form) → Declares all e
named_declared all c a m e n = declared all e (none_of (is_undeclared all) e (entities a.form) (c.each a m).told n)
