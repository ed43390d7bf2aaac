-- What the grammar reads is well formed: a property where one is due, and no data property that is inverted.
use Rattle.std.proofs.Common.{◌≡◌, refl, sym, subst, ℕ, zero, suc, Bool, true, false, List, [], ◌∷◌, ◌++◌, inl, inr, Option, Some, None, Result, Ok, Err, IfOk, IfSome, ◌==◌, ◌&&◌, not, codes}
use Rattle.std.specs.Str.{bytes_eq}
use Rattle.vocabulary.specs.declared.ids.Dir.{Dir}
use Rattle.vocabulary.specs.declared.ids.Dir.TheVariants.{Fwd, Back}
use Rattle.vocabulary.specs.declared.ids.ValueKind.{ValueKind}
use Rattle.vocabulary.specs.Lists.{In, here, there}
use Rattle.vocabulary.proofs.Lists.{In-append_cases}
use Rattle.owl_functional.specs.declared.fault.OwlFault.{OwlFault}
use Rattle.owl_functional.specs.declared.shape.Shape.TheVariants.{Open, Close, Word, End}
use Rattle.owl_functional.specs.declared.prefixes.Prefixes.{Prefixes}
use Rattle.owl_functional.specs.declared.tree.Sort.{Sort}
use Rattle.owl_functional.specs.declared.tree.Sort.TheVariants.{Class as ClassSort, ObjectProperty, DataProperty}
use Rattle.owl_functional.specs.declared.tree.Entity.{Entity}
use Rattle.owl_functional.specs.declared.tree.Concept.{Concept}
use Rattle.owl_functional.specs.declared.tree.Concept.TheVariants.{Class, Has}
use Rattle.owl_functional.specs.declared.tree.Role.{Role}
use Rattle.owl_functional.specs.declared.tree.Expression.{Expression}
use Rattle.owl_functional.specs.declared.tree.Expression.TheVariants.{Thing, Known, Other}
use Rattle.owl_functional.specs.declared.tree.Nest.{Nest}
use Rattle.owl_functional.specs.declared.tree.Form.{Form}
use Rattle.owl_functional.specs.declared.tree.Form.TheVariants as form
use Rattle.owl_functional.specs.declared.tree.Axiom.{Axiom}
use Rattle.owl_functional.specs.declared.verb.Verb.{Verb}
use Rattle.owl_functional.specs.declared.verb.Verb.TheVariants as verb
use Rattle.owl_functional.specs.Tokens.{Seen}
use Rattle.owl_functional.specs.Grammar.{Read, ◌>>=◌, is_first, is_word, token, sign, closed, passed, repeated, iri, is_built_in, thing, nothing, entity_of, entity, role_of, inverse, role, lower_role, no_nest, deeper, is_nested, some_property, some_head, some_step, innermost, closing, class_of, has, is_filler, meant, nest, expression, sub, turned, product, sub_link, func, and_known, disjoint, range, declared, declaration, sub_class, one_more, goes_on, disjoint_list, disjoint_classes, domain, sub_object, functional, data_domain, datatype, data_range, sub_data, data_functional, verb_of, annotations, said, written, axiom_of, axiom_at, axiom_more, keyword, behind_iri, prefixes as prefixes_at, axioms, document}
use Rattle.owl_functional.proofs.Pieces.{either}

-- a property of this sort can be followed in this direction
abbrev pub IsFollowed : Sort → Dir → Type 0
IsFollowed ClassSort d = ⊥
IsFollowed ObjectProperty d = Unit {0}
IsFollowed DataProperty Fwd = Unit {0}
IsFollowed DataProperty Back = ⊥

abbrev pub IsFormedConcept : Concept → Type 0
IsFormedConcept (Class a) = a.sort ≡ ClassSort
IsFormedConcept (Has p d) = IsFollowed p.sort d

-- two object properties, or two data properties in one direction
abbrev pub AreLinked : Sort → Dir → Sort → Type 0
AreLinked ObjectProperty d ObjectProperty = Unit {0}
AreLinked DataProperty Fwd DataProperty = Unit {0}
AreLinked q d p = ⊥

abbrev pub IsFormed : Form → Type 0
IsFormed form.Unsupported = Unit {0}
IsFormed form.Silent = Unit {0}
IsFormed (form.Declaration e) = Unit {0}
IsFormed (form.Sub b None) = IsFormedConcept b
IsFormed (form.Sub b (Some c)) = IsFormedConcept b × IsFormedConcept c
IsFormed (form.Disjoint cs) = (c : Concept) → In c cs → IsFormedConcept c
IsFormed (form.Kind u k) = Unit {0}
IsFormed (form.SubLink q d p) = AreLinked q.sort d p.sort
IsFormed (form.Func p d) = IsFollowed p.sort d

abbrev pub AreFormed : List Axiom → Type 0
AreFormed axioms = (a : Axiom) → In a axioms → IsFormed a.form

abbrev IsFormedExpression : Expression → Type 0
IsFormedExpression Thing = Unit {0}
IsFormedExpression (Known c) = IsFormedConcept c
IsFormedExpression Other = Unit {0}

-- one of the sort, where there is one
abbrev IsOf : Sort → Option Entity → Type 0
IsOf sort o = IfSome o (λ e. e.sort ≡ sort)

abbrev IsFormedRole : Role → Type 0
IsFormedRole r = IfSome r.property (λ p. IsFollowed p.sort r.dir)

-- one reader behind another
behind : {A B : Type 0} (f : A → Result B OwlFault) (Q : B → Type 0) (m : Result A OwlFault) (P : A → Type 0) → IfOk m P → ((x : A) → P x → IfOk (f x) Q) → IfOk (m >>= f) Q
behind f Q (Ok x) P p next = next x p
behind f Q (Err e) P p next = tt

past : {A B : Type 0} (f : A → Result B OwlFault) (Q : B → Type 0) (m : Result A OwlFault) → ((x : A) → IfOk (f x) Q) → IfOk (m >>= f) Q
past f Q (Ok x) next = next x
past f Q (Err e) next = tt

weaker : {A : Type 0} (r : Result A OwlFault) (P Q : A → Type 0) → ((x : A) → P x → Q x) → IfOk r P → IfOk r Q
weaker (Ok x) P Q follows p = follows x p
weaker (Err e) P Q follows p = tt

each_step : {S : Type 0} (P : S → Type 0) (on : List Seen → Bool) (step : S → List Seen → Read S) → ((s : S) (ts : List Seen) → P s → IfOk (step s ts) (λ x. P x.0)) → (most : ℕ) (s : S) (ts : List Seen) → P s → IfOk (repeated most on step s ts) (λ x. P x.0)
unfolding repeated
each_step {S} P on step keeps zero s ts p = tt
each_step {S} P on step keeps (suc most) s ts p = either (λ (r : Read S). IfOk r (λ x. P x.0)) (on ts) _ _
    (λ _. behind _ _ (step s ts) (λ x. P x.0) (keeps s ts p) (λ x q. each_step P on step keeps most x.0 x.1 q))
    (λ _. p)

-- properties
of_entity : (sort : Sort) (text : List ℕ) → IsOf sort (entity_of sort text)
of_entity sort text = either (IsOf sort) (is_built_in text) _ _ (λ _. tt) (λ _. refl)

read_entity : (prefixes : Prefixes) (sort : Sort) (ts : List Seen) → IfOk (entity prefixes sort ts) (λ x. IsOf sort x.0)
read_entity prefixes sort ts = past _ _ (iri prefixes ts) (λ text. of_entity sort text.0)

read_inverse : (prefixes : Prefixes) (ts : List Seen) → IfOk (inverse prefixes ts) (λ x. IsOf ObjectProperty x.0.property)
read_inverse prefixes ts = past _ _ (token Word ts) (λ word. past _ _ (sign Open word.1) (λ rest. behind _ _ (entity prefixes ObjectProperty rest) (λ x. IsOf ObjectProperty x.0) (read_entity prefixes ObjectProperty rest) (λ p h. past _ _ (sign Close p.1) (λ _. h))))

read_role : (prefixes : Prefixes) (ts : List Seen) → IfOk (role prefixes ts) (λ x. IsOf ObjectProperty x.0.property)
read_role prefixes ts = either (λ (r : Read Role). IfOk r (λ x. IsOf ObjectProperty x.0.property)) (is_word (codes "ObjectInverseOf") ts) _ _
    (λ _. read_inverse prefixes ts)
    (λ _. behind _ _ (entity prefixes ObjectProperty ts) (λ x. IsOf ObjectProperty x.0) (read_entity prefixes ObjectProperty ts) (λ p h. h))

read_lower : (prefixes : Prefixes) (ts : List Seen) → IfOk (lower_role prefixes ts) (λ x. IsOf ObjectProperty x.0.property)
read_lower prefixes ts = either (λ (r : Read Role). IfOk r (λ x. IsOf ObjectProperty x.0.property)) (is_first Word ts && not (is_word (codes "ObjectInverseOf") ts)) _ _
    (λ _. past _ _ (passed ts) (λ rest. tt))
    (λ _. read_role prefixes ts)

followed : (p : Option Entity) (d : Dir) → IsOf ObjectProperty p → IfSome p (λ e. IsFollowed e.sort d)
followed None d h = tt
followed (Some e) d h = subst (λ s. IsFollowed s d) (sym h) tt

value_followed : (p : Option Entity) → IsOf DataProperty p → IfSome p (λ e. IsFollowed e.sort Fwd)
value_followed None h = tt
value_followed (Some e) h = subst (λ s. IsFollowed s Fwd) (sym h) tt

-- class expressions
read_some_property : (prefixes : Prefixes) (of_values : Bool) (ts : List Seen) → IfOk (some_property prefixes of_values ts) (λ x. IsFormedRole x.0)
read_some_property prefixes true ts = behind _ _ (entity prefixes DataProperty ts) (λ x. IsOf DataProperty x.0) (read_entity prefixes DataProperty ts) (λ u h. value_followed u.0 h)
read_some_property prefixes false ts = weaker (role prefixes ts) (λ x. IsOf ObjectProperty x.0.property) (λ x. IsFormedRole x.0) (λ p h. followed p.0.property p.0.dir h) (read_role prefixes ts)

deeper_formed : (nest : Nest) (r : Role) (of_values : Bool) → IsFormedRole nest.role → IsFormedRole r → IsFormedRole (deeper nest r of_values).role
deeper_formed nest r of_values outer inner = either (λ (n : Nest). IsFormedRole n.role) (nest.depth == 0) _ _ (λ _. inner) (λ _. outer)

read_step : (prefixes : Prefixes) (nest : Nest) (ts : List Seen) → IsFormedRole nest.role → IfOk (some_step prefixes nest ts) (λ x. IsFormedRole x.0.role)
unfolding some_step
read_step prefixes nest ts outer = past _ _ (some_head ts) (λ of_values. behind _ _ (some_property prefixes of_values.0 of_values.1) (λ x. IsFormedRole x.0) (read_some_property prefixes of_values.0 of_values.1) (λ p h. deeper_formed nest p.0 of_values.0 outer h))

read_nest : (most : ℕ) (prefixes : Prefixes) (ts : List Seen) → IfOk (nest most prefixes ts) (λ x. IsFormedRole x.0.role)
read_nest most prefixes ts = each_step (λ (n : Nest). IsFormedRole n.role) is_nested (some_step prefixes) (read_step prefixes) most no_nest ts tt

has_formed : (p : Option Entity) (d : Dir) → IfSome p (λ e. IsFollowed e.sort d) → IsFormedExpression (has (record { property = p; dir = d }))
has_formed None d h = tt
has_formed (Some e) d h = h

class_formed : (text : List ℕ) → IsFormedExpression (class_of text)
class_formed text = either IsFormedExpression (bytes_eq text thing) _ _ (λ _. tt) (λ _. either IsFormedExpression (bytes_eq text nothing) _ _ (λ _. tt) (λ _. refl))

meant_formed : (nest : Nest) (inner : Option (List ℕ)) → IsFormedRole nest.role → IsFormedExpression (meant nest inner)
meant_formed nest None h = tt
meant_formed nest (Some text) h = either IsFormedExpression (nest.depth == 0) _ _
    (λ _. class_formed text)
    (λ _. either IsFormedExpression ((nest.depth == 1) && is_filler nest.of_values text) _ _ (λ _. has_formed nest.role.property nest.role.dir h) (λ _. tt))

read_expression : (most : ℕ) (prefixes : Prefixes) (ts : List Seen) → IfOk (expression most prefixes ts) (λ x. IsFormedExpression x.0)
unfolding expression
read_expression most prefixes ts = behind _ _ (nest most prefixes ts) (λ x. IsFormedRole x.0.role) (read_nest most prefixes ts) (λ n h. past _ _ (innermost prefixes n.1) (λ inner. past _ _ (closing n.0.depth inner.1) (λ _. meant_formed n.0 inner.0 h)))

-- forms
sub_formed : (b c : Expression) → IsFormedExpression b → IsFormedExpression c → IsFormed (sub b c)
sub_formed (Known b) (Known c) p q = (p, q)
sub_formed (Known b) Thing p q = p
sub_formed (Known b) Other p q = tt
sub_formed Thing c p q = tt
sub_formed Other c p q = tt

turned_formed : (d : Dir) (r : Role) → IsOf ObjectProperty r.property → IsFormedRole (turned d r)
turned_formed Fwd r h = followed r.property r.dir h
turned_formed Back r h = followed r.property _ h

has_turned : (d : Dir) (r : Role) → IsOf ObjectProperty r.property → IsFormedExpression (has (turned d r))
has_turned Fwd r h = has_formed r.property r.dir (followed r.property r.dir h)
has_turned Back r h = has_formed r.property _ (followed r.property _ h)

func_formed : (p : Option Entity) (d : Dir) → IfSome p (λ e. IsFollowed e.sort d) → IsFormed (func (record { property = p; dir = d }))
func_formed None d h = tt
func_formed (Some e) d h = h

func_turned : (d : Dir) (r : Role) → IsOf ObjectProperty r.property → IsFormed (func (turned d r))
func_turned Fwd r h = func_formed r.property r.dir (followed r.property r.dir h)
func_turned Back r h = func_formed r.property _ (followed r.property _ h)

objects_linked : (a b : Option Entity) (d e : Dir) → IsOf ObjectProperty a → IsOf ObjectProperty b → IsFormed (sub_link (record { property = a; dir = d }) (record { property = b; dir = e }))
objects_linked None b d e h k = tt
objects_linked (Some q) None d e h k = tt
objects_linked (Some q) (Some p) d e h k = subst (λ s. AreLinked s (product d e) p.sort) (sym h) (subst (λ s. AreLinked ObjectProperty (product d e) s) (sym k) tt)

values_linked : (a b : Option Entity) → IsOf DataProperty a → IsOf DataProperty b → IsFormed (sub_link (role_of Fwd a) (role_of Fwd b))
values_linked None b h k = tt
values_linked (Some q) None h k = tt
values_linked (Some q) (Some p) h k = subst (λ s. AreLinked s Fwd p.sort) (sym h) (subst (λ s. AreLinked DataProperty Fwd s) (sym k) tt)

AreKnownFormed : Option (List Concept) → Type 0
AreKnownFormed o = IfSome o (λ cs. (c : Concept) → In c cs → IsFormedConcept c)

and_known_formed : (known : Option (List Concept)) (e : Expression) → AreKnownFormed known → IsFormedExpression e → AreKnownFormed (and_known known e)
unfolding AreKnownFormed
and_known_formed (Some cs) (Known c) all one = λ x m. elim (In-append_cases cs (c ∷ []) m) [ inl h ↦ all x h | inr (here e) ↦ subst IsFormedConcept e one | inr (there n) ↦ elim n [ ] ]
and_known_formed (Some cs) Thing all one = tt
and_known_formed (Some cs) Other all one = tt
and_known_formed None e all one = tt

disjoint_formed : (known : Option (List Concept)) → AreKnownFormed known → IsFormed (disjoint known)
unfolding AreKnownFormed
disjoint_formed None h = tt
disjoint_formed (Some cs) h = h

declared_formed : (word text : List ℕ) → IsFormed (declared word text)
declared_formed word text = either IsFormed (is_built_in text) _ _ (λ _. tt) (λ _. either IsFormed (bytes_eq word (codes "Class")) _ _ (λ _. tt) (λ _. either IsFormed (bytes_eq word (codes "ObjectProperty")) _ _ (λ _. tt) (λ _. either IsFormed (bytes_eq word (codes "DataProperty")) _ _ (λ _. tt) (λ _. tt))))

range_formed : (u : Option Entity) (k : Option ValueKind) → IsFormed (range u k)
range_formed (Some u) (Some k) = tt
range_formed (Some u) None = tt
range_formed None k = tt

-- axioms
read_declaration : (prefixes : Prefixes) (ts : List Seen) → IfOk (declaration prefixes ts) (λ x. IsFormed x.0)
unfolding declaration
read_declaration prefixes ts = past _ _ (token Word ts) (λ word. past _ _ (sign Open word.1) (λ rest. past _ _ (iri prefixes rest) (λ text. past _ _ (sign Close text.1) (λ _. declared_formed word.0.text text.0))))

read_sub_class : (most : ℕ) (prefixes : Prefixes) (ts : List Seen) → IfOk (sub_class most prefixes ts) (λ x. IsFormed x.0)
read_sub_class most prefixes ts = behind _ _ (expression most prefixes ts) (λ x. IsFormedExpression x.0) (read_expression most prefixes ts) (λ b p. behind _ _ (expression most prefixes b.1) (λ x. IsFormedExpression x.0) (read_expression most prefixes b.1) (λ c q. sub_formed b.0 c.0 p q))

read_one_more : (most : ℕ) (prefixes : Prefixes) (known : Option (List Concept)) (ts : List Seen) → AreKnownFormed known → IfOk (one_more most prefixes known ts) (λ x. AreKnownFormed x.0)
read_one_more most prefixes known ts all = behind _ _ (expression most prefixes ts) (λ x. IsFormedExpression x.0) (read_expression most prefixes ts) (λ c one. and_known_formed known c.0 all one)

none_known : AreKnownFormed (Some [])
unfolding AreKnownFormed
none_known = λ c m. elim m [ ]

read_disjoint : (most : ℕ) (prefixes : Prefixes) (ts : List Seen) → IfOk (disjoint_classes most prefixes ts) (λ x. IsFormed x.0)
unfolding disjoint_classes
read_disjoint most prefixes ts =
    behind _ _ (one_more most prefixes (Some []) ts) (λ x. AreKnownFormed x.0) (read_one_more most prefixes (Some []) ts none_known)
    (λ first h. behind _ _ (one_more most prefixes first.0 first.1) (λ x. AreKnownFormed x.0) (read_one_more most prefixes first.0 first.1 h)
    (λ second k. behind _ _ (disjoint_list most prefixes second.0 second.1) (λ x. AreKnownFormed x.0) (each_step AreKnownFormed goes_on (one_more most prefixes) (read_one_more most prefixes) most second.0 second.1 k)
    (λ all w. disjoint_formed all.0 w)))

read_domain : (most : ℕ) (prefixes : Prefixes) (d : Dir) (ts : List Seen) → IfOk (domain most prefixes d ts) (λ x. IsFormed x.0)
read_domain most prefixes d ts = behind _ _ (role prefixes ts) (λ x. IsOf ObjectProperty x.0.property) (read_role prefixes ts) (λ p h. behind _ _ (expression most prefixes p.1) (λ x. IsFormedExpression x.0) (read_expression most prefixes p.1) (λ c q. sub_formed (has (turned d p.0)) c.0 (has_turned d p.0 h) q))

read_sub_object : (prefixes : Prefixes) (ts : List Seen) → IfOk (sub_object prefixes ts) (λ x. IsFormed x.0)
read_sub_object prefixes ts = behind _ _ (lower_role prefixes ts) (λ x. IsOf ObjectProperty x.0.property) (read_lower prefixes ts) (λ q h. behind _ _ (role prefixes q.1) (λ x. IsOf ObjectProperty x.0.property) (read_role prefixes q.1) (λ p k. objects_linked q.0.property p.0.property q.0.dir p.0.dir h k))

read_functional : (prefixes : Prefixes) (d : Dir) (ts : List Seen) → IfOk (functional prefixes d ts) (λ x. IsFormed x.0)
read_functional prefixes d ts = behind _ _ (role prefixes ts) (λ x. IsOf ObjectProperty x.0.property) (read_role prefixes ts) (λ p h. func_turned d p.0 h)

read_data_domain : (most : ℕ) (prefixes : Prefixes) (ts : List Seen) → IfOk (data_domain most prefixes ts) (λ x. IsFormed x.0)
read_data_domain most prefixes ts = behind _ _ (entity prefixes DataProperty ts) (λ x. IsOf DataProperty x.0) (read_entity prefixes DataProperty ts) (λ u h. behind _ _ (expression most prefixes u.1) (λ x. IsFormedExpression x.0) (read_expression most prefixes u.1) (λ c q. sub_formed (has (role_of Fwd u.0)) c.0 (has_formed u.0 Fwd (value_followed u.0 h)) q))

read_range : (prefixes : Prefixes) (ts : List Seen) → IfOk (data_range prefixes ts) (λ x. IsFormed x.0)
read_range prefixes ts = past _ _ (entity prefixes DataProperty ts) (λ u. past _ _ (datatype prefixes u.1) (λ k. range_formed u.0 k.0))

read_sub_data : (prefixes : Prefixes) (ts : List Seen) → IfOk (sub_data prefixes ts) (λ x. IsFormed x.0)
read_sub_data prefixes ts = behind _ _ (entity prefixes DataProperty ts) (λ x. IsOf DataProperty x.0) (read_entity prefixes DataProperty ts) (λ u h. behind _ _ (entity prefixes DataProperty u.1) (λ x. IsOf DataProperty x.0) (read_entity prefixes DataProperty u.1) (λ v k. values_linked u.0 v.0 h k))

read_data_functional : (prefixes : Prefixes) (ts : List Seen) → IfOk (data_functional prefixes ts) (λ x. IsFormed x.0)
read_data_functional prefixes ts = behind _ _ (entity prefixes DataProperty ts) (λ x. IsOf DataProperty x.0) (read_entity prefixes DataProperty ts) (λ u h. func_formed u.0 Fwd (value_followed u.0 h))

read_said : (most : ℕ) (prefixes : Prefixes) (v : Verb) (ts : List Seen) → IfOk (said most prefixes v ts) (λ x. IsFormed x.0)
read_said most prefixes verb.Declaration ts = read_declaration prefixes ts
read_said most prefixes verb.SubClassOf ts = read_sub_class most prefixes ts
read_said most prefixes verb.DisjointClasses ts = read_disjoint most prefixes ts
read_said most prefixes verb.ObjectPropertyDomain ts = read_domain most prefixes Fwd ts
read_said most prefixes verb.ObjectPropertyRange ts = read_domain most prefixes Back ts
read_said most prefixes verb.DataPropertyDomain ts = read_data_domain most prefixes ts
read_said most prefixes verb.DataPropertyRange ts = read_range prefixes ts
read_said most prefixes verb.SubObjectPropertyOf ts = read_sub_object prefixes ts
read_said most prefixes verb.SubDataPropertyOf ts = read_sub_data prefixes ts
read_said most prefixes verb.FunctionalObjectProperty ts = read_functional prefixes Fwd ts
read_said most prefixes verb.InverseFunctionalObjectProperty ts = read_functional prefixes Back ts
read_said most prefixes verb.FunctionalDataProperty ts = read_data_functional prefixes ts
read_said most prefixes verb.Annotation ts = tt
read_said most prefixes verb.Other ts = tt

read_written : (most : ℕ) (prefixes : Prefixes) (v : Verb) (ts : List Seen) → IfOk (written most prefixes v ts) (λ x. IsFormed x.0)
read_written most prefixes v ts = past _ _ (annotations most ts) (λ rest. behind _ _ (said most prefixes v rest) (λ x. IsFormed x.0) (read_said most prefixes v rest) (λ f h. past _ _ (sign Close f.1) (λ _. h)))

read_axiom_of : (most : ℕ) (prefixes : Prefixes) (v : Verb) (ts : List Seen) → IfOk (axiom_of most prefixes v ts) (λ x. IsFormed x.0)
read_axiom_of most prefixes verb.Annotation ts = past _ _ (closed 0 ts) (λ rest. tt)
read_axiom_of most prefixes verb.Other ts = past _ _ (closed 0 ts) (λ rest. tt)
read_axiom_of most prefixes verb.Declaration ts = read_written most prefixes verb.Declaration ts
read_axiom_of most prefixes verb.SubClassOf ts = read_written most prefixes verb.SubClassOf ts
read_axiom_of most prefixes verb.DisjointClasses ts = read_written most prefixes verb.DisjointClasses ts
read_axiom_of most prefixes verb.ObjectPropertyDomain ts = read_written most prefixes verb.ObjectPropertyDomain ts
read_axiom_of most prefixes verb.ObjectPropertyRange ts = read_written most prefixes verb.ObjectPropertyRange ts
read_axiom_of most prefixes verb.DataPropertyDomain ts = read_written most prefixes verb.DataPropertyDomain ts
read_axiom_of most prefixes verb.DataPropertyRange ts = read_written most prefixes verb.DataPropertyRange ts
read_axiom_of most prefixes verb.SubObjectPropertyOf ts = read_written most prefixes verb.SubObjectPropertyOf ts
read_axiom_of most prefixes verb.SubDataPropertyOf ts = read_written most prefixes verb.SubDataPropertyOf ts
read_axiom_of most prefixes verb.FunctionalObjectProperty ts = read_written most prefixes verb.FunctionalObjectProperty ts
read_axiom_of most prefixes verb.InverseFunctionalObjectProperty ts = read_written most prefixes verb.InverseFunctionalObjectProperty ts
read_axiom_of most prefixes verb.FunctionalDataProperty ts = read_written most prefixes verb.FunctionalDataProperty ts

read_axiom : (most : ℕ) (prefixes : Prefixes) (ts : List Seen) → IfOk (axiom_at most prefixes ts) (λ x. IsFormed x.0.form)
unfolding axiom_at
read_axiom most prefixes ts = past _ _ (token Word ts) (λ word. past _ _ (sign Open word.1) (λ rest. behind _ _ (axiom_of most prefixes (verb_of word.0.text) rest) (λ x. IsFormed x.0) (read_axiom_of most prefixes (verb_of word.0.text) rest) (λ f h. h)))

one_formed : (axioms : List Axiom) (a : Axiom) → AreFormed axioms → IsFormed a.form → AreFormed (axioms ++ a ∷ [])
one_formed axioms a all one = λ x m. elim (In-append_cases axioms (a ∷ []) m) [ inl h ↦ all x h | inr (here e) ↦ subst (λ y. IsFormed y.form) e one | inr (there n) ↦ elim n [ ] ]

read_more : (most : ℕ) (prefixes : Prefixes) (axioms : List Axiom) (ts : List Seen) → AreFormed axioms → IfOk (axiom_more most prefixes axioms ts) (λ x. AreFormed x.0)
read_more most prefixes axioms ts all = behind _ _ (axiom_at most prefixes ts) (λ x. IsFormed x.0.form) (read_axiom most prefixes ts) (λ a one. one_formed axioms a.0 all one)

read_axioms : (most : ℕ) (prefixes : Prefixes) (ts : List Seen) → IfOk (axioms most prefixes ts) (λ x. AreFormed x.0)
read_axioms most prefixes ts = each_step AreFormed goes_on (axiom_more most prefixes) (read_more most prefixes) most [] ts (λ a m. elim m [ ])

-- all axioms of a text
pub read_formed : (most : ℕ) (ts : List Seen) → IfOk (document most ts) AreFormed
unfolding document
read_formed most ts =
    past _ _ (prefixes_at most ts) (λ p. past _ _ (keyword (codes "Ontology") p.1) (λ rest. past _ _ (sign Open rest) (λ rest. past _ _ (annotations most (behind_iri (behind_iri rest)))
    (λ rest. behind _ _ (axioms most p.0 rest) (λ x. AreFormed x.0) (read_axioms most p.0 rest) (λ all h. past _ _ (sign Close all.1)
    (λ rest. either (λ (r : Result (List Axiom) OwlFault). IfOk r AreFormed) (is_first End rest) _ _ (λ _. h) (λ _. tt)))))))
