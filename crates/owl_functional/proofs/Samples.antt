-- The definitions at small texts.
use Rattle.std.proofs.Common.{◌≡◌, ℕ, List, [], ◌∷◌, ◌++◌, Ok, Err, refl, codes}
use Rattle.owl_functional.specs.declared.shape.Shape.{Shape}
use Rattle.owl_functional.specs.declared.shape.Shape.TheVariants.{Open, Close, Equals, Iri, Word, Prefixed, End}
use Rattle.vocabulary.specs.declared.ids.ClassId.{ClassId}
use Rattle.vocabulary.specs.declared.ids.LinkId.{LinkId}
use Rattle.vocabulary.specs.declared.ids.Dir.TheVariants.{Fwd, Back}
use Rattle.vocabulary.specs.declared.ids.Side.TheVariants.{Object, Value}
use Rattle.vocabulary.specs.declared.ids.ValueKind.TheVariants.{Int}
use Rattle.dllite_axioms.specs.declared.axioms.Basic.TheVariants.{Class, Has}
use Rattle.dllite_axioms.specs.declared.axioms.Constraint.TheVariants.{Disjoint, Func}
use Rattle.owl_functional.specs.declared.fault.OwlFault.TheVariants.{Syntax, Unsupported, BadName, DoubleName, Undeclared, FunctionalSpecialised}
use Rattle.dllite_axioms.specs.declared.axioms.Axiom.TheVariants.{Sub, SubLink}
use Rattle.owl_functional.specs.declared.ontology.Ontology.{Ontology}
use Rattle.owl_functional.specs.Tokens.{Seen, inside_len, piece, tokens_behind, tokens_from}
use Rattle.owl_functional.specs.Grammar.{closed, repeated, prefix, kind_of, closing, some_step, expression, declaration, disjoint_classes, verb_of, annotations, axiom_at, document}
use Rattle.owl_functional.specs.Rules.{kind_in, first_fault, first_specialised}
use Rattle.owl_functional.specs.Ontology.{judged, read_text}

class : ℕ → ClassId
class n = record { 0 = n }

link : ℕ → LinkId
link n = record { 0 = n }

tok : Shape → List ℕ → ℕ → Seen
tok shape text line = record { shape = shape; text = text; line = line }

-- lines, each with its end
text : List (List ℕ) → List ℕ
text [] = []
text (line ∷ lines) = line ++ 10 ∷ text lines

a_prefix : tokens_from 1 (text (codes "Prefix(:=<http://e#>)#(" ∷ codes "a:b:c" ∷ [])) ≡
    tok Word (codes "Prefix") 1 ∷ tok Open (codes "(") 1 ∷ tok Prefixed (codes ":") 1 ∷ tok Equals (codes "=") 1 ∷ tok Iri (codes "<http://e#>") 1 ∷ tok Close (codes ")") 1
    ∷ tok Prefixed (codes "a:b:c") 2 ∷ tok End [] 3 ∷ []
unfolding tokens_behind piece inside_len text tok
a_prefix = refl

head : List (List ℕ)
head = codes "Prefix(:=<http://e/onto#>)" ∷ codes "Prefix(owl:=<http://www.w3.org/2002/07/owl#>)" ∷ codes "Ontology(<http://e/onto>" ∷ []

m8 : List (List ℕ) → List (List ℕ) → List ℕ
m8 declarations axioms = text (head ++ (declarations ++ (axioms ++ (codes ")" ∷ []))))

classes : List (List ℕ)
classes = codes "Declaration(Class(:A))" ∷ codes "Declaration(Class(:B))" ∷ codes "Declaration(Class(:C))" ∷ []

sums : List (List ℕ)
sums = codes "DisjointClasses(:B :C)" ∷ codes "ObjectPropertyDomain(:p :A)" ∷ codes "ObjectPropertyRange(:p :B)" ∷ codes "SubClassOf(:A ObjectSomeValuesFrom(:p owl:Thing))" ∷ []

last : List (List ℕ)
last = codes "SubClassOf(Annotation(:note \"as \\\"m8\\\"\") :B :C) # the fourth axiom" ∷ []

property : List (List ℕ)
property = codes "Declaration(ObjectProperty(:p))" ∷ []

partners : Ontology
partners = record {
  classes = codes "A" ∷ codes "B" ∷ codes "C" ∷ [];
  links = codes "p" ∷ [];
  sides = Object ∷ [];
  tbox = record {
    axioms = Sub (Has (link 0) Fwd) (Class (class 0)) ∷ Sub (Has (link 0) Back) (Class (class 1)) ∷ Sub (Class (class 0)) (Has (link 0) Fwd) ∷ Sub (Class (class 1)) (Class (class 2)) ∷ [];
    constraints = Disjoint (Class (class 1)) (Class (class 2)) ∷ [];
  };
}

-- a class A, an object property p and a data property u, and then these lines from the third on
small : List (List ℕ) → List ℕ
small lines = text (codes "Prefix(:=<x#>)Prefix(owl:=<http://www.w3.org/2002/07/owl#>)" ∷ codes "Ontology(Declaration(Class(:A))Declaration(ObjectProperty(:p))Declaration(DataProperty(:u))" ∷ (lines ++ (codes ")" ∷ [])))

-- each A has a partner, which is a B and so a C; no B is a C
an_ontology : read_text (m8 (classes ++ property) (sums ++ last)) ≡ Ok partners
unfolding class link text head m8 classes property sums last partners tokens_behind piece inside_len closed repeated prefix kind_of closing some_step expression declaration disjoint_classes verb_of annotations axiom_at document kind_in first_fault first_specialised judged
an_ontology = refl

another_axiom : read_text (m8 (classes ++ property) (sums ++ (codes "EquivalentClasses(:B :C)" ∷ []))) ≡ Err (Unsupported 12)
unfolding class link text head m8 classes property sums last partners small tokens_behind piece inside_len closed repeated prefix kind_of closing some_step expression declaration disjoint_classes verb_of annotations axiom_at document kind_in first_fault first_specialised judged
another_axiom = refl

an_undeclared_property : read_text (m8 classes (sums ++ last)) ≡ Err (Undeclared 8)
unfolding class link text head m8 classes property sums last partners small tokens_behind piece inside_len closed repeated prefix kind_of closing some_step expression declaration disjoint_classes verb_of annotations axiom_at document kind_in first_fault first_specialised judged
an_undeclared_property = refl

a_functional_property_above : read_text (m8 (classes ++ property) (sums ++ (last ++ (codes "FunctionalObjectProperty(:p)" ∷ codes "SubObjectPropertyOf(ObjectInverseOf(:p) :p)" ∷ [])))) ≡ Err (FunctionalSpecialised 14)
unfolding class link text head m8 classes property sums last partners small tokens_behind piece inside_len closed repeated prefix kind_of closing some_step expression declaration disjoint_classes verb_of annotations axiom_at document kind_in first_fault first_specialised judged
a_functional_property_above = refl

no_end : read_text (text (head ++ (classes ++ (property ++ (sums ++ last))))) ≡ Err (Syntax 13)
unfolding class link text head m8 classes property sums last partners small tokens_behind piece inside_len closed repeated prefix kind_of closing some_step expression declaration disjoint_classes verb_of annotations axiom_at document kind_in first_fault first_specialised judged
no_end = refl

a_bare_word : read_text (small (codes "SubClassOf(word :A)" ∷ [])) ≡ Err (Syntax 3)
unfolding class link text head m8 classes property sums last partners small tokens_behind piece inside_len closed repeated prefix kind_of closing some_step expression declaration disjoint_classes verb_of annotations axiom_at document kind_in first_fault first_specialised judged
a_bare_word = refl

what_is_passed_over : read_text (small (codes "SubClassOf(:A ObjectUnionOf(:A > <b \"(\" (:A) )) # )" ∷ [])) ≡ Err (Unsupported 3)
unfolding class link text head m8 classes property sums last partners small tokens_behind piece inside_len closed repeated prefix kind_of closing some_step expression declaration disjoint_classes verb_of annotations axiom_at document kind_in first_fault first_specialised judged
what_is_passed_over = refl

bad_before_undeclared : read_text (small (codes "SubClassOf(:9 :Z)" ∷ [])) ≡ Err (BadName 3)
unfolding class link text head m8 classes property sums last partners small tokens_behind piece inside_len closed repeated prefix kind_of closing some_step expression declaration disjoint_classes verb_of annotations axiom_at document kind_in first_fault first_specialised judged
bad_before_undeclared = refl

undeclared_sort : read_text (small (codes "SubClassOf(:p :A)" ∷ [])) ≡ Err (Undeclared 3)
unfolding class link text head m8 classes property sums last partners small tokens_behind piece inside_len closed repeated prefix kind_of closing some_step expression declaration disjoint_classes verb_of annotations axiom_at document kind_in first_fault first_specialised judged
undeclared_sort = refl

two_of_one_name : read_text (small (codes "Declaration(Class(<y/A>))" ∷ [])) ≡ Err (DoubleName 3)
unfolding class link text head m8 classes property sums last partners small tokens_behind piece inside_len closed repeated prefix kind_of closing some_step expression declaration disjoint_classes verb_of annotations axiom_at document kind_in first_fault first_specialised judged
two_of_one_name = refl

another_datatype : read_text (small (codes "DataPropertyRange(:u <http://www.w3.org/2001/XMLSchema#decimal>)" ∷ [])) ≡ Err (Unsupported 3)
unfolding class link text head m8 classes property sums last partners small tokens_behind piece inside_len closed repeated prefix kind_of closing some_step expression declaration disjoint_classes verb_of annotations axiom_at document kind_in first_fault first_specialised judged
another_datatype = refl

nothing_above : read_text (small (codes "SubClassOf(:A owl:Nothing)" ∷ [])) ≡ Err (Unsupported 3)
unfolding class link text head m8 classes property sums last partners small tokens_behind piece inside_len closed repeated prefix kind_of closing some_step expression declaration disjoint_classes verb_of annotations axiom_at document kind_in first_fault first_specialised judged
nothing_above = refl

syntax_first : read_text (small (codes "HasKey(:A () (:u))" ∷ codes "SubClassOf(:A)" ∷ [])) ≡ Err (Syntax 4)
unfolding class link text head m8 classes property sums last partners small tokens_behind piece inside_len closed repeated prefix kind_of closing some_step expression declaration disjoint_classes verb_of annotations axiom_at document kind_in first_fault first_specialised judged
syntax_first = refl

an_unclosed_quote : read_text (small (codes "SubClassOf(Annotation(:n \"x) :A :A)" ∷ codes "# \\" ∷ [])) ≡ Err (Syntax 6)
unfolding class link text head m8 classes property sums last partners small tokens_behind piece inside_len closed repeated prefix kind_of closing some_step expression declaration disjoint_classes verb_of annotations axiom_at document kind_in first_fault first_specialised judged
an_unclosed_quote = refl

a_property_word : read_text (small (codes "ObjectPropertyDomain(Foo(:p) :A)" ∷ [])) ≡ Err (Syntax 3)
unfolding class link text head m8 classes property sums last partners small tokens_behind piece inside_len closed repeated prefix kind_of closing some_step expression declaration disjoint_classes verb_of annotations axiom_at document kind_in first_fault first_specialised judged
a_property_word = refl

a_chain : read_text (small (codes "SubObjectPropertyOf(ObjectPropertyChain(:p :p) :p)" ∷ [])) ≡ Err (Unsupported 3)
unfolding class link text head m8 classes property sums last partners small tokens_behind piece inside_len closed repeated prefix kind_of closing some_step expression declaration disjoint_classes verb_of annotations axiom_at document kind_in first_fault first_specialised judged
a_chain = refl

a_filler : read_text (small (codes "SubClassOf(:A ObjectSomeValuesFrom(:p ObjectSomeValuesFrom(:p owl:Thing)))" ∷ [])) ≡ Err (Unsupported 3)
unfolding class link text head m8 classes property sums last partners small tokens_behind piece inside_len closed repeated prefix kind_of closing some_step expression declaration disjoint_classes verb_of annotations axiom_at document kind_in first_fault first_specialised judged
a_filler = refl

a_second_kind : read_text (small (codes "DataPropertyRange(:u <http://www.w3.org/2001/XMLSchema#integer>)" ∷ codes "DataPropertyRange(:u <http://www.w3.org/2001/XMLSchema#string>)" ∷ [])) ≡ Err (Unsupported 4)
unfolding class link text head m8 classes property sums last partners small tokens_behind piece inside_len closed repeated prefix kind_of closing some_step expression declaration disjoint_classes verb_of annotations axiom_at document kind_in first_fault first_specialised judged
a_second_kind = refl

no_text : read_text ([]) ≡ Err (Syntax 1)
unfolding class link text head m8 classes property sums last partners small tokens_behind piece inside_len closed repeated prefix kind_of closing some_step expression declaration disjoint_classes verb_of annotations axiom_at document kind_in first_fault first_specialised judged
no_text = refl

no_prefix : read_text (text (codes "Ontology(SubClassOf(:A :B))" ∷ [])) ≡ Err (Syntax 1)
unfolding class link text head m8 classes property sums last partners small tokens_behind piece inside_len closed repeated prefix kind_of closing some_step expression declaration disjoint_classes verb_of annotations axiom_at document kind_in first_fault first_specialised judged
no_prefix = refl

a_prefix_twice : read_text (text (codes "Prefix(a:=<x>)" ∷ codes "Prefix(a:=<y>)" ∷ codes "Ontology()" ∷ [])) ≡ Err (Syntax 2)
unfolding class link text head m8 classes property sums last partners small tokens_behind piece inside_len closed repeated prefix kind_of closing some_step expression declaration disjoint_classes verb_of annotations axiom_at document kind_in first_fault first_specialised judged
a_prefix_twice = refl

one_of_each : Ontology
one_of_each = record {
  classes = codes "A" ∷ [];
  links = codes "p" ∷ codes "u" ∷ [];
  sides = Object ∷ Value Int ∷ [];
  tbox = record {
    axioms = SubLink (link 0) Back (link 0) ∷ Sub (Has (link 0) Back) (Class (class 0)) ∷ Sub (Has (link 1) Fwd) (Class (class 0)) ∷ [];
    constraints = Disjoint (Class (class 0)) (Has (link 0) Fwd) ∷ Disjoint (Class (class 0)) (Has (link 1) Fwd) ∷ Disjoint (Has (link 0) Fwd) (Has (link 1) Fwd) ∷ Func (link 1) Fwd ∷ [];
  };
}

-- what each form gives; `owl:Thing` on a right side gives nothing
the_forms : read_text (small (codes "SubObjectPropertyOf(ObjectInverseOf(:p) :p)" ∷ codes "SubClassOf(:A owl:Thing) Declaration(Class(owl:Thing))" ∷ codes "ObjectPropertyRange(:p :A)" ∷ codes "DataPropertyDomain(<x#u> :A)" ∷ codes "DisjointClasses(:A ObjectSomeValuesFrom(:p owl:Thing) DataSomeValuesFrom(:u <http://www.w3.org/2000/01/rdf-schema#Literal>))" ∷ codes "FunctionalDataProperty(:u)" ∷ codes "DataPropertyRange(:u <http://www.w3.org/2001/XMLSchema#integer>)" ∷ [])) ≡ Ok one_of_each
unfolding class link text head m8 classes property sums last partners small tokens_behind piece inside_len closed repeated prefix kind_of closing some_step expression declaration disjoint_classes verb_of annotations axiom_at document kind_in first_fault first_specialised judged one_of_each
the_forms = refl
