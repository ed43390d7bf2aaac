-- The definitions, evaluated on small queries.
use Rattle.std.proofs.Common.{ℕ, ◌≡◌, refl, ap, arith, List, [], ◌∷◌, Some, None}
use Rattle.std.specs.declared.cmp.Ordering.TheVariants.{Less, Greater}
use Rattle.vocabulary.specs.declared.ids.ClassId.{ClassId}
use Rattle.vocabulary.specs.declared.ids.LinkId.{LinkId}
use Rattle.vocabulary.specs.declared.ids.ValueKind.TheVariants.{Text, Int, Bool as BoolKind, Time}
use Rattle.vocabulary.specs.declared.term.Term.{Term, Named, Value}
use Rattle.vocabulary.specs.declared.term.Fact.{Fact}
use Rattle.vocabulary.specs.declared.term.Fact.TheVariants.{InClass as ClassFact, Linked as LinkFact}
use Rattle.vocabulary.specs.Terms.{text_of}
use Rattle.vocabulary.specs.Lists.{In, here, there, first}
use Rattle.queries.specs.declared.query.Arg.{Arg}
use Rattle.queries.specs.declared.query.Arg.TheVariants.{Blank, Var, Fixed}
use Rattle.queries.specs.declared.query.Atom.{Atom}
use Rattle.queries.specs.declared.query.Atom.TheVariants.{InClass, Linked}
use Rattle.queries.specs.declared.query.Query.{Query}
use Rattle.queries.specs.declared.check.QueryFault.TheVariants.{MixedSort, HeadUnbound}
use Rattle.queries.specs.Checking.{args_of, different, query_fault}
use Rattle.queries.specs.Unifying.{unify_at, unified}
use Rattle.vocabulary.specs.declared.ids.Side.TheVariants.{Object, Value as ValueSide}
use Rattle.queries.specs.declared.unify.Change.{Change}
use Rattle.queries.specs.Changes.{Meets, same_fixed, blank_right, left_lower, link_meet, substituted, UnifyStep, unify}
use Rattle.queries.specs.Matches.{Terms, IsMatch}
use Rattle.queries.specs.Normal.{normal_form}
use Rattle.queries.specs.Order.{arg_cmp, atom_cmp, query_cmp}

abbrev class : ℕ → ClassId
class n = record { 0 = n }

abbrev link : ℕ → LinkId
link n = record { 0 = n }

abbrev var : ℕ → Arg
var n = Var (record { 0 = n })

abbrev iri : List ℕ → Arg
iri text = Fixed (Named text)

abbrev query : List Arg → List Atom → Query
query head atoms = record { head = head; atoms = atoms }

-- Blank, variables by number, then constants by text bytes before sort
blank_before_variable : arg_cmp Blank (var 0) ≡ Less
blank_before_variable = refl

by_number : arg_cmp (var 2) (var 10) ≡ Less
by_number = refl

variable_before_constant : arg_cmp (var 9) (iri []) ≡ Less
variable_before_constant = refl

text_before_sort : arg_cmp (Fixed (Value Time (97 ∷ []))) (iri (97 ∷ 98 ∷ [])) ≡ Less
text_before_sort = refl

object_before_value : arg_cmp (iri (49 ∷ [])) (Fixed (Value Text (49 ∷ []))) ≡ Less
object_before_value = refl

text_before_int : arg_cmp (Fixed (Value Text (49 ∷ []))) (Fixed (Value Int (49 ∷ []))) ≡ Less
text_before_int = refl

bool_before_time : arg_cmp (Fixed (Value BoolKind (49 ∷ []))) (Fixed (Value Time (49 ∷ []))) ≡ Less
bool_before_time = refl

int_before_bool : arg_cmp (Fixed (Value BoolKind (49 ∷ []))) (Fixed (Value Int (49 ∷ []))) ≡ Greater
int_before_bool = refl

-- classes come before links, by number before argument
class_before_link : atom_cmp (InClass (class 7) (iri [])) (Linked (link 0) Blank Blank) ≡ Less
class_before_link = refl

number_before_argument : atom_cmp (InClass (class 0) (var 5)) (InClass (class 1) Blank) ≡ Less
number_before_argument = refl

first_before_second : atom_cmp (Linked (link 0) (var 0) (var 9)) (Linked (link 0) (var 1) Blank) ≡ Less
first_before_second = refl

-- fewer atoms first, before heads; the front of a head first
fewer_atoms : query_cmp (query (var 5 ∷ []) (InClass (class 9) (var 5) ∷ [])) (query [] (InClass (class 0) Blank ∷ InClass (class 0) (var 0) ∷ [])) ≡ Less
fewer_atoms = refl

front_of_head : query_cmp (query (var 0 ∷ []) (InClass (class 9) (var 0) ∷ [])) (query (var 0 ∷ var 0 ∷ []) (InClass (class 0) (var 0) ∷ [])) ≡ Less
front_of_head = refl

heads_before_atoms : query_cmp (query (var 1 ∷ []) (InClass (class 0) (var 1) ∷ [])) (query (var 0 ∷ var 0 ∷ []) (InClass (class 9) (var 0) ∷ [])) ≡ Greater
heads_before_atoms = refl

then_atoms : query_cmp (query [] (InClass (class 0) Blank ∷ [])) (query [] (InClass (class 0) (var 0) ∷ [])) ≡ Less
then_atoms = refl

-- about(x, y), about(x, z) is one atom, since y and z stand once
one_of_two : normal_form (query (var 0 ∷ []) (Linked (link 0) (var 0) (var 1) ∷ Linked (link 0) (var 0) (var 2) ∷ [])) ≡ query (var 0 ∷ []) (Linked (link 0) (var 0) Blank ∷ [])
one_of_two = refl

-- a repeated atom goes, and then its variable stands once
repeats_first : normal_form (query [] (InClass (class 0) (var 0) ∷ InClass (class 0) (var 0) ∷ [])) ≡ query [] (InClass (class 0) Blank ∷ [])
repeats_first = refl

-- blanks, then repeats, and then x stands once
again_and_again : normal_form (query [] (Linked (link 0) (var 0) (var 1) ∷ Linked (link 0) (var 0) (var 2) ∷ [])) ≡ query [] (Linked (link 0) Blank Blank ∷ [])
again_and_again = refl

-- a variable twice in one atom stays, and one in the head; numbers are kept, and the atoms sorted
stays : normal_form (query (var 3 ∷ []) (Linked (link 1) (var 2) (var 2) ∷ InClass (class 0) (var 3) ∷ [])) ≡ query (var 3 ∷ []) (InClass (class 0) (var 3) ∷ Linked (link 1) (var 2) (var 2) ∷ [])
stays = refl

constants_stay : normal_form (query [] (InClass (class 1) (iri (97 ∷ [])) ∷ InClass (class 0) (iri (97 ∷ [])) ∷ [])) ≡ query [] (InClass (class 0) (iri (97 ∷ [])) ∷ InClass (class 1) (iri (97 ∷ [])) ∷ [])
constants_stay = refl

-- a variable is replaced in the head too, and the result is not in normal form
in_the_head : substituted (record { 0 = 1 }) (iri (97 ∷ [])) (query (var 0 ∷ var 1 ∷ []) (Linked (link 0) (var 1) (var 0) ∷ Linked (link 0) (iri (97 ∷ [])) (var 0) ∷ [])) ≡
    query (var 0 ∷ iri (97 ∷ []) ∷ []) (Linked (link 0) (iri (97 ∷ [])) (var 0) ∷ Linked (link 0) (iri (97 ∷ [])) (var 0) ∷ [])
in_the_head = refl

-- p(x, x) and p(y, _) become p(x, x), with x for y in the head
meet_in_head : UnifyStep (var 1 ∷ []) (Linked (link 0) (var 0) (var 0) ∷ Linked (link 0) (var 1) Blank ∷ []) (var 0 ∷ []) (Linked (link 0) (var 0) (var 0) ∷ [])
meet_in_head = unify (first refl) (first refl) (link_meet (left_lower (omega arith)) blank_right)

abbrev first_or_none : List ℕ → ℕ
first_or_none [] = 0
first_or_none (x ∷ xs) = x

-- two different constants do not meet
never_meet : (c : Change) (z : Arg) → Meets (iri (97 ∷ [])) (iri (98 ∷ [])) c z → ⊥
never_meet c z (same_fixed e) = let n : first_or_none (text_of (Named (97 ∷ []))) ≡ first_or_none (text_of (Named (98 ∷ []))) = ap (λ t. first_or_none (text_of t)) e in absurd (omega (arith, n))

-- a Blank is any term, a variable one term, and the head is its image
abbrev a : Term
a = Named (97 ∷ [])

abbrev b : Term
b = Named (98 ∷ [])

found : IsMatch (LinkFact (link 0) a b ∷ ClassFact (class 0) a ∷ []) (query (var 0 ∷ []) (Linked (link 0) (var 0) Blank ∷ InClass (class 0) (var 0) ∷ [])) (a ∷ []) (λ v. a)
found = record { atoms = each; head = (refl, tt) }
  where
    each : (k : Atom) → In k (Linked (link 0) (var 0) Blank ∷ InClass (class 0) (var 0) ∷ []) → (f : Fact) × In f (LinkFact (link 0) a b ∷ ClassFact (class 0) a ∷ []) × Rattle.queries.specs.Matches.AtomIs (λ v. a) k f
    each k (here e) = (LinkFact (link 0) a b, here refl, rw (← e) (refl, refl, tt))
    each k (there (here e)) = (ClassFact (class 0) a, there (here refl), rw (← e) (refl, refl))
    each k (there (there m)) = elim m [ ]

-- p(x, x) and p(y, _), at their places
meet_at_places : unify_at (query (var 1 ∷ []) (Linked (link 0) (var 0) (var 0) ∷ Linked (link 0) (var 1) Blank ∷ [])) 1 0 ≡ Some (query (var 0 ∷ []) (Linked (link 0) (var 0) (var 0) ∷ []))
meet_at_places = refl

-- the first arguments' change is done to the second ones: p(x, x) and p(a, b) do not unify
change_goes_on : unify_at (query [] (Linked (link 0) (var 0) (var 0) ∷ Linked (link 0) (iri (97 ∷ [])) (iri (98 ∷ [])) ∷ [])) 0 1 ≡ None
change_goes_on = refl

-- x is of times at its link and an object in a class, and y is in no atom: the first fault
mixed_first : query_fault (ValueSide Time ∷ []) (query (var 1 ∷ []) (InClass (class 0) (var 0) ∷ Linked (link 0) Blank (var 0) ∷ [])) ≡ Some MixedSort
mixed_first = refl

two_kinds : query_fault (ValueSide Time ∷ ValueSide Int ∷ []) (query [] (Linked (link 0) Blank (var 0) ∷ Linked (link 1) Blank (var 0) ∷ [])) ≡ Some MixedSort
two_kinds = refl

unbound : query_fault [] (query (var 0 ∷ var 1 ∷ []) (InClass (class 0) (var 0) ∷ [])) ≡ Some HeadUnbound
unbound = refl

blank_in_head : query_fault [] (query (Blank ∷ []) (InClass (class 0) Blank ∷ [])) ≡ Some HeadUnbound
blank_in_head = refl

-- blanks are no variables, and a variable is one wherever it stands
three_variables : different (var 2 ∷ args_of (Linked (link 0) (var 1) Blank ∷ Linked (link 0) (var 1) (var 0) ∷ InClass (class 0) (var 2) ∷ [])) ≡ 3
three_variables = refl

-- one variable at both ends: of an attribute it is an object and a value, of an association two objects
both_ends : (query_fault (ValueSide Time ∷ Object ∷ []) (query (var 0 ∷ []) (Linked (link 0) (var 0) (var 0) ∷ [])) ≡ Some MixedSort)
    × (query_fault (ValueSide Time ∷ Object ∷ []) (query (var 0 ∷ var 0 ∷ []) (Linked (link 1) (var 0) (var 0) ∷ [])) ≡ None)
both_ends = (refl, refl)

-- a query needs no atoms and no head, and a constant may stand in a head without atoms
nothing_asked : (query_fault [] (query [] []) ≡ None) × (query_fault [] (query (iri (97 ∷ []) ∷ []) []) ≡ None) × (normal_form (query [] []) ≡ query [] [])
nothing_asked = (refl, refl, refl)

-- a variable of the head becomes the constant, and so in the other atoms
constant_in_head : unified (query (var 0 ∷ var 1 ∷ []) (Linked (link 0) (var 0) (var 1) ∷ Linked (link 0) (iri (97 ∷ [])) Blank ∷ InClass (class 0) (var 0) ∷ [])) 0 1
    ≡ Some (query (iri (97 ∷ []) ∷ var 1 ∷ []) (InClass (class 0) (iri (97 ∷ [])) ∷ Linked (link 0) (iri (97 ∷ [])) (var 1) ∷ []))
constant_in_head = refl

-- p(x, y) and p(y, x) are p(x, x), where x stands twice and stays
turned : unified (query [] (Linked (link 0) (var 0) (var 1) ∷ Linked (link 0) (var 1) (var 0) ∷ [])) 1 0 ≡ Some (query [] (Linked (link 0) (var 0) (var 0) ∷ []))
turned = refl

-- values of two kinds do not unify, nor a value with an object, though they have one text
two_sorts : (unify_at (query [] (Linked (link 0) Blank (Fixed (Value Text (49 ∷ []))) ∷ Linked (link 0) Blank (Fixed (Value Int (49 ∷ []))) ∷ [])) 0 1 ≡ None)
    × (unify_at (query [] (Linked (link 0) Blank (Fixed (Value Text (49 ∷ []))) ∷ Linked (link 0) Blank (iri (49 ∷ [])) ∷ [])) 0 1 ≡ None)
two_sorts = (refl, refl)

-- a repeated atom goes, so its variables are lone, and then it is a repeated atom itself
three_rounds : normal_form (query [] (Linked (link 0) (var 0) (var 1) ∷ Linked (link 0) (var 0) (var 1) ∷ Linked (link 0) (var 2) (var 3) ∷ [])) ≡ query [] (Linked (link 0) Blank Blank ∷ [])
three_rounds = refl
