-- Reading the terms of variables from facts: each variable has the term at its first place.
use Rattle.std.specs.Prelude.{◌≡◌, List, [], ◌∷◌, Option, Some, None, option_map, nat_eq, if◌then◌else◌}
use Rattle.std.specs.Option.{option_and_then}
use Rattle.vocabulary.specs.declared.ids.VarId.{VarId}
use Rattle.vocabulary.specs.declared.term.Term.{Term}
use Rattle.vocabulary.specs.declared.term.Fact.{Fact}
use Rattle.vocabulary.specs.declared.term.Fact.TheVariants.{InClass as ClassFact, Linked as LinkFact}
use Rattle.queries.specs.declared.query.Arg.{Arg}
use Rattle.queries.specs.declared.query.Arg.TheVariants.{Blank, Var, Fixed}
use Rattle.queries.specs.declared.query.Atom.{Atom}
use Rattle.queries.specs.declared.query.Atom.TheVariants.{InClass, Linked}

-- the first of two, or the other where there is none
abbrev pub or_else : {A : Type 0} → Option A → Option A → Option A
or_else None b = b
or_else (Some x) b = Some x

abbrev pub arg_term : VarId → Arg → Term → Option Term
arg_term v Blank t = None
arg_term v (Var w) t = if nat_eq w.0 v.0 then Some t else None
arg_term v (Fixed u) t = None

abbrev pub atom_term : VarId → Atom → Fact → Option Term
atom_term v (InClass a x) (ClassFact b t) = arg_term v x t
atom_term v (InClass a x) (LinkFact q s t) = None
atom_term v (Linked p x y) (ClassFact b t) = None
atom_term v (Linked p x y) (LinkFact q s t) = or_else (arg_term v x s) (arg_term v y t)

-- the term at the first place of a variable
abbrev pub term_in : VarId → List Atom → List Fact → Option Term
term_in v [] facts = None
term_in v (a ∷ atoms) [] = None
term_in v (a ∷ atoms) (f ∷ facts) = or_else (atom_term v a f) (term_in v atoms facts)

-- an argument stands for a term, where each variable stands for the term at its first place
abbrev pub ArgReads : List Atom → List Fact → Arg → Term → Type 0
ArgReads atoms facts Blank t = Unit {0}
ArgReads atoms facts (Var v) t = term_in v atoms facts ≡ Some t
ArgReads atoms facts (Fixed u) t = u ≡ t

abbrev pub AtomReads : List Atom → List Fact → Atom → Fact → Type 0
AtomReads atoms facts (InClass a x) (ClassFact b t) = (a ≡ b) × ArgReads atoms facts x t
AtomReads atoms facts (InClass a x) (LinkFact q s t) = ⊥
AtomReads atoms facts (Linked p x y) (ClassFact b t) = ⊥
AtomReads atoms facts (Linked p x y) (LinkFact q s t) = (p ≡ q) × ArgReads atoms facts x s × ArgReads atoms facts y t

-- the term of a head place, none for a Blank or a variable that stands nowhere
abbrev pub head_term : List Atom → List Fact → Arg → Option Term
head_term atoms facts Blank = None
head_term atoms facts (Var v) = term_in v atoms facts
head_term atoms facts (Fixed u) = Some u

abbrev pub head_terms : List Atom → List Fact → List Arg → Option (List Term)
head_terms atoms facts [] = Some []
head_terms atoms facts (x ∷ xs) = option_and_then (λ t. option_map (λ ts. t ∷ ts) (head_terms atoms facts xs)) (head_term atoms facts x)
