-- Heads of one length, and atoms of one class or link, in queries that map into one another.
use Rattle.std.proofs.Common.{◌≡◌, sym, subst, ap, refl, ◌∙◌, ℕ, suc, ◌+◌, List, [], ◌∷◌, length}
use Rattle.std.proofs.lemmas.List.{length-map}
use Rattle.vocabulary.specs.Lists.{In, here, there}
use Rattle.queries.specs.declared.query.Arg.{Arg}
use Rattle.queries.specs.declared.query.Atom.{Atom}
use Rattle.queries.specs.declared.query.Atom.TheVariants.{InClass, Linked}
use Rattle.queries.specs.declared.query.Query.{Query}
use Rattle.query_subsumption.specs.Search.{SameSymbol}
use Rattle.query_subsumption.specs.Subsumption.{MapsInto, Replacement, apart_args, apart_atom, apart_atoms, arg_image, atom_image, blanks_in_arg, blanks_in_args, blanks_in_atom, first_free}

apart_length : (n : ℕ) (xs : List Arg) → length (apart_args n xs) ≡ length xs
apart_length n [] = refl
apart_length n (x ∷ xs) = ap suc (apart_length (n + blanks_in_arg x) xs)

pub one_length : (g s : Query) → MapsInto g s → length g.head ≡ length s.head
one_length g s m =
    sym (apart_length (first_free g) g.head) ∙ sym (length-map (apart_args (first_free g) g.head) (arg_image m.0)) ∙ ap length m.1.heads ∙ apart_length (first_free s) s.head

symbol_apart : (n : ℕ) (a : Atom) → SameSymbol (apart_atom n a) a
symbol_apart n (InClass c x) = refl
symbol_apart n (Linked p x y) = refl

symbol_of_image : (θ : Replacement) (a : Atom) → SameSymbol (atom_image θ a) a
symbol_of_image θ (InClass c x) = refl
symbol_of_image θ (Linked p x y) = refl

pub symbol_turned : (a b : Atom) → SameSymbol a b → SameSymbol b a
symbol_turned (InClass c x) (InClass d y) h = sym h
symbol_turned (InClass c x) (Linked q y z) h = h
symbol_turned (Linked p x w) (InClass d y) h = h
symbol_turned (Linked p x w) (Linked q y z) h = sym h

symbol_joined : (a b c : Atom) → SameSymbol a b → SameSymbol b c → SameSymbol a c
symbol_joined (InClass c x) (InClass d y) (InClass e z) h k = h ∙ k
symbol_joined (Linked p x x') (Linked q y y') (Linked r z z') h k = h ∙ k
symbol_joined (InClass c x) (Linked q y z) k h l = absurd h
symbol_joined (Linked p x w) (InClass d y) k h l = absurd h
symbol_joined (InClass c x) (InClass d y) (Linked r z z') h k = absurd k
symbol_joined (Linked p x x') (Linked q y y') (InClass e z) h k = absurd k

into_apart : (n : ℕ) (atoms : List Atom) (a : Atom) → In a atoms → (b : Atom) × In b (apart_atoms n atoms) × SameSymbol b a
into_apart n [] a m = elim m [ ]
into_apart n (b ∷ atoms) a (here e) = (apart_atom n b, here refl, subst (λ c. SameSymbol (apart_atom n b) c) e (symbol_apart n b))
into_apart n (b ∷ atoms) a (there m) = let r = into_apart (n + blanks_in_atom b) atoms a m in (r.0, there r.1, r.2)

from_apart : (n : ℕ) (atoms : List Atom) (b : Atom) → In b (apart_atoms n atoms) → (a : Atom) × In a atoms × SameSymbol a b
from_apart n [] b m = elim m [ ]
from_apart n (a ∷ atoms) b (here e) = (a, here refl, subst (λ c. SameSymbol a c) e (symbol_turned (apart_atom n a) a (symbol_apart n a)))
from_apart n (a ∷ atoms) b (there m) = let r = from_apart (n + blanks_in_atom a) atoms b m in (r.0, there r.1, r.2)

pub each_symbol : (g s : Query) → MapsInto g s → (a : Atom) → In a g.atoms → (b : Atom) × In b s.atoms × SameSymbol b a
each_symbol g s m a here_is =
    let x = into_apart (first_free g + blanks_in_args g.head) g.atoms a here_is in
    let y = from_apart (first_free s + blanks_in_args s.head) s.atoms (atom_image m.0 x.0) (m.1.atoms x.0 x.1) in
    (y.0, y.1, symbol_joined y.0 (atom_image m.0 x.0) a y.2 (symbol_joined (atom_image m.0 x.0) x.0 a (symbol_of_image m.0 x.0) x.2))
