-- A query that breaks no rule can be rewritten and unfolded.
use Rattle.std.proofs.Common.{subst, ◌≡◌, ◌≢◌, refl, sym, ap, ◌∙◌, arith, ℕ, ◌+◌, ◌≤◌, ◌==◌, Bool, true, false, List, [], ◌∷◌, ◌++◌, Option, Some, length, map, ◌⊎◌, inl, inr, zero, suc, ◌||◌, if◌then◌else◌, nat_eq, take, None}
use Rattle.std.proofs.lemmas.Bool.{eq-eqb}
use Rattle.std.proofs.lemmas.Bool.Decides.{nat_tests}
use Rattle.std.proofs.lemmas.Slice.Eq.{bytes_eq-Decides}
use Rattle.std.specs.List.{flat_map, list_any}
use Rattle.std.specs.Str.{bytes_eq}
use Rattle.std.proofs.lemmas.List.{length-append, append-nil, length-map}
use Rattle.std.proofs.lemmas.Grind.{flat_map-append}
use Rattle.vocabulary.specs.declared.ids.ClassId.{ClassId}
use Rattle.vocabulary.specs.declared.ids.LinkId.{LinkId}
use Rattle.vocabulary.specs.declared.ids.Side.{Side}
use Rattle.vocabulary.specs.declared.ids.Side.TheVariants.{Object}
use Rattle.vocabulary.specs.declared.ids.VarId.{VarId}
use Rattle.vocabulary.specs.Lists.{In, here, there}
use Rattle.vocabulary.specs.Texts.{number_of}
use Rattle.vocabulary.proofs.Lists.{In-append_cases}
use Rattle.queries.specs.Occurrences.{occurs, count, KnownArg, KnownAtom, HeadStands}
use Rattle.queries.specs.declared.query.Arg.TheVariants.{Blank, Var}
use Rattle.queries.specs.declared.query.Atom.{Atom as QueryAtom}
use Rattle.annotation_language.specs.Written as written
use Rattle.annotation_language.specs.Lines as lines
use Rattle.line_lexer.specs.declared.fault.LineFault.{LineFault}
use Rattle.line_lexer.specs.declared.fault.LineFault.TheVariants.{HeadUnbound, BadKey}
use Rattle.line_lexer.specs.declared.fault.Counted.{Counted}
use Rattle.line_lexer.specs.Judging.{first_broken}
use Rattle.uml_model.specs.Rules.{Known, class_named, link_named}
use Rattle.annotation_language.specs.Askable.{IsAskable}
use Rattle.annotation_language.proofs.Judged.{rule_kept, rest_unbroken}
use Rattle.annotation_language.proofs.Asking.{rules_by, by_its_own, few_atoms, few_heads}
use Rattle.line_lexer.specs.Judging.{or_zero}
use Rattle.annotation_language.specs.Lines.{broken_query, counts, Placed, side_at, variables_of, variable, argument_of, class_atom, link_atom, places, all_places, sides_of, atom_of, query_of}

or_parts : (a b : Bool) → (a || b) ≡ false → (a ≡ false) × (b ≡ false)
or_parts true b e = absurd (grind arith)
or_parts false b e = (refl, e)

once : (n : ℕ) → 1 ≤ (if nat_eq n n then 1 else 0)
once n = rw (eq-eqb n n refl) (omega arith)

some_or_none : (n : ℕ) → (1 ≤ n) ⊎ (n ≡ 0)
some_or_none zero = inr refl
some_or_none (suc n) = inl (omega arith)

-- what a mapped list has it has from some item
pub from_map : {X Y : Type 0} (f : X → Y) {y : Y} (xs : List X) → In y (map f xs) → (x : X) × In x xs × (f x ≡ y)
from_map f [] m = elim m [ ]
from_map f (x ∷ xs) (here e) = (x, here refl, e)
from_map f (x ∷ xs) (there m) = let r = from_map f xs m in (r.0, there r.1, r.2)

-- no item passes
none_in : {X : Type 0} (p : X → Bool) {x : X} (xs : List X) → list_any p xs ≡ false → In x xs → p x ≡ false
none_in p [] e m = elim m [ ]
none_in p (y ∷ xs) e (here same) = let parts = or_parts (p y) (list_any p xs) e in sym (ap p same) ∙ parts.0
none_in p (y ∷ xs) e (there m) = let parts = or_parts (p y) (list_any p xs) e in none_in p xs parts.1 m

module _ (q : written.Asked) where
  known_argument : (a : written.Argument) (side : Side) → KnownArg (argument_of q a side)
  known_argument written.Blank side = tt
  known_argument (written.Variable v) side = tt
  known_argument (written.Constant text) side = tt
  known_argument (written.Iri text) side = tt

  -- the number of a variable
  abbrev number : List ℕ → VarId
  number v = record { 0 = or_zero (number_of (variables_of q) v) }

  -- where a variable stands, its argument is it
  stands_there : (v : List ℕ) (a : written.Argument) (side : Side) → 1 ≤ length (side_at v a side) → 1 ≤ occurs (number v) (argument_of q a side)
  stands_there v written.Blank side h = absurd (omega (arith, h))
  stands_there v (written.Variable w) side h = by (bytes_eq v w) refl h
    where
      by : (t : Bool) → bytes_eq v w ≡ t → 1 ≤ length (if t then side ∷ [] else []) → 1 ≤ occurs (number v) (argument_of q (written.Variable w) side)
      by false e h = absurd (omega (arith, h))
      by true e h = let same : v ≡ w = (bytes_eq-Decides v w).0 e in rw same (once (number w).0)
  stands_there v (written.Constant text) side h = absurd (omega (arith, h))
  stands_there v (written.Iri text) side h = absurd (omega (arith, h))

  count-append : (v : VarId) (xs ys : List QueryAtom) → count v (xs ++ ys) ≡ count v xs + count v ys
  count-append v [] ys = omega arith
  count-append v (x ∷ xs) ys = let rest = count-append v xs ys in omega (arith, rest)

  module _ (class_of : List ℕ → Option ClassId) (link_of : List ℕ → Option (LinkId × Side)) where
    known_atom : (a : written.Atom) (x : QueryAtom) → In x (atom_of class_of link_of q a) → KnownAtom x
    known_atom (written.One p a) x m = by (class_of p) m
      where
        by : (o : Option ClassId) → In x (class_atom q o a) → KnownAtom x
        by None m = elim m [ ]
        by (Some c) (here e) = subst KnownAtom e (known_argument a Object)
        by (Some c) (there m) = elim m [ ]
    known_atom (written.Two p a b) x m = by (link_of p) m
      where
        by : (o : Option (LinkId × Side)) → In x (link_atom q o a b) → KnownAtom x
        by None m = elim m [ ]
        by (Some (p, side)) (here e) = subst KnownAtom e (known_argument a Object, known_argument b side)
        by (Some (p, side)) (there m) = elim m [ ]

    known_atoms : (atoms : List written.Atom) (x : QueryAtom) → In x (flat_map (atom_of class_of link_of q) atoms) → KnownAtom x
    known_atoms [] x m = elim m [ ]
    known_atoms (a ∷ atoms) x m = elim (In-append_cases (atom_of class_of link_of q a) (flat_map (atom_of class_of link_of q) atoms) m) [ inl h ↦ known_atom a x h | inr h ↦ known_atoms atoms x h ]

    few_of_atom : (a : written.Atom) → length (atom_of class_of link_of q a) ≤ 1
    few_of_atom (written.One p a) = by (class_of p)
      where
        by : (o : Option ClassId) → length (class_atom q o a) ≤ 1
        by None = omega arith
        by (Some c) = omega arith
    few_of_atom (written.Two p a b) = by (link_of p)
      where
        by : (o : Option (LinkId × Side)) → length (link_atom q o a b) ≤ 1
        by None = omega arith
        by (Some (p, side)) = omega arith

    few_of_atoms : (atoms : List written.Atom) → length (flat_map (atom_of class_of link_of q) atoms) ≤ length atoms
    few_of_atoms [] = omega arith
    few_of_atoms (a ∷ atoms) =
        let one = few_of_atom a in
        let rest = few_of_atoms atoms in
        let both = length-append (atom_of class_of link_of q a) (flat_map (atom_of class_of link_of q) atoms) in
        omega (arith, one, rest, both)

    -- the sorts of the places of some atoms at which a variable stands
    abbrev sides_in : List ℕ → List Placed → List Side
    sides_in v placed = flat_map (λ p. side_at v p.argument p.side) placed

    stands_in_atom : (v : List ℕ) (a : written.Atom) → 1 ≤ length (sides_in v (places class_of link_of a)) → 1 ≤ count (number v) (atom_of class_of link_of q a)
    stands_in_atom v (written.One p a) h = by (class_of p) h
      where
        by : (o : Option ClassId) → 1 ≤ length (sides_in v (lines.class_places o a)) → 1 ≤ count (number v) (class_atom q o a)
        by None h = absurd (omega (arith, h))
        by (Some c) h =
            let some : 1 ≤ length (side_at v a Object) = rw (append-nil (side_at v a Object)) at h in
            let there = stands_there v a Object some in
            omega (arith, there)
    stands_in_atom v (written.Two p a b) h = by (link_of p) h
      where
        by : (o : Option (LinkId × Side)) → 1 ≤ length (sides_in v (lines.link_places o a b)) → 1 ≤ count (number v) (link_atom q o a b)
        by None h = absurd (omega (arith, h))
        by (Some (p, side)) h =
            let both = length-append (side_at v a Object) (side_at v b side ++ []) in
            let last = ap length (append-nil (side_at v b side)) in
            elim (some_or_none (length (side_at v a Object))) [
              | inl some ↦ (let there = stands_there v a Object some in omega (arith, there))
              | inr none ↦ (let some : 1 ≤ length (side_at v b side) = omega (arith, h, both, last, none) in let there = stands_there v b side some in omega (arith, there))
            ]

    stands_in_atoms : (v : List ℕ) (atoms : List written.Atom) → 1 ≤ length (sides_in v (flat_map (places class_of link_of) atoms)) → 1 ≤ count (number v) (flat_map (atom_of class_of link_of q) atoms)
    stands_in_atoms v [] h = absurd (omega (arith, h))
    stands_in_atoms v (a ∷ atoms) h =
        let own = sides_in v (places class_of link_of a) in
        let others = sides_in v (flat_map (places class_of link_of) atoms) in
        let parts : sides_in v (flat_map (places class_of link_of) (a ∷ atoms)) ≡ own ++ others = flat_map-append (λ p. side_at v p.argument p.side) (places class_of link_of a) (flat_map (places class_of link_of) atoms) in
        let sizes = ap length parts ∙ length-append own others in
        let counts = count-append (number v) (atom_of class_of link_of q a) (flat_map (atom_of class_of link_of q) atoms) in
        elim (some_or_none (length own)) [
          | inl some ↦ (let there = stands_in_atom v a some in omega (arith, there, counts))
          | inr none ↦ (let some : 1 ≤ length others = omega (arith, h, sizes, none) in let there = stands_in_atoms v atoms some in omega (arith, there, counts))
        ]

    -- each head variable stands at some place of the atoms
    stands : list_any (λ v. length (sides_of class_of link_of q v) == 0) q.head ≡ false → HeadStands (query_of class_of link_of q)
    stands bound x m =
        let from = from_map (variable q) q.head m in
        let some : 1 ≤ length (sides_of class_of link_of q from.0) = by _ (none_in (λ v. length (sides_of class_of link_of q v) == 0) q.head bound from.1) in
        subst (λ x. KnownArg x × (x ≢ Blank) × ((v : VarId) → x ≡ Var v → 1 ≤ count v (query_of class_of link_of q).atoms)) from.2
        (tt, (λ e. grind (arith, e)), (λ v e. subst (λ v. 1 ≤ count v (query_of class_of link_of q).atoms) (the_variable (number from.0) v e) (stands_in_atoms from.0 q.atoms some)))
      where
        by : (n : ℕ) → (n == 0) ≡ false → 1 ≤ n
        by n e = grind (arith, nat_tests, e)

        the_variable : (v w : VarId) → Var v ≡ Var w → v ≡ w
        the_variable v w e = grind (arith, e)

-- no rule in front of this one, nor this one, is broken
kept_behind : (front : List (Bool × LineFault)) (rule : Bool × LineFault) (rest : List (Bool × LineFault)) (counts : List (Counted × ℕ)) → first_broken (front ++ rule ∷ rest) counts ≡ None → rule.0 ≡ false
kept_behind [] rule rest counts e = rule_kept rule rest counts e
kept_behind (other ∷ front) rule rest counts e = kept_behind front rule rest counts (rest_unbroken other (front ++ rule ∷ rest) counts e)

pub askable : (model : Known) (missing double : Bool) (q : written.Asked) (objects : List (List ℕ)) (bad_key : Bool) (others : List (Counted × ℕ)) → broken_query (class_named model) (link_named model) missing double q objects bad_key others ≡ None → IsAskable (query_of (class_named model) (link_named model) q)
askable model missing double q objects bad_key others e =
    let places = all_places (class_named model) (link_named model) q in
    let rules = rules_by model missing double q objects bad_key (variables_of q) places in
    let own = by_its_own model missing double q objects bad_key others (variables_of q) places refl refl in
    let bound = kept_behind (take 5 rules) (list_any (λ v. length (sides_of (class_named model) (link_named model) q v) == 0) q.head, HeadUnbound) ((bad_key, BadKey) ∷ []) (counts q others) (own ∙ e) in
    let written_few = few_atoms model missing double q objects bad_key others e in
    let few = few_of_atoms q (class_named model) (link_named model) q.atoms in
    let short = few_heads model missing double q objects bad_key others e in
    let heads = length-map q.head (variable q) in
    record {
      few = omega (arith, written_few, few);
      short = omega (arith, short, heads);
      known = known_atoms q (class_named model) (link_named model) q.atoms;
      stands = stands q (class_named model) (link_named model) bound;
    }
