-- The query in which two atoms are one.
use Rattle.std.proofs.Common.{ℕ, ◌≡◌, ◌≢◌, refl, sym, ◌∙◌, ap, ◌<◌, ◌≤◌, ◌+◌, true, false, List, length, nat_lt, if◌then◌else◌, get_or, slice_get, Some, None, option_map, arith}
use Rattle.std.specs.List.{remove}
use Rattle.std.specs.Option.{option_and_then}
use Rattle.std.proofs.lemmas.Bool.{ltb-true, ltb-false}
use Rattle.std.proofs.lemmas.List.{length-map}
use Rattle.std.proofs.lemmas.Option.{slice_get_read}
use Rattle.std.proofs.lemmas.List.Edits.{length-remove}
use Rattle.queries.specs.declared.query.Atom.{Atom}
use Rattle.queries.specs.declared.query.Query.{Query}
use Rattle.queries.specs.declared.unify.Union.{Union}
use Rattle.queries.specs.Normal.{normal_form}
use Rattle.queries.specs.Unifying.{atoms_met, changed_both_atom, others, joined, unify_at, unified}

-- two items go
others_lower : {X : Type 0} (i j : ℕ) (xs : List X) → i < j → j < length xs → length (remove (remove xs j) i) + 2 ≡ length xs
others_lower i j xs l k = omega (arith, length-remove xs j k, length-remove (remove xs j) i (omega (arith, length-remove xs j k)))

pub others_length : {X : Type 0} (i j : ℕ) (xs : List X) → i < length xs → j < length xs → i ≢ j → length (others i j xs) + 2 ≡ length xs
others_length i j xs a b n = elim (nat_lt i j) as (λ t. nat_lt i j ≡ t → length (if t then remove (remove xs j) i else remove (remove xs i) j) + 2 ≡ length xs) [
  | true ↦ (λ e. others_lower i j xs (ltb-true i j e) b)
  | false ↦ (λ e. others_lower j i xs (order i j n (ltb-false i j e)) a)
] refl
  where
    order : (i j : ℕ) → i ≢ j → j ≤ i → j < i
    order i j n l = grind arith

pub joined_length : (q : Query) (i j : ℕ) (u : Union) → i < length q.atoms → j < length q.atoms → i ≢ j → length (joined q i j u).atoms + 1 ≡ length q.atoms
joined_length q i j u a b n = omega (arith, length-map (others i j q.atoms) (changed_both_atom u), others_length i j q.atoms a b n)

unify_there : (q : Query) (i j : ℕ) (a b : Atom) → i < length q.atoms → j < length q.atoms → a ≡ get_or q.atoms i a → b ≡ get_or q.atoms j b → unify_at q i j ≡ option_map (joined q i j) (atoms_met a b)
unify_there q i j a b l k e f =
    ap (option_and_then (λ a. option_and_then (λ b. option_map (joined q i j) (atoms_met a b)) (slice_get q.atoms j))) (slice_get_read q.atoms (length q.atoms) i a refl l e)
    ∙ ap (option_and_then (λ b. option_map (joined q i j) (atoms_met a b))) (slice_get_read q.atoms (length q.atoms) j b refl k f)

pub unify_none : (q : Query) (i j : ℕ) (a b : Atom) → i < length q.atoms → j < length q.atoms → a ≡ get_or q.atoms i a → b ≡ get_or q.atoms j b → None ≡ atoms_met a b → None ≡ unified q i j
unify_none q i j a b l k e f n = sym (ap (option_map normal_form) (unify_there q i j a b l k e f ∙ ap (option_map (joined q i j)) (sym n)))

pub unify_some : (q : Query) (i j : ℕ) (a b : Atom) (u : Union) (r n : Query) → i < length q.atoms → j < length q.atoms → a ≡ get_or q.atoms i a → b ≡ get_or q.atoms j b → Some u ≡ atoms_met a b →
    r ≡ joined q i j u → n ≡ normal_form r → Some n ≡ unified q i j
unify_some q i j a b u r n l k e f h g m =
    ap Some (m ∙ ap normal_form g) ∙ sym (ap (option_map normal_form) (unify_there q i j a b l k e f ∙ ap (option_map (joined q i j)) (sym h)))
