-- Mappings of one name, and what is read where they are.
use Rattle.std.proofs.Common.{◌≡◌, refl, sym, subst, ◌≤◌, ℕ, zero, suc, List, [], ◌∷◌, length, map, codes, true, Some, Ok}
use Rattle.std.specs.List.{slice_get}
use Rattle.std.proofs.lemmas.List.{length-map}
use Rattle.line_lexer.specs.Names.{AreNames}
use Rattle.line_lexer.specs.Shapes.{is_word}
use Rattle.mapping_facts.specs.declared.mapping.Mapping.{Mapping}
use Rattle.conflict_checker.specs.declared.derivation.Derivation.{Derivation}
use Rattle.derivation_text.specs.Reading.{derivations_of}
use Rattle.derivation_text.specs.Spelling.{AreWellFormed}
use Rattle.derivation_text.proofs.ReadBack.{reading_is_spelling}

abbrev only : List (List ℕ)
only = codes "m" ∷ []

the_name : (name : List ℕ) → Some (codes "m") ≡ Some name → codes "m" ≡ name
the_name name e = cc

a_word : (i : ℕ) (name : List ℕ) → slice_get only i ≡ Some name → is_word name ≡ true
a_word zero name e = subst (λ n. is_word n ≡ true) (the_name name e) refl
a_word (suc i) name e = cc

one_place : (i j : ℕ) (name : List ℕ) → slice_get only i ≡ Some name → slice_get only j ≡ Some name → i ≡ j
one_place zero zero name e f = refl
one_place zero (suc j) name e f = cc
one_place (suc i) j name e f = cc

pub one_name : AreNames only
one_name = record { words = a_word; differ = one_place }

pub some_read : (mappings : List Mapping) (text : List ℕ) (ds : List Derivation) → derivations_of (map (λ m. m.name) mappings) text ≡ Ok ds → 1 ≤ length ds
some_read mappings text ds e = ((reading_is_spelling (map (λ m. m.name) mappings) text ds).0 e).0

pub well_read : (mappings : List Mapping) (text : List ℕ) (ds : List Derivation) → derivations_of (map (λ m. m.name) mappings) text ≡ Ok ds → AreWellFormed (length mappings) ds
well_read mappings text ds e =
    subst (λ n. AreWellFormed n ds) (length-map mappings (λ m. m.name)) ((reading_is_spelling (map (λ m. m.name) mappings) text ds).0 e).1
