-- Texts that no key may be, by their tests.
use Rattle.std.proofs.Common.{◌≡◌, refl, sym, ◌||◌, ◌&&◌, ◌==◌, not, Bool, true, false, ℕ, List, length, nat_lt, codes, chars, arith}
use Rattle.std.proofs.lemmas.Bool.Decides.{nat_tests}
use Rattle.std.specs.List.{list_any, list_all}
use Rattle.std.specs.Str.{bytes_eq}
use Rattle.vocabulary.specs.Texts.{is_xml_char}
use Rattle.civil_values.specs.Texts.{is_cell_text}
use Rattle.annotation_language.specs.Lines.{is_bad_text}

moved : (empty object sign plain : Bool) → (not (not empty && plain) || object || sign) ≡ (empty || object || sign || not plain)
moved true true true true = refl
moved true true true false = refl
moved true true false true = refl
moved true true false false = refl
moved true false true true = refl
moved true false true false = refl
moved true false false true = refl
moved true false false false = refl
moved false true true true = refl
moved false true true false = refl
moved false true false true = refl
moved false true false false = refl
moved false false true true = refl
moved false false true false = refl
moved false false false true = refl
moved false false false false = refl

some : (n : ℕ) → nat_lt 0 n ≡ not (n == 0)
some n = grind (arith, nat_tests)

pub bad_parts : (key : List ℕ) → is_bad_text key ≡ (not (is_cell_text key) || bytes_eq key (codes "object") || list_any (λ b. b == 35) key)
bad_parts key = rw some (sym (moved (length key == 0) (bytes_eq key (codes "object")) (list_any (λ b. b == 35) key) (list_all is_xml_char (chars key))))
