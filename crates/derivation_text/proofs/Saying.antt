-- What the written lines say.
use Rattle.std.proofs.Common.{◌≡◌, ◌<◌, ◌≤◌, ◌^◌, ℕ, true, false, List, [], ◌∷◌, ◌++◌, length, map, Some, refl, ap, ◌∙◌, arith, codes}
use Rattle.std.specs.Fmt.{decimal}
use Rattle.std.specs.List.{flat_map}
use Rattle.std.specs.Str.{bytes_eq}
use Rattle.std.proofs.lemmas.Bool.{lt-ltb}
use Rattle.vocabulary.specs.Lists.{here, there}
use Rattle.line_lexer.specs.Shapes.{is_digit, is_word}
use Rattle.line_lexer.specs.Tokens.{tokens_of, tokens_behind, in_front}
use Rattle.conflict_checker.specs.declared.derivation.Step.TheVariants as steps
use Rattle.vocabulary.specs.Lists.{item}
use Rattle.derivation_text.specs.declared.said.Said.TheVariants.{Conflict, Mapped, Rule, Clash, End}
use Rattle.derivation_text.specs.Reading.{small, numbers, line_said, said_by, mapping_number}
use Rattle.derivation_text.specs.Spelling.{AreSmall}
use Rattle.line_lexer.specs.Judging.{text_or_none}
use Rattle.derivation_text.specs.Writing.{spaced, step_line, conflict_line, clash_line}
use Rattle.derivation_text.proofs.Digits.{are_digits, not_text, value}
use Rattle.derivation_text.proofs.Lining.{five, six}
use Rattle.derivation_text.proofs.Lexing.{word, num, word_token, number_token, number_alone, space_passed, nothing_left, spaced_cut, spaced_token, spaced_tokens}

-- a written number is read
small_num : (n : ℕ) → n < 2 ^ 32 → small (num n) ≡ Some n
small_num n low = rw (value n (omega (arith, low)), lt-ltb n (2 ^ 32) low) refl

are_numbers : (ns : List ℕ) → AreSmall ns → numbers (map num ns) ≡ Some ns
are_numbers [] all = refl
are_numbers (n ∷ ns) all = rw (value n (omega (arith, all n (here refl))), lt-ltb n (2 ^ 32) (all n (here refl)), are_numbers ns (λ m i. all m (there i))) refl

-- a number is none of the words that begin a line
no_conflict : (n : ℕ) → n < 2 ^ 32 → bytes_eq (decimal n) (codes "conflict") ≡ false
no_conflict n low = not_text is_digit (decimal n) (codes "conflict") (are_digits n (omega (arith, low))) refl

-- `conflict C`
conflict_said : (names : List (List ℕ)) (c : ℕ) → c < 2 ^ 32 → line_said names (word (codes "conflict") ∷ num c ∷ []) ≡ Conflict c
unfolding line_said
conflict_said names c low = rw (value c (omega (arith, low)), lt-ltb c (2 ^ 32) low) refl

pub says_conflict : (names : List (List ℕ)) (c : ℕ) → c < 2 ^ 32 → said_by names (tokens_of (conflict_line c)) ≡ Conflict c
says_conflict names c low =
    let tokens : tokens_of (conflict_line c) ≡ Some (word (codes "conflict") ∷ num c ∷ []) =
    word_token (codes "conflict") (spaced c) refl refl ∙ ap (in_front (word (codes "conflict"))) (number_alone c low) in
    ap (said_by names) tokens ∙ conflict_said names c low

-- `clash I J`
clash_said : (names : List (List ℕ)) (ends : List ℕ) → 2 ≤ length ends → AreSmall ends → line_said names (word (codes "clash") ∷ map num ends) ≡ Clash ends
unfolding line_said
clash_said names [] two all = absurd (omega arith)
clash_said names (i ∷ []) two all = absurd (omega arith)
clash_said names (i ∷ j ∷ ends) two all = rw (are_numbers (i ∷ j ∷ ends) all) refl

pub says_clash : (names : List (List ℕ)) (ends : List ℕ) → 2 ≤ length ends → AreSmall ends → said_by names (tokens_of (clash_line ends)) ≡ Clash ends
says_clash names ends two all =
    let tokens : tokens_of (clash_line ends) ≡ Some (word (codes "clash") ∷ map num ends) =
    word_token (codes "clash") (flat_map spaced ends) refl (spaced_cut ends) ∙ ap (in_front (word (codes "clash"))) (spaced_tokens ends all) in
    ap (said_by names) tokens ∙ clash_said names ends two all

pub says_end : (names : List (List ℕ)) → said_by names (tokens_of (codes "end")) ≡ End
unfolding line_said
says_end names = ap (said_by names) (word_token (codes "end") [] refl tt ∙ ap (in_front (word (codes "end"))) nothing_left)

-- `K rule A from J`
rule_said : (names : List (List ℕ)) (k a j : ℕ) → k < 2 ^ 32 → a < 2 ^ 32 → j < 2 ^ 32 → line_said names (num k ∷ word (codes "rule") ∷ num a ∷ word (codes "from") ∷ num j ∷ []) ≡ Rule k a j
unfolding line_said
rule_said names k a j lk la lj =
    rw (no_conflict k lk, value k (omega (arith, lk)), lt-ltb k (2 ^ 32) lk, value a (omega (arith, la)), lt-ltb a (2 ^ 32) la, value j (omega (arith, lj)), lt-ltb j (2 ^ 32) lj) refl

pub says_rule : (names : List (List ℕ)) (k a j : ℕ) → k < 2 ^ 32 → a < 2 ^ 32 → j < 2 ^ 32 → said_by names (tokens_of (step_line names k (steps.Rule a j))) ≡ Rule k a j
unfolding step_line
says_rule names k a j lk la lj =
    let end : tokens_behind (codes " from" ++ spaced j) 0 ≡ Some (word (codes "from") ∷ num j ∷ []) =
    space_passed (codes "from" ++ spaced j) ∙ word_token (codes "from") (spaced j) refl refl ∙ ap (in_front (word (codes "from"))) (number_alone j lj) in
    let behind : tokens_behind (spaced a ++ (codes " from" ++ spaced j)) 0 ≡ Some (num a ∷ word (codes "from") ∷ num j ∷ []) =
    spaced_token a (codes " from" ++ spaced j) la refl ∙ ap (in_front (num a)) end in
    let front : tokens_behind (codes " rule" ++ (spaced a ++ (codes " from" ++ spaced j))) 0 ≡ Some (word (codes "rule") ∷ num a ∷ word (codes "from") ∷ num j ∷ []) =
    space_passed (codes "rule" ++ (spaced a ++ (codes " from" ++ spaced j))) ∙ word_token (codes "rule") (spaced a ++ (codes " from" ++ spaced j)) refl refl ∙ ap (in_front (word (codes "rule"))) behind in
    let all : tokens_of (step_line names k (steps.Rule a j)) ≡ Some (num k ∷ word (codes "rule") ∷ num a ∷ word (codes "from") ∷ num j ∷ []) =
    ap tokens_of (five (decimal k) (codes " rule") (spaced a) (codes " from") (spaced j)) ∙ number_token k (codes " rule" ++ (spaced a ++ (codes " from" ++ spaced j))) lk refl ∙ ap (in_front (num k)) front in
    ap (said_by names) all ∙ rule_said names k a j lk la lj

-- `K map N T rows R R`
map_said : (names : List (List ℕ)) (name : List ℕ) (k m t : ℕ) (rows : List ℕ) → k < 2 ^ 32 → t < 2 ^ 32 → 1 ≤ length rows → AreSmall rows → mapping_number names name ≡ Some m →
    line_said names (num k ∷ word (codes "map") ∷ word name ∷ num t ∷ word (codes "rows") ∷ map num rows) ≡ Mapped k (Some m) t rows
unfolding line_said
map_said names name k m t [] lk lt some all is = absurd (omega arith)
map_said names name k m t (r ∷ rows) lk lt some all is =
    rw (no_conflict k lk, value k (omega (arith, lk)), lt-ltb k (2 ^ 32) lk, value t (omega (arith, lt)), lt-ltb t (2 ^ 32) lt, are_numbers (r ∷ rows) all, is) refl

pub says_map : (names : List (List ℕ)) (name : List ℕ) (k m t : ℕ) (rows : List ℕ) → k < 2 ^ 32 → t < 2 ^ 32 → 1 ≤ length rows → AreSmall rows → is_word name ≡ true → item names m ≡ Some name → mapping_number names name ≡ Some m →
    said_by names (tokens_of (step_line names k (steps.Mapped m t rows))) ≡ Mapped k (Some m) t rows
unfolding step_line
says_map names name k m t rows lk lt some all is named numbered =
    let rows_said : tokens_behind (codes " rows" ++ flat_map spaced rows) 0 ≡ Some (word (codes "rows") ∷ map num rows) =
    space_passed (codes "rows" ++ flat_map spaced rows) ∙ word_token (codes "rows") (flat_map spaced rows) refl (spaced_cut rows) ∙ ap (in_front (word (codes "rows"))) (spaced_tokens rows all) in
    let target : tokens_behind (spaced t ++ (codes " rows" ++ flat_map spaced rows)) 0 ≡ Some (num t ∷ word (codes "rows") ∷ map num rows) =
    spaced_token t (codes " rows" ++ flat_map spaced rows) lt refl ∙ ap (in_front (num t)) rows_said in
    let mapping : tokens_behind (name ++ (spaced t ++ (codes " rows" ++ flat_map spaced rows))) 0 ≡ Some (word name ∷ num t ∷ word (codes "rows") ∷ map num rows) =
    word_token name (spaced t ++ (codes " rows" ++ flat_map spaced rows)) is refl ∙ ap (in_front (word name)) target in
    let map_is : tokens_behind (codes " map " ++ (name ++ (spaced t ++ (codes " rows" ++ flat_map spaced rows)))) 0 ≡ Some (word (codes "map") ∷ word name ∷ num t ∷ word (codes "rows") ∷ map num rows) =
    space_passed (codes "map " ++ (name ++ (spaced t ++ (codes " rows" ++ flat_map spaced rows)))) ∙ word_token (codes "map") (codes " " ++ (name ++ (spaced t ++ (codes " rows" ++ flat_map spaced rows)))) refl refl
    ∙ ap (in_front (word (codes "map"))) (space_passed (name ++ (spaced t ++ (codes " rows" ++ flat_map spaced rows))) ∙ mapping) in
    let all_said : tokens_behind (decimal k ++ (codes " map " ++ (name ++ (spaced t ++ (codes " rows" ++ flat_map spaced rows))))) 0 ≡ Some (num k ∷ word (codes "map") ∷ word name ∷ num t ∷ word (codes "rows") ∷ map num rows) =
    number_token k (codes " map " ++ (name ++ (spaced t ++ (codes " rows" ++ flat_map spaced rows)))) lk refl ∙ ap (in_front (num k)) map_is in
    ap (λ o. said_by names (tokens_behind (decimal k ++ codes " map " ++ text_or_none o ++ spaced t ++ codes " rows" ++ flat_map spaced rows) 0)) named
    ∙ ap (λ text. said_by names (tokens_behind text 0)) (six (decimal k) (codes " map ") name (spaced t) (codes " rows") (flat_map spaced rows))
    ∙ ap (said_by names) all_said ∙ map_said names name k m t rows lk lt some all numbered
