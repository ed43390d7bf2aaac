-- The lines of what is written.
use Rattle.std.proofs.Common.{◌≡◌, refl, sym, ◌∙◌, ap, subst, ℕ, zero, suc, ◌+◌, ◌-◌, ◌<◌, ◌≤◌, ◌^◌, ◌==◌, not, nat_le, Bool, true, false, if◌then◌else◌, List, [], ◌∷◌, ◌++◌, append_assoc, length, take, drop, get_or, inl, inr, codes, arith}
use Rattle.std.specs.Fmt.{decimal}
use Rattle.std.specs.List.{flat_map, list_all, position_or_len, before_first, after_first}
use Rattle.std.specs.Str.Lines.{lines, strip_carriage_return}
use Rattle.std.proofs.Math.Seq.{take-append_seam}
use Rattle.std.proofs.lemmas.Bool.{and_parts, leb-false, leb-true, le-leb, lt-leb}
use Rattle.std.proofs.lemmas.List.Folds.{list_all-append}
use Rattle.vocabulary.specs.Lists.{In, here, there}
use Rattle.vocabulary.proofs.Lists.{In-append_cases}
use Rattle.line_lexer.specs.Names.{AreNames}
use Rattle.line_lexer.specs.Lines.{lines_of}
use Rattle.line_lexer.specs.Shapes.{begins_word, is_digit, is_in_word, is_word}
use Rattle.line_lexer.proofs.Cuts.{lines_cut}
use Rattle.conflict_checker.specs.declared.derivation.Step.{Step}
use Rattle.conflict_checker.specs.declared.derivation.Step.TheVariants as steps
use Rattle.conflict_checker.specs.declared.derivation.Derivation.{Derivation}
use Rattle.vocabulary.specs.Lists.{item}
use Rattle.derivation_text.specs.Reading.{is_step, steps_limit}
use Rattle.derivation_text.specs.Spelling.{AreSmall, AreSpelledSteps, AreWellFormed, IsSpelledStep, IsWellFormed}
use Rattle.line_lexer.specs.Judging.{text_or_none}
use Rattle.derivation_text.specs.Writing.{clash_line, conflict_line, derivation_lines, derivations_lines, derivations_text, lines_text, spaced, step_line, step_lines}
use Rattle.derivation_text.proofs.Digits.{are_digits, not_this}
use Rattle.derivation_text.proofs.Lining.{five, six}
use Rattle.derivation_text.proofs.Lexing.{run_all}
use Rattle.derivation_text.proofs.Naming.{found_named}

-- no byte is a control character
abbrev IsPlain : List ℕ → Type 0
IsPlain text = list_all (nat_le 32) text ≡ true

weaker : (p q : ℕ → Bool) → ((b : ℕ) → p b ≡ true → q b ≡ true) → (xs : List ℕ) → list_all p xs ≡ true → list_all q xs ≡ true
weaker p q more [] all = refl
weaker p q more (x ∷ xs) all = let w = and_parts (p x) (list_all p xs) all in rw (more x w.0, weaker p q more xs w.1) refl

beside : (xs ys : List ℕ) → IsPlain xs → IsPlain ys → IsPlain (xs ++ ys)
beside xs ys one two = list_all-append (nat_le 32) xs ys ∙ rw (one, two) refl

digit_plain : (b : ℕ) → is_digit b ≡ true → nat_le 32 b ≡ true
digit_plain b is = let low = leb-true 48 b (and_parts (nat_le 48 b) (nat_le b 57) is).0 in le-leb 32 b (omega (arith, low))

-- what fails below 32 passes nothing there
word_plain : (b : ℕ) → is_in_word b ≡ true → nat_le 32 b ≡ true
word_plain b is = by (nat_le 32 b) refl
  where
    by : (t : Bool) → nat_le 32 b ≡ t → nat_le 32 b ≡ true
    by true e = e
    by false e =
        let low = leb-false 32 b e in
        let small : not (nat_le 32 b) ≡ true = ap not e in
        let none : is_in_word b ≡ false =
        rw (lt-leb 65 b (omega (arith, low)), lt-leb 97 b (omega (arith, low)), not_this (λ z. not (nat_le 32 z)) b 95 small refl, lt-leb 48 b (omega (arith, low))) refl in
        let bad : true ≡ false = sym is ∙ none in
        absurd cc

number_plain : (n : ℕ) → n < 2 ^ 32 → IsPlain (decimal n)
number_plain n low = weaker is_digit (nat_le 32) digit_plain (decimal n) (are_digits n (omega (arith, low)))

spaced_plain : (n : ℕ) → n < 2 ^ 32 → IsPlain (spaced n)
spaced_plain n low = number_plain n low

numbers_plain : (ns : List ℕ) → AreSmall ns → IsPlain (flat_map spaced ns)
numbers_plain [] all = refl
numbers_plain (n ∷ ns) all = beside (spaced n) (flat_map spaced ns) (spaced_plain n (all n (here refl))) (numbers_plain ns (λ m i. all m (there i)))

name_plain : (name : List ℕ) → is_word name ≡ true → IsPlain name
name_plain [] is = cc
name_plain (b ∷ rest) is =
    let w = and_parts (begins_word b) (list_all is_in_word rest) is in
    let first : is_in_word b ≡ true = rw w.0 refl in
    rw (word_plain b first, weaker is_in_word (nat_le 32) word_plain rest w.1) refl

step_plain : (names : List (List ℕ)) → AreNames names → (k : ℕ) (step : Step) → k ≤ steps_limit → IsSpelledStep (length names) k step → IsPlain (step_line names k step)
unfolding step_line
step_plain names are k (steps.Mapped m target rows) few spelled =
    let found = found_named names are m spelled.0 spelled.1 in
    let name : IsPlain (text_or_none (item names m)) = subst (λ o. IsPlain (text_or_none o)) (sym found.2) (name_plain found.0 found.1) in
    let end = beside (codes " rows") (flat_map spaced rows) refl (numbers_plain rows spelled.4) in
    let behind = beside (spaced target) (codes " rows" ++ flat_map spaced rows) (spaced_plain target spelled.2) end in
    let named = beside (text_or_none (item names m)) (spaced target ++ (codes " rows" ++ flat_map spaced rows)) name behind in
    let front = beside (codes " map ") (text_or_none (item names m) ++ (spaced target ++ (codes " rows" ++ flat_map spaced rows))) refl named in
    subst IsPlain (sym (six (decimal k) (codes " map ") (text_or_none (item names m)) (spaced target) (codes " rows") (flat_map spaced rows)))
    (beside (decimal k) (codes " map " ++ (text_or_none (item names m) ++ (spaced target ++ (codes " rows" ++ flat_map spaced rows)))) (number_plain k (omega (arith, few))) front)
step_plain names are k (steps.Rule a j) few spelled =
    let earlier = spelled.2 in
    let end = beside (codes " from") (spaced j) refl (spaced_plain j (omega (arith, few, earlier))) in
    let behind = beside (spaced a) (codes " from" ++ spaced j) (spaced_plain a spelled.0) end in
    let front = beside (codes " rule") (spaced a ++ (codes " from" ++ spaced j)) refl behind in
    subst IsPlain (sym (five (decimal k) (codes " rule") (spaced a) (codes " from") (spaced j)))
    (beside (decimal k) (codes " rule" ++ (spaced a ++ (codes " from" ++ spaced j))) (number_plain k (omega (arith, few))) front)

-- each of these lines is plain
abbrev pub ArePlain : List (List ℕ) → Type 0
ArePlain ls = (line : List ℕ) → In line ls → IsPlain line

plain_append : (xs ys : List (List ℕ)) → ArePlain xs → ArePlain ys → ArePlain (xs ++ ys)
plain_append xs ys one two line i = elim (In-append_cases xs ys i) [ inl m ↦ one line m | inr m ↦ two line m ]

plain_one : (x : List ℕ) → IsPlain x → ArePlain (x ∷ [])
plain_one x is line (here e) = subst IsPlain e is
plain_one x is line (there i) = elim i [ ]

steps_plain : (names : List (List ℕ)) → AreNames names → (k : ℕ) (all : List Step) → k + length all ≤ steps_limit + 1 → AreSpelledSteps (length names) k all → ArePlain (step_lines names k all)
steps_plain names are k [] few spelled line i = elim i [ ]
steps_plain names are k (step ∷ all) few spelled line (here e) = subst IsPlain e (step_plain names are k step (omega (arith, few)) spelled.0)
steps_plain names are k (step ∷ all) few spelled line (there i) = steps_plain names are (k + 1) all (omega (arith, few)) spelled.1 line i

-- a number of a step is small
pub step_small : (count : ℕ) (ends : List ℕ) → count ≤ steps_limit → list_all (is_step count) ends ≡ true → AreSmall ends
step_small count [] few all n i = elim i [ ]
step_small count (e ∷ ends) few all n (here same) =
    let w = and_parts (is_step count e) (list_all (is_step count) ends) all in
    let high = leb-true e count (and_parts (nat_le 1 e) (nat_le e count) w.0).1 in
    omega (arith, high, few, same)
step_small count (e ∷ ends) few all n (there i) = step_small count ends few (and_parts (is_step count e) (list_all (is_step count) ends) all).1 n i

derivation_plain : (names : List (List ℕ)) → AreNames names → (d : Derivation) → IsWellFormed (length names) d → ArePlain (derivation_lines names d)
derivation_plain names are d formed =
    let few = formed.few in
    plain_append (conflict_line d.constraint ∷ []) (step_lines names 1 d.steps ++ (clash_line d.ends ∷ [])) (plain_one (conflict_line d.constraint) (beside (codes "conflict") (spaced d.constraint) refl (spaced_plain d.constraint formed.constraint)))
    (plain_append (step_lines names 1 d.steps) (clash_line d.ends ∷ []) (steps_plain names are 1 d.steps (omega (arith, few)) formed.steps)
    (plain_one (clash_line d.ends) (beside (codes "clash") (flat_map spaced d.ends) refl (numbers_plain d.ends (step_small (length d.steps) d.ends formed.few formed.ends)))))

all_plain : (names : List (List ℕ)) → AreNames names → (ds : List Derivation) → AreWellFormed (length names) ds → ArePlain (flat_map (derivation_lines names) ds)
all_plain names are [] formed = λ line i. elim i [ ]
all_plain names are (d ∷ ds) formed = plain_append (derivation_lines names d) (flat_map (derivation_lines names) ds) (derivation_plain names are d (formed d (here refl))) (all_plain names are ds (λ e i. formed e (there i)))

-- a plain line stands up to its end
before_end : (line rest : List ℕ) → IsPlain line → position_or_len (λ b. b == 10) (line ++ (10 ∷ rest)) ≡ length line
before_end line rest plain = run_all (λ b. not (b == 10)) line (10 ∷ rest) (weaker (nat_le 32) (λ b. not (b == 10)) (λ b is. rw (not_this (nat_le 32) b 10 is refl) refl) line plain) refl

at_plain : (line : List ℕ) (i : ℕ) → i < length line → IsPlain line → nat_le 32 (get_or line i 0) ≡ true
at_plain [] i low plain = absurd (omega arith)
at_plain (b ∷ line) zero low plain = (and_parts (nat_le 32 b) (list_all (nat_le 32) line) plain).0
at_plain (b ∷ line) (suc i) low plain = at_plain line i (omega (arith, low)) (and_parts (nat_le 32 b) (list_all (nat_le 32) line) plain).1

kept : (line : List ℕ) → IsPlain line → strip_carriage_return line ≡ line
kept [] plain = refl
kept (b ∷ line) plain =
    let no_return : (get_or (b ∷ line) (length (b ∷ line) - 1) 0 == 13) ≡ false = not_this (nat_le 32) (get_or (b ∷ line) (length (b ∷ line) - 1) 0) 13 (at_plain (b ∷ line) (length (b ∷ line) - 1) (omega arith) plain) refl in
    ap (λ t. if t then take (length (b ∷ line) - 1) (b ∷ line) else (b ∷ line)) no_return

drop_seam : (xs ys : List ℕ) (y : ℕ) → drop (length xs + 1) (xs ++ (y ∷ ys)) ≡ ys
drop_seam [] ys y = refl
drop_seam (x ∷ xs) ys y = let e : length (x ∷ xs) + 1 ≡ suc (length xs + 1) = omega arith in ap (λ n. drop n ((x ∷ xs) ++ (y ∷ ys))) e ∙ drop_seam xs ys y

long_enough : (line rest : List ℕ) → length line < length (line ++ (10 ∷ rest))
long_enough [] rest = omega arith
long_enough (b ∷ line) rest = let more = long_enough line rest in omega (arith, more)

cut_line : (line rest : List ℕ) → IsPlain line → lines (line ++ (10 ∷ rest)) ≡ line ∷ lines rest
cut_line line rest plain =
    let at = before_end line rest plain in
    let long = long_enough line rest in
    let first : before_first (λ b. b == 10) (line ++ (10 ∷ rest)) ≡ line = ap (λ n. take n (line ++ (10 ∷ rest))) at ∙ take-append_seam line (10 ∷ rest) in
    let left : after_first (λ b. b == 10) (line ++ (10 ∷ rest)) ≡ rest = ap (λ n. drop (n + 1) (line ++ (10 ∷ rest))) at ∙ drop_seam line rest 10 in
    lines_cut (line ++ (10 ∷ rest)) (omega (arith, at, long)) ∙ (λ i. (ap strip_carriage_return first ∙ kept line plain) i ∷ lines (left i))

lines_back : (ls : List (List ℕ)) → ArePlain ls → lines (lines_text ls) ≡ ls
unfolding lines_text
lines_back [] plain = refl
lines_back (line ∷ ls) plain =
    ap lines (append_assoc line (codes "\n") (lines_text ls)) ∙ cut_line line (lines_text ls) (plain line (here refl)) ∙ ap (λ more. line ∷ more) (lines_back ls (λ l i. plain l (there i)))

-- no mark stands before `conflict`
unmarked_text : (names : List (List ℕ)) (ds : List Derivation) → 1 ≤ length ds → lines_of (derivations_text names ds) ≡ lines (derivations_text names ds)
unfolding lines_text
unmarked_text names [] some = absurd (omega arith)
unmarked_text names (d ∷ ds) some = refl

pub lines_read : (names : List (List ℕ)) (ds : List Derivation) → AreNames names → 1 ≤ length ds → AreWellFormed (length names) ds → lines_of (derivations_text names ds) ≡ derivations_lines names ds
lines_read names ds are some formed =
    unmarked_text names ds some ∙ lines_back (derivations_lines names ds) (plain_append (flat_map (derivation_lines names) ds) (codes "end" ∷ []) (all_plain names are ds formed) (plain_one (codes "end") refl))
