-- The front that the lexer takes is the longest one that is a token.
use Rattle.std.proofs.Common.{◌≡◌, ◌<◌, ◌≤◌, ◌-◌, ◌+◌, ◌⊎◌, ◌≢◌, inl, inr, ℕ, zero, suc, Bool, true, false, cond, List, [], ◌∷◌, ◌++◌, Some, None, length, get_or, refl, sym, ap, ◌∙◌, subst, arith, ⊎_elim, ◌&&◌, ◌||◌, nat_lt, not, take, drop, ◌==◌, length-append}
use Rattle.std.specs.List.{prefix_len, list_any, list_all}
use Rattle.std.specs.Str.{chars, bytes_eq}
use Rattle.std.specs.Char.{is_control}
use Rattle.std.proofs.lemmas.List.Sums.{prefix_len-le-length, prefix_len_stops}
use Rattle.std.proofs.Math.Seq.{take-append_seam, take-suc}
use Rattle.std.proofs.lemmas.List.{length-take-le}
use Rattle.std.proofs.lemmas.Slice.Eq.{bytes_eq-Decides}
use Rattle.std.proofs.lemmas.Bool.Decides.{nat_tests, Decides-eqb, Decides-ltb}
use Rattle.line_lexer.specs.declared.shape.Shape.{Shape}
use Rattle.line_lexer.specs.declared.shape.Shape.TheVariants.{Word, Quoted, Number, Sign}
use Rattle.line_lexer.specs.Shapes.{is_digit, begins_word, is_in_word, is_word, is_number, is_unquoted, is_plain, inside, in_quotes, is_quoted, signs, is_sign, is_token, IsFront, IsLongestFront}
use Rattle.line_lexer.specs.Tokens.{token_front, token_at, quoted_len, pair_len, dots_len, is_short_sign, shaped}

and_left : (s t : Bool) → (s && t) ≡ true → s ≡ true
and_left true t e = refl
and_left false t e = absurd cc

and_right : (s t : Bool) → (s && t) ≡ true → t ≡ true
and_right true t e = e
and_right false t e = absurd cc

both : (s t : Bool) → s ≡ true → t ≡ true → (s && t) ≡ true
both s t e f = rw (e, f) refl

or_cases : (s t : Bool) → (s || t) ≡ true → (s ≡ true) ⊎ (t ≡ true)
or_cases true t e = inl refl
or_cases false t e = inr e

from_not : (s : Bool) → not s ≡ true → s ≡ false
from_not true e = absurd cc
from_not false e = refl

any_more : {A : Type 0} (p q : A → Bool) → ((x : A) → p x ≡ true → q x ≡ true) → (xs : List A) → list_any p xs ≡ true → list_any q xs ≡ true
any_more p q more [] e = e
any_more p q more (x ∷ xs) e = ⊎_elim (λ here. rw (more x here) refl) (λ there. by (q x) (any_more p q more xs there)) (or_cases (p x) (list_any p xs) e)
  where
    by : (t : Bool) → list_any q xs ≡ true → (t || list_any q xs) ≡ true
    by true h = refl
    by false h = h

either : {A : Type 0} (P : A → Type 0) (t : Bool) (x y : A) → (t ≡ true → P x) → (t ≡ false → P y) → P (cond t x y)
either P true x y first second = first refl
either P false x y first second = second refl

same_byte : (b c : ℕ) → (b == c) ≡ true → b ≡ c
same_byte b c e = (Decides-eqb b c).0 e

-- runs
run_bound : (p : ℕ → Bool) (k : ℕ) (xs : List ℕ) → k ≤ length xs → list_all p (take k xs) ≡ true → k ≤ prefix_len p xs
run_bound p zero xs le all = omega arith
run_bound p (suc k) [] le all = absurd (omega arith)
run_bound p (suc k) (x ∷ xs) le all =
    let here = and_left (p x) (list_all p (take k xs)) all in
    let rest = run_bound p k xs (omega arith) (and_right (p x) (list_all p (take k xs)) all) in
    rw here (omega arith)

run_passes : (p : ℕ → Bool) (xs : List ℕ) → list_all p (take (prefix_len p xs) xs) ≡ true
run_passes p [] = refl
run_passes p (x ∷ xs) = by (run_passes p xs) (p x) refl
  where
    by : list_all p (take (prefix_len p xs) xs) ≡ true → (t : Bool) → p x ≡ t → list_all p (take (cond t (1 + prefix_len p xs) 0) (x ∷ xs)) ≡ true
    by rest true e = let same : 1 + prefix_len p xs ≡ suc (prefix_len p xs) = omega arith in rw (same, e) rest
    by rest false e = refl

-- the first byte of a token tells its shape
first_is : ℕ → List ℕ → Bool
first_is b [] = false
first_is b (c ∷ cs) = b == c

starts : Shape → ℕ → Bool
starts Word b = begins_word b
starts Quoted b = b == 34
starts Number b = is_digit b
starts Sign b = list_any (first_is b) signs

starts_with : (shape : Shape) (b : ℕ) (rest : List ℕ) (m : ℕ) → is_token shape (take m (b ∷ rest)) ≡ true → starts shape b ≡ true
unfolding starts first_is
starts_with Word b rest zero e = absurd cc
starts_with Word b rest (suc k) e = and_left (begins_word b) (list_all is_in_word (take k rest)) e
starts_with Quoted b rest zero e = absurd cc
starts_with Quoted b rest (suc k) e = and_left (b == 34) _ (and_left _ _ e)
starts_with Number b rest zero e = absurd cc
starts_with Number b rest (suc k) e = and_left (is_digit b) (list_all is_digit (take k rest)) e
starts_with Sign b rest zero e = absurd cc
starts_with Sign b rest (suc k) e = any_more (bytes_eq (b ∷ take k rest)) (first_is b) head signs e
  where
    head : (s : List ℕ) → bytes_eq (b ∷ take k rest) s ≡ true → first_is b s ≡ true
    head [] h = absurd cc
    head (c ∷ cs) h = and_left (b == c) (bytes_eq (take k rest) cs) h

word_bounds : (b : ℕ) → starts Word b ≡ true → (65 ≤ b) × (b ≤ 122)
unfolding starts
word_bounds b h = (grind (arith, nat_tests, h), grind (arith, nat_tests, h))

digit_bounds : (b : ℕ) → starts Number b ≡ true → (48 ≤ b) × (b ≤ 57)
unfolding starts
digit_bounds b h = (grind (arith, nat_tests, h), grind (arith, nat_tests, h))

quote_is : (b : ℕ) → starts Quoted b ≡ true → b ≡ 34
unfolding starts
quote_is b h = same_byte b 34 h

sign_bounds : (b : ℕ) → starts Sign b ≡ true → (40 ≤ b) × ((b ≤ 46) ⊎ ((60 ≤ b) × (b ≤ 61)))
unfolding starts first_is
sign_bounds b h = (grind (arith, nat_tests, h), grind (arith, nat_tests, h))

one_start : (b : ℕ) (s t : Shape) → starts s b ≡ true → starts t b ≡ true → s ≡ t
one_start b Word Word h k = refl
one_start b Word Quoted h k = let w = word_bounds b h in let q = quote_is b k in absurd (omega arith)
one_start b Word Number h k = let w = word_bounds b h in let d = digit_bounds b k in absurd (omega arith)
one_start b Word Sign h k = let w = word_bounds b h in let s = sign_bounds b k in absurd (⊎_elim (λ (l : b ≤ 46). omega arith) (λ (r : (60 ≤ b) × (b ≤ 61)). omega arith) s.1)
one_start b Quoted Word h k = let w = word_bounds b k in let q = quote_is b h in absurd (omega arith)
one_start b Quoted Quoted h k = refl
one_start b Quoted Number h k = let q = quote_is b h in let d = digit_bounds b k in absurd (omega arith)
one_start b Quoted Sign h k = let q = quote_is b h in let s = sign_bounds b k in absurd (omega arith)
one_start b Number Word h k = let w = word_bounds b k in let d = digit_bounds b h in absurd (omega arith)
one_start b Number Quoted h k = let q = quote_is b k in let d = digit_bounds b h in absurd (omega arith)
one_start b Number Number h k = refl
one_start b Number Sign h k = let d = digit_bounds b h in let s = sign_bounds b k in absurd (⊎_elim (λ (l : b ≤ 46). omega arith) (λ (r : (60 ≤ b) × (b ≤ 61)). omega arith) s.1)
one_start b Sign Word h k = let w = word_bounds b k in let s = sign_bounds b h in absurd (⊎_elim (λ (l : b ≤ 46). omega arith) (λ (r : (60 ≤ b) × (b ≤ 61)). omega arith) s.1)
one_start b Sign Quoted h k = let q = quote_is b k in let s = sign_bounds b h in absurd (omega arith)
one_start b Sign Number h k = let d = digit_bounds b k in let s = sign_bounds b h in absurd (⊎_elim (λ (l : b ≤ 46). omega arith) (λ (r : (60 ≤ b) × (b ≤ 61)). omega arith) s.1)
one_start b Sign Sign h k = refl

longest_by : (shape : Shape) (b : ℕ) (rest : List ℕ) (n : ℕ) → starts shape b ≡ true → IsFront (b ∷ rest) shape n → ((m : ℕ) → IsFront (b ∷ rest) shape m → m ≤ n) → IsLongestFront (b ∷ rest) (Some (shape, n))
longest_by shape b rest n start front most = (
  front,
  λ other m f.
      let same : other ≡ shape = one_start b other shape (starts_with other b rest m f.1) start in
      (same, most m (subst (λ s. IsFront (b ∷ rest) s m) same f)),
)

none_by : (shape : Shape) (b : ℕ) (rest : List ℕ) → starts shape b ≡ true → ((m : ℕ) → IsFront (b ∷ rest) shape m → ⊥) → IsLongestFront (b ∷ rest) None
none_by shape b rest start none = λ other m f.
    none m (subst (λ s. IsFront (b ∷ rest) s m) (one_start b other shape (starts_with other b rest m f.1) start) f)

-- words and numbers
word_longest : (b : ℕ) (rest : List ℕ) → begins_word b ≡ true → IsLongestFront (b ∷ rest) (Some (Word, prefix_len is_in_word rest + 1))
unfolding starts
word_longest b rest h = longest_by Word b rest (prefix_len is_in_word rest + 1) h
    (let bound = prefix_len-le-length is_in_word rest in
    let same : prefix_len is_in_word rest + 1 ≡ suc (prefix_len is_in_word rest) = omega arith in
    (omega arith, rw same (both _ _ h (run_passes is_in_word rest))))
    most
  where
    most : (m : ℕ) → IsFront (b ∷ rest) Word m → m ≤ prefix_len is_in_word rest + 1
    most zero f = omega arith
    most (suc k) f = let bound = run_bound is_in_word k rest (omega (arith, f.0)) (and_right (begins_word b) _ f.1) in omega arith

number_longest : (b : ℕ) (rest : List ℕ) → is_digit b ≡ true → IsLongestFront (b ∷ rest) (Some (Number, prefix_len is_digit rest + 1))
unfolding starts
number_longest b rest h = longest_by Number b rest (prefix_len is_digit rest + 1) h
    (let bound = prefix_len-le-length is_digit rest in
    let same : prefix_len is_digit rest + 1 ≡ suc (prefix_len is_digit rest) = omega arith in
    (omega arith, rw same (both _ _ h (run_passes is_digit rest))))
    most
  where
    most : (m : ℕ) → IsFront (b ∷ rest) Number m → m ≤ prefix_len is_digit rest + 1
    most zero f = omega arith
    most (suc k) f = let bound = run_bound is_digit k rest (omega (arith, f.0)) (and_right (is_digit b) _ f.1) in omega arith

-- quoted texts
inside-in_quotes : (text : List ℕ) → inside (in_quotes text) ≡ text
inside-in_quotes text =
    let same : suc (length (text ++ 34 ∷ [])) - 2 ≡ length text = omega (arith, length-append text (34 ∷ [])) in
    rw same (take-append_seam text (34 ∷ []))

quoted_is : (text : List ℕ) → is_plain text ≡ true → is_quoted (in_quotes text) ≡ true
quoted_is text plain = rw inside-in_quotes (both _ _ ((bytes_eq-Decides (in_quotes text) (in_quotes text)).1 refl) plain)

pub quoted_parts : (text : List ℕ) → is_quoted text ≡ true → (text ≡ in_quotes (inside text)) × (is_plain (inside text) ≡ true)
quoted_parts text e = ((bytes_eq-Decides text (in_quotes (inside text))).0 (and_left _ _ e), and_right (bytes_eq text (in_quotes (inside text))) _ e)

-- a text in which a quote ends a run of other bytes
record Closes (rest inside : List ℕ) (k : ℕ) : Type 0 where
  pub len : k ≡ length inside + 1
  pub run : prefix_len is_unquoted rest ≡ length inside
  pub front : take (length inside) rest ≡ inside

closes : (rest : List ℕ) (k : ℕ) (text : List ℕ) → k ≤ length rest → take k rest ≡ text ++ 34 ∷ [] → list_all is_unquoted text ≡ true → Closes rest text k
closes rest zero [] le e plain = absurd cc
closes [] (suc k) [] le e plain = absurd cc
closes (x ∷ xs) (suc k) [] le e plain =
    let same : x ≡ 34 = cc in
    let none : take k xs ≡ [] = cc in
    let len : k ≡ 0 = let l : length (take k xs) ≡ 0 = ap length none in omega (arith, length-take-le k xs (omega arith)) in
    record { len = omega arith; run = rw same refl; front = refl }
closes rest zero (c ∷ cs) le e plain = absurd cc
closes [] (suc k) (c ∷ cs) le e plain = absurd cc
closes (x ∷ xs) (suc k) (c ∷ cs) le e plain =
    let same : x ≡ c = cc in
    let tail : take k xs ≡ cs ++ 34 ∷ [] = cc in
    let here : is_unquoted x ≡ true = rw same (and_left (is_unquoted c) _ plain) in
    let more = closes xs k cs (omega arith) tail (and_right (is_unquoted c) _ plain) in
    record { len = omega (arith, more.len); run = rw here (omega (arith, more.run)); front = rw (same, more.front) refl }

abbrev ends : List ℕ → Bool
ends rest = nat_lt (prefix_len is_unquoted rest) (length rest) && not (list_any is_control (chars (take (prefix_len is_unquoted rest) rest)))

quoted_ends_there : (b : ℕ) (rest : List ℕ) (m : ℕ) → IsFront (b ∷ rest) Quoted m → (ends rest ≡ true) × (m ≡ prefix_len is_unquoted rest + 2)
quoted_ends_there b rest zero f = absurd (let e : is_quoted [] ≡ true = f.1 in cc)
quoted_ends_there b rest (suc k) f =
    let parts = quoted_parts (b ∷ take k rest) f.1 in
    let text : List ℕ = inside (b ∷ take k rest) in
    let tail : take k rest ≡ inside (b ∷ take k rest) ++ 34 ∷ [] = ap (drop 1) parts.0 in
    let there = closes rest k (inside (b ∷ take k rest)) (omega (arith, f.0)) tail (and_left _ _ parts.1) in
    let short : nat_lt (prefix_len is_unquoted rest) (length rest) ≡ true = (Decides-ltb _ _).1 (omega (arith, f.0, there.len, there.run)) in
    let quiet : not (list_any is_control (chars (take (prefix_len is_unquoted rest) rest))) ≡ true = rw (there.run, there.front) (and_right (list_all is_unquoted (inside (b ∷ take k rest))) _ parts.1) in
    (both _ _ short quiet, omega (arith, there.len, there.run))

quoted_front : (rest : List ℕ) → ends rest ≡ true → is_quoted (take (prefix_len is_unquoted rest + 2) (34 ∷ rest)) ≡ true
quoted_front rest e =
    let n : ℕ = prefix_len is_unquoted rest in
    let short : prefix_len is_unquoted rest < length rest = (Decides-ltb _ _).0 (and_left _ _ e) in
    let stop : get_or rest (prefix_len is_unquoted rest) 0 ≡ 34 = same_byte _ 34 (from_unquoted _ (prefix_len_stops is_unquoted rest 0 short)) in
    let front : take (suc (prefix_len is_unquoted rest)) rest ≡ take (prefix_len is_unquoted rest) rest ++ 34 ∷ [] = take-suc rest (prefix_len is_unquoted rest) 0 short ∙ ap (λ x. take (prefix_len is_unquoted rest) rest ++ x ∷ []) stop in
    let same : prefix_len is_unquoted rest + 2 ≡ suc (suc (prefix_len is_unquoted rest)) = omega arith in
    rw (same, front) (quoted_is (take (prefix_len is_unquoted rest) rest) (both _ _ (run_passes is_unquoted rest) (and_right _ _ e)))
  where
    from_unquoted : (x : ℕ) → is_unquoted x ≡ false → (x == 34) ≡ true
    from_unquoted x h = by (x == 34) h
      where
        by : (t : Bool) → not t ≡ false → t ≡ true
        by true e = refl
        by false e = absurd cc

quoted_longest : (b : ℕ) (rest : List ℕ) → b ≡ 34 → IsLongestFront (b ∷ rest) (shaped Quoted (quoted_len rest))
unfolding starts
quoted_longest b rest e = either (λ o. IsLongestFront (b ∷ rest) (shaped Quoted o)) (ends rest) _ _
    (λ yes. longest_by Quoted b rest (prefix_len is_unquoted rest + 2) (rw e refl)
    (let short : prefix_len is_unquoted rest < length rest = (Decides-ltb _ _).0 (and_left _ _ yes) in
    (omega arith, rw e (quoted_front rest yes)))
    (λ m f. let there = quoted_ends_there b rest m f in omega (arith, there.1)))
    (λ no. none_by Quoted b rest (rw e refl) (λ m f. let there = quoted_ends_there b rest m f in let k : true ≡ false = sym there.0 ∙ no in cc))

-- signs
is_long : List ℕ → Bool
is_long [] = false
is_long (x ∷ []) = false
is_long (x ∷ y ∷ z) = true

is_longer : List ℕ → Bool
is_longer [] = false
is_longer (x ∷ []) = false
is_longer (x ∷ y ∷ []) = false
is_longer (x ∷ y ∷ z ∷ w) = true

second_is : ℕ → List ℕ → Bool
second_is c [] = false
second_is c (x ∷ []) = false
second_is c (x ∷ y ∷ z) = c == y

pairs : ℕ → ℕ → Bool
pairs b c = ((b == 60) && (c == 62)) || ((b == 45) && (c == 62)) || ((b == 46) && (c == 46))

long_sign : (b c : ℕ) (t : List ℕ) → is_sign (b ∷ c ∷ t) ≡ true → list_any (λ s. is_long s && (first_is b s && second_is c s)) signs ≡ true
unfolding is_long first_is second_is
long_sign b c t e = any_more (bytes_eq (b ∷ c ∷ t)) (λ s. is_long s && (first_is b s && second_is c s)) pair signs e
  where
    pair : (s : List ℕ) → bytes_eq (b ∷ c ∷ t) s ≡ true → (is_long s && (first_is b s && second_is c s)) ≡ true
    pair [] h = absurd cc
    pair (x ∷ []) h = absurd (let k : false ≡ true = and_right (b == x) false h in cc)
    pair (x ∷ y ∷ z) h = both _ _ (and_left (b == x) _ h) (and_left (c == y) _ (and_right (b == x) _ h))

longer_sign : (b c d : ℕ) (t : List ℕ) → is_sign (b ∷ c ∷ d ∷ t) ≡ true → ⊥
unfolding is_longer
longer_sign b c d t e = let k : false ≡ true = any_more (bytes_eq (b ∷ c ∷ d ∷ t)) is_longer three signs e in cc
  where
    three : (s : List ℕ) → bytes_eq (b ∷ c ∷ d ∷ t) s ≡ true → is_longer s ≡ true
    three [] h = absurd cc
    three (x ∷ []) h = absurd (let k : false ≡ true = and_right (b == x) false h in cc)
    three (x ∷ y ∷ []) h = absurd (let k : false ≡ true = and_right (c == y) false (and_right (b == x) _ h) in cc)
    three (x ∷ y ∷ z ∷ w) h = refl

-- the bytes of a sign of two bytes
pair_is : (b c : ℕ) (t : List ℕ) → is_sign (b ∷ c ∷ t) ≡ true → ((c ≡ 62) × ((b ≡ 60) ⊎ (b ≡ 45))) ⊎ ((c ≡ 46) × (b ≡ 46))
unfolding is_long first_is second_is
pair_is b c t e =
    let h : ((b == 60) && (c == 62) || ((b == 45) && (c == 62) || ((b == 46) && (c == 46) || false))) ≡ true = long_sign b c t e in
    ⊎_elim (λ k. inl (same_byte c 62 (and_right (b == 60) _ k), inl (same_byte b 60 (and_left _ _ k))))
    (λ k. ⊎_elim (λ l. inl (same_byte c 62 (and_right (b == 45) _ l), inr (same_byte b 45 (and_left _ _ l))))
    (λ l. ⊎_elim (λ m. inr (same_byte c 46 (and_right (b == 46) _ m), same_byte b 46 (and_left _ _ m))) (λ m. absurd cc) (or_cases _ _ l))
    (or_cases _ _ k))
    (or_cases _ _ h)

-- a front that is a sign has one byte or two, and two only where they are a pair
sign_len : (b : ℕ) (rest : List ℕ) (m : ℕ) → IsFront (b ∷ rest) Sign m → (m ≡ 1) ⊎ (m ≡ 2)
sign_len b rest zero f = absurd (let e : is_sign [] ≡ true = f.1 in cc)
sign_len b rest (suc zero) f = inl refl
sign_len b [] (suc (suc k)) f = absurd (omega (arith, f.0))
sign_len b (c ∷ t) (suc (suc zero)) f = inr refl
sign_len b (c ∷ []) (suc (suc (suc k))) f = absurd (omega (arith, f.0))
sign_len b (c ∷ d ∷ t) (suc (suc (suc k))) f = absurd (longer_sign b c d (take k t) f.1)

sign_one : (b : ℕ) (rest : List ℕ) (m : ℕ) → ((c : ℕ) → is_sign (b ∷ c ∷ []) ≡ true → ⊥) → IsFront (b ∷ rest) Sign m → m ≤ 1
sign_one b rest m never f = ⊎_elim (λ (e : m ≡ 1). omega arith) (λ (e : m ≡ 2). absurd (two rest (subst (λ k. IsFront (b ∷ rest) Sign k) e f))) (sign_len b rest m f)
  where
    two : (xs : List ℕ) → IsFront (b ∷ xs) Sign 2 → ⊥
    two [] g = omega (arith, g.0)
    two (c ∷ t) g = never c g.1

at_most_two : (b : ℕ) (rest : List ℕ) (m : ℕ) → IsFront (b ∷ rest) Sign m → m ≤ 2
at_most_two b rest m f = ⊎_elim (λ (e : m ≡ 1). omega arith) (λ (e : m ≡ 2). omega arith) (sign_len b rest m f)

short_longest : (b : ℕ) (rest : List ℕ) → is_sign (b ∷ []) ≡ true → ((c : ℕ) → is_sign (b ∷ c ∷ []) ≡ true → ⊥) → IsLongestFront (b ∷ rest) (Some (Sign, 1))
short_longest b rest one never = longest_by Sign b rest 1 (starts_with Sign b [] 1 one) (omega arith, one) (λ m f. sign_one b rest m never f)

short_case : (b c : ℕ) (rest : List ℕ) → b ≡ c → is_sign (c ∷ []) ≡ true → (c ≢ 60) × (c ≢ 45) × (c ≢ 46) → IsLongestFront (b ∷ rest) (Some (Sign, 1))
short_case b c rest e one lone = rw e (short_longest c rest one (λ d two. ⊎_elim (λ k. ⊎_elim lone.0 lone.1 k.1) (λ k. lone.2 k.1) (pair_is c d [] two)))

short_longest_by : (b : ℕ) (rest : List ℕ) → is_short_sign b ≡ true → IsLongestFront (b ∷ rest) (Some (Sign, 1))
short_longest_by b rest h =
    ⊎_elim (λ k. ⊎_elim (λ l. ⊎_elim (λ m. ⊎_elim (λ n. case 40 n refl (omega arith, omega arith, omega arith)) (λ n. case 41 n refl (omega arith, omega arith, omega arith)) (or_cases _ _ m))
    (λ m. case 44 m refl (omega arith, omega arith, omega arith)) (or_cases _ _ l))
    (λ l. case 61 l refl (omega arith, omega arith, omega arith)) (or_cases _ _ k))
    (λ k. case 42 k refl (omega arith, omega arith, omega arith)) (or_cases _ _ h)
  where
    case : (c : ℕ) → (b == c) ≡ true → is_sign (c ∷ []) ≡ true → (c ≢ 60) × (c ≢ 45) × (c ≢ 46) → IsLongestFront (b ∷ rest) (Some (Sign, 1))
    case c e one lone = short_case b c rest (same_byte b c e) one lone

dots_longest : (rest : List ℕ) → IsLongestFront (46 ∷ rest) (Some (Sign, dots_len rest))
dots_longest [] = longest_by Sign 46 [] 1 (starts_with Sign 46 [] 1 refl) (omega arith, refl) (λ m f. omega (arith, f.0))
dots_longest (c ∷ t) = either (λ n. IsLongestFront (46 ∷ c ∷ t) (Some (Sign, n))) (c == 46) _ _
    (λ yes. let same : c ≡ 46 = same_byte c 46 yes in
    longest_by Sign 46 (c ∷ t) 2 (starts_with Sign 46 [] 1 refl) (omega arith, rw same refl) (λ m f. at_most_two 46 (c ∷ t) m f))
    (λ no. longest_by Sign 46 (c ∷ t) 1 (starts_with Sign 46 [] 1 refl) (omega arith, refl)
    (λ m f. ⊎_elim (λ (e : m ≡ 1). omega arith) (λ (e : m ≡ 2). absurd (two no (subst (λ k. IsFront (46 ∷ c ∷ t) Sign k) e f))) (sign_len 46 (c ∷ t) m f)))
  where
    two : (c == 46) ≡ false → IsFront (46 ∷ c ∷ t) Sign 2 → ⊥
    two differs g = ⊎_elim (λ k. ⊎_elim (λ (e : 46 ≡ 60). omega arith) (λ (e : 46 ≡ 45). omega arith) k.1)
        (λ k. let yes : (c == 46) ≡ true = (Decides-eqb c 46).1 k.0 in let f : true ≡ false = sym yes ∙ differs in cc)
        (pair_is 46 c [] g.1)

pair_begins : (b : ℕ) → (b ≡ 60) ⊎ (b ≡ 45) → starts Sign b ≡ true
unfolding starts first_is
pair_begins b is = ⊎_elim (λ e. rw e refl) (λ e. rw e refl) is

pair_front : (b : ℕ) → (b ≡ 60) ⊎ (b ≡ 45) → is_sign (b ∷ 62 ∷ []) ≡ true
pair_front b is = ⊎_elim (λ e. rw e refl) (λ e. rw e refl) is

alone : (b : ℕ) → (b ≡ 60) ⊎ (b ≡ 45) → is_sign (b ∷ []) ≡ true → ⊥
alone b is g = ⊎_elim (λ e. let h : is_sign (60 ∷ []) ≡ true = subst (λ x. is_sign (x ∷ []) ≡ true) e g in cc) (λ e. let h : is_sign (45 ∷ []) ≡ true = subst (λ x. is_sign (x ∷ []) ≡ true) e g in cc) is

lone : (b : ℕ) (xs : List ℕ) (m : ℕ) → (b ≡ 60) ⊎ (b ≡ 45) → (m ≡ 2 → ⊥) → IsFront (b ∷ xs) Sign m → ⊥
lone b xs m is never f = ⊎_elim (λ (e : m ≡ 1). alone b is (subst (λ k. IsFront (b ∷ xs) Sign k) e f).1) never (sign_len b xs m f)

pair_longest : (b : ℕ) (rest : List ℕ) → (b ≡ 60) ⊎ (b ≡ 45) → IsLongestFront (b ∷ rest) (shaped Sign (pair_len 62 rest))
pair_longest b [] is = none_by Sign b [] (pair_begins b is) (λ m f. lone b [] m is (λ (e : m ≡ 2). omega (arith, f.0)) f)
pair_longest b (c ∷ t) is = either (λ o. IsLongestFront (b ∷ c ∷ t) (shaped Sign o)) (c == 62) _ _
    (λ yes. let same : c ≡ 62 = same_byte c 62 yes in
    longest_by Sign b (c ∷ t) 2 (pair_begins b is) (omega arith, rw same (pair_front b is)) (λ m f. at_most_two b (c ∷ t) m f))
    (λ no. none_by Sign b (c ∷ t) (pair_begins b is) (λ m f. lone b (c ∷ t) m is (λ (e : m ≡ 2). two no (subst (λ k. IsFront (b ∷ c ∷ t) Sign k) e f)) f))
  where
    two : (c == 62) ≡ false → IsFront (b ∷ c ∷ t) Sign 2 → ⊥
    two differs g = ⊎_elim (λ k. let yes : (c == 62) ≡ true = (Decides-eqb c 62).1 k.0 in let f : true ≡ false = sym yes ∙ differs in cc)
        (λ k. ⊎_elim (λ (e : b ≡ 60). omega (arith, k.1)) (λ (e : b ≡ 45). omega (arith, k.1)) is)
        (pair_is b c [] g.1)

-- no token begins with another byte
no_start : (b : ℕ) → begins_word b ≡ false → is_digit b ≡ false → (b == 34) ≡ false → is_short_sign b ≡ false → (b == 46) ≡ false → ((b == 60) || (b == 45)) ≡ false → (shape : Shape) → starts shape b ≡ true → ⊥
unfolding starts first_is
no_start b w d q s o p Word h = let k : true ≡ false = sym h ∙ w in cc
no_start b w d q s o p Quoted h = let k : true ≡ false = sym h ∙ q in cc
no_start b w d q s o p Number h = let k : true ≡ false = sym h ∙ d in cc
no_start b w d q s o p Sign h = grind (arith, nat_tests, h, s, o, p)

other_none : (b : ℕ) (rest : List ℕ) → begins_word b ≡ false → is_digit b ≡ false → (b == 34) ≡ false → is_short_sign b ≡ false → (b == 46) ≡ false → ((b == 60) || (b == 45)) ≡ false → IsLongestFront (b ∷ rest) None
other_none b rest w d q s o p = λ shape m f. no_start b w d q s o p shape (starts_with shape b rest m f.1)

pub longest : (text : List ℕ) → IsLongestFront text (token_at text)
unfolding token_front
longest [] = λ shape n f. nothing shape n f
  where
    nothing : (shape : Shape) (n : ℕ) → IsFront [] shape n → ⊥
    nothing Word zero f = let e : is_word [] ≡ true = f.1 in cc
    nothing Quoted zero f = let e : is_quoted [] ≡ true = f.1 in cc
    nothing Number zero f = let e : is_number [] ≡ true = f.1 in cc
    nothing Sign zero f = let e : is_sign [] ≡ true = f.1 in cc
    nothing shape (suc n) f = omega (arith, f.0)
longest (b ∷ rest) =
    either (IsLongestFront (b ∷ rest)) (begins_word b) _ _ (λ w. word_longest b rest w)
    (λ w. either (IsLongestFront (b ∷ rest)) (is_digit b) _ _ (λ d. number_longest b rest d)
    (λ d. either (IsLongestFront (b ∷ rest)) (b == 34) _ _ (λ q. quoted_longest b rest (same_byte b 34 q))
    (λ q. either (IsLongestFront (b ∷ rest)) (is_short_sign b) _ _ (λ s. short_longest_by b rest s)
    (λ s. either (IsLongestFront (b ∷ rest)) (b == 46) _ _ (λ o. rw (same_byte b 46 o) (dots_longest rest))
    (λ o. either (IsLongestFront (b ∷ rest)) ((b == 60) || (b == 45)) _ _ (λ p. pair_longest b rest (⊎_elim (λ e. inl (same_byte b 60 e)) (λ e. inr (same_byte b 45 e)) (or_cases _ _ p)))
    (λ p. other_none b rest w d q s o p))))))

-- what token_at takes is a token
pub token_shaped : (text : List ℕ) (shape : Shape) (n : ℕ) → token_at text ≡ Some (shape, n) → is_token shape (take n text) ≡ true
token_shaped text shape n e = (subst (IsLongestFront text) e (longest text)).0.1
