-- The tokens of a line are its first one, and those of what is left behind it.
use Rattle.std.proofs.Common.{◌≡◌, ◌<◌, ◌≤◌, ◌-◌, ◌+◌, ℕ, zero, suc, Bool, true, false, List, [], ◌∷◌, ◌++◌, Option, Some, None, length, refl, sym, ap, ◌∙◌, subst, arith, take, drop, ◌==◌, if◌then◌else◌, append_assoc, append-nil, length-drop, drop-drop, Ok, Err, map, Vec, Global}
use Rattle.std.specs.List.{prefix_len, slice_range}
use Rattle.line_lexer.specs.declared.shape.Shape.{Shape}
use Rattle.line_lexer.specs.Shapes.{IsLongestFront}
use Rattle.line_lexer.specs.Tokens.{is_blank, token_front, token_at, is_over, First, Over, Bad, At, behind, first_behind, unblanked, first_of, Seen, in_front, begun, tokens_behind, tokens_of, IsNext, IsInOrder, seen, Begins, ReadsTokens, AreSpans}
use Rattle.line_lexer.specs.Cursor.{Cursor, rest_of}
use Rattle.line_lexer.specs.declared.token.Token.{Token}
use Rattle.line_lexer.specs.declared.token.LexFault.{LexFault}
use Rattle.line_lexer.proofs.Ends.{token_at-ends}
use Rattle.line_lexer.proofs.Longest.{longest}

pub skips : (line : List ℕ) (n : ℕ) → tokens_behind line n ≡ tokens_behind (drop n line) 0
unfolding tokens_behind
skips line zero = refl
skips [] (suc n) = refl
skips (b ∷ rest) (suc n) = skips rest n

-- the tokens, by what stands first
abbrev pub onward : List ℕ → First → Option (List Seen)
onward line Over = Some []
onward line (Bad blanks) = None
onward line (At blanks shape n) = in_front (record { shape = shape; text = take n (drop blanks line) }) (tokens_behind (drop (blanks + n) line) 0)

-- the tokens so far, and those to come
abbrev pub ahead : List Seen → Option (List Seen) → Option (List Seen)
ahead front None = None
ahead front (Some ts) = Some (front ++ ts)

-- a blank more in front
shifted : (b : ℕ) (rest : List ℕ) (k : ℕ) (first : First) → (line : List ℕ) → first ≡ first_behind k line → onward (b ∷ rest) (first_behind (suc k) line) ≡ onward rest (first_behind k line)
shifted b rest k first line e = by (is_over line) (token_at line)
  where
    by : (t : Bool) (o : Option (Shape × ℕ)) → onward (b ∷ rest) (if◌then◌else◌ t Over (behind (suc k) o)) ≡ onward rest (if◌then◌else◌ t Over (behind k o))
    by true o = refl
    by false None = refl
    by false (Some (shape, n)) = let same : suc k + n ≡ suc (k + n) = omega arith in rw same refl

front_then : (b : ℕ) (rest : List ℕ) → begun b rest (λ skip. tokens_behind rest skip) (token_front b rest) ≡ onward (b ∷ rest) (behind 0 (token_front b rest))
front_then b rest = by (token_front b rest) refl
  where
    by : (o : Option (Shape × ℕ)) → token_front b rest ≡ o → begun b rest (λ skip. tokens_behind rest skip) o ≡ onward (b ∷ rest) (behind 0 o)
    by None e = refl
    by (Some (shape, zero)) e = let ends = token_at-ends (b ∷ rest) shape zero e in absurd (omega (arith, ends.positive))
    by (Some (shape, suc m)) e =
        let same : 0 + suc m ≡ suc m = omega arith in
        let less : suc m - 1 ≡ m = omega arith in
        rw (same, less, skips rest m) refl

pub first_then : (line : List ℕ) → tokens_behind line 0 ≡ onward line (first_of line)
unfolding tokens_behind first_of
first_then [] = refl
first_then (b ∷ rest) = by (first_then rest) (is_blank b) refl
  where
    over : (t : Bool) → if◌then◌else◌ t (Some []) (begun b rest (λ skip. tokens_behind rest skip) (token_front b rest)) ≡ onward (b ∷ rest) (if◌then◌else◌ t Over (behind 0 (token_front b rest)))
    over true = refl
    over false = front_then b rest

    by : tokens_behind rest 0 ≡ onward rest (first_behind (prefix_len is_blank rest) (drop (prefix_len is_blank rest) rest)) → (t : Bool) → is_blank b ≡ t → if◌then◌else◌ t (tokens_behind rest 0) (if◌then◌else◌ (b == 35) (Some []) (begun b rest (λ skip. tokens_behind rest skip) (token_front b rest)))
        ≡ onward (b ∷ rest) (first_behind (if◌then◌else◌ t (1 + prefix_len is_blank rest) 0) (drop (if◌then◌else◌ t (1 + prefix_len is_blank rest) 0) (b ∷ rest)))
    by tail true e =
        let same : 1 + prefix_len is_blank rest ≡ suc (prefix_len is_blank rest) = omega arith in
        rw same (tail ∙ sym (shifted b rest (prefix_len is_blank rest) _ (drop (prefix_len is_blank rest) rest) refl))
    by tail false e = over (b == 35)

-- a token takes at least one byte of the line
pub first_of-At : (line : List ℕ) (blanks n : ℕ) (shape : Shape) → first_of line ≡ At blanks shape n → length (drop (blanks + n) line) < length line
unfolding first_of
first_of-At line blanks n shape e = by (is_over behind_blanks) (token_at behind_blanks) refl e
  where
    behind_blanks : List ℕ
    behind_blanks = drop (prefix_len is_blank line) line

    by : (t : Bool) (o : Option (Shape × ℕ)) → token_at (drop (prefix_len is_blank line) line) ≡ o → if◌then◌else◌ t Over (behind (prefix_len is_blank line) o) ≡ At blanks shape n → length (drop (blanks + n) line) < length line
    by true o is h = absurd cc
    by false None is h = absurd cc
    by false (Some (s, m)) is h =
        let ends = token_at-ends (drop (prefix_len is_blank line) line) s m is in
        let front : prefix_len is_blank line ≡ blanks = cc in
        let same : m ≡ n = cc in
        omega (arith, ends.positive, ends.within, length-drop (prefix_len is_blank line) line, length-drop (blanks + n) line, front, same)

pub ahead-nil : (o : Option (List Seen)) → o ≡ ahead [] o
ahead-nil None = refl
ahead-nil (Some ts) = refl

ahead-push : (front : List Seen) (t : Seen) (o : Option (List Seen)) → ahead front (in_front t o) ≡ ahead (front ++ t ∷ []) o
ahead-push front t None = refl
ahead-push front t (Some ts) = rw append_assoc refl

-- what `next` takes away
pub next_none : (old new : Cursor) (first : First) → first_of (rest_of old) ≡ first → IsNext first old new None → tokens_of (rest_of old) ≡ Some []
next_none old new Over e is = first_then (rest_of old) ∙ ap (onward (rest_of old)) e
next_none old new (Bad blanks) e is = absurd is
next_none old new (At blanks shape n) e is = absurd is

pub next_err : (old new : Cursor) (fault : LexFault) (first : First) → first_of (rest_of old) ≡ first → IsNext first old new (Some (Err fault)) → tokens_of (rest_of old) ≡ None
next_err old new fault Over e is = absurd is
next_err old new fault (Bad blanks) e is = first_then (rest_of old) ∙ ap (onward (rest_of old)) e
next_err old new fault (At blanks shape n) e is = absurd is

-- the rest behind a token
behind_token : (old new : Cursor) (blanks n : ℕ) (token : Token) → token.start ≡ old.place + blanks → token.end ≡ token.start + n → new ≡ record { line = old.line; place = token.end } → rest_of new ≡ drop (blanks + n) (rest_of old)
behind_token old new blanks n token start end is =
    let place : token.end ≡ old.place + (blanks + n) = omega arith in
    ap rest_of is ∙ ap (λ i. drop i old.line) place ∙ sym (drop-drop (blanks + n) old.place old.line)

-- the text of a token by the rest of the line
text_in_rest : (old : Cursor) (blanks n : ℕ) (token : Token) → token.start ≡ old.place + blanks → token.end ≡ token.start + n → slice_range old.line token.start token.end ≡ take n (drop blanks (rest_of old))
text_in_rest old blanks n token start end =
    let len : token.end - token.start ≡ n = omega arith in
    rw (len, start, drop-drop blanks old.place old.line) refl

pub next_ok : (old new : Cursor) (token : Token) (first : First) → first_of (rest_of old) ≡ first → IsNext first old new (Some (Ok token)) → tokens_of (rest_of old) ≡ in_front (seen token) (tokens_of (rest_of new))
next_ok old new token Over e is = absurd is
next_ok old new token (Bad blanks) e is = absurd is
next_ok old new token (At blanks shape n) e is =
    let rest = behind_token old new blanks n token is.1 is.2 is.4 in
    let text : token.text.now ≡ take n (drop blanks (rest_of old)) = is.3 ∙ text_in_rest old blanks n token is.1 is.2 in
    let shown : seen token ≡ record { shape = shape; text = take n (drop blanks (rest_of old)) } = cc in
    first_then (rest_of old) ∙ ap (onward (rest_of old)) e ∙ rw (shown, rest) refl

pub next_smaller : (old new : Cursor) (token : Token) (first : First) → first_of (rest_of old) ≡ first → IsNext first old new (Some (Ok token)) → length (rest_of new) < length (rest_of old)
next_smaller old new token Over e is = absurd is
next_smaller old new token (Bad blanks) e is = absurd is
next_smaller old new token (At blanks shape n) e is = rw (behind_token old new blanks n token is.1 is.2 is.4) (first_of-At (rest_of old) blanks n shape e)

-- the loop over the tokens
pub loop_ok : (line : List ℕ) (front : List Seen) (old new : Cursor) (token : Token) → tokens_of line ≡ ahead front (tokens_of (rest_of old)) → IsNext (first_of (rest_of old)) old new (Some (Ok token)) → tokens_of line ≡ ahead (front ++ seen token ∷ []) (tokens_of (rest_of new))
loop_ok line front old new token so is = so ∙ ap (ahead front) (next_ok old new token (first_of (rest_of old)) refl is) ∙ ahead-push front (seen token) (tokens_of (rest_of new))

pub loop_none : (line : List ℕ) (front : List Seen) (old new : Cursor) → tokens_of line ≡ ahead front (tokens_of (rest_of old)) → IsNext (first_of (rest_of old)) old new None → tokens_of line ≡ Some front
loop_none line front old new so is = so ∙ ap (ahead front) (next_none old new (first_of (rest_of old)) refl is) ∙ ap Some (append-nil front)

pub loop_err : (line : List ℕ) (front : List Seen) (old new : Cursor) (fault : LexFault) → tokens_of line ≡ ahead front (tokens_of (rest_of old)) → IsNext (first_of (rest_of old)) old new (Some (Err fault)) → tokens_of line ≡ None
loop_err line front old new fault so is = so ∙ ap (ahead front) (next_err old new fault (first_of (rest_of old)) refl is)

-- the first token of a line
at_front : (line : List ℕ) (old : Cursor) → old ≡ record { line = line; place = 0 } → tokens_of line ≡ ahead [] (tokens_of (rest_of old))
at_front line old e = rw e (ahead-nil (tokens_of line))
  where
    ahead-nil : (o : Option (List Seen)) → o ≡ ahead [] o
    ahead-nil None = refl
    ahead-nil (Some ts) = refl

pub first_none : (line : List ℕ) (old new : Cursor) → old ≡ record { line = line; place = 0 } → IsNext (first_of (rest_of old)) old new None → tokens_of line ≡ Some []
first_none line old new begun is = loop_none line [] old new (at_front line old begun) is

pub first_ok : (line : List ℕ) (old new : Cursor) (token : Token) → old ≡ record { line = line; place = 0 } → IsNext (first_of (rest_of old)) old new (Some (Ok token)) → Begins (seen token) (tokens_of line)
first_ok line old new token begun is = by (tokens_of (rest_of new)) (loop_ok line [] old new token (at_front line old begun) is)
  where
    by : (o : Option (List Seen)) → tokens_of line ≡ ahead (seen token ∷ []) o → Begins (seen token) (tokens_of line)
    by None e = rw e tt
    by (Some ts) e = rw e (ts, refl)

pub first_err : (line : List ℕ) (old new : Cursor) (fault : LexFault) → old ≡ record { line = line; place = 0 } → IsNext (first_of (rest_of old)) old new (Some (Err fault)) → tokens_of line ≡ None
first_err line old new fault begun is = loop_err line [] old new fault (at_front line old begun) is

pub reads : (tokens : Vec Token Global) (ts : Option (List Seen)) → ts ≡ Some (map seen tokens.items) → ReadsTokens (Ok tokens) ts
reads tokens None e = absurd cc
reads tokens (Some ts) e = cc

-- one token more
pub spans_more : (line : List ℕ) (from : ℕ) (ts : List Token) (old : ℕ) (token : Token) → AreSpans line from ts old → old ≤ token.start → token.start < token.end → token.text.now ≡ slice_range line token.start token.end → AreSpans line from (ts ++ token ∷ []) token.end
spans_more line from [] old token spans order some text = (omega (arith, spans), some, text, omega arith)
spans_more line from (t ∷ ts) old token spans order some text = (spans.0, spans.1, spans.2, spans_more line t.end ts old token spans.3 order some text)

pub spans_further : (line : List ℕ) (from : ℕ) (ts : List Token) (old to : ℕ) → AreSpans line from ts old → old ≤ to → AreSpans line from ts to
spans_further line from [] old to spans order = omega (arith, spans)
spans_further line from (t ∷ ts) old to spans order = (spans.0, spans.1, spans.2, spans_further line t.end ts old to spans.3 order)

pub next_spans : (line : List ℕ) (from : ℕ) (ts : List Token) (old new : Cursor) (token : Token) (first : First) → old.line ≡ line → AreSpans line from ts old.place → IsInOrder old.place (Some (Ok token)) → IsNext first old new (Some (Ok token)) → (new.line ≡ line) × AreSpans line from (ts ++ token ∷ []) new.place
next_spans line from ts old new token Over same spans order is = absurd is
next_spans line from ts old new token (Bad blanks) same spans order is = absurd is
next_spans line from ts old new token (At blanks shape n) same spans order is =
    let new_line : new.line ≡ old.line = ap (λ (c : Cursor). c.line) is.4 in
    let new_place : new.place ≡ token.end = ap (λ (c : Cursor). c.place) is.4 in
    let text : token.text.now ≡ slice_range line token.start token.end = is.3 ∙ ap (λ l. slice_range l token.start token.end) same in
    (new_line ∙ same, rw new_place (spans_more line from ts old.place token spans order.0 order.1 text))

pub end_spans : (line : List ℕ) (ts : List Token) (old : Cursor) → old.line ≡ line → old.place ≤ length old.line → AreSpans line 0 ts old.place → AreSpans line 0 ts (length line)
end_spans line ts old same within spans = spans_further line 0 ts old.place (length line) spans (rw same at within)

-- the answers of `next`
pub none_longest : (text rest : List ℕ) → rest ≡ text → token_at rest ≡ None → IsLongestFront text None
none_longest text rest is e = subst (λ t. IsLongestFront t None) is (subst (IsLongestFront rest) e (longest rest))

pub some_longest : (text rest : List ℕ) (shape : Shape) (n : ℕ) → rest ≡ text → token_at rest ≡ Some (shape, n) → IsLongestFront text (Some (shape, n))
some_longest text rest shape n is e = subst (λ t. IsLongestFront t (Some (shape, n))) is (subst (IsLongestFront rest) e (longest rest))

-- the rest of a line behind its blanks, by the steps of `next`
pub record Unblanked (old : Cursor) (rest : List ℕ) (blanks : ℕ) : Type 0 where
  pub run : blanks ≡ prefix_len is_blank (rest_of old)
  pub behind : rest ≡ drop blanks (rest_of old)
  pub whole : rest ≡ unblanked (rest_of old)

pub unblanked_is : (old : Cursor) (line : List ℕ) (place : ℕ) (text rest : List ℕ) (blanks : ℕ) → old ≡ record { line = line; place = place } → text ≡ drop place line → blanks ≡ prefix_len is_blank text → rest ≡ drop blanks text → Unblanked old rest blanks
unblanked_is old line place text rest blanks old_is text_is run behind =
    let same : text ≡ rest_of old = text_is ∙ sym (ap rest_of old_is) in
    record {
      run = run ∙ ap (prefix_len is_blank) same;
      behind = behind ∙ ap (drop blanks) same;
      whole = behind ∙ ap (λ n. drop n text) run ∙ ap unblanked same;
    }

first_is_at : (text rest : List ℕ) (blanks n : ℕ) (shape : Shape) → blanks ≡ prefix_len is_blank text → rest ≡ drop blanks text → is_over rest ≡ false → token_at rest ≡ Some (shape, n) → first_of text ≡ At blanks shape n
unfolding first_of
first_is_at text rest blanks n shape run behind over token = rw (← run, ← behind, over, token) refl

pub next_is : (old new : Cursor) (rest : List ℕ) (blanks : ℕ) (token : Token) → Unblanked old rest blanks → is_over rest ≡ false → token_at rest ≡ Some (token.shape, length token.text.now) → token.text.now ≡ take (length token.text.now) rest
    → token.start ≡ old.place + blanks → token.end ≡ token.start + length token.text.now → new ≡ record { line = old.line; place = token.end } → IsNext (first_of (rest_of old)) old new (Some (Ok token))
next_is old new rest blanks token blank over found text start end is =
    let first = first_is_at (rest_of old) rest blanks (length token.text.now) token.shape blank.run blank.behind over found in
    let slice : token.text.now ≡ slice_range old.line token.start token.end = text ∙ ap (take (length token.text.now)) blank.behind ∙ sym (text_in_rest old blanks (length token.text.now) token start end) in
    subst (λ f. IsNext f old new (Some (Ok token))) (sym first) (refl, start, end, slice, is)
