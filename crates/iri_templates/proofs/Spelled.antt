-- What is read from a text is a template that is written as the text.
use Rattle.std.proofs.Common.{◌≡◌, ◌≢◌, ◌∙◌, sym, refl, ap, subst, ℕ, zero, suc, ◌+◌, ◌-◌, ◌==◌, ◌&&◌, ◌||◌, if◌then◌else◌, Bool, true, false, not, List, [], ◌∷◌, ◌++◌, length, drop, Option, Some, None, Result, Ok, Err, append_assoc, All}
use Rattle.std.specs.List.{take_while, flat_map, list_all}
use Rattle.std.proofs.lemmas.Bool.{and_from, and_parts, eqb-true}
use Rattle.std.proofs.lemmas.List.{append-nil}
use Rattle.std.proofs.lemmas.List.Elements.{All-head, All-tail}
use Rattle.std.proofs.lemmas.List.Sums.{take_while-cons}
use Rattle.std.specs.Char.{is_ascii_hexdigit}
use Rattle.iri_templates.specs.declared.fault.TemplateFault.{TemplateFault}
use Rattle.iri_templates.specs.declared.fault.TemplateFault.TheVariants.{BadChar, NoMemory, Unclosed}
use Rattle.iri_templates.specs.declared.segment.Segment.{Segment}
use Rattle.iri_templates.specs.declared.segment.Segment.TheVariants.{Literal, Hole}
use Rattle.iri_templates.specs.declared.segment.Part.{Part}
use Rattle.iri_templates.specs.declared.token.Token.{Token}
use Rattle.iri_templates.specs.declared.token.Token.TheVariants.{Plain, Escape, Braced}
use Rattle.iri_templates.specs.Characters.{is_brace, is_reserved, is_unreserved}
use Rattle.iri_templates.specs.Parsing.{IsToken}
use Rattle.iri_templates.specs.Templates.{IsTemplate, Segments, bounded_or_fault, closed_at, escape_at, hole_at, is_bound, is_literal, is_segment, literal_before, segment_spelling, segments_of, spelling, template_of, template_or_fault, token_at, token_before, token_then, tokens_of, tokens_within, unbounded_from}
use Rattle.iri_templates.proofs.Reading.{literal_more, unreserved_left}
use Rattle.iri_templates.proofs.Tokens.{tokens_valid}

-- tokens as they are written
abbrev pub token_text : Token → List ℕ
token_text (Plain b) = b ∷ []
token_text (Escape c d) = 37 ∷ c ∷ d ∷ []
token_text (Braced text) = 123 ∷ (text ++ 125 ∷ [])

abbrev pub tokens_text : List Token → List ℕ
tokens_text [] = []
tokens_text (t ∷ ts) = token_text t ++ tokens_text ts

-- a token and what is behind it are the text
abbrev IsFront : List ℕ → Option (Token × List ℕ) → Type 0
IsFront text None = Unit {0}
IsFront text (Some (t, rest)) = token_text t ++ rest ≡ text

escape_front : (rest : List ℕ) → IsFront (37 ∷ rest) (escape_at rest)
escape_front [] = tt
escape_front (c ∷ []) = tt
escape_front (c ∷ d ∷ rest) = by (is_ascii_hexdigit c && is_ascii_hexdigit d)
  where
    by : (k : Bool) → IsFront (37 ∷ c ∷ d ∷ rest) (if k then Some (Escape c d, rest) else None)
    by true = refl
    by false = tt

closed_front : (text rest : List ℕ) → IsFront (123 ∷ (text ++ rest)) (closed_at text rest)
closed_front [] rest = tt
closed_front (b ∷ text) [] = tt
closed_front (b ∷ text) (c ∷ rest) = by (c == 125) refl
  where
    by : (k : Bool) → (c == 125) ≡ k → IsFront (123 ∷ ((b ∷ text) ++ c ∷ rest)) (if k then Some (Braced (b ∷ text), rest) else None)
    by true e = ap (λ z. 123 ∷ z) (append_assoc (b ∷ text) (125 ∷ []) rest ∙ ap (λ z. (b ∷ text) ++ z ∷ rest) (sym (eqb-true c 125 e)))
    by false e = tt

while_front : (p : ℕ → Bool) (xs : List ℕ) → take_while p xs ++ drop (length (take_while p xs)) xs ≡ xs
while_front p [] = refl
while_front p (x ∷ xs) = subst (λ z. z ++ drop (length z) (x ∷ xs) ≡ x ∷ xs) (sym (take_while-cons p x xs)) (by (while_front p xs) (p x))
  where
    by : take_while p xs ++ drop (length (take_while p xs)) xs ≡ xs → (k : Bool) → (if k then x ∷ take_while p xs else []) ++ drop (length (if k then x ∷ take_while p xs else [])) (x ∷ xs) ≡ x ∷ xs
    by so true = ap (λ z. x ∷ z) so
    by so false = refl

hole_front : (rest : List ℕ) → IsFront (123 ∷ rest) (hole_at rest)
hole_front rest =
    subst (λ z. IsFront (123 ∷ z) (hole_at rest)) (while_front (λ b. not (is_brace b)) rest)
    (closed_front (take_while (λ b. not (is_brace b)) rest) (drop (length (take_while (λ b. not (is_brace b)) rest)) rest))

token_front : (text : List ℕ) → IsFront text (token_at text)
token_front [] = tt
token_front (b ∷ rest) = plain (is_reserved b || is_unreserved b) (b == 37) (b == 123) refl refl
  where
    plain : (k l m : Bool) → (b == 37) ≡ l → (b == 123) ≡ m → IsFront (b ∷ rest) (if k then Some (Plain b, rest) else (if l then escape_at rest else (if m then hole_at rest else None)))
    plain true l m e f = refl
    plain false true m e f = subst (λ z. IsFront (z ∷ rest) (escape_at rest)) (sym (eqb-true b 37 e)) (escape_front rest)
    plain false false true e f = subst (λ z. IsFront (z ∷ rest) (hole_at rest)) (sym (eqb-true b 123 f)) (hole_front rest)
    plain false false false e f = tt

tokens_front : (n : ℕ) (text : List ℕ) → tokens_text (tokens_within n text).0 ++ (tokens_within n text).1 ≡ text
tokens_front zero text = refl
tokens_front (suc n) text = by (λ rest. tokens_front n rest) (token_at text) (token_front text)
  where
    by : ((rest : List ℕ) → tokens_text (tokens_within n rest).0 ++ (tokens_within n rest).1 ≡ rest) → (o : Option (Token × List ℕ)) → IsFront text o → tokens_text (token_then o text (tokens_within n)).0 ++ (token_then o text (tokens_within n)).1 ≡ text
    by so None h = refl
    by so (Some (t, rest)) h = append_assoc (token_text t) (tokens_text (tokens_within n rest).0) (tokens_within n rest).1 ∙ ap (λ z. token_text t ++ z) (so rest) ∙ h

-- what a character in front makes of segments
abbrev with_plain : ℕ → Bool → Segments → Segments
with_plain b true t = record { first = Literal []; rest = record { sign = b; segment = t.first } ∷ t.rest }
with_plain b false t = record { first = literal_before (b ∷ []) t.first; rest = t.rest }

plain_before : (b : ℕ) (k : Bool) (t : Segments) → is_reserved b ≡ k → token_before (Plain b) t ≡ with_plain b k t
plain_before b true t e = rw e refl
plain_before b false t e = rw e refl

-- behind a literal character stands a literal
literal_first : (tokens : List Token) (n : ℕ) → unbounded_from false n tokens ≡ None → (text : List ℕ) × ((segments_of tokens).first ≡ Literal text)
literal_first [] n e = ([], refl)
literal_first (Plain b ∷ tokens) n e = by (λ h. literal_first tokens n h) (is_reserved b) refl e
  where
    by : (unbounded_from false n tokens ≡ None → (text : List ℕ) × ((segments_of tokens).first ≡ Literal text)) → (k : Bool) → is_reserved b ≡ k → unbounded_from k n tokens ≡ None →
        (text : List ℕ) × ((segments_of (Plain b ∷ tokens)).first ≡ Literal text)
    by so true r h = ([], ap (λ (z : Segments). z.first) (plain_before b true (segments_of tokens) r))
    by so false r h = let p = so h in (b ∷ p.0, ap (λ (z : Segments). z.first) (plain_before b false (segments_of tokens) r) ∙ ap (literal_before (b ∷ [])) p.1)
literal_first (Escape c d ∷ tokens) n e = let p = literal_first tokens n e in (37 ∷ c ∷ d ∷ p.0, ap (literal_before (37 ∷ c ∷ d ∷ [])) p.1)
literal_first (Braced text ∷ tokens) n e = cc

-- behind a hole stands an end or a reserved character
nothing_first : (tokens : List Token) → is_bound tokens ≡ true → (segments_of tokens).first ≡ Literal []
nothing_first [] e = refl
nothing_first (Plain b ∷ tokens) e = ap (λ (z : Segments). z.first) (plain_before b true (segments_of tokens) e)
nothing_first (Escape c d ∷ tokens) e = cc
nothing_first (Braced text ∷ tokens) e = cc

-- literal characters before a literal segment
before_literal : (front : List ℕ) (s : Segments) (text : List ℕ) → s.first ≡ Literal text → spelling (record { first = literal_before front s.first; rest = s.rest }) ≡ front ++ spelling s
before_literal front s text e =
    subst (λ z. segment_spelling (literal_before front z) ++ flat_map (λ p. p.sign ∷ segment_spelling p.segment) s.rest ≡ front ++ (segment_spelling z ++ flat_map (λ p. p.sign ∷ segment_spelling p.segment) s.rest)) (sym e)
    (append_assoc front text (flat_map (λ p. p.sign ∷ segment_spelling p.segment) s.rest))

hole_rest : (tokens : List Token) → is_bound tokens ≡ true → flat_map (λ (p : Part). p.sign ∷ segment_spelling p.segment) (segments_of tokens).rest ≡ spelling (segments_of tokens)
hole_rest tokens e = sym (ap (λ z. segment_spelling z ++ flat_map (λ (p : Part). p.sign ∷ segment_spelling p.segment) (segments_of tokens).rest) (nothing_first tokens e))

second : (x y : Bool) → (x && y) ≡ true → y ≡ true
second true y h = h
second false y h = cc

-- bounded tokens are written as their segments are
spells : (tokens : List Token) (before : Bool) (n : ℕ) → unbounded_from before n tokens ≡ None → spelling (segments_of tokens) ≡ tokens_text tokens
spells [] before n e = refl
spells (Plain b ∷ tokens) before n e = by (λ k h. spells tokens k n h) (is_reserved b) refl e
  where
    by : ((k : Bool) → unbounded_from k n tokens ≡ None → spelling (segments_of tokens) ≡ tokens_text tokens) → (k : Bool) → is_reserved b ≡ k → unbounded_from k n tokens ≡ None → spelling (segments_of (Plain b ∷ tokens)) ≡ b ∷ tokens_text tokens
    by so true r h = ap spelling (plain_before b true (segments_of tokens) r) ∙ ap (λ z. b ∷ z) (so true h)
    by so false r h = let p = literal_first tokens n h in ap spelling (plain_before b false (segments_of tokens) r) ∙ before_literal (b ∷ []) (segments_of tokens) p.0 p.1 ∙ ap (λ z. b ∷ z) (so false h)
spells (Escape c d ∷ tokens) before n e =
    let p = literal_first tokens n e in
    before_literal (37 ∷ c ∷ d ∷ []) (segments_of tokens) p.0 p.1 ∙ ap (λ z. 37 ∷ c ∷ d ∷ z) (spells tokens false n e)
spells (Braced text ∷ tokens) before n e = by (λ h. spells tokens false (n + 1) h) (before && is_bound tokens) refl e
  where
    by : (unbounded_from false (n + 1) tokens ≡ None → spelling (segments_of tokens) ≡ tokens_text tokens) → (k : Bool) → (before && is_bound tokens) ≡ k →
        (if k then unbounded_from false (n + 1) tokens else Some n) ≡ None → spelling (token_before (Braced text) (segments_of tokens)) ≡ token_text (Braced text) ++ tokens_text tokens
    by so true r h = ap (λ z. (123 ∷ (text ++ 125 ∷ [])) ++ z) (hole_rest tokens (second before (is_bound tokens) r) ∙ so h)
    by so false r h = cc

-- and these are segments of a template
record AreSegments (t : Segments) : Type 0 where
  first : is_segment t.first ≡ true
  rest : list_all (λ p. is_reserved p.sign && is_segment p.segment) t.rest ≡ true

led_by : (front : List ℕ) (s : Segment) → ((text : List ℕ) → is_literal text ≡ true → is_literal (front ++ text) ≡ true) → is_segment s ≡ true → is_segment (literal_before front s) ≡ true
led_by front (Literal text) more h = more text h
led_by front (Hole text) more h = h

escape_more : (c d : ℕ) → (is_ascii_hexdigit c && is_ascii_hexdigit d) ≡ true → (text : List ℕ) → is_literal text ≡ true → is_literal (37 ∷ c ∷ d ∷ text) ≡ true
escape_more c d h text l = let k = and_parts (is_ascii_hexdigit c) (is_ascii_hexdigit d) h in rw (k.0, k.1) l

are_segments : (tokens : List Token) → All IsToken tokens → AreSegments (segments_of tokens)
are_segments [] v = record { first = refl; rest = refl }
are_segments (Plain b ∷ tokens) v = subst AreSegments (sym (plain_before b (is_reserved b) (segments_of tokens) refl)) (by (are_segments tokens (All-tail IsToken (Plain b) tokens v)) (is_reserved b) refl)
  where
    by : AreSegments (segments_of tokens) → (k : Bool) → is_reserved b ≡ k → AreSegments (with_plain b k (segments_of tokens))
    by so true r = record {
      first = refl;
      rest = and_from (is_reserved b && is_segment (segments_of tokens).first) (list_all (λ (p : Part). is_reserved p.sign && is_segment p.segment) (segments_of tokens).rest)
          (and_from (is_reserved b) (is_segment (segments_of tokens).first) r so.first) so.rest;
    }
    by so false r = record {
      first = led_by (b ∷ []) (segments_of tokens).first (λ text h. literal_more b text (unreserved_left (is_reserved b) (is_unreserved b) (All-head IsToken (Plain b) tokens v) r) h) so.first;
      rest = so.rest;
    }
are_segments (Escape c d ∷ tokens) v =
    let so = are_segments tokens (All-tail IsToken (Escape c d) tokens v) in record {
      first = led_by (37 ∷ c ∷ d ∷ []) (segments_of tokens).first (escape_more c d (All-head IsToken (Escape c d) tokens v)) so.first;
      rest = so.rest;
    }
are_segments (Braced text ∷ tokens) v = record { first = All-head IsToken (Braced text) tokens v; rest = (are_segments tokens (All-tail IsToken (Braced text) tokens v)).rest }

-- so what is read is a template, written as the text
ok_same : {s t : Segments} → ◌≡◌ {A = Result Segments TemplateFault} (Ok s) (Ok t) → s ≡ t
ok_same {s} {t} e = ap or_first e
  where
    or_first : Result Segments TemplateFault → Segments
    or_first (Ok x) = x
    or_first (Err x) = s

no_template : (c : Bool) (n : ℕ) (t : Segments) → (if c then Err (Unclosed n) else Err (BadChar n)) ≡ Ok t → ⊥
no_template true n t e = cc
no_template false n t e = cc

whole : (tokens : List Token) (t : Segments) (o : Option ℕ) → All IsToken tokens → unbounded_from true 0 tokens ≡ o → bounded_or_fault o tokens ≡ Ok t → AreSegments t × (spelling t ≡ tokens_text tokens)
whole tokens t None v u e = let same = ok_same e in (subst AreSegments same (are_segments tokens v), subst (λ z. spelling z ≡ tokens_text tokens) same (spells tokens true 0 u))
whole tokens t (Some hole) v u e = cc

not_nothing : (b : ℕ) (text written : List ℕ) → written ≡ b ∷ text → written ≢ []
not_nothing b text written e = λ none. let k : [] ≡ b ∷ text = sym none ∙ e in cc

pub read_is_spelled : (text : List ℕ) (t : Segments) → template_of text ≡ Ok t → IsTemplate t × (spelling t ≡ text)
unfolding template_of
read_is_spelled [] t e = cc
read_is_spelled (b ∷ text) t e = by (tokens_of (b ∷ text)).0 (tokens_of (b ∷ text)).1 (tokens_front (length (b ∷ text)) (b ∷ text)) (tokens_valid (b ∷ text)) e
  where
    by : (tokens : List Token) (rest : List ℕ) → tokens_text tokens ++ rest ≡ b ∷ text → All IsToken tokens → template_or_fault (length (b ∷ text)) tokens rest ≡ Ok t → IsTemplate t × (spelling t ≡ b ∷ text)
    by tokens [] h v e =
        let w = whole tokens t (unbounded_from true 0 tokens) v refl e in
        let written : spelling t ≡ b ∷ text = w.1 ∙ sym (append-nil (tokens_text tokens)) ∙ h in
        (record { first = w.0.first; rest = w.0.rest; some = not_nothing b text (spelling t) written }, written)
    by tokens (c ∷ rest) h v e = absurd (no_template (c == 123) (length (b ∷ text) - length (c ∷ rest)) t e)

-- want of memory is no fault of a text
no_hole : (o : Option ℕ) (tokens : List Token) → bounded_or_fault o tokens ≡ Err NoMemory → ⊥
no_hole None tokens e = cc
no_hole (Some hole) tokens e = cc

no_stop : (c : Bool) (n : ℕ) → ◌≡◌ {A = Result Segments TemplateFault} (if c then Err (Unclosed n) else Err (BadChar n)) (Err NoMemory) → ⊥
no_stop true n e = cc
no_stop false n e = cc

pub memory_is_no_fault : (text : List ℕ) → template_of text ≢ Err NoMemory
unfolding template_of
memory_is_no_fault [] = λ e. cc
memory_is_no_fault (b ∷ text) = by (tokens_of (b ∷ text)).0 (tokens_of (b ∷ text)).1
  where
    by : (tokens : List Token) (rest : List ℕ) → template_or_fault (length (b ∷ text)) tokens rest ≡ Err NoMemory → ⊥
    by tokens [] e = no_hole (unbounded_from true 0 tokens) tokens e
    by tokens (c ∷ rest) e = no_stop (c == 123) (length (b ∷ text) - length (c ∷ rest)) e
