-- A template is read from how it is written.
use Rattle.std.proofs.Common.{◌≡◌, ◌≢◌, ◌∙◌, sym, refl, ap, subst, ℕ, ◌+◌, ◌==◌, ◌&&◌, ◌||◌, if◌then◌else◌, Bool, true, false, not, List, [], ◌∷◌, ◌++◌, length, drop, Some, None, Ok, append_assoc, arith, All}
use Rattle.std.specs.List.{take_while, flat_map, list_all}
use Rattle.std.proofs.lemmas.Bool.{and_parts, eqb-true}
use Rattle.std.proofs.lemmas.Bool.Decides.{nat_tests}
use Rattle.std.proofs.lemmas.List.Elements.{All-nil, All-cons, All-head, All-tail}
use Rattle.std.proofs.lemmas.List.Sums.{take_while-cons}
use Rattle.std.specs.Char.{is_ascii_hexdigit}
use Rattle.iri_templates.specs.declared.segment.Segment.{Segment}
use Rattle.iri_templates.specs.declared.segment.Segment.TheVariants.{Literal, Hole}
use Rattle.iri_templates.specs.declared.segment.Part.{Part}
use Rattle.iri_templates.specs.declared.token.Token.{Token}
use Rattle.iri_templates.specs.declared.token.Token.TheVariants.{Plain, Escape, Braced}
use Rattle.iri_templates.specs.Characters.{is_brace, is_reserved, is_unreserved}
use Rattle.iri_templates.specs.Parsing.{IsToken}
use Rattle.iri_templates.specs.Templates.{IsTemplate, Segments, bounded_or_fault, closed_at, hole_at, is_bound, is_literal, is_segment, literal_before, segment_spelling, segments_of, spelling, template_of, template_or_fault, token_at, tokens_of, unbounded_from}
use Rattle.iri_templates.proofs.Spelled.{token_text, tokens_text}
use Rattle.iri_templates.proofs.Tokens.{tokens_step}

-- a token is read from how it is written, whatever is behind it
free_front : (text rest : List ℕ) → list_all (λ b. not (is_brace b)) text ≡ true → take_while (λ b. not (is_brace b)) (text ++ 125 ∷ rest) ≡ text
free_front [] rest h = take_while-cons (λ b. not (is_brace b)) 125 rest
free_front (b ∷ text) rest h =
    let k = and_parts (not (is_brace b)) (list_all (λ b. not (is_brace b)) text) h in
    take_while-cons (λ b. not (is_brace b)) b (text ++ 125 ∷ rest) ∙ ap (λ z. if z then b ∷ take_while (λ b. not (is_brace b)) (text ++ 125 ∷ rest) else []) k.0 ∙ ap (λ z. b ∷ z) (free_front text rest k.1)

behind_front : (text rest : List ℕ) → drop (length text) (text ++ rest) ≡ rest
behind_front [] rest = refl
behind_front (b ∷ text) rest = behind_front text rest

closed : (text rest : List ℕ) → not (length text == 0) ≡ true → closed_at text (125 ∷ rest) ≡ Some (Braced text, rest)
closed [] rest h = cc
closed (b ∷ text) rest h = refl

hole_first : (text rest : List ℕ) → IsToken (Braced text) → hole_at (text ++ 125 ∷ rest) ≡ Some (Braced text, rest)
hole_first text rest h =
    let k = and_parts (not (length text == 0)) (list_all (λ b. not (is_brace b)) text) h in
    subst (λ z. closed_at z (drop (length z) (text ++ 125 ∷ rest)) ≡ Some (Braced text, rest)) (sym (free_front text rest k.1))
    (subst (λ z. closed_at text z ≡ Some (Braced text, rest)) (sym (behind_front text (125 ∷ rest))) (closed text rest k.0))

token_first : (t : Token) (rest : List ℕ) → IsToken t → token_at (token_text t ++ rest) ≡ Some (t, rest)
token_first (Plain b) rest h = rw h refl
token_first (Escape c d) rest h = rw h refl
token_first (Braced text) rest h = subst (λ z. hole_at z ≡ Some (Braced text, rest)) (sym (append_assoc text (125 ∷ []) rest)) (hole_first text rest h)

tokens_read : (tokens : List Token) → All IsToken tokens → ◌≡◌ {A = List Token × List ℕ} (tokens_of (tokens_text tokens)) (tokens, [])
tokens_read [] v = refl
tokens_read (t ∷ tokens) v =
    tokens_step (token_text t ++ tokens_text tokens) (tokens_text tokens) t (token_first t (tokens_text tokens) (All-head IsToken t tokens v))
    ∙ ap (λ (z : List Token × List ℕ). (t ∷ z.0, z.1)) (tokens_read tokens (All-tail IsToken t tokens v))

-- the text of parts
abbrev parts_spelling : List Part → List ℕ
parts_spelling parts = flat_map (λ p. p.sign ∷ segment_spelling p.segment) parts

-- tokens that are written as parts are
record Behind (rest : List Part) : Type 0 where
  tokens : List Token
  are : All IsToken tokens
  text : tokens_text tokens ≡ parts_spelling rest
  segments : ◌≡◌ {A = Segments} (segments_of tokens) (record { first = Literal []; rest = rest })
  bound : is_bound tokens ≡ true
  holes : (before : Bool) (n : ℕ) → unbounded_from before n tokens ≡ None

-- and as a segment before parts is, where a literal may stand behind anything
abbrev MayFollow : Segment → Bool → Type 0
MayFollow (Literal text) before = Unit {0}
MayFollow (Hole text) before = before ≡ true

record Whole (first : Segment) (rest : List Part) : Type 0 where
  tokens : List Token
  are : All IsToken tokens
  text : tokens_text tokens ≡ segment_spelling first ++ parts_spelling rest
  segments : ◌≡◌ {A = Segments} (segments_of tokens) (record { first = first; rest = rest })
  holes : (before : Bool) (n : ℕ) → MayFollow first before → unbounded_from before n tokens ≡ None

not_reserved : (b : ℕ) → is_unreserved b ≡ true → is_reserved b ≡ false
not_reserved b h = grind (arith, nat_tests)

is_plain : (r u : Bool) → u ≡ true → (r || u) ≡ true
is_plain true u h = refl
is_plain false u h = h

plain_before : (b : ℕ) (text : List ℕ) (rest : List Part) → is_unreserved b ≡ true → Whole (Literal text) rest → Whole (Literal (b ∷ text)) rest
plain_before b text rest h w = record {
  tokens = Plain b ∷ w.tokens;
  are = All-cons IsToken (Plain b) w.tokens (is_plain (is_reserved b) (is_unreserved b) h) w.are;
  text = ap (λ z. b ∷ z) w.text;
  segments = rw (not_reserved b h) (ap (λ (z : Segments). record { first = literal_before (b ∷ []) z.first; rest = z.rest }) w.segments);
  holes = λ before n may. w.holes (is_reserved b) n tt;
}

escape_before : (c d : ℕ) (text : List ℕ) (rest : List Part) → IsToken (Escape c d) → Whole (Literal text) rest → Whole (Literal (37 ∷ c ∷ d ∷ text)) rest
escape_before c d text rest h w = record {
  tokens = Escape c d ∷ w.tokens;
  are = All-cons IsToken (Escape c d) w.tokens h w.are;
  text = ap (λ z. 37 ∷ c ∷ d ∷ z) w.text;
  segments = ap (λ (z : Segments). record { first = literal_before (37 ∷ c ∷ d ∷ []) z.first; rest = z.rest }) w.segments;
  holes = λ before n may. w.holes false n tt;
}

nothing_before : (rest : List Part) → Behind rest → Whole (Literal []) rest
nothing_before rest b = record { tokens = b.tokens; are = b.are; text = b.text; segments = b.segments; holes = λ before n may. b.holes before n }

hole_before : (text : List ℕ) (rest : List Part) → IsToken (Braced text) → Behind rest → Whole (Hole text) rest
hole_before text rest h b = record {
  tokens = Braced text ∷ b.tokens;
  are = All-cons IsToken (Braced text) b.tokens h b.are;
  text = ap (λ z. (123 ∷ (text ++ 125 ∷ [])) ++ z) b.text;
  segments = ap (λ (z : Segments). record { first = Hole text; rest = z.rest }) b.segments;
  holes = λ before n may. rw (may, b.bound) (b.holes false (n + 1));
}

digits_then : (c d l : Bool) → (c && d && l) ≡ true → ((c && d) ≡ true) × (l ≡ true)
digits_then true true true h = (refl, refl)
digits_then true true false h = cc
digits_then true false l h = cc
digits_then false d l h = cc

literal_read : (text : List ℕ) (rest : List Part) → is_literal text ≡ true → Behind rest → Whole (Literal text) rest
literal_read [] rest h b = nothing_before rest b
literal_read (x ∷ []) rest h b = plain_before x [] rest h (nothing_before rest b)
literal_read (x ∷ y ∷ []) rest h b =
    let k = and_parts (is_unreserved x) (is_unreserved y) h in
    plain_before x (y ∷ []) rest k.0 (plain_before y [] rest k.1 (nothing_before rest b))
literal_read (x ∷ y ∷ z ∷ text) rest h b = by (literal_read text rest) (literal_read (y ∷ z ∷ text) rest) (x == 37) refl h
  where
    by : (is_literal text ≡ true → Behind rest → Whole (Literal text) rest) → (is_literal (y ∷ z ∷ text) ≡ true → Behind rest → Whole (Literal (y ∷ z ∷ text)) rest) → (k : Bool) → (x == 37) ≡ k →
        (if k then is_ascii_hexdigit y && is_ascii_hexdigit z && is_literal text else is_unreserved x && is_literal (y ∷ z ∷ text)) ≡ true → Whole (Literal (x ∷ y ∷ z ∷ text)) rest
    by so more true e h =
        let k = digits_then (is_ascii_hexdigit y) (is_ascii_hexdigit z) (is_literal text) h in
        subst (λ v. Whole (Literal (v ∷ y ∷ z ∷ text)) rest) (sym (eqb-true x 37 e)) (escape_before y z text rest k.0 (so k.1 b))
    by so more false e h = let k = and_parts (is_unreserved x) (is_literal (y ∷ z ∷ text)) h in plain_before x (y ∷ z ∷ text) rest k.0 (more k.1 b)

segment_before : (s : Segment) (rest : List Part) → is_segment s ≡ true → Behind rest → Whole s rest
segment_before (Literal text) rest h b = literal_read text rest h b
segment_before (Hole text) rest h b = hole_before text rest h b

follows : (s : Segment) (before : Bool) → before ≡ true → MayFollow s before
follows (Literal text) before e = tt
follows (Hole text) before e = e

is_sign : (r u : Bool) → r ≡ true → (r || u) ≡ true
is_sign true u h = refl
is_sign false u h = cc

sign_before : (p : Part) (parts : List Part) → is_reserved p.sign ≡ true → Whole p.segment parts → Behind (p ∷ parts)
sign_before p parts r w = record {
  tokens = Plain p.sign ∷ w.tokens;
  are = All-cons IsToken (Plain p.sign) w.tokens (is_sign (is_reserved p.sign) (is_unreserved p.sign) r) w.are;
  text = ap (λ z. p.sign ∷ z) w.text;
  segments = rw r (ap (λ (z : Segments). record { first = Literal []; rest = record { sign = p.sign; segment = z.first } ∷ z.rest }) w.segments);
  bound = r;
  holes = λ before n. w.holes (is_reserved p.sign) n (follows p.segment (is_reserved p.sign) r);
}

parts_read : (rest : List Part) → list_all (λ p. is_reserved p.sign && is_segment p.segment) rest ≡ true → Behind rest
parts_read [] h = record { tokens = []; are = All-nil IsToken; text = refl; segments = refl; bound = refl; holes = λ before n. refl }
parts_read (p ∷ parts) h =
    let k = and_parts (is_reserved p.sign && is_segment p.segment) (list_all (λ (q : Part). is_reserved q.sign && is_segment q.segment) parts) h in
    let l = and_parts (is_reserved p.sign) (is_segment p.segment) k.0 in
    sign_before p parts l.0 (segment_before p.segment parts l.1 (parts_read parts k.1))

read_whole : (text : List ℕ) (t : Segments) (tokens : List Token) → text ≢ [] → All IsToken tokens → tokens_text tokens ≡ text → segments_of tokens ≡ t → unbounded_from true 0 tokens ≡ None → template_of text ≡ Ok t
unfolding template_of
read_whole [] t tokens some v w s u = absurd (some refl)
read_whole (b ∷ text) t tokens some v w s u =
    let r : ◌≡◌ {A = List Token × List ℕ} (tokens_of (b ∷ text)) (tokens, []) = subst (λ z. ◌≡◌ {A = List Token × List ℕ} (tokens_of z) (tokens, [])) w (tokens_read tokens v) in
    let read : bounded_or_fault (unbounded_from true 0 tokens) tokens ≡ Ok t = rw (u, s) refl in
    subst (λ (z : List Token × List ℕ). template_or_fault (length (b ∷ text)) z.0 z.1 ≡ Ok t) (sym r) read

pub spelled_is_read : (text : List ℕ) (t : Segments) → IsTemplate t → spelling t ≡ text → template_of text ≡ Ok t
spelled_is_read text t is w =
    let s = segment_before t.first t.rest is.first (parts_read t.rest is.rest) in
    read_whole text t s.tokens (λ none. is.some (w ∙ none)) s.are (s.text ∙ w) s.segments (s.holes true 0 (follows t.first true refl))
