-- Names of mappings are words, and no two lines give one.
use Rattle.std.proofs.Common.{◌≡◌, refl, sym, ap, subst, ◌∙◌, ◌||◌, ◌&&◌, ◌==◌, not, ◌+◌, ◌-◌, ℕ, zero, suc, Bool, true, false, List, [], ◌∷◌, ◌++◌, ◌⊎◌, inl, inr, Option, Some, None, Result, Ok, Err, OnOk, if◌then◌else◌, map, length, take, drop, codes}
use Rattle.std.specs.List.{list_any, slice_get}
use Rattle.std.specs.Str.{bytes_eq}
use Rattle.std.proofs.lemmas.List.{map-append}
use Rattle.std.proofs.lemmas.Option.{option_and_then_some}
use Rattle.std.proofs.lemmas.Slice.Eq.{bytes_eq-Decides}
use Rattle.line_lexer.specs.declared.fault.LineFault.{LineFault}
use Rattle.line_lexer.specs.declared.fault.LineFault.TheVariants.{Unknown, Double, TypeMismatch, BadTemplate, NotBounded}
use Rattle.line_lexer.specs.declared.fault.Counted.{Counted}
use Rattle.line_lexer.specs.declared.fault.Counted.TheVariants.{Mappings, TablesOfMapping, Conditions, Targets}
use Rattle.iri_templates.specs.Templates.{template_of}
use Rattle.line_lexer.specs.declared.shape.Shape.{Shape}
use Rattle.line_lexer.specs.declared.shape.Shape.TheVariants.{Word, Quoted, Number, Sign}
use Rattle.line_lexer.specs.Shapes.{is_word, is_token, IsFront, IsLongestFront}
use Rattle.line_lexer.specs.Tokens.{Seen, is_blank, token_front, token_at, begun, in_front, tokens_behind, tokens_of}
use Rattle.line_lexer.specs.Grammar.{expect, name, is_word_shape, is_quoted_shape, is_reserved, ended}
use Rattle.line_lexer.specs.Judging.{first_broken, read_by, unless}
use Rattle.line_lexer.specs.Names.{AreNames}
use Rattle.line_lexer.proofs.Longest.{longest}
use Rattle.vocabulary.specs.declared.ids.ClassId.{ClassId}
use Rattle.vocabulary.specs.declared.ids.LinkId.{LinkId}
use Rattle.vocabulary.specs.declared.ids.Side.{Side}
use Rattle.vocabulary.specs.Lists.{In, here, there}
use Rattle.mapping_facts.specs.declared.mapping.Mapping.{Mapping}
use Rattle.mapping_language.specs.declared.sources.Sources.{Sources}
use Rattle.line_lexer.specs.Separated.{separated}
use Rattle.mapping_language.specs.Grammar.{map_name, map_line, source, conditions, target}
use Rattle.mapping_language.specs.Written.{MapLine}
use Rattle.mapping_language.specs.Mappings.{unknown, double, mismatch, is_bad, is_unbounded, all_templates, broken, mapping_of, grown, read_mapping_line}

-- wherever a line is read on, a token of its shape is taken
abbrev pub ReadsLongest : List ℕ → Type 0
ReadsLongest line = (place : ℕ) → IsLongestFront (drop place line) (token_at (drop place line))

-- a token that is told as a word is one, if those behind it are
words_next : (b : ℕ) (rest : List ℕ) (onward : ℕ → Option (List Seen)) (ts : List Seen) (t : Seen) → IsLongestFront (b ∷ rest) (token_front b rest)
    → ((skip : ℕ) (us : List Seen) → onward skip ≡ Some us → In t us → is_word t.text ≡ true)
    → (if is_blank b then onward 0 else (if b == 35 then Some [] else begun b rest onward (token_front b rest))) ≡ Some ts → In t ts → t.shape ≡ Word → is_word t.text ≡ true
words_next b rest onward ts t longest again e m w = by_blank (is_blank b) e
  where
    none : Some [] ≡ Some ts → is_word t.text ≡ true
    none e = elim (subst (In t) (sym (only e)) m) [ ]
      where
        only : Some [] ≡ Some ts → [] ≡ ts
        only e = cc

    of_token : (shape : Shape) (n : ℕ) → IsFront (b ∷ rest) shape n → (o : Option (List Seen)) → onward (n - 1) ≡ o → in_front (record { shape = shape; text = take n (b ∷ rest) }) o ≡ Some ts → is_word t.text ≡ true
    of_token shape n shaped None g h = cc
    of_token shape n shaped (Some us) g h = by_place (subst (In t) (sym (list_is h)) m)
      where
        list_is : Some (record { shape = shape; text = take n (b ∷ rest) } ∷ us) ≡ Some ts → record { shape = shape; text = take n (b ∷ rest) } ∷ us ≡ ts
        list_is h = cc

        by_place : In t (record { shape = shape; text = take n (b ∷ rest) } ∷ us) → is_word t.text ≡ true
        by_place (here i) =
            let word : shape ≡ Word = ap (λ z. z.shape) i ∙ w in
            subst (λ z. is_word z ≡ true) (ap (λ z. z.text) i) (subst (λ z. is_token z (take n (b ∷ rest)) ≡ true) word shaped.1)
        by_place (there i) = again (n - 1) us g i

    by_front : (o : Option (Shape × ℕ)) → IsLongestFront (b ∷ rest) o → begun b rest onward o ≡ Some ts → is_word t.text ≡ true
    by_front None f g = cc
    by_front (Some (shape, n)) f g = of_token shape n f.0 (onward (n - 1)) refl g

    by_comment : (c : Bool) → (if c then Some [] else begun b rest onward (token_front b rest)) ≡ Some ts → is_word t.text ≡ true
    by_comment true g = none g
    by_comment false g = by_front (token_front b rest) longest g

    by_blank : (c : Bool) → (if c then onward 0 else (if b == 35 then Some [] else begun b rest onward (token_front b rest))) ≡ Some ts → is_word t.text ≡ true
    by_blank true g = again 0 ts g m
    by_blank false g = by_comment (b == 35) g

words_behind : (line : List ℕ) → ReadsLongest line → (skip : ℕ) (ts : List Seen) (t : Seen) → tokens_behind line skip ≡ Some ts → In t ts → t.shape ≡ Word → is_word t.text ≡ true
unfolding tokens_behind
words_behind [] longest skip ts t e m w = elim (subst (In t) (sym (only e)) m) [ ]
  where
    only : Some [] ≡ Some ts → [] ≡ ts
    only e = cc
words_behind (b ∷ rest) longest (suc skip) ts t e m w = words_behind rest (λ place. longest (suc place)) skip ts t e m w
words_behind (b ∷ rest) longest zero ts t e m w =
    words_next b rest (λ skip. tokens_behind rest skip) ts t (longest 0) (λ skip us g i. words_behind rest (λ place. longest (suc place)) skip us t g i w) e m w

-- the name of a mapping line is one of its tokens
name_token : (tokens : List Seen) (n : List ℕ × List Seen) → name tokens ≡ Some n → (t : Seen) × In t tokens × (t.shape ≡ Word) × (t.text ≡ n.0)
name_token [] n e = cc
name_token (t ∷ ts) n e = by_shape t.shape refl
  where
    taken : Bool → Option (List ℕ × List Seen)
    taken c = if c then Some (t.text, ts) else None

    by_reserved : (c : Bool) → taken c ≡ Some n → t.text ≡ n.0
    by_reserved true f = cc
    by_reserved false f = cc

    by_shape : (shape : Shape) → t.shape ≡ shape → (u : Seen) × In u (t ∷ ts) × (u.shape ≡ Word) × (u.text ≡ n.0)
    by_shape Word f = (t, here refl, f, by_reserved (is_word_shape t.shape && not (is_reserved t.text)) e)
    by_shape Quoted f = (let g = subst (λ z. taken (is_word_shape z && not (is_reserved t.text)) ≡ Some n) f e in cc)
    by_shape Number f = (let g = subst (λ z. taken (is_word_shape z && not (is_reserved t.text)) ≡ Some n) f e in cc)
    by_shape Sign f = (let g = subst (λ z. taken (is_word_shape z && not (is_reserved t.text)) ≡ Some n) f e in cc)

expect_behind : (text : List ℕ) (tokens rest : List Seen) → expect text tokens ≡ Some rest → (t : Seen) × (tokens ≡ t ∷ rest)
expect_behind text [] rest e = cc
expect_behind text (t ∷ ts) rest e = by (not (is_quoted_shape t.shape) && bytes_eq t.text text) e
  where
    by : (c : Bool) → (if c then Some ts else None) ≡ Some rest → (u : Seen) × (t ∷ ts ≡ u ∷ rest)
    by true f = (t, ap (λ z. t ∷ z) (same f))
      where
        same : Some ts ≡ Some rest → ts ≡ rest
        same f = cc
    by false f = cc

map_name_token : (tokens : List Seen) (n : List ℕ × List Seen) → map_name tokens ≡ Some n → (t : Seen) × In t tokens × (t.shape ≡ Word) × (t.text ≡ n.0)
map_name_token tokens n e =
    option_and_then_some _ (expect (codes "map") tokens) n e (λ rest a f.
    option_and_then_some _ (name rest) n f (λ m b g.
    option_and_then_some _ (expect (codes "from") m.1) n g (λ last c h.
    let t = name_token rest m b in
    let whole = expect_behind (codes "map") tokens rest a in
    (t.0, subst (In t.0) (sym whole.1) (there t.1), t.2, t.3 ∙ named m last h))))
  where
    named : (m : List ℕ × List Seen) (last : List Seen) → Some (m.0, last) ≡ Some n → m.0 ≡ n.0
    named m last h = cc

line_name : (tokens : List Seen) (m : MapLine) → map_line tokens ≡ Some m → (t : Seen) × In t tokens × (t.shape ≡ Word) × (t.text ≡ m.name)
unfolding map_line
line_name tokens m e =
    option_and_then_some _ (map_name tokens) m e (λ n a f.
    option_and_then_some _ (separated (codes ",") source n.1) m f (λ sources b g.
    option_and_then_some _ (conditions sources.1) m g (λ conds c h.
    option_and_then_some _ (expect (codes "then") conds.1) m h (λ rest d i.
    option_and_then_some _ (separated (codes ",") target rest) m i (λ targets k j.
    let t = map_name_token tokens n a in
    (t.0, t.1, t.2, t.3 ∙ named n sources.0 conds.0 targets.0 (ended targets.1) j))))))
  where
    named : (n : List ℕ × List Seen) (froms : List _) (conds : List _) (targets : List _) (c : Bool) → (if c then Some (record { name = n.0; sources = froms; conditions = conds; targets = targets }) else None) ≡ Some m → n.0 ≡ m.name
    named n froms conds targets true h = cc
    named n froms conds targets false h = cc

-- where the line breaks no rule, it gives no name again
not_double : (class_of : List ℕ → Option ClassId) (link_of : List ℕ → Option (LinkId × Side)) (s : Sources) (m : MapLine) → broken class_of link_of s m ≡ None → double s m ≡ false
unfolding broken
not_double class_of link_of s m e = second (unknown class_of link_of s m) (double s m)
    ((mismatch class_of link_of s m, TypeMismatch) ∷ (list_any (λ text. is_bad (template_of text)) (all_templates m), BadTemplate) ∷ (list_any (λ text. is_unbounded (template_of text)) (all_templates m), NotBounded) ∷ [])
    ((Mappings, length s.mappings + 1) ∷ (TablesOfMapping, length m.sources) ∷ (Conditions, length m.conditions) ∷ (Targets, length m.targets) ∷ []) e
  where
    second : (a b : Bool) (rules : List (Bool × LineFault)) (counts : List (Counted × ℕ)) → first_broken ((a, Unknown) ∷ (b, Double) ∷ rules) counts ≡ None → b ≡ false
    second true b rules counts e = cc
    second false true rules counts e = cc
    second false false rules counts e = refl

name_in : (ms : List Mapping) (text : List ℕ) (i : ℕ) → slice_get (map (λ m. m.name) ms) i ≡ Some text → list_any (λ other. bytes_eq other.name text) ms ≡ true
name_in [] text i e = cc
name_in (m ∷ ms) text zero e =
    let same : bytes_eq m.name text ≡ true = (bytes_eq-Decides m.name text).1 (inside e) in
    ap (λ b. b || list_any (λ other. bytes_eq other.name text) ms) same
  where
    inside : Some m.name ≡ Some text → m.name ≡ text
    inside e = cc
name_in (m ∷ ms) text (suc i) e = either_one (bytes_eq m.name text) (name_in ms text i e)
  where
    either_one : (b : Bool) → list_any (λ other. bytes_eq other.name text) ms ≡ true → (b || list_any (λ other. bytes_eq other.name text) ms) ≡ true
    either_one true h = refl
    either_one false h = h

place_in_more : (xs : List (List ℕ)) (x : List ℕ) (i : ℕ) (y : List ℕ) → slice_get (xs ++ x ∷ []) i ≡ Some y → (slice_get xs i ≡ Some y) ⊎ ((i ≡ length xs) × (x ≡ y))
place_in_more [] x zero y e = inr (refl, cc)
place_in_more [] x (suc i) y e = cc
place_in_more (z ∷ xs) x zero y e = inl e
place_in_more (z ∷ xs) x (suc i) y e = elim (place_in_more xs x i y e) [ inl h ↦ inl h | inr h ↦ inr (ap suc h.0, h.1) ]

-- one name more, which is a word and was not there
more_names : (names : List (List ℕ)) (last : List ℕ) → is_word last ≡ true → ((i : ℕ) → slice_get names i ≡ Some last → ⊥) → AreNames names → AreNames (names ++ last ∷ [])
more_names names last word new old = record {
  words = λ i name e. elim (place_in_more names last i name e) [
    | inl h ↦ old.words i name h
    | inr h ↦ subst (λ z. is_word z ≡ true) h.1 word
  ];
  differ = λ i j name e f. elim (place_in_more names last i name e) [
    | inl h ↦ elim (place_in_more names last j name f) [
      | inl k ↦ old.differ i j name h k
      | inr k ↦ absurd (new i (subst (λ z. slice_get names i ≡ Some z) (sym k.1) h))
    ]
    | inr h ↦ elim (place_in_more names last j name f) [
      | inl k ↦ absurd (new j (subst (λ z. slice_get names j ≡ Some z) (sym h.1) k))
      | inr k ↦ h.0 ∙ sym k.0
    ]
  ];
}

abbrev pub names_of : Sources → List (List ℕ)
names_of s = map (λ m. m.name) s.mappings

grown_names : (class_of : List ℕ → Option ClassId) (link_of : List ℕ → Option (LinkId × Side)) (s : Sources) (m : MapLine) → is_word m.name ≡ true → broken class_of link_of s m ≡ None → AreNames (names_of s) → AreNames (names_of (grown class_of link_of s m))
unfolding grown
grown_names class_of link_of s m word free old = subst AreNames (sym (map-append (λ m. m.name) s.mappings (mapping_of class_of link_of s m ∷ []))) (more_names (names_of s) m.name word new old)
  where
    first_of : (a b : Bool) → (a || b) ≡ false → a ≡ false
    first_of true b e = cc
    first_of false b e = refl

    new : (i : ℕ) → slice_get (names_of s) i ≡ Some m.name → ⊥
    new i e =
        let taken : list_any (λ other. bytes_eq other.name m.name) s.mappings ≡ true = name_in s.mappings m.name i e in
        let free : list_any (λ other. bytes_eq other.name m.name) s.mappings ≡ false = first_of _ _ (not_double class_of link_of s m free) in
        cc

-- a mapping line that is read keeps the names words that differ
pub named_more : (class_of : List ℕ → Option ClassId) (link_of : List ℕ → Option (LinkId × Side)) (s after : Sources) (text : List ℕ) → ReadsLongest text → AreNames (names_of s) → read_mapping_line class_of link_of s text ≡ Ok after → AreNames (names_of after)
named_more class_of link_of s after text reads_longest old e = by_tokens (tokens_of text) refl e
  where
    reads : Option (List Seen) → Result Sources LineFault
    reads o = read_by map_line (broken class_of link_of s) (grown class_of link_of s) s o

    read : Sources → Result Sources LineFault
    read t = Ok t

    same : (t : Sources) → read t ≡ read after → t ≡ after
    same t e = cc

    unbroken : (m : MapLine) (o : Option LineFault) → broken class_of link_of s m ≡ o → unless o (grown class_of link_of s m) ≡ Ok after → is_word m.name ≡ true → AreNames (names_of after)
    unbroken m None f g word = subst (λ t. AreNames (names_of t)) (same (grown class_of link_of s m) g) (grown_names class_of link_of s m word f old)
    unbroken m (Some fault) f g word = cc

    by_line : (t : Seen) (ts : List Seen) → tokens_of text ≡ Some (t ∷ ts) → (o : Option MapLine) → map_line (t ∷ ts) ≡ o → reads (Some (t ∷ ts)) ≡ Ok after → AreNames (names_of after)
    by_line t ts f None g h = (let wrong = rw g at h in cc)
    by_line t ts f (Some m) g h =
        let word = line_name (t ∷ ts) m g in
        let is : is_word m.name ≡ true = subst (λ z. is_word z ≡ true) word.3 (words_behind text reads_longest 0 (t ∷ ts) word.0 f word.1 word.2) in
        unbroken m (broken class_of link_of s m) refl (rw g at h) is

    by_tokens : (o : Option (List Seen)) → tokens_of text ≡ o → reads o ≡ Ok after → AreNames (names_of after)
    by_tokens None f g = cc
    by_tokens (Some []) f g = subst (λ t. AreNames (names_of t)) (same s g) old
    by_tokens (Some (t ∷ ts)) f g = by_line t ts f (map_line (t ∷ ts)) refl g

pub named_on : {T : Type 0} (r : Result T LineFault) (class_of : List ℕ → Option ClassId) (link_of : List ℕ → Option (LinkId × Side)) (s after : Sources) (text : List ℕ) → OnOk r (read_mapping_line class_of link_of s text ≡ Ok after) → AreNames (names_of s) → OnOk r (AreNames (names_of after))
named_on (Ok x) class_of link_of s after text e old = named_more class_of link_of s after text (λ place. longest (drop place text)) old e
named_on (Err fault) class_of link_of s after text e old = tt
