-- The texts of keys tell the cells of keys apart.
use Rattle.std.proofs.Common.{◌≡◌, ◌∙◌, sym, refl, ap, ℕ, nat_lt, true, false, List, [], ◌∷◌, ◌++◌, length, None, Some, arith, append_assoc}
use Rattle.std.specs.List.{list_all}
use Rattle.std.specs.Str.{bytes_eq, chars}
use Rattle.std.proofs.Math.Utf8.{encode, encodes}
use Rattle.std.proofs.lemmas.Bool.{and_parts}
use Rattle.std.proofs.lemmas.Bool.Decides.{same_from_decides}
use Rattle.std.proofs.lemmas.Slice.Eq.{bytes_eq-Decides}
use Rattle.std.proofs.lemmas.Str.{encode_ascii, encode_same, chars-encodes}
use Rattle.vocabulary.specs.Texts.{is_xml_char}
use Rattle.source_tables.specs.Cells.{Cell, HasText}
use Rattle.source_tables.specs.Tables.{cell_same, cells_same}
use Rattle.source_tables.specs.Loading.{key_text}

-- a cell text by its characters
record IsSpelled (text : List ℕ) : Type 0 where
  first : ℕ
  more : List ℕ
  is : encodes (first ∷ more) ≡ text
  allowed : list_all is_xml_char (first ∷ more) ≡ true

spelled_by : (text cs : List ℕ) → encodes cs ≡ text → list_all is_xml_char cs ≡ true → nat_lt 0 (length text) ≡ true → IsSpelled text
spelled_by text [] is allowed some = let f : nat_lt 0 (length text) ≡ false = ap (λ (t : List ℕ). nat_lt 0 (length t)) (sym is) in cc
spelled_by text (c ∷ cs) is allowed some = record { first = c; more = cs; is = is; allowed = allowed }

spelled : (text : List ℕ) → HasText (Some text) → IsSpelled text
spelled text has =
    let both = and_parts (nat_lt 0 (length text)) (list_all is_xml_char (chars text)) has.1 in
    let cs : chars text ≡ has.0.0 = ap chars (sym has.0.1.1) ∙ chars-encodes has.0.0 has.0.1.0 in
    spelled_by text has.0.0 has.0.1.1 (ap (λ (x : List ℕ). list_all is_xml_char x) (sym cs) ∙ both.1) both.0

-- the byte between two cells
closing : (x : List ℕ) → 0 ∷ x ≡ encode 0 ++ x
closing x = ap (λ (e : List ℕ). e ++ x) (sym (encode_ascii 0 (omega arith)))

no_closing : (c : ℕ) (cs x y : List ℕ) → list_all is_xml_char (c ∷ cs) ≡ true → 0 ∷ x ≡ encodes (c ∷ cs) ++ y → ⊥
no_closing c cs x y allowed e =
    let one : encode 0 ++ x ≡ encode c ++ (encodes cs ++ y) = sym (closing x) ∙ e ∙ append_assoc (encode c) (encodes cs) y in
    let c_is : 0 ≡ c = (encode_same 0 c x (encodes cs ++ y) one).0 in
    let yes : is_xml_char c ≡ true = (and_parts (is_xml_char c) (list_all is_xml_char cs) allowed).0 in
    let no : is_xml_char c ≡ false = ap is_xml_char (sym c_is) in
    cc

peel : (cs ds x y : List ℕ) → list_all is_xml_char cs ≡ true → list_all is_xml_char ds ≡ true → encodes cs ++ (0 ∷ x) ≡ encodes ds ++ (0 ∷ y) → (encodes cs ≡ encodes ds) × (x ≡ y)
peel [] [] x y a b e = (refl, cc)
peel [] (d ∷ ds) x y a b e = absurd (no_closing d ds x (0 ∷ y) b e)
peel (c ∷ cs) [] x y a b e = absurd (no_closing c cs y (0 ∷ x) a (sym e))
peel (c ∷ cs) (d ∷ ds) x y a b e =
    let one : encode c ++ (encodes cs ++ (0 ∷ x)) ≡ encode d ++ (encodes ds ++ (0 ∷ y)) =
    sym (append_assoc (encode c) (encodes cs) (0 ∷ x)) ∙ e ∙ append_assoc (encode d) (encodes ds) (0 ∷ y) in
    let same = encode_same c d (encodes cs ++ (0 ∷ x)) (encodes ds ++ (0 ∷ y)) one in
    let rest = peel cs ds x y (and_parts (is_xml_char c) (list_all is_xml_char cs) a).1 (and_parts (is_xml_char d) (list_all is_xml_char ds) b).1 same.1 in
    (ap (λ (k : ℕ). encode k ++ encodes cs) same.0 ∙ ap (λ (t : List ℕ). encode d ++ t) rest.0, rest.1)

-- each cell is null or a text
abbrev pub AreTexts : List Cell → Type 0
AreTexts [] = Unit {0}
AreTexts (cell ∷ cells) = HasText cell × AreTexts cells

null_or_text : (b : List ℕ) (x y : List ℕ) → HasText (Some b) → 0 ∷ x ≡ b ++ (0 ∷ y) → ⊥
null_or_text b x y has e =
    let s = spelled b has in
    no_closing s.first s.more x (0 ∷ y) s.allowed (e ∙ ap (λ (t : List ℕ). t ++ (0 ∷ y)) (sym s.is))

pub key_texts_apart : (as' bs : List Cell) → AreTexts as' → AreTexts bs → length as' ≡ length bs → key_text as' ≡ key_text bs → as' ≡ bs
key_texts_apart [] [] a b long e = refl
key_texts_apart [] (y ∷ ys) a b long e = absurd (omega arith)
key_texts_apart (x ∷ xs) [] a b long e = absurd (omega arith)
key_texts_apart (None ∷ xs) (None ∷ ys) a b long e = ap (λ (cells : List Cell). None ∷ cells) (key_texts_apart xs ys a.1 b.1 (omega arith) (cc))
key_texts_apart (None ∷ xs) (Some y ∷ ys) a b long e = absurd (null_or_text y (key_text xs) (key_text ys) b.0 e)
key_texts_apart (Some x ∷ xs) (None ∷ ys) a b long e = absurd (null_or_text x (key_text ys) (key_text xs) a.0 (sym e))
key_texts_apart (Some x ∷ xs) (Some y ∷ ys) a b long e =
    let s = spelled x a.0 in
    let t = spelled y b.0 in
    let both = peel (s.first ∷ s.more) (t.first ∷ t.more) (key_text xs) (key_text ys) s.allowed t.allowed
    (ap (λ (w : List ℕ). w ++ (0 ∷ key_text xs)) s.is ∙ e ∙ ap (λ (w : List ℕ). w ++ (0 ∷ key_text ys)) (sym t.is)) in
    let heads : x ≡ y = sym s.is ∙ both.0 ∙ t.is in
    ap (λ (w : List ℕ). Some w ∷ xs) heads ∙ ap (λ (cells : List Cell). Some y ∷ cells) (key_texts_apart xs ys a.1 b.1 (omega arith) both.1)

-- cells that the test finds the same are the same
bytes_same : (a b : List ℕ) → bytes_eq a b ≡ true → a ≡ b
bytes_same a b e = (bytes_eq-Decides a b).0 e

cell_same-true : (a b : Cell) → cell_same a b ≡ true → a ≡ b
cell_same-true None None e = refl
cell_same-true None (Some b) e = cc
cell_same-true (Some a) None e = cc
cell_same-true (Some a) (Some b) e = ap (λ (t : List ℕ). Some t) (bytes_same a b e)

cells_same-true : (as' bs : List Cell) → cells_same as' bs ≡ true → as' ≡ bs
cells_same-true [] [] e = refl
cells_same-true [] (b ∷ bs) e = cc
cells_same-true (a ∷ as') [] e = cc
cells_same-true (a ∷ as') (b ∷ bs) e =
    let both = and_parts (cell_same a b) (cells_same as' bs) e in
    ap (λ (c : Cell). c ∷ as') (cell_same-true a b both.0) ∙ ap (λ (cells : List Cell). b ∷ cells) (cells_same-true as' bs both.1)

bytes_self : (a : List ℕ) → bytes_eq a a ≡ true
bytes_self a = (bytes_eq-Decides a a).1 refl

pub cells_self : (as' : List Cell) → cells_same as' as' ≡ true
cells_self [] = refl
cells_self (None ∷ as') = cells_self as'
cells_self (Some a ∷ as') = rw (bytes_self a) (cells_self as')

-- so the test of the texts is the test of the cells
pub same_by_text : (as' bs : List Cell) → AreTexts as' → AreTexts bs → length as' ≡ length bs → bytes_eq (key_text bs) (key_text as') ≡ cells_same as' bs
same_by_text as' bs a b long =
    same_from_decides (bytes_eq (key_text bs) (key_text as')) (cells_same as' bs)
    (λ e. key_texts_apart as' bs a b long (sym (bytes_same (key_text bs) (key_text as') e)), λ e. ap (λ (cells : List Cell). bytes_eq (key_text bs) (key_text cells)) e ∙ bytes_self (key_text bs))
    (cells_same-true as' bs, λ e. ap (λ (cells : List Cell). cells_same cells bs) e ∙ cells_self bs)
