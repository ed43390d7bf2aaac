-- Tuples side by side, and what they give.
use Rattle.std.proofs.Common.{ℕ, ◌≡◌, refl, sym, ◌∙◌, ap, ◌+◌, ◌<◌, ◌≤◌, List, [], ◌∷◌, ◌++◌, length, map, get_or, Option, Some, None, arith, All}
use Rattle.std.specs.Prelude.{option_map}
use Rattle.std.proofs.lemmas.List.{get_or_append_left, get_or-append-add, length-map}
use Rattle.std.proofs.lemmas.List.Elements.{All-nil, All-cons, All-head, All-tail, All-append, All-map, All-weaker}
use Rattle.vocabulary.specs.declared.ids.TableId.{TableId}
use Rattle.vocabulary.specs.declared.term.Term.{Term, Named, Value}
use Rattle.vocabulary.specs.declared.term.Fact.{Fact}
use Rattle.vocabulary.specs.declared.term.Fact.TheVariants.{InClass, Linked}
use Rattle.source_tables.specs.Cells.{Cell}
use Rattle.source_tables.specs.Tables.{Loaded}
use Rattle.iri_templates.specs.Templates.{Segments}
use Rattle.iri_templates.specs.Texts.{filled_text, text_with, texts_of}
use Rattle.mapping_facts.specs.declared.query.Place.{Place}
use Rattle.mapping_facts.specs.declared.query.Condition.{Condition}
use Rattle.mapping_facts.specs.declared.query.Condition.TheVariants.{Equal, EqualText, Differ, DifferText, IsNull, NotNull}
use Rattle.mapping_facts.specs.declared.term.RowTerm.{RowTerm}
use Rattle.mapping_facts.specs.declared.term.RowTerm.TheVariants.{Iri, Cell as CellTerm, Fixed}
use Rattle.mapping_facts.specs.declared.mapping.Target.{Target}
use Rattle.mapping_facts.specs.declared.mapping.Target.TheVariants.{InClass as ClassTarget, Linked as LinkTarget}
use Rattle.mapping_facts.specs.Defined.{defined_term, defined_target}
use Rattle.mapping_facts.specs.Facts.{term_at}
use Rattle.mapping_facts.specs.Fits.{PlaceFits, ConditionFits, TermFits, TargetFits}
use Rattle.mapping_facts.specs.Tuples.{cell_in, cell_of, table_rows, tuple_rows}
use Rattle.mapping_facts.proofs.Facts.{Gives}
use Rattle.mapping_facts.proofs.Tuples.{AllHold, AreRows, CellsAt, Holds}
use Rattle.mapping_unfolding.specs.Shifts.{shifted_condition, shifted_place, shifted_term}

pub some_is : {A : Type 0} (x y : A) → Some x ≡ Some y → x ≡ y
some_is x y e = cc

-- tuples side by side
rows_beside : (tables : List Loaded) (ts : List TableId) (rs : List ℕ) (us : List TableId) (ss : List ℕ) → AreRows tables ts rs →
    tuple_rows tables (ts ++ us) (rs ++ ss) ≡ tuple_rows tables ts rs ++ tuple_rows tables us ss
rows_beside tables [] [] us ss h = refl
rows_beside tables [] (r ∷ rs) us ss h = absurd h
rows_beside tables (t ∷ ts) [] us ss h = absurd h
rows_beside tables (t ∷ ts) (r ∷ rs) us ss h = ap (λ z. get_or (table_rows tables t) r [] ∷ z) (rows_beside tables ts rs us ss h.1)

rows_count : (tables : List Loaded) (ts : List TableId) (rs : List ℕ) → AreRows tables ts rs → length (tuple_rows tables ts rs) ≡ length ts
rows_count tables [] [] h = refl
rows_count tables [] (r ∷ rs) h = absurd h
rows_count tables (t ∷ ts) [] h = absurd h
rows_count tables (t ∷ ts) (r ∷ rs) h = let k = rows_count tables ts rs h.1 in grind arith

pub numbers_count : (tables : List Loaded) (ts : List TableId) (rs : List ℕ) → AreRows tables ts rs → length rs ≡ length ts
numbers_count tables [] [] h = refl
numbers_count tables [] (r ∷ rs) h = absurd h
numbers_count tables (t ∷ ts) [] h = absurd h
numbers_count tables (t ∷ ts) (r ∷ rs) h = let k = numbers_count tables ts rs h.1 in grind arith

pub are_beside : (tables : List Loaded) (ts : List TableId) (rs : List ℕ) (us : List TableId) (ss : List ℕ) → AreRows tables ts rs → AreRows tables us ss → AreRows tables (ts ++ us) (rs ++ ss)
are_beside tables [] [] us ss h k = k
are_beside tables [] (r ∷ rs) us ss h k = absurd h
are_beside tables (t ∷ ts) [] us ss h k = absurd h
are_beside tables (t ∷ ts) (r ∷ rs) us ss h k = (h.0, are_beside tables ts rs us ss h.1 k)

pub record Beside (tables : List Loaded) (ts us : List TableId) (rows : List ℕ) : Type 0 where
  pub left : List ℕ
  pub right : List ℕ
  pub is : rows ≡ left ++ right
  pub left_are : AreRows tables ts left
  pub right_are : AreRows tables us right

pub split_rows : (tables : List Loaded) (ts us : List TableId) (rows : List ℕ) → AreRows tables (ts ++ us) rows → Beside tables ts us rows
split_rows tables [] us rows h = record { left = []; right = rows; is = refl; left_are = tt; right_are = h }
split_rows tables (t ∷ ts) us [] h = absurd h
split_rows tables (t ∷ ts) us (r ∷ rows) h =
    let b = split_rows tables ts us rows h.1 in
    record { left = r ∷ b.left; right = b.right; is = ap (λ z. r ∷ z) b.is; left_are = (h.0, b.left_are); right_are = b.right_are }

-- the cells of the front stay, those behind are named with a shift
abbrev pub SameBelow : ℕ → CellsAt → CellsAt → Type 0
SameBelow n c e = (p : Place) → p.table < n → c p ≡ e p

pub cells_front : (tables : List Loaded) (ts : List TableId) (rs : List ℕ) (us : List TableId) (ss : List ℕ) → AreRows tables ts rs →
    SameBelow (length ts) (cell_of tables ts rs) (cell_of tables (ts ++ us) (rs ++ ss))
cells_front tables ts rs us ss h p l =
    let n = rows_count tables ts rs h in
    let l' : p.table < length (tuple_rows tables ts rs) = omega (arith, n, l) in
    sym (ap (λ z. cell_in z p) (rows_beside tables ts rs us ss h) ∙ ap (λ z. get_or z p.col.0 None) (get_or_append_left (tuple_rows tables ts rs) (tuple_rows tables us ss) [] p.table l'))

pub cells_behind : (tables : List Loaded) (ts : List TableId) (rs : List ℕ) (us : List TableId) (ss : List ℕ) → AreRows tables ts rs →
    (λ p. cell_of tables (ts ++ us) (rs ++ ss) (shifted_place (length ts) p)) ≡ cell_of tables us ss
cells_behind tables ts rs us ss h = λ i p. each p i
  where
    each : (p : Place) → cell_of tables (ts ++ us) (rs ++ ss) (shifted_place (length ts) p) ≡ cell_of tables us ss p
    each p =
        ap (λ z. cell_in z (shifted_place (length ts) p)) (rows_beside tables ts rs us ss h) ∙
        (ap (λ n. get_or (get_or (tuple_rows tables ts rs ++ tuple_rows tables us ss) (n + p.table) []) p.col.0 None) (sym (rows_count tables ts rs h)) ∙
        ap (λ z. get_or z p.col.0 None) (get_or-append-add (tuple_rows tables ts rs) (tuple_rows tables us ss) p.table []))

-- conditions
pub all_append : (c : CellsAt) (xs ys : List Condition) → AllHold c xs → AllHold c ys → AllHold c (xs ++ ys)
all_append c [] ys h k = k
all_append c (x ∷ xs) ys h k = (h.0, all_append c xs ys h.1 k)

pub all_left : (c : CellsAt) (xs ys : List Condition) → AllHold c (xs ++ ys) → AllHold c xs
all_left c [] ys h = tt
all_left c (x ∷ xs) ys h = (h.0, all_left c xs ys h.1)

pub all_right : (c : CellsAt) (xs ys : List Condition) → AllHold c (xs ++ ys) → AllHold c ys
all_right c [] ys h = h
all_right c (x ∷ xs) ys h = all_right c xs ys h.1

holds_below : (n : ℕ) (c e : CellsAt) → SameBelow n c e → (x : Condition) → ConditionFits n x → Holds c x → Holds e x
holds_below n c e s (Equal p q) w h = (h.0, sym (s p w.0) ∙ h.1, sym (s q w.1) ∙ h.2)
holds_below n c e s (EqualText p t) w h = sym (s p w) ∙ h
holds_below n c e s (Differ p q) w h = (h.0, h.1, sym (s p w.0) ∙ h.2, sym (s q w.1) ∙ h.3, h.4)
holds_below n c e s (DifferText p t) w h = (h.0, sym (s p w) ∙ h.1, h.2)
holds_below n c e s (IsNull p) w h = sym (s p w) ∙ h
holds_below n c e s (NotNull p) w h = (h.0, sym (s p w) ∙ h.1)

pub all_below : (n : ℕ) (c e : CellsAt) → SameBelow n c e → (xs : List Condition) → All (ConditionFits n) xs → AllHold c xs → AllHold e xs
all_below n c e s [] w h = tt
all_below n c e s (x ∷ xs) w h = (holds_below n c e s x (All-head (ConditionFits n) x xs w) h.0, all_below n c e s xs (All-tail (ConditionFits n) x xs w) h.1)

pub turned : (n : ℕ) (c e : CellsAt) → SameBelow n c e → SameBelow n e c
turned n c e s p l = sym (s p l)

cells_below : (n : ℕ) (c e : CellsAt) → SameBelow n c e → (ps : List Place) → All (PlaceFits n) ps → map c ps ≡ map e ps
cells_below n c e s [] w = refl
cells_below n c e s (p ∷ ps) w = ap (λ o. o ∷ map c ps) (s p (All-head (PlaceFits n) p ps w)) ∙ ap (λ os. e p ∷ os) (cells_below n c e s ps (All-tail (PlaceFits n) p ps w))

pub term_below : (n : ℕ) (c e : CellsAt) → SameBelow n c e → (r : RowTerm) → TermFits n r → term_at c r ≡ term_at e r
term_below n c e s (Iri template ps) w = ap (λ cells. option_map Named (filled_text template cells)) (cells_below n c e s ps w.1)
term_below n c e s (CellTerm k p) w = ap (option_map (Value k)) (s p w)
term_below n c e s (Fixed t) w = refl

-- shifts
abbrev pub behind : ℕ → CellsAt → CellsAt
behind n c = λ p. c (shifted_place n p)

shift_holds : (n : ℕ) (c : CellsAt) (x : Condition) → Holds (behind n c) x → Holds c (shifted_condition n x)
shift_holds n c (Equal p q) h = h
shift_holds n c (EqualText p t) h = h
shift_holds n c (Differ p q) h = h
shift_holds n c (DifferText p t) h = h
shift_holds n c (IsNull p) h = h
shift_holds n c (NotNull p) h = h

holds_shift : (n : ℕ) (c : CellsAt) (x : Condition) → Holds c (shifted_condition n x) → Holds (behind n c) x
holds_shift n c (Equal p q) h = h
holds_shift n c (EqualText p t) h = h
holds_shift n c (Differ p q) h = h
holds_shift n c (DifferText p t) h = h
holds_shift n c (IsNull p) h = h
holds_shift n c (NotNull p) h = h

pub shift_all : (n : ℕ) (c : CellsAt) (xs : List Condition) → AllHold (behind n c) xs → AllHold c (map (shifted_condition n) xs)
shift_all n c [] h = tt
shift_all n c (x ∷ xs) h = (shift_holds n c x h.0, shift_all n c xs h.1)

pub all_shift : (n : ℕ) (c : CellsAt) (xs : List Condition) → AllHold c (map (shifted_condition n) xs) → AllHold (behind n c) xs
all_shift n c [] h = tt
all_shift n c (x ∷ xs) h = (holds_shift n c x h.0, all_shift n c xs h.1)

shift_cells : (n : ℕ) (c : CellsAt) (ps : List Place) → map c (map (shifted_place n) ps) ≡ map (behind n c) ps
shift_cells n c [] = refl
shift_cells n c (p ∷ ps) = ap (λ os. c (shifted_place n p) ∷ os) (shift_cells n c ps)

pub shift_at : (n : ℕ) (c : CellsAt) (r : RowTerm) → term_at c (shifted_term n r) ≡ term_at (behind n c) r
shift_at n c (Iri template ps) = ap (λ cells. option_map Named (filled_text template cells)) (shift_cells n c ps)
shift_at n c (CellTerm k p) = refl
shift_at n c (Fixed t) = refl

place_shifts : (n k : ℕ) (p : Place) → PlaceFits k p → PlaceFits (n + k) (shifted_place n p)
place_shifts n k p w = omega (arith, w)

pub term_shifts : (n k : ℕ) (r : RowTerm) → TermFits k r → TermFits (n + k) (shifted_term n r)
term_shifts n k (Iri template ps) w =
    (length-map ps (shifted_place n) ∙ w.0, All-map (PlaceFits (n + k)) (shifted_place n) ps (All-weaker (PlaceFits k) (λ p. PlaceFits (n + k) (shifted_place n p)) (place_shifts n k) ps w.1))
term_shifts n k (CellTerm kind p) w = place_shifts n k p w
term_shifts n k (Fixed t) w = w

condition_shifts : (n k : ℕ) (x : Condition) → ConditionFits k x → ConditionFits (n + k) (shifted_condition n x)
condition_shifts n k (Equal p q) w = (place_shifts n k p w.0, place_shifts n k q w.1)
condition_shifts n k (EqualText p t) w = place_shifts n k p w
condition_shifts n k (Differ p q) w = (place_shifts n k p w.0, place_shifts n k q w.1)
condition_shifts n k (DifferText p t) w = place_shifts n k p w
condition_shifts n k (IsNull p) w = place_shifts n k p w
condition_shifts n k (NotNull p) w = place_shifts n k p w

pub conditions_shift : (n k : ℕ) (xs : List Condition) → All (ConditionFits k) xs → All (ConditionFits (n + k)) (map (shifted_condition n) xs)
conditions_shift n k xs w = All-map (ConditionFits (n + k)) (shifted_condition n) xs (All-weaker (ConditionFits k) (λ x. ConditionFits (n + k) (shifted_condition n x)) (condition_shifts n k) xs w)

place_wider : (n k : ℕ) → n ≤ k → (p : Place) → PlaceFits n p → PlaceFits k p
place_wider n k l p w = omega (arith, w, l)

condition_wider : (n k : ℕ) → n ≤ k → (x : Condition) → ConditionFits n x → ConditionFits k x
condition_wider n k l (Equal p q) w = (place_wider n k l p w.0, place_wider n k l q w.1)
condition_wider n k l (EqualText p t) w = place_wider n k l p w
condition_wider n k l (Differ p q) w = (place_wider n k l p w.0, place_wider n k l q w.1)
condition_wider n k l (DifferText p t) w = place_wider n k l p w
condition_wider n k l (IsNull p) w = place_wider n k l p w
condition_wider n k l (NotNull p) w = place_wider n k l p w

pub all_wider : (n k : ℕ) (xs : List Condition) → n ≤ k → All (ConditionFits n) xs → All (ConditionFits k) xs
all_wider n k xs l w = All-weaker (ConditionFits n) (ConditionFits k) (condition_wider n k l) xs w

pub term_wider : (n k : ℕ) (r : RowTerm) → n ≤ k → TermFits n r → TermFits k r
term_wider n k (Iri template ps) l w = (w.0, All-weaker (PlaceFits n) (PlaceFits k) (place_wider n k l) ps w.1)
term_wider n k (CellTerm kind p) l w = place_wider n k l p w
term_wider n k (Fixed t) l w = w

-- where a term is defined
pub mapped_some : {A B : Type 0} (f : A → B) (o : Option A) (y : B) → option_map f o ≡ Some y → (x : A) × (o ≡ Some x) × (f x ≡ y)
mapped_some f None y e = cc
mapped_some f (Some x) y e = (x, refl, some_is (f x) y e)

pub texts_first : (o : Cell) (os : List Cell) (us : List (List ℕ)) → texts_of (o ∷ os) ≡ Some us → (t : List ℕ) × (rest : List (List ℕ)) × (o ≡ Some t) × (texts_of os ≡ Some rest) × (us ≡ t ∷ rest)
texts_first None os us e = cc
texts_first (Some t) os us e = let m = mapped_some (λ texts. t ∷ texts) (texts_of os) us e in (t, m.0, refl, m.1, sym m.2)

texts_defined : (c : CellsAt) (ps : List Place) → AllHold c (map NotNull ps) → (us : List (List ℕ)) × (texts_of (map c ps) ≡ Some us)
texts_defined c [] h = ([], refl)
texts_defined c (p ∷ ps) h =
    let r = texts_defined c ps h.1 in
    (h.0.0 ∷ r.0, ap (λ o. texts_of (o ∷ map c ps)) h.0.1 ∙ ap (option_map (λ texts. h.0.0 ∷ texts)) r.1)

defined_texts : (c : CellsAt) (ps : List Place) (us : List (List ℕ)) → texts_of (map c ps) ≡ Some us → AllHold c (map NotNull ps)
defined_texts c [] us e = tt
defined_texts c (p ∷ ps) us e = let b = texts_first (c p) (map c ps) us e in ((b.0, b.2), defined_texts c ps b.1 b.3)

-- the texts of an object that a template gives
pub iri_some : (c : CellsAt) (a : Segments) (ps : List Place) (t : Term) → term_at c (Iri a ps) ≡ Some t → (us : List (List ℕ)) × (texts_of (map c ps) ≡ Some us) × (Named (text_with a us) ≡ t)
unfolding filled_text
iri_some c a ps t e =
    let n = mapped_some Named (filled_text a (map c ps)) t e in
    let m = mapped_some (text_with a) (texts_of (map c ps)) n.0 n.1 in
    (m.0, m.1, ap Named m.2 ∙ n.2)

pub some_iri : (c : CellsAt) (a : Segments) (ps : List Place) (us : List (List ℕ)) → texts_of (map c ps) ≡ Some us → term_at c (Iri a ps) ≡ Some (Named (text_with a us))
unfolding filled_text
some_iri c a ps us e = ap (λ o. option_map Named (option_map (text_with a) o)) e

pub term_defined : (c : CellsAt) (r : RowTerm) → AllHold c (defined_term r) → (t : Term) × (term_at c r ≡ Some t)
term_defined c (Iri template ps) h = let u = texts_defined c ps h in (Named (text_with template u.0), some_iri c template ps u.0 u.1)
term_defined c (CellTerm k p) h = (Value k h.0.0, ap (option_map (Value k)) h.0.1)
term_defined c (Fixed t) h = (t, refl)

pub defined_at : (c : CellsAt) (r : RowTerm) (t : Term) → term_at c r ≡ Some t → AllHold c (defined_term r)
defined_at c (Iri template ps) t e = let m = iri_some c template ps t e in defined_texts c ps m.0 m.1
defined_at c (CellTerm k p) t e = let m = mapped_some (Value k) (c p) t e in ((m.0, m.1), tt)
defined_at c (Fixed u) t e = tt

pub gives_defined : (c : CellsAt) (g : Target) (f : Fact) → Gives c g f → AllHold c (defined_target g)
gives_defined c (ClassTarget a r) (InClass b t) h = defined_at c r t h.1
gives_defined c (ClassTarget a r) (Linked q s t) h = absurd h
gives_defined c (LinkTarget p r s) (InClass b t) h = absurd h
gives_defined c (LinkTarget p r s) (Linked q t u) h = all_append c (defined_term r) (defined_term s) (defined_at c r t h.1) (defined_at c s u h.2)

term_within : (k : ℕ) (r : RowTerm) → TermFits k r → All (ConditionFits k) (defined_term r)
term_within k (Iri template ps) h = All-map (ConditionFits k) NotNull ps h.1
term_within k (CellTerm kind p) h = All-cons (ConditionFits k) (NotNull p) [] h (All-nil (ConditionFits k))
term_within k (Fixed t) h = All-nil (ConditionFits k)

pub defined_within : (k : ℕ) (g : Target) → TargetFits k g → All (ConditionFits k) (defined_target g)
defined_within k (ClassTarget a r) h = term_within k r h
defined_within k (LinkTarget p r s) h = All-append (ConditionFits k) (defined_term r) (defined_term s) (term_within k r h.0) (term_within k s h.1)
