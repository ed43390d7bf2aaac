-- Each further line that breaks no rule keeps what the lines of a model keep.
use Rattle.std.proofs.Common.{ℕ, ◌≡◌, refl, sym, ◌∙◌, ap, subst, ◌<◌, ◌≤◌, ◌+◌, Bool, true, false, not, ◌||◌, ◌&&◌, ◌==◌, List, [], ◌∷◌, ◌++◌, length, map, ◌⊎◌, inl, inr, Option, Some, None, arith, length-append, if◌then◌else◌, nat_lt, zero, suc}
use Rattle.std.proofs.lemmas.Bool.{ltb-false, ne_eqb}
use Rattle.std.proofs.lemmas.List.{length-map}
use Rattle.std.specs.List.{list_any}
use Rattle.line_lexer.specs.Faults.{limit_of}
use Rattle.line_lexer.specs.Judging.{first_passed, has_twice}
use Rattle.line_lexer.specs.declared.fault.Counted.{Counted}
use Rattle.line_lexer.specs.declared.fault.Counted.TheVariants.{Classes, Links, Axioms, IdentifyingAttributes, Constraints}
use Rattle.vocabulary.specs.declared.ids.LinkId.{LinkId}
use Rattle.vocabulary.specs.declared.ids.Dir.{Dir}
use Rattle.vocabulary.specs.declared.ids.Side.{Side}
use Rattle.vocabulary.specs.declared.ids.Side.TheVariants.{Object, Value}
use Rattle.vocabulary.specs.declared.ids.ValueKind.{ValueKind}
use Rattle.vocabulary.specs.Lists.{In, here, there}
use Rattle.vocabulary.proofs.Lists.{In-append_cases}
use Rattle.uml_model.specs.declared.counts.Counts.{Counts}
use Rattle.uml_model.specs.declared.statement.Statement.{Statement}
use Rattle.uml_model.specs.declared.statement.Statement.TheVariants as states
use Rattle.uml_model.specs.Axioms.{ends_with_one}
use Rattle.uml_model.specs.Bounds.{IsLineWithin, AreLinesWithin}
use Rattle.uml_model.specs.Kept.{IsLineSorted, AreLinesSorted, Widens, AreLinesFree, AreLinesKept}
use Rattle.uml_model.specs.Lines.{Line, NamesSome}
use Rattle.uml_model.specs.Lines as lines
use Rattle.uml_model.specs.Rules.{Known, nothing, is_class, is_attribute, is_association, class_of, link_of, mismatch, specialised, bounds, is_functional, identifying, counts_with, counted, passed, stated, named, with_link, grown}
use Rattle.uml_model.specs.Sorts.{HasSide, AreIdentifying}
use Rattle.uml_model.proofs.Lists.{kept_place, last_place, neither, none_of}
use Rattle.uml_model.proofs.Named.{link, not_told, numbered_class, IsLink, an_association, an_attribute, two_attributes, different, each_attribute}

-- with more classes and links
line_wider : (c l c' l' : ℕ) (line : Statement) → c ≤ c' → l ≤ l' → IsLineWithin c l line → IsLineWithin c' l' line
line_wider c l c' l' (states.Class a) h k w = omega (arith, h, w)
line_wider c l c' l' (states.Sub a b) h k w = (omega (arith, h, w.0), omega (arith, h, w.1))
line_wider c l c' l' (states.Disjoint a b) h k w = (omega (arith, h, w.0), omega (arith, h, w.1))
line_wider c l c' l' (states.Assoc p a m b n) h k w = (omega (arith, k, w.0), omega (arith, h, w.1), omega (arith, h, w.2))
line_wider c l c' l' (states.Attr a u k m) h i w = (omega (arith, h, w.0), omega (arith, i, w.1))
line_wider c l c' l' (states.SubAssoc q d p) h k w = (omega (arith, k, w.0), omega (arith, k, w.1))
line_wider c l c' l' (states.SubAttr u v) h k w = (omega (arith, k, w.0), omega (arith, k, w.1))
line_wider c l c' l' (states.DisjointAssoc q d p) h k w = (omega (arith, k, w.0), omega (arith, k, w.1))
line_wider c l c' l' (states.Identify a us) h k w = (omega (arith, h, w.0), λ u m. let v = w.1 u m in omega (arith, k, v))

more_sides : (sides more : List Side) (line : Statement) → IsLineSorted sides line → IsLineSorted (sides ++ more) line
more_sides sides more (states.Class a) w = tt
more_sides sides more (states.Sub a b) w = tt
more_sides sides more (states.Disjoint a b) w = tt
more_sides sides more (states.Assoc p a m b n) w = kept_place sides more p.0 Object w
more_sides sides more (states.Attr a u k m) w = kept_place sides more u.0 (Value k) w
more_sides sides more (states.SubAssoc q d p) w = (kept_place sides more q.0 Object w.0, kept_place sides more p.0 Object w.1)
more_sides sides more (states.SubAttr u v) w = (w.0, kept_place sides more u.0 (Value w.0) w.1, kept_place sides more v.0 (Value w.0) w.2)
more_sides sides more (states.DisjointAssoc q d p) w = (kept_place sides more q.0 Object w.0, kept_place sides more p.0 Object w.1)
more_sides sides more (states.Identify a us) w =
    record { some = w.some; few = w.few; differ = w.differ; attributes = λ u m. let a = w.attributes u m in (a.0, kept_place sides more u.0 (Value a.0) a.1) }

-- no line
pub nothing_kept : (classes links : List (List ℕ)) (sides : List Side) → AreLinesKept (record { classes = classes; links = links; sides = sides; lines = [] })
nothing_kept classes links sides = record {
  within = λ line m. elim m [ ];
  sorted = λ line m. elim m [ ];
  free = λ p line other m. elim m [ ];
}

pub none_kept : AreLinesKept nothing
none_kept = nothing_kept [] [] []

pub one_more_class : (classes links : List (List ℕ)) (sides : List Side) (lines : List Statement) (name : List ℕ) →
    AreLinesKept (record { classes = classes; links = links; sides = sides; lines = lines }) → AreLinesKept (record { classes = classes ++ name ∷ []; links = links; sides = sides; lines = lines })
one_more_class classes links sides lines name w = record {
  within = λ line m. line_wider (length classes) (length links) (length (classes ++ name ∷ [])) (length links) line (omega (arith, length-append classes (name ∷ []))) (omega arith) (w.within line m);
  sorted = w.sorted;
  free = w.free;
}

pub one_more_link : (classes links : List (List ℕ)) (sides : List Side) (lines : List Statement) (name : List ℕ) (side : Side) →
    AreLinesKept (record { classes = classes; links = links; sides = sides; lines = lines }) → AreLinesKept (record { classes = classes; links = links ++ name ∷ []; sides = sides ++ side ∷ []; lines = lines })
one_more_link classes links sides lines name side w = record {
  within = λ line m. line_wider (length classes) (length links) (length classes) (length (links ++ name ∷ [])) line (omega arith) (omega (arith, length-append links (name ∷ []))) (w.within line m);
  sorted = λ line m. more_sides sides (side ∷ []) line (w.sorted line m);
  free = w.free;
}

named_kept : (s : Known) (line : Line) → AreLinesKept s → AreLinesKept (named s line)
named_kept s (lines.Class a) w = one_more_class s.classes s.links s.sides s.lines a w
named_kept s (lines.Sub a b) w = w
named_kept s (lines.Disjoint a b) w = w
named_kept s (lines.Assoc p a m b n) w = one_more_link s.classes s.links s.sides s.lines p Object w
named_kept s (lines.Attr a u k m) w = one_more_link s.classes s.links s.sides s.lines u (Value k) w
named_kept s (lines.SubAssoc q d p) w = w
named_kept s (lines.SubAttr u v) w = w
named_kept s (lines.DisjointAssoc q d p) w = w
named_kept s (lines.Identify a us) w = w

both_classes : (s : Known) (a b : List ℕ) → (not (is_class s a) || not (is_class s b)) ≡ false → ((class_of s a).0 < length s.classes) × ((class_of s b).0 < length s.classes)
both_classes s a b h = let w = neither (not (is_class s a)) (not (is_class s b)) h in (numbered_class s a (not_told (is_class s a) w.0), numbered_class s b (not_told (is_class s b) w.1))

both_associations : (s : Known) (q p : List ℕ) → (not (is_association s q) || not (is_association s p)) ≡ false → IsLink s q Object × IsLink s p Object
both_associations s q p h =
    let w = neither (not (is_association s q)) (not (is_association s p)) h in
    (an_association s q (not_told (is_association s q) w.0), an_association s p (not_told (is_association s p) w.1))

-- what `identify A (U, V)` mismatches not
record Identifies (s : Known) (a : List ℕ) (us : List (List ℕ)) : Type 0 where
  class : is_class s a ≡ true
  attributes : list_any (λ u. not (is_attribute s u)) us ≡ false
  once : has_twice us ≡ false

identifies : (s : Known) (a : List ℕ) (us : List (List ℕ)) → mismatch s (lines.Identify a us) ≡ false → Identifies s a us
identifies s a us h =
    let w = neither (not (is_class s a) || list_any (λ u. not (is_attribute s u)) us) (has_twice us) h in
    let o = neither (not (is_class s a)) (list_any (λ u. not (is_attribute s u)) us) w.0 in
    record { class = not_told (is_class s a) o.0; attributes = o.1; once = w.1 }

-- a line that mismatches nothing states what is within
stated_within : (s : Known) (line : Line) → mismatch s line ≡ false → IsLineWithin (length (named s line).classes) (length (named s line).links) (stated s line)
stated_within s (lines.Class a) h = omega (arith, length-append s.classes (a ∷ []))
stated_within s (lines.Sub a b) h = both_classes s a b h
stated_within s (lines.Disjoint a b) h = both_classes s a b h
stated_within s (lines.Assoc p a m b n) h = let w = both_classes s a b h in (omega (arith, length-append s.links (p ∷ [])), w.0, w.1)
stated_within s (lines.Attr a u k m) h = (numbered_class s a (not_told (is_class s a) h), omega (arith, length-append s.links (u ∷ [])))
stated_within s (lines.SubAssoc q d p) h = let w = both_associations s q p h in (w.0.within, w.1.within)
stated_within s (lines.SubAttr u v) h = let w = two_attributes s u v (not_told _ h) in (w.1.within, w.2.within)
stated_within s (lines.DisjointAssoc q d p) h = let w = both_associations s q p h in (w.0.within, w.1.within)
stated_within s (lines.Identify a us) h = let w = identifies s a us h in (numbered_class s a w.class, λ u m. (each_attribute s us u w.attributes m).0)

-- where no count passes its number, a line has few identifying attributes
not_passed : (c : Counted) (n : ℕ) (rest : List (Counted × ℕ)) → first_passed ((c, n) ∷ rest) ≡ None → (n ≤ limit_of c) × (first_passed rest ≡ None)
not_passed c n rest h = by_test (nat_lt (limit_of c) n) refl h
  where
    by_test : (t : Bool) → nat_lt (limit_of c) n ≡ t → (if t then Some c else first_passed rest) ≡ None → (n ≤ limit_of c) × (first_passed rest ≡ None)
    by_test true e k = cc
    by_test false e k = (ltb-false (limit_of c) n e, k)

few_identify : (s : Known) (line : Line) → passed (counts_with s line) ≡ None → identifying line ≤ 3
few_identify s line h =
    let c = counts_with s line in
    let last : List (Counted × ℕ) = (Constraints, c.constraints) ∷ [] in
    let from : List (Counted × ℕ) = (IdentifyingAttributes, c.identifying) ∷ last in
    let a = not_passed Classes c.classes ((Links, c.links) ∷ (Axioms, c.axioms) ∷ from) h in
    let b = not_passed Links c.links ((Axioms, c.axioms) ∷ from) a.1 in
    let d = not_passed Axioms c.axioms from b.1 in
    (not_passed IdentifyingAttributes c.identifying last d.1).0

-- and what has its sorts
stated_sorted : (s : Known) (line : Line) → length s.sides ≡ length s.links → mismatch s line ≡ false → passed (counts_with s line) ≡ None → NamesSome line → IsLineSorted (named s line).sides (stated s line)
stated_sorted s (lines.Class a) e h p n = tt
stated_sorted s (lines.Sub a b) e h p n = tt
stated_sorted s (lines.Disjoint a b) e h p n = tt
stated_sorted s (lines.Assoc q a m b n) e h p i = subst (λ k. HasSide (s.sides ++ Object ∷ []) (link k) Object) e (last_place s.sides Object)
stated_sorted s (lines.Attr a u k m) e h p n = subst (λ i. HasSide (s.sides ++ Value k ∷ []) (link i) (Value k)) e (last_place s.sides (Value k))
stated_sorted s (lines.SubAssoc q d r) e h p n = let w = both_associations s q r h in (w.0.sorted, w.1.sorted)
stated_sorted s (lines.SubAttr u v) e h p n = let w = two_attributes s u v (not_told _ h) in (w.0, w.1.sorted, w.2.sorted)
stated_sorted s (lines.DisjointAssoc q d r) e h p n = let w = both_associations s q r h in (w.0.sorted, w.1.sorted)
stated_sorted s (lines.Identify a us) e h p n =
    let w = identifies s a us h in
    let few = few_identify s (lines.Identify a us) p in
    let many = length-map us (link_of s) in
    record {
      some = subst (λ k. 1 ≤ k) (sym many) n;
      few = subst (λ k. k ≤ 3) (sym many) few;
      differ = different s us w.attributes w.once;
      attributes = λ u m. (each_attribute s us u w.attributes m).1;
    }

-- a new link is none of those that have one below them
not_new : (s : Known) (p : LinkId) (b : Bool) → p.0 < length s.links → ((length s.links == p.0) && b) ≡ false
not_new s p b lt = ap (λ t. t && b) (ne_eqb (length s.links) p.0 (λ e. absurd (omega (arith, e, lt))))

widened_within : (classes links : ℕ) (line : Statement) (p : LinkId) → IsLineWithin classes links line → Widens p line → p.0 < links
widened_within classes links (states.Class a) p w h = elim h [ ]
widened_within classes links (states.Sub a b) p w h = elim h [ ]
widened_within classes links (states.Disjoint a b) p w h = elim h [ ]
widened_within classes links (states.Assoc q a m b n) p w h = elim h [ ]
widened_within classes links (states.Attr a u k m) p w h = elim h [ ]
widened_within classes links (states.SubAssoc q d r) p w h = subst (λ z. z.0 < links) h w.1
widened_within classes links (states.SubAttr u v) p w h = subst (λ z. z.0 < links) h w.1
widened_within classes links (states.DisjointAssoc q d r) p w h = elim h [ ]
widened_within classes links (states.Identify a us) p w h = elim h [ ]

-- the last line bounds no link that is there
last_bounds : (s : Known) (line : Line) (p : LinkId) → p.0 < length s.links → bounds p (stated s line) ≡ false
last_bounds s (lines.Class a) p lt = refl
last_bounds s (lines.Sub a b) p lt = refl
last_bounds s (lines.Disjoint a b) p lt = refl
last_bounds s (lines.Assoc q a m b n) p lt = not_new s p (ends_with_one m || ends_with_one n) lt
last_bounds s (lines.Attr a u k m) p lt = not_new s p (ends_with_one m) lt
last_bounds s (lines.SubAssoc q d r) p lt = refl
last_bounds s (lines.SubAttr u v) p lt = refl
last_bounds s (lines.DisjointAssoc q d r) p lt = refl
last_bounds s (lines.Identify a us) p lt = refl

-- the link that the last line puts one below is not functional
last_widens : (s : Known) (line : Line) (p : LinkId) → specialised s line ≡ false → Widens p (stated s line) → is_functional s.lines p ≡ false
last_widens s (lines.Class a) p f h = elim h [ ]
last_widens s (lines.Sub a b) p f h = elim h [ ]
last_widens s (lines.Disjoint a b) p f h = elim h [ ]
last_widens s (lines.Assoc q a m b n) p f h = elim h [ ]
last_widens s (lines.Attr a u k m) p f h = elim h [ ]
last_widens s (lines.SubAssoc q d r) p f h = subst (λ z. is_functional s.lines z ≡ false) h f
last_widens s (lines.SubAttr u v) p f h = subst (λ z. is_functional s.lines z ≡ false) h f
last_widens s (lines.DisjointAssoc q d r) p f h = elim h [ ]
last_widens s (lines.Identify a us) p f h = elim h [ ]

-- a line that puts a link below another bounds none
widening_bounds : (line : Statement) (p : LinkId) → Widens p line → bounds p line ≡ false
widening_bounds (states.Class a) p h = elim h [ ]
widening_bounds (states.Sub a b) p h = elim h [ ]
widening_bounds (states.Disjoint a b) p h = elim h [ ]
widening_bounds (states.Assoc q a m b n) p h = elim h [ ]
widening_bounds (states.Attr a u k m) p h = elim h [ ]
widening_bounds (states.SubAssoc q d r) p h = refl
widening_bounds (states.SubAttr u v) p h = refl
widening_bounds (states.DisjointAssoc q d r) p h = elim h [ ]
widening_bounds (states.Identify a us) p h = elim h [ ]

same_lines : (s : Known) (line : Line) → (named s line).lines ≡ s.lines
same_lines s (lines.Class a) = refl
same_lines s (lines.Sub a b) = refl
same_lines s (lines.Disjoint a b) = refl
same_lines s (lines.Assoc p a m b n) = refl
same_lines s (lines.Attr a u k m) = refl
same_lines s (lines.SubAssoc q d p) = refl
same_lines s (lines.SubAttr u v) = refl
same_lines s (lines.DisjointAssoc q d p) = refl
same_lines s (lines.Identify a us) = refl

-- an item of a list with one item more is old or the last
old_or_last : {X : Type 0} {x y : X} (xs : List X) → In x (xs ++ y ∷ []) → In x xs ⊎ (y ≡ x)
old_or_last {X} {x} {y} xs m = elim (In-append_cases xs (y ∷ []) m) [ inl h ↦ inl h | inr h ↦ inr (only h) ]
  where
    only : In x (y ∷ []) → y ≡ x
    only (here e) = e
    only (there k) = elim k [ ]

all_more : (P : Statement → Type 0) (statements : List Statement) (last : Statement) → ((line : Statement) → In line statements → P line) → P last → (line : Statement) → In line (statements ++ last ∷ []) → P line
all_more P statements last old new line m = elim (old_or_last statements m) [ inl h ↦ old line h | inr e ↦ subst P e new ]

free_more : (s : Known) (line : Line) → specialised s line ≡ false → AreLinesKept s → AreLinesFree (s.lines ++ stated s line ∷ [])
unfolding is_functional
free_more s line f w p one other m h k = elim (old_or_last s.lines m) [ inl i ↦ old_one i | inr e ↦ last_one e ]
  where
    old_one : In one s.lines → bounds p other ≡ false
    old_one i = elim (old_or_last s.lines k) [
      | inl j ↦ w.free p one other i h j
      | inr e ↦ subst (λ z. bounds p z ≡ false) e (last_bounds s line p (widened_within (length s.classes) (length s.links) one p (w.within one i) h))
    ]

    last_one : stated s line ≡ one → bounds p other ≡ false
    last_one e =
        let widens : Widens p (stated s line) = subst (Widens p) (sym e) h in
        elim (old_or_last s.lines k) [
          | inl j ↦ none_of (bounds p) other s.lines (last_widens s line p f widens) j
          | inr g ↦ subst (λ z. bounds p z ≡ false) g (widening_bounds (stated s line) p widens)
        ]

grown_kept : (s : Known) (line : Line) → length s.sides ≡ length s.links → mismatch s line ≡ false → specialised s line ≡ false → passed (counts_with s line) ≡ None → NamesSome line → AreLinesKept s → AreLinesKept (grown s line)
grown_kept s line e h f p n w =
    let kept = named_kept s line w in
    record {
      within = all_more (IsLineWithin (length (named s line).classes) (length (named s line).links)) (named s line).lines (stated s line) kept.within (stated_within s line h);
      sorted = all_more (IsLineSorted (named s line).sides) (named s line).lines (stated s line) kept.sorted (stated_sorted s line e h p n);
      free = subst (λ ls. AreLinesFree (ls ++ stated s line ∷ [])) (sym (same_lines s line)) (free_more s line f w);
    }

pub one_more_line : (s t : Known) (line : Line) → t ≡ grown s line → length s.sides ≡ length s.links → mismatch s line ≡ false → specialised s line ≡ false → passed (counts_with s line) ≡ None → NamesSome line → AreLinesKept s → AreLinesKept t
one_more_line s t line is e h f p n w = subst AreLinesKept (sym is) (grown_kept s line e h f p n w)
