-- The numbers of names: each class and link is that of a declaration, and each declared one has its number.
use Rattle.std.proofs.Common.{◌≡◌, refl, sym, subst, ap, ◌∙◌, ℕ, zero, suc, ◌<◌, ◌≤◌, Bool, true, false, cond, not, ◌==◌, List, [], ◌∷◌, ◌++◌, inl, inr, Option, Some, None, length, get_or, slice_get, nat_lt, arith}
use Rattle.std.specs.List.{fold, position_or_len}
use Rattle.std.specs.Str.{bytes_eq}
use Rattle.std.proofs.lemmas.Bool.Decides.{nat_tests}
use Rattle.std.proofs.lemmas.List.Quantifiers.{position-Some}
use Rattle.std.proofs.lemmas.List.Sums.{prefix_len_passes}
use Rattle.std.proofs.lemmas.Option.{slice_get-get_or}
use Rattle.std.proofs.lemmas.Slice.Eq.{bytes_eq-Decides}
use Rattle.vocabulary.specs.declared.ids.Side.{Side}
use Rattle.vocabulary.specs.Lists.{In, here, there, Pairwise}
use Rattle.vocabulary.specs.Texts.{number_of}
use Rattle.vocabulary.proofs.Lists.{In-append_left, In-append_right, In-append_cases}
use Rattle.vocabulary.proofs.Members.{Contains-from_In}
use Rattle.uml_model.specs.Sorts.{AreDifferent}
use Rattle.owl_functional.specs.declared.numbered.Numbered.{Numbered}
use Rattle.owl_functional.specs.declared.tree.Entity.{Entity}
use Rattle.owl_functional.specs.declared.tree.Form.{Form}
use Rattle.owl_functional.specs.declared.tree.Form.TheVariants.{Unsupported, Silent, Declaration, Sub, Disjoint, Kind, SubLink, Func}
use Rattle.owl_functional.specs.declared.tree.Axiom.{Axiom}
use Rattle.owl_functional.specs.Rules.{name_of, sort_rank}
use Rattle.owl_functional.specs.Ontology.{none, side_of, with_class, with_link, with_entity, with_axiom, numbered}
use Rattle.owl_functional.proofs.Pieces.{either}
use Rattle.owl_functional.proofs.Clean.{Declares}

-- the number of a text
pub place_of : (texts : List (List ℕ)) (text : List ℕ) (n : ℕ) → number_of texts text ≡ Some n → (n < length texts) × (slice_get texts n ≡ Some text)
place_of texts text n e =
    let at = position-Some (bytes_eq text) texts n text e in
    (at.0, slice_get-get_or texts n text at.0 ∙ ap Some (sym ((bytes_eq-Decides text (get_or texts n text)).0 at.1)))

pub some_is : {X : Type 0} (x y : X) → Some x ≡ Some y → x ≡ y
some_is x y e = cc

at_place : {X : Type 0} (xs : List X) (n : ℕ) (x : X) → slice_get xs n ≡ Some x → In x xs
at_place [] n x e = cc
at_place (y ∷ xs) zero x e = here (some_is y x e)
at_place (y ∷ xs) (suc n) x e = there (at_place xs n x e)

no_some : (t : Bool) (n : ℕ) → cond t (Some n) None ≡ None → t ≡ false
no_some true n e = cc
no_some false n e = refl

not_self : (b : Bool) → b ≡ true → not b ≡ true → ⊥
not_self true e h = cc
not_self false e h = cc

no_number : (texts : List (List ℕ)) (text : List ℕ) → number_of texts text ≡ None → In text texts → ⊥
no_number texts text e m =
    let at = Contains-from_In m in
    let not_less : nat_lt (position_or_len (bytes_eq text) texts) (length texts) ≡ false = no_some (nat_lt (position_or_len (bytes_eq text) texts) (length texts)) (position_or_len (bytes_eq text) texts) e in
    let past : length texts ≤ position_or_len (bytes_eq text) texts = grind (arith, nat_tests, not_less) in
    let fails : not (bytes_eq text (get_or texts at.0 text)) ≡ true = prefix_len_passes (λ x. not (bytes_eq text x)) texts at.0 text (omega (arith, past, at.1)) in
    not_self (bytes_eq text (get_or texts at.0 text)) ((bytes_eq-Decides text (get_or texts at.0 text)).1 (sym at.2)) fails

pub a_number : (texts : List (List ℕ)) (text : List ℕ) → In text texts → (n : ℕ) × (number_of texts text ≡ Some n)
a_number texts text m = by (number_of texts text) refl
  where
    by : (o : Option ℕ) → number_of texts text ≡ o → (n : ℕ) × (number_of texts text ≡ Some n)
    by None e = elim (no_number texts text e m) [ ]
    by (Some n) e = (n, e)

-- lists with one item more
pub one_more_different : (xs : List (List ℕ)) (x : List ℕ) → AreDifferent xs → (In x xs → ⊥) → AreDifferent (xs ++ x ∷ [])
one_more_different [] x d absent = (λ m. elim m [ ], tt)
one_more_different (y ∷ xs) x d absent = (λ m. elim (In-append_cases xs (x ∷ []) m) [ inl h ↦ d.0 h | inr (here e) ↦ absent (here (sym e)) | inr (there k) ↦ elim k [ ] ], one_more_different xs x d.1 (λ m. absent (there m)))

pub all_different : (xs ys : List (List ℕ)) → AreDifferent xs → AreDifferent ys → ((x : List ℕ) → In x xs → In x ys → ⊥) → AreDifferent (xs ++ ys)
all_different [] ys d e apart = e
all_different (x ∷ xs) ys d e apart = (λ m. elim (In-append_cases xs ys m) [ inl h ↦ d.0 h | inr h ↦ apart x (here refl) h ], all_different xs ys d.1 e (λ y m n. apart y (there m) n))

module _ {A B : Type 0} (R : A → B → Type 0) where
  one_more_pair : (xs : List A) (ys : List B) (x : A) (y : B) → Pairwise R xs ys → R x y → Pairwise R (xs ++ x ∷ []) (ys ++ y ∷ [])
  one_more_pair [] [] x y h r = (r, tt)
  one_more_pair [] (z ∷ ys) x y h r = elim h [ ]
  one_more_pair (w ∷ xs) [] x y h r = elim h [ ]
  one_more_pair (w ∷ xs) (z ∷ ys) x y h r = (h.0, one_more_pair xs ys x y h.1 r)

  pub same_length : (xs : List A) (ys : List B) → Pairwise R xs ys → length ys ≡ length xs
  same_length [] [] h = refl
  same_length [] (y ∷ ys) h = elim h [ ]
  same_length (x ∷ xs) [] h = elim h [ ]
  same_length (x ∷ xs) (y ∷ ys) h = ap suc (same_length xs ys h.1)

  pub pair_at : (xs : List A) (ys : List B) (n : ℕ) (x : A) → Pairwise R xs ys → slice_get xs n ≡ Some x → (y : B) × (slice_get ys n ≡ Some y) × R x y
  pair_at [] ys n x h e = cc
  pair_at (w ∷ xs) [] n x h e = elim h [ ]
  pair_at (w ∷ xs) (z ∷ ys) zero x h e = (z, refl, subst (λ v. R v z) (some_is w x e) h.0)
  pair_at (w ∷ xs) (z ∷ ys) (suc n) x h e = pair_at xs ys n x h.1 e

  pub pair_of : (xs : List A) (ys : List B) (x : A) → Pairwise R xs ys → In x xs → (y : B) × R x y
  pair_of [] ys x h m = elim m [ ]
  pair_of (w ∷ xs) [] x h m = elim h [ ]
  pair_of (w ∷ xs) (z ∷ ys) x h (here e) = (z, subst (λ v. R v z) e h.0)
  pair_of (w ∷ xs) (z ∷ ys) x h (there m) = pair_of xs ys x h.1 m

-- the cases of one axiom more
module _ (all : List Axiom) (P : Numbered → Type 0) where
  class_cases : (n : Numbered) (name : List ℕ) → (number_of n.classes name ≡ None → P (record n { classes = n.classes ++ name ∷ [] })) → ((k : ℕ) → number_of n.classes name ≡ Some k → P n) → P (with_class n name)
  class_cases n name new old = by (number_of n.classes name) refl
    where
      by : (o : Option ℕ) → number_of n.classes name ≡ o → P (elim o [ None ↦ record n { classes = n.classes ++ name ∷ [] } | Some k ↦ n ])
      by None e = new e
      by (Some k) e = old k e

  link_cases : (n : Numbered) (name : List ℕ) (side : Side) → (number_of n.links name ≡ None → P (record n { links = n.links ++ name ∷ []; sides = n.sides ++ side ∷ [] })) → ((k : ℕ) → number_of n.links name ≡ Some k → P n) → P (with_link n name side)
  link_cases n name side new old = by (number_of n.links name) refl
    where
      by : (o : Option ℕ) → number_of n.links name ≡ o → P (elim o [ None ↦ record n { links = n.links ++ name ∷ []; sides = n.sides ++ side ∷ [] } | Some k ↦ n ])
      by None e = new e
      by (Some k) e = old k e

  record Cases (n : Numbered) (e : Entity) : Type 0 where
    pub new_class : (sort_rank e.sort == 0) ≡ true → number_of n.classes (name_of e.iri) ≡ None → P (record n { classes = n.classes ++ name_of e.iri ∷ [] })
    pub old_class : (sort_rank e.sort == 0) ≡ true → (k : ℕ) → number_of n.classes (name_of e.iri) ≡ Some k → P n
    pub new_link : (sort_rank e.sort == 0) ≡ false → number_of n.links (name_of e.iri) ≡ None → P (record n { links = n.links ++ name_of e.iri ∷ []; sides = n.sides ++ side_of all e ∷ [] })
    pub old_link : (sort_rank e.sort == 0) ≡ false → (k : ℕ) → number_of n.links (name_of e.iri) ≡ Some k → P n

  entity_cases : (n : Numbered) (e : Entity) → Cases n e → P (with_entity all n e)
  entity_cases n e c = either P (sort_rank e.sort == 0) _ _
      (λ yes. class_cases n (name_of e.iri) (c.new_class yes) (c.old_class yes))
      (λ no. link_cases n (name_of e.iri) (side_of all e) (c.new_link no) (c.old_link no))

  axiom_cases : (n : Numbered) (line : ℕ) (x : Form) → P n → ((e : Entity) → x ≡ Declaration e → P (with_entity all n e)) → P (with_axiom all n (record { line = line; form = x }))
  axiom_cases n line Unsupported stays more = stays
  axiom_cases n line Silent stays more = stays
  axiom_cases n line (Declaration e) stays more = more e refl
  axiom_cases n line (Sub b c) stays more = stays
  axiom_cases n line (Disjoint cs) stays more = stays
  axiom_cases n line (Kind u k) stays more = stays
  axiom_cases n line (SubLink q d p) stays more = stays
  axiom_cases n line (Func p d) stays more = stays

  keeps : ((n : Numbered) (a : Axiom) → In a all → P n → P (with_axiom all n a)) → (axioms : List Axiom) → ((a : Axiom) → In a axioms → In a all) → (n : Numbered) → P n → P (fold (with_axiom all) n axioms)
  keeps step [] within n p = p
  keeps step (a ∷ axioms) within n p = keeps step axioms (λ b m. within b (there m)) (with_axiom all n a) (step n a (within a (here refl)) p)

  reaches : ((n : Numbered) (a : Axiom) → In a all → P n → P (with_axiom all n a)) → (a : Axiom) → ((n : Numbered) → P (with_axiom all n a)) → (axioms : List Axiom) → ((a : Axiom) → In a axioms → In a all) → (n : Numbered) → In a axioms → P (fold (with_axiom all) n axioms)
  reaches step a arrives [] within n m = elim m [ ]
  reaches step a arrives (b ∷ axioms) within n (here e) = keeps step axioms (λ c m. within c (there m)) (with_axiom all n b) (subst (λ c. P (with_axiom all n c)) (sym e) (arrives n))
  reaches step a arrives (b ∷ axioms) within n (there m) = reaches step a arrives axioms (λ c k. within c (there k)) (with_axiom all n b) m

module _ (all : List Axiom) where
  -- the name of a declared class
  pub record IsClassOf (name : List ℕ) : Type 0 where
    pub class : Entity
    pub told : Declares all class
    pub rank : (sort_rank class.sort == 0) ≡ true
    pub named : name_of class.iri ≡ name

  -- the name of a declared property, and its sort
  pub record IsLinkOf (name : List ℕ) (side : Side) : Type 0 where
    pub link : Entity
    pub told : Declares all link
    pub rank : (sort_rank link.sort == 0) ≡ false
    pub named : name_of link.iri ≡ name
    pub sided : side_of all link ≡ side

  -- names and sides are those of declarations
  pub record IsNumbering (n : Numbered) : Type 0 where
    pub each_class : (name : List ℕ) → In name n.classes → IsClassOf name
    pub classes_differ : AreDifferent n.classes
    pub each_link : Pairwise IsLinkOf n.links n.sides
    pub links_differ : AreDifferent n.links

  entity_numbered : (n : Numbered) (e : Entity) → Declares all e → IsNumbering n → IsNumbering (with_entity all n e)
  entity_numbered n e d i = entity_cases all IsNumbering n e (record {
    new_class = λ yes new. record {
      each_class = λ name m. elim (In-append_cases n.classes (name_of e.iri ∷ []) m) [ inl h ↦ i.each_class name h | inr (here is) ↦ record { class = e; told = d; rank = yes; named = is } | inr (there k) ↦ elim k [ ] ];
      classes_differ = one_more_different n.classes (name_of e.iri) i.classes_differ (no_number n.classes (name_of e.iri) new);
      each_link = i.each_link;
      links_differ = i.links_differ;
    };
    old_class = λ yes k is. i;
    new_link = λ no new. record {
      each_class = i.each_class;
      classes_differ = i.classes_differ;
      each_link = one_more_pair IsLinkOf n.links n.sides (name_of e.iri) (side_of all e) i.each_link (record { link = e; told = d; rank = no; named = refl; sided = refl });
      links_differ = one_more_different n.links (name_of e.iri) i.links_differ (no_number n.links (name_of e.iri) new);
    };
    old_link = λ no k is. i;
  })

  axiom_numbered : (n : Numbered) (a : Axiom) → In a all → IsNumbering n → IsNumbering (with_axiom all n a)
  axiom_numbered n a m i = axiom_cases all IsNumbering n a.line a.form i (λ e is. entity_numbered n e (record { said = a; stands = m; says = is }) i)

  none_numbered : IsNumbering none
  none_numbered = record { each_class = λ name m. elim m [ ]; classes_differ = tt; each_link = tt; links_differ = tt }

  pub all_numbered : IsNumbering (numbered all)
  all_numbered = keeps all IsNumbering axiom_numbered all (λ a m. m) none none_numbered

  -- a declared name is there
  module _ (name : List ℕ) where
    HasClass : Numbered → Type 0
    HasClass n = In name n.classes

    HasLink : Numbered → Type 0
    HasLink n = In name n.links

    class_stays : (n : Numbered) (e : Entity) → HasClass n → HasClass (with_entity all n e)
    unfolding HasClass
    class_stays n e h = entity_cases all HasClass n e (record { new_class = λ yes new. In-append_left (name_of e.iri ∷ []) h; old_class = λ yes k is. h; new_link = λ no new. h; old_link = λ no k is. h })

    link_stays : (n : Numbered) (e : Entity) → HasLink n → HasLink (with_entity all n e)
    unfolding HasLink
    link_stays n e h = entity_cases all HasLink n e (record { new_class = λ yes new. h; old_class = λ yes k is. h; new_link = λ no new. In-append_left (name_of e.iri ∷ []) h; old_link = λ no k is. h })

    class_kept : (n : Numbered) (a : Axiom) → In a all → HasClass n → HasClass (with_axiom all n a)
    class_kept n a m h = axiom_cases all HasClass n a.line a.form h (λ e is. class_stays n e h)

    link_kept : (n : Numbered) (a : Axiom) → In a all → HasLink n → HasLink (with_axiom all n a)
    link_kept n a m h = axiom_cases all HasLink n a.line a.form h (λ e is. link_stays n e h)

  wrong : {A : Type 0} (b : Bool) → b ≡ true → b ≡ false → A
  wrong true e h = absurd cc
  wrong false e h = absurd cc

  class_comes : (e : Entity) → (sort_rank e.sort == 0) ≡ true → (n : Numbered) → HasClass (name_of e.iri) (with_entity all n e)
  unfolding HasClass
  class_comes e class n = entity_cases all (HasClass (name_of e.iri)) n e (record {
    new_class = λ yes new. In-append_right n.classes (here refl);
    old_class = λ yes k is. at_place n.classes k (name_of e.iri) (place_of n.classes (name_of e.iri) k is).1;
    new_link = λ no new. wrong (sort_rank e.sort == 0) class no;
    old_link = λ no k is. wrong (sort_rank e.sort == 0) class no;
  })

  link_comes : (e : Entity) → (sort_rank e.sort == 0) ≡ false → (n : Numbered) → HasLink (name_of e.iri) (with_entity all n e)
  unfolding HasLink
  link_comes e link n = entity_cases all (HasLink (name_of e.iri)) n e (record {
    new_class = λ yes new. wrong (sort_rank e.sort == 0) yes link;
    old_class = λ yes k is. wrong (sort_rank e.sort == 0) yes link;
    new_link = λ no new. In-append_right n.links (here refl);
    old_link = λ no k is. at_place n.links k (name_of e.iri) (place_of n.links (name_of e.iri) k is).1;
  })

  declares_it : (P : Numbered → Type 0) (a : Axiom) (e : Entity) → a.form ≡ Declaration e → (n : Numbered) → P (with_entity all n e) → P (with_axiom all n a)
  declares_it P a e is n h = subst (λ x. P (with_axiom all n (record { line = a.line; form = x }))) (sym is) h

  pub class_there : (e : Entity) → Declares all e → (sort_rank e.sort == 0) ≡ true → In (name_of e.iri) (numbered all).classes
  unfolding HasClass
  class_there e d class = reaches all (HasClass (name_of e.iri)) (class_kept (name_of e.iri)) d.said (λ n. declares_it (HasClass (name_of e.iri)) d.said e d.says n (class_comes e class n)) all (λ a m. m) none d.stands

  pub link_there : (e : Entity) → Declares all e → (sort_rank e.sort == 0) ≡ false → In (name_of e.iri) (numbered all).links
  unfolding HasLink
  link_there e d link = reaches all (HasLink (name_of e.iri)) (link_kept (name_of e.iri)) d.said (λ n. declares_it (HasLink (name_of e.iri)) d.said e d.says n (link_comes e link n)) all (λ a m. m) none d.stands
