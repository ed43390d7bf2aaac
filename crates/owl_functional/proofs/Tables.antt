-- Tables of texts, read axiom by axiom.
use Rattle.std.proofs.Common.{◌≡◌, refl, sym, subst, ap, ◌∙◌, ℕ, zero, suc, ◌<◌, ◌≤◌, ◌+◌, Bool, true, false, cond, not, ◌&&◌, ◌||◌, List, [], ◌∷◌, ◌++◌, Option, Some, None, if◌then◌else◌, length, get_or, take, slice_get, nat_lt, option_map, option_and_then, unwrap_or, arith, MatchOption, length-append, Result, Ok, Err, OnOk}
use Rattle.std.specs.List.{list_any, position, prefix_len}
use Rattle.std.specs.Str.{bytes_eq}
use Rattle.std.proofs.lemmas.Bool.Decides.{nat_tests}
use Rattle.std.proofs.lemmas.List.{take_more, take_all}
use Rattle.std.proofs.lemmas.List.Folds.{list_any-append, list_any_more, list_any_at}
use Rattle.std.proofs.lemmas.List.Quantifiers.{position-Some}
use Rattle.std.proofs.lemmas.Option.{slice_get-get_or}
use Rattle.std.proofs.lemmas.Slice.Eq.{bytes_eq-Decides}
use Rattle.vocabulary.specs.declared.ids.ValueKind.{ValueKind}
use Rattle.vocabulary.specs.declared.ids.ValueKind.TheVariants.{Text}
use Rattle.vocabulary.specs.Texts.{number_of, Numbers}
use Rattle.owl_functional.specs.declared.entities.Entities.{Entities}
use Rattle.owl_functional.specs.declared.tree.Sort.{Sort}
use Rattle.owl_functional.specs.declared.tree.Sort.TheVariants.{Class as ClassSort, ObjectProperty, DataProperty}
use Rattle.owl_functional.specs.declared.tree.Entity.{Entity}
use Rattle.owl_functional.specs.declared.tree.Form.{Form}
use Rattle.owl_functional.specs.declared.tree.Form.TheVariants.{Unsupported, Silent, Declaration, Sub, Disjoint, Kind, SubLink, Func}
use Rattle.owl_functional.specs.declared.tree.Axiom.{Axiom}
use Rattle.owl_functional.specs.Rules.{name_of, same, range_of, kind_in, takes, is_double, is_declaration_beside, or_else}
use Rattle.owl_functional.specs.Lookup.{of_sort, has_entity, AreTold, beside, AreKinds, owner_in, is_other, AreOwners}
use Rattle.owl_functional.proofs.Clean.{not_false, same_is}

or_false : (b : Bool) → (b || false) ≡ b
or_false true = refl
or_false false = refl

-- texts
turned_eq : (a b : List ℕ) → bytes_eq a b ≡ bytes_eq b a
turned_eq a b = by (bytes_eq a b) (bytes_eq b a) refl refl
  where
    by : (s t : Bool) → bytes_eq a b ≡ s → bytes_eq b a ≡ t → bytes_eq a b ≡ bytes_eq b a
    by true t e f = e ∙ sym ((bytes_eq-Decides b a).1 (sym ((bytes_eq-Decides a b).0 e)))
    by false true e f = (bytes_eq-Decides a b).1 (sym ((bytes_eq-Decides b a).0 f)) ∙ sym f
    by false false e f = e ∙ sym f

-- the place of the first text that passes, by the first text
first_passes : (p : List ℕ → Bool) (x : List ℕ) (xs : List (List ℕ)) → position p (x ∷ xs) ≡ cond (p x) (Some 0) (option_map suc (position p xs))
first_passes p x xs = by (p x) refl
  where
    by_rest : (c : Bool) → nat_lt (prefix_len (λ y. not (p y)) xs) (length xs) ≡ c → p x ≡ false → position p (x ∷ xs) ≡ option_map suc (position p xs)
    by_rest true e h =
        let n = prefix_len (λ y. not (p y)) xs in
        let here_too : nat_lt (1 + n) (length (x ∷ xs)) ≡ true = grind (arith, nat_tests, e) in
        let same_number : 1 + n ≡ suc n = omega arith in
        rw (h, here_too, e, same_number) refl
    by_rest false e h =
        let n = prefix_len (λ y. not (p y)) xs in
        let here_too : nat_lt (1 + n) (length (x ∷ xs)) ≡ false = grind (arith, nat_tests, e) in
        rw (h, here_too, e) refl

    by : (b : Bool) → p x ≡ b → position p (x ∷ xs) ≡ cond (p x) (Some 0) (option_map suc (position p xs))
    by true e =
        let some : nat_lt 0 (length (x ∷ xs)) ≡ true = grind (arith, nat_tests) in
        rw (e, some) refl
    by false e = by_rest (nat_lt (prefix_len (λ y. not (p y)) xs) (length xs)) refl e ∙ ap (λ b. cond b (Some 0) (option_map suc (position p xs))) (sym e)

-- the number of a text with one text more at the end
one_number_more : (texts : List (List ℕ)) (x t : List ℕ) → number_of (texts ++ x ∷ []) t ≡ or_else (number_of texts t) (if bytes_eq t x then Some (length texts) else None)
one_number_more [] x t = first_passes (bytes_eq t) x []
one_number_more (y ∷ texts) x t =
    first_passes (bytes_eq t) y (texts ++ x ∷ []) ∙ ap (λ o. cond (bytes_eq t y) (Some 0) (option_map suc o)) (one_number_more texts x t)
    ∙ by (bytes_eq t y) (number_of texts t) (bytes_eq t x) ∙ ap (λ o. or_else o (if bytes_eq t x then Some (length (y ∷ texts)) else None)) (sym (first_passes (bytes_eq t) y texts))
  where
    by : (b : Bool) (o : Option ℕ) (c : Bool) → cond b (Some 0) (option_map suc (or_else o (if c then Some (length texts) else None))) ≡ or_else (cond b (Some 0) (option_map suc o)) (if c then Some (length (y ∷ texts)) else None)
    by true o c = refl
    by false (Some n) c = refl
    by false None true = refl
    by false None false = refl

module _ {X : Type 0} where
  kept_at : (xs : List X) (x : X) (n : ℕ) (y : X) → slice_get xs n ≡ Some y → slice_get (xs ++ x ∷ []) n ≡ Some y
  kept_at [] x n y e = cc
  kept_at (z ∷ xs) x zero y e = e
  kept_at (z ∷ xs) x (suc n) y e = kept_at xs x n y e

  last_at : (xs : List X) (x : X) → slice_get (xs ++ x ∷ []) (length xs) ≡ Some x
  last_at [] x = refl
  last_at (z ∷ xs) x = last_at xs x

  module _ (texts : List (List ℕ)) (values : List X) (long : length values ≡ length texts) (text : List ℕ) (v : X) where
    -- the text is new
    pub one_row_more : number_of texts text ≡ None → (t : List ℕ) → beside (texts ++ text ∷ []) (values ++ v ∷ []) t ≡ or_else (beside texts values t) (if bytes_eq text t then Some v else None)
    one_row_more new t = by (number_of texts t) refl
      where
        more : number_of (texts ++ text ∷ []) t ≡ or_else (number_of texts t) (if bytes_eq t text then Some (length texts) else None)
        more = one_number_more texts text t

        by_text : (b : Bool) → bytes_eq t text ≡ b → number_of texts t ≡ None → beside (texts ++ text ∷ []) (values ++ v ∷ []) t ≡ or_else (beside texts values t) (if bytes_eq text t then Some v else None)
        by_text true is none =
            let number : number_of (texts ++ text ∷ []) t ≡ Some (length texts) = rw (none, is) at more in
            let there : slice_get (values ++ v ∷ []) (length texts) ≡ Some v = ap (λ n. slice_get (values ++ v ∷ []) n) (sym long) ∙ last_at values v in
            let other : bytes_eq text t ≡ true = turned_eq text t ∙ is in
            rw (number, none, other) there
        by_text false is none =
            let number : number_of (texts ++ text ∷ []) t ≡ None = rw (none, is) at more in
            let other : bytes_eq text t ≡ false = turned_eq text t ∙ is in
            rw (number, none, other) refl

        by : (o : Option ℕ) → number_of texts t ≡ o → beside (texts ++ text ∷ []) (values ++ v ∷ []) t ≡ or_else (beside texts values t) (if bytes_eq text t then Some v else None)
        by (Some n) e =
            let number : number_of (texts ++ text ∷ []) t ≡ Some n = rw e at more in
            let low = (position-Some (bytes_eq t) texts n t e).0 in
            let old : slice_get values n ≡ Some (get_or values n v) = slice_get-get_or values n v (omega (arith, low, long)) in
            let kept : slice_get (values ++ v ∷ []) n ≡ Some (get_or values n v) = kept_at values v n (get_or values n v) old in
            rw (number, e, old) kept
        by None e = by_text (bytes_eq t text) refl e

    -- the text is there
    pub same_rows : (n : ℕ) → number_of texts text ≡ Some n → (t : List ℕ) → beside texts values t ≡ or_else (beside texts values t) (if bytes_eq text t then Some v else None)
    same_rows n there t = by (beside texts values t) (bytes_eq text t) refl refl
      where
        by : (o : Option X) (b : Bool) → beside texts values t ≡ o → bytes_eq text t ≡ b → o ≡ or_else o (if b then Some v else None)
        by (Some w) b e is = refl
        by None false e is = refl
        by None true e is =
            let same_text : text ≡ t = (bytes_eq-Decides text t).0 is in
            let low = (position-Some (bytes_eq text) texts n t there).0 in
            let some : beside texts values t ≡ Some (get_or values n v) = ap (λ x. beside texts values x) (sym same_text) ∙ ap (option_and_then (λ k. slice_get values k)) there ∙ slice_get-get_or values n v (omega (arith, low, long)) in
            let wrong : None ≡ Some (get_or values n v) = sym e ∙ some in
            absurd cc

    pub one_row_long : length (values ++ v ∷ []) ≡ length (texts ++ text ∷ [])
    one_row_long = omega (arith, long, length-append values (v ∷ []), length-append texts (text ∷ []))

-- one IRI more
pub one_iri_more : (old new : List (List ℕ)) (text : List ℕ) (n : ℕ) → Numbers old new text n → (other : List ℕ) → list_any (bytes_eq other) new ≡ (list_any (bytes_eq other) old || bytes_eq text other)
one_iri_more old new text n numbers other = by (number_of old text) refl numbers
  where
    or_true : (b : Bool) → (b || true) ≡ true
    or_true true = refl
    or_true false = refl

    by_text : (k : ℕ) → number_of old text ≡ Some k → (b : Bool) → bytes_eq text other ≡ b → list_any (bytes_eq other) old ≡ (list_any (bytes_eq other) old || b)
    by_text k e false is = sym (or_false (list_any (bytes_eq other) old))
    by_text k e true is =
        let same_text : text ≡ other = (bytes_eq-Decides text other).0 is in
        let at = position-Some (bytes_eq text) old k text e in
        let found : bytes_eq other (get_or old k text) ≡ true = subst (λ t. bytes_eq t (get_or old k text) ≡ true) same_text at.1 in
        list_any_at (bytes_eq other) old k text at.0 found ∙ sym (or_true (list_any (bytes_eq other) old))

    by : (o : Option ℕ) → number_of old text ≡ o → MatchOption o ((n ≡ length old) × (new ≡ old ++ text ∷ [])) (λ i. (n ≡ i) × (new ≡ old)) → list_any (bytes_eq other) new ≡ (list_any (bytes_eq other) old || bytes_eq text other)
    by None e h = ap (list_any (bytes_eq other)) h.1 ∙ list_any-append (bytes_eq other) old (text ∷ []) ∙ ap (λ b. list_any (bytes_eq other) old || b) (or_false (bytes_eq other text) ∙ turned_eq other text)
    by (Some k) e h = ap (list_any (bytes_eq other)) h.1 ∙ by_text k e (bytes_eq text other) refl

-- what follows where a call succeeds
pub on_ok : {X E A B : Type 0} (r : Result X E) → (A → B) → OnOk r A → OnOk r B
on_ok (Ok x) follows a = follows a
on_ok (Err e) follows a = tt

-- what adds nothing
pub or_none : (b : Bool) → b ≡ (b || false)
or_none true = refl
or_none false = refl

pub or_no : {X : Type 0} (o : Option X) → o ≡ or_else o None
or_no None = refl
or_no (Some x) = refl

-- no axiom yet
pub none_told : (says : Entity → Axiom → Bool) (s : Entities) → s ≡ record { classes = []; objects = []; values = [] } → AreTold says [] s
none_told says s is e = ap (λ x. has_entity x e) is ∙ by e.sort
  where
    by : (t : Sort) → list_any (bytes_eq e.iri) (of_sort (record { classes = []; objects = []; values = [] }) t) ≡ false
    by ClassSort = refl
    by ObjectProperty = refl
    by DataProperty = refl

-- one axiom more, of which a class or property is told
pub next_told : (says : Entity → Axiom → Bool) (axioms : List Axiom) (i : ℕ) (a : Axiom) (now next : Entities) → i < length axioms → a ≡ get_or axioms i a → AreTold says (take i axioms) now → ((e : Entity) → has_entity next e ≡ (has_entity now e || says e a)) → AreTold says (take (i + 1) axioms) next
next_told says axioms i a now next lt item so told e =
    told e ∙ ap (λ b. b || says e a) (so e) ∙ ap (λ x. list_any (says e) (take i axioms) || says e x) item ∙ sym (list_any_more (says e) axioms i a lt)

pub all_told : (says : Entity → Axiom → Bool) (axioms : List Axiom) (i : ℕ) (s : Entities) → length axioms ≤ i → AreTold says (take i axioms) s → AreTold says axioms s
all_told says axioms i s le so e = so e ∙ ap (list_any (says e)) (take_all i axioms le)

-- the first range of a data property
pub first_range : List Axiom → List ℕ → Option ValueKind
first_range [] iri = None
first_range (a ∷ axioms) iri = or_else (range_of a.form iri) (first_range axioms iri)

range_decides : (axioms : List Axiom) (iri : List ℕ) → unwrap_or (first_range axioms iri) Text ≡ kind_in axioms iri
unfolding first_range kind_in
range_decides [] iri = refl
range_decides (a ∷ axioms) iri = by (range_of a.form iri) (range_decides axioms iri)
  where
    by : (o : Option ValueKind) → unwrap_or (first_range axioms iri) Text ≡ kind_in axioms iri → unwrap_or (or_else o (first_range axioms iri)) Text ≡ unwrap_or o (kind_in axioms iri)
    by None more = more
    by (Some k) more = refl

range_append : (axioms : List Axiom) (a : Axiom) (iri : List ℕ) → first_range (axioms ++ a ∷ []) iri ≡ or_else (first_range axioms iri) (range_of a.form iri)
unfolding first_range
range_append [] a iri = by (range_of a.form iri)
  where
    by : (o : Option ValueKind) → or_else o None ≡ o
    by None = refl
    by (Some k) = refl
range_append (b ∷ axioms) a iri = by (range_of b.form iri) (range_append axioms a iri)
  where
    by : (o : Option ValueKind) → first_range (axioms ++ a ∷ []) iri ≡ or_else (first_range axioms iri) (range_of a.form iri) → or_else o (first_range (axioms ++ a ∷ []) iri) ≡ or_else (or_else o (first_range axioms iri)) (range_of a.form iri)
    by None more = more
    by (Some k) more = refl

pub AreRanges : (List ℕ → Option ValueKind) → List Axiom → Type 0
AreRanges kind axioms = (iri : List ℕ) → kind iri ≡ first_range axioms iri

pub no_ranges : (texts : List (List ℕ)) (values : List ValueKind) → texts ≡ [] → values ≡ [] → AreRanges (beside texts values) []
unfolding AreRanges first_range
no_ranges texts values t v = λ iri. ap (λ xs. beside xs values iri) t

pub next_range : (axioms : List Axiom) (i : ℕ) (a : Axiom) (now next : List ℕ → Option ValueKind) → i < length axioms → a ≡ get_or axioms i a → AreRanges now (take i axioms) → ((iri : List ℕ) → next iri ≡ or_else (now iri) (range_of a.form iri)) → AreRanges next (take (i + 1) axioms)
unfolding AreRanges
next_range axioms i a now next lt item so told = λ iri.
    told iri ∙ ap (λ o. or_else o (range_of a.form iri)) (so iri) ∙ ap (λ (x : Axiom). or_else (first_range (take i axioms) iri) (range_of x.form iri)) item
    ∙ sym (range_append (take i axioms) (get_or axioms i a) iri) ∙ ap (λ xs. first_range xs iri) (sym (take_more axioms i a lt))

pub all_ranges : (axioms : List Axiom) (i : ℕ) (kind : List ℕ → Option ValueKind) → length axioms ≤ i → AreRanges kind (take i axioms) → AreKinds kind axioms
unfolding AreRanges
all_ranges axioms i kind le so iri = ap (λ o. unwrap_or o Text) (so iri ∙ ap (λ xs. first_range xs iri) (take_all i axioms le)) ∙ range_decides axioms iri

-- one axiom more, whose name is that of no other
pub next_owners : (front : List Axiom) (a : Axiom) (f : Entity) (old new : List ℕ → Option Entity) → a.form ≡ Declaration f → is_double front a.form ≡ false → AreOwners old front → ((t : List ℕ) → new t ≡ or_else (old t) (if bytes_eq (name_of f.iri) t then Some f else None)) → AreOwners new (front ++ a ∷ [])
next_owners front a f old new is single so grown e =
    by (old (name_of e.iri)) (bytes_eq (name_of f.iri) (name_of e.iri)) refl refl
  where
    taken : takes e a ≡ (bytes_eq (name_of f.iri) (name_of e.iri) && not (same f e))
    taken = ap (λ x. is_declaration_beside x e) is

    whole : list_any (takes e) (front ++ a ∷ []) ≡ (is_other (old (name_of e.iri)) e || (bytes_eq (name_of f.iri) (name_of e.iri) && not (same f e)))
    whole = list_any-append (takes e) front (a ∷ []) ∙ ap (λ b. b || (takes e a || false)) (sym (so e)) ∙ ap (λ b. is_other (old (name_of e.iri)) e || b) (or_false (takes e a) ∙ taken)

    or_itself : (b : Bool) → b ≡ (b || b)
    or_itself true = refl
    or_itself false = refl

    alone : is_other (old (name_of f.iri)) f ≡ false
    alone = so f ∙ subst (λ x. is_double front x ≡ false) is single

    by : (o : Option Entity) (b : Bool) → old (name_of e.iri) ≡ o → bytes_eq (name_of f.iri) (name_of e.iri) ≡ b → is_other (new (name_of e.iri)) e ≡ list_any (takes e) (front ++ a ∷ [])
    by None true none names =
        let now : new (name_of e.iri) ≡ Some f = rw (none, names) at (grown (name_of e.iri)) in
        let told : list_any (takes e) (front ++ a ∷ []) ≡ not (same f e) = rw (none, names) at whole in
        ap (λ o. is_other o e) now ∙ sym told
    by None false none names =
        let now : new (name_of e.iri) ≡ None = rw (none, names) at (grown (name_of e.iri)) in
        let told : list_any (takes e) (front ++ a ∷ []) ≡ false = rw (none, names) at whole in
        ap (λ o. is_other o e) now ∙ sym told
    by (Some g) false there names =
        let now : new (name_of e.iri) ≡ Some g = rw there at (grown (name_of e.iri)) in
        let told : list_any (takes e) (front ++ a ∷ []) ≡ (not (same g e) || false) = rw (there, names) at whole in
        ap (λ o. is_other o e) now ∙ sym (told ∙ or_false (not (same g e)))
    by (Some g) true there names =
        let now : new (name_of e.iri) ≡ Some g = rw there at (grown (name_of e.iri)) in
        let told : list_any (takes e) (front ++ a ∷ []) ≡ (not (same g e) || not (same f e)) = rw (there, names) at whole in
        let one_name : name_of f.iri ≡ name_of e.iri = (bytes_eq-Decides (name_of f.iri) (name_of e.iri)).0 names in
        let its : old (name_of f.iri) ≡ Some g = ap old one_name ∙ there in
        let no_other : not (same g f) ≡ false = rw its at alone in
        let one : g ≡ f = same_is g f (not_false (same g f) no_other) in
        ap (λ o. is_other o e) now ∙ or_itself (not (same g e)) ∙ ap (λ (x : Entity). not (same g e) || not (same x e)) one ∙ sym told

-- an axiom that gives no name
pub same_owners : (front : List Axiom) (a : Axiom) (owner : List ℕ → Option Entity) → ((e : Entity) → takes e a ≡ false) → AreOwners owner front → AreOwners owner (front ++ a ∷ [])
same_owners front a owner silent so e =
    so e ∙ sym (list_any-append (takes e) front (a ∷ []) ∙ ap (λ b. list_any (takes e) front || b) (or_false (takes e a) ∙ silent e) ∙ or_false (list_any (takes e) front))

-- what one form more gives of names
pub more_owners : (front : List Axiom) (a : Axiom) (old new : List ℕ → Option Entity) → is_double front a.form ≡ false → AreOwners old front → ((name : List ℕ) → new name ≡ or_else (old name) (owner_in a.form name)) → AreOwners new (front ++ a ∷ [])
more_owners front a old new single so grown = by a.form refl
  where
    kept : ((name : List ℕ) → owner_in a.form name ≡ None) → ((e : Entity) → takes e a ≡ false) → AreOwners new (front ++ a ∷ [])
    kept gives silent = same_owners front a new silent (λ e. ap (λ o. is_other o e) (grown (name_of e.iri) ∙ ap (or_else (old (name_of e.iri))) (gives (name_of e.iri)) ∙ sym (or_no (old (name_of e.iri)))) ∙ so e)

    by : (f : Form) → a.form ≡ f → AreOwners new (front ++ a ∷ [])
    by Unsupported is = kept (λ name. ap (λ x. owner_in x name) is) (λ e. ap (λ x. is_declaration_beside x e) is)
    by Silent is = kept (λ name. ap (λ x. owner_in x name) is) (λ e. ap (λ x. is_declaration_beside x e) is)
    by (Declaration f) is = next_owners front a f old new is single so (λ name. grown name ∙ ap (λ x. or_else (old name) (owner_in x name)) is)
    by (Sub b c) is = kept (λ name. ap (λ x. owner_in x name) is) (λ e. ap (λ x. is_declaration_beside x e) is)
    by (Disjoint cs) is = kept (λ name. ap (λ x. owner_in x name) is) (λ e. ap (λ x. is_declaration_beside x e) is)
    by (Kind u k) is = kept (λ name. ap (λ x. owner_in x name) is) (λ e. ap (λ x. is_declaration_beside x e) is)
    by (SubLink q d p) is = kept (λ name. ap (λ x. owner_in x name) is) (λ e. ap (λ x. is_declaration_beside x e) is)
    by (Func p d) is = kept (λ name. ap (λ x. owner_in x name) is) (λ e. ap (λ x. is_declaration_beside x e) is)

-- an owner more, seen through references
pub owner_kept : {R E : Type 0} (look : R → E) (old : Option R) (b : Bool) (r : R) → option_map look (or_else old (if b then Some r else None)) ≡ or_else (option_map look old) (if b then Some (look r) else None)
owner_kept look (Some x) b r = refl
owner_kept look None true r = refl
owner_kept look None false r = refl
