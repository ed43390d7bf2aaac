-- What bindings say, step by step.
use Rattle.std.proofs.Common.{◌≡◌, ◌≢◌, ◌↔◌, sym, subst, ap, refl, ◌∙◌, ℕ, ◌+◌, ◌<◌, ◌≤◌, Bool, true, false, List, [], ◌∷◌, ◌++◌, length, take, map, get_or, nat_eq, inl, inr, if◌then◌else◌, Option, None, Some, IfNone, IfSome}
use Rattle.std.proofs.lemmas.Bool.{eq-eqb, ne_eqb}
use Rattle.std.proofs.lemmas.List.{map-append, take-map, take_all}
use Rattle.vocabulary.specs.declared.ids.VarId.{VarId}
use Rattle.vocabulary.specs.Lists.{In, here, there}
use Rattle.vocabulary.proofs.Lists.{In-append_left, In-append_right, In-append_cases}
use Rattle.queries.specs.declared.query.Arg.{Arg}
use Rattle.queries.specs.declared.query.Atom.{Atom}
use Rattle.queries.specs.declared.query.Query.{Query}
use Rattle.query_subsumption.specs.declared.bindings.Binding.{Binding}
use Rattle.query_subsumption.specs.declared.numbering.Node.{Node}
use Rattle.query_subsumption.specs.declared.numbering.Numbered.{Numbered}
use Rattle.query_subsumption.specs.declared.numbering.Shape.{Shape}
use Rattle.query_subsumption.specs.Numbered.{as_arg, as_atom, as_query}
use Rattle.query_subsumption.specs.Search.{Agrees, Fails, FailsAt, Finds, Found, IsSound, Solves, TakesInto, reading}
use Rattle.query_subsumption.specs.Subsumption.{IsMapping, Replacement, arg_image, atom_image}
use Rattle.query_subsumption.proofs.Places.{front_more, last_same}

abbrev pub var : ℕ → VarId
var n = record { 0 = n }

-- a binding more
reading_old : (bs : List Binding) (b c : Binding) (v : VarId) → In c bs → c.number ≡ v.0 → reading (bs ++ b ∷ []) v ≡ reading bs v
reading_old [] b c v m n = elim m [ ]
reading_old (x ∷ bs) b c v (here e) n =
    let k : x.number ≡ v.0 = ap (λ y. y.number) e ∙ n in rw (eq-eqb x.number v.0 k) refl
reading_old (x ∷ bs) b c v (there m) n = ap (λ (r : Arg). if nat_eq x.number v.0 then as_arg x.image else r) (reading_old bs b c v m n)

reading_new : (bs : List Binding) (b : Binding) (v : VarId) → ((c : Binding) → In c bs → c.number ≢ v.0) → b.number ≡ v.0 → reading (bs ++ b ∷ []) v ≡ as_arg b.image
reading_new [] b v other n = rw (eq-eqb b.number v.0 n) refl
reading_new (x ∷ bs) b v other n = rw (ne_eqb x.number v.0 (other x (here refl))) (reading_new bs b v (λ c m. other c (there m)) n)

sound_more : (bs : List Binding) (b : Binding) → ((c : Binding) → In c bs → c.number ≢ b.number) → IsSound bs → IsSound (bs ++ b ∷ [])
sound_more bs b other h c m = elim (In-append_cases bs (b ∷ []) m) [
  | inl k ↦ reading_old bs b c (var c.number) k refl ∙ h c k
  | inr k ↦ elim k [
    | here e ↦ subst (λ d. reading (bs ++ b ∷ []) (var d.number) ≡ as_arg d.image) e (reading_new bs b (var b.number) other refl)
    | there l ↦ elim l [ ]
  ]
]

agrees_more : (θ : Replacement) (bs : List Binding) (b : Binding) → Agrees θ bs → θ (var b.number) ≡ as_arg b.image → Agrees θ (bs ++ b ∷ [])
agrees_more θ bs b h e c m = elim (In-append_cases bs (b ∷ []) m) [
  | inl k ↦ h c k
  | inr k ↦ elim k [ here i ↦ subst (λ d. θ (var d.number) ≡ as_arg d.image) i e | there l ↦ elim l [ ] ]
]

pub solves_more : (bs : List Binding) (b : Binding) → ((c : Binding) → In c bs → c.number ≢ b.number) → Solves (λ θ. θ (var b.number) ≡ as_arg b.image) bs (bs ++ b ∷ []) true
solves_more bs b other = record {
  yes = λ t θ. (λ a. (λ c m. a c (In-append_left (b ∷ []) m), a b (In-append_right bs (here refl))), λ w. agrees_more θ bs b w.0 w.1);
  no = λ e. absurd (cc);
  sound = λ t. sound_more bs b other;
}

-- a number that is bound
pub solves_bound : (P : Replacement → Type 0) (bs : List Binding) (same : Bool) → ((θ : Replacement) → Agrees θ bs → (same ≡ true) ↔ P θ) → Solves P bs bs same
solves_bound P bs same h = record {
  yes = λ t θ. (λ a. (a, (h θ a).0 t), λ w. w.0);
  no = λ e θ a p. let t : same ≡ true = (h θ a).1 p in absurd (cc);
  sound = λ t s. s;
}

-- laws of one step
pub solves_as : (P Q : Replacement → Type 0) {old new : List Binding} {fits : Bool} → ((θ : Replacement) → P θ ↔ Q θ) → Solves P old new fits → Solves Q old new fits
solves_as P Q h s = record {
  yes = λ t θ. (λ a. let w = (s.yes t θ).0 a in (w.0, (h θ).0 w.1), λ w. (s.yes t θ).1 (w.0, (h θ).1 w.1));
  no = λ e θ a q. s.no e θ a ((h θ).1 q);
  sound = s.sound;
}

pub solves_same : (P : Replacement → Type 0) {old old' new new' : List Binding} {fits fits' : Bool} → old ≡ old' → new ≡ new' → fits ≡ fits' → Solves P old new fits → Solves P old' new' fits'
solves_same P {old' = old'} {new = new} {new' = new'} {fits = fits} a b c s = subst (λ f. Solves P old' new' f) c (subst (λ n. Solves P old' n fits) b (subst (λ o. Solves P o new fits) a s))

-- two steps
pub solves_both : (P Q : Replacement → Type 0) {old mid new : List Binding} {fits : Bool} → Solves P old mid true → Solves Q mid new fits → Solves (λ θ. P θ × Q θ) old new fits
solves_both P Q s r = record {
  yes = λ t θ. (λ a. let w = (r.yes t θ).0 a in let v = (s.yes refl θ).0 w.0 in (v.0, (v.1, w.1)), λ w. (r.yes t θ).1 ((s.yes refl θ).1 (w.0, w.1.0), w.1.1));
  no = λ e θ a w. r.no e θ ((s.yes refl θ).1 (a, w.0)) w.1;
  sound = λ t h. r.sound t (s.sound refl h);
}

-- a step that fails
pub solves_not : (P Q : Replacement → Type 0) {old new last : List Binding} → ((θ : Replacement) → Q θ → P θ) → Solves P old new false → Solves Q old last false
solves_not P Q h s = record {
  yes = λ e. absurd (cc);
  no = λ e θ a q. s.no refl θ a (h θ q);
  sound = λ e. absurd (cc);
}

-- heads
abbrev pub HeadTo : List Node → List Node → Replacement → Type 0
HeadTo xs ys θ = map (arg_image θ) (map as_arg xs) ≡ map as_arg ys

head_front : (xs ys : List Node) (n : ℕ) (θ : Replacement) → HeadTo xs ys θ → HeadTo (take n xs) (take n ys) θ
head_front xs ys n θ h =
    ap (map (arg_image θ)) (sym (take-map as_arg n xs)) ∙ sym (take-map (arg_image θ) n (map as_arg xs)) ∙ ap (take n) h ∙ take-map as_arg n ys

images_last : (xs : List Node) (x : Node) (θ : Replacement) → map (arg_image θ) (map as_arg (xs ++ x ∷ [])) ≡ map (arg_image θ) (map as_arg xs) ++ arg_image θ (as_arg x) ∷ []
images_last xs x θ = ap (map (arg_image θ)) (map-append as_arg xs (x ∷ [])) ∙ map-append (arg_image θ) (map as_arg xs) (as_arg x ∷ [])

head_last : (xs ys : List Node) (x y : Node) (θ : Replacement) → (HeadTo xs ys θ × (arg_image θ (as_arg x) ≡ as_arg y)) ↔ HeadTo (xs ++ x ∷ []) (ys ++ y ∷ []) θ
head_last xs ys x y θ = (
  λ w. images_last xs x θ ∙ (λ i. w.0 i ++ w.1 i ∷ []) ∙ sym (map-append as_arg ys (y ∷ [])),
  λ h. last_same (map (arg_image θ) (map as_arg xs)) (map as_arg ys) (arg_image θ (as_arg x)) (as_arg y) (sym (images_last xs x θ) ∙ h ∙ map-append as_arg ys (y ∷ [])),
)

head_more : (xs ys : List Node) (i : ℕ) (x y : Node) → i < length xs → i < length ys → x ≡ get_or xs i x → y ≡ get_or ys i y → (θ : Replacement) →
    (HeadTo (take i xs) (take i ys) θ × (arg_image θ (as_arg x) ≡ as_arg y)) ↔ HeadTo (take (i + 1) xs) (take (i + 1) ys) θ
head_more xs ys i x y l k a b θ = rw (front_more xs i x l a, front_more ys i y k b) (head_last (take i xs) (take i ys) x y θ)

pub head_goes_on : (xs ys : List Node) (i : ℕ) (x y : Node) {old mid new : List Binding} → i < length xs → i < length ys → x ≡ get_or xs i x → y ≡ get_or ys i y →
    Solves (HeadTo (take i xs) (take i ys)) old mid true → Solves (λ θ. arg_image θ (as_arg x) ≡ as_arg y) mid new true → Solves (HeadTo (take (i + 1) xs) (take (i + 1) ys)) old new true
head_goes_on xs ys i x y l k a b s r =
    solves_as (λ θ. HeadTo (take i xs) (take i ys) θ × (arg_image θ (as_arg x) ≡ as_arg y)) (HeadTo (take (i + 1) xs) (take (i + 1) ys)) (head_more xs ys i x y l k a b)
    (solves_both (HeadTo (take i xs) (take i ys)) (λ θ. arg_image θ (as_arg x) ≡ as_arg y) s r)

pub head_stops : (xs ys : List Node) (i : ℕ) (x y : Node) {old mid new : List Binding} → i < length xs → i < length ys → x ≡ get_or xs i x → y ≡ get_or ys i y →
    Solves (HeadTo (take i xs) (take i ys)) old mid true → Solves (λ θ. arg_image θ (as_arg x) ≡ as_arg y) mid new false → Solves (HeadTo xs ys) old new false
head_stops xs ys i x y l k a b s r =
    solves_not (λ θ. HeadTo (take i xs) (take i ys) θ × (arg_image θ (as_arg x) ≡ as_arg y)) (HeadTo xs ys)
    (λ θ h. (head_more xs ys i x y l k a b θ).1 (head_front xs ys (i + 1) θ h))
    (solves_both (HeadTo (take i xs) (take i ys)) (λ θ. arg_image θ (as_arg x) ≡ as_arg y) s r)

pub head_ends : (xs ys : List Node) (i : ℕ) {old new : List Binding} → length xs ≤ i → length ys ≤ i → Solves (HeadTo (take i xs) (take i ys)) old new true → Solves (HeadTo xs ys) old new true
head_ends xs ys i {old = old} {new = new} l k s =
    subst (λ zs. Solves (HeadTo xs zs) old new true) (take_all i ys k) (subst (λ zs. Solves (HeadTo zs (take i ys)) old new true) (take_all i xs l) s)

pub solves_heads : {xs xs' ys ys' : List Node} {old new : List Binding} {fits : Bool} → xs ≡ xs' → ys ≡ ys' → Solves (HeadTo xs ys) old new fits → Solves (HeadTo xs' ys') old new fits
solves_heads {xs' = xs'} {ys = ys} {old = old} {new = new} {fits = fits} a b s =
    subst (λ zs. Solves (HeadTo xs' zs) old new fits) b (subst (λ zs. Solves (HeadTo zs ys) old new fits) a s)

-- atoms, one after another
in_none : {a : Atom} {ss : List Atom} → In a [] → In a ss
in_none m = elim m [ ]

pub finds_none : (ss : List Atom) {old new : List Binding} → new ≡ old → Finds [] ss old new
finds_none ss e = record {
  chosen = [];
  each = λ a m. in_none m;
  exact = λ θ. (λ a. (subst (Agrees θ) e a, refl), λ w. subst (Agrees θ) (sym e) w.0);
  sound = subst IsSound (sym e);
}

pub finds_step : (first target : Atom) (rest ss : List Atom) {old mid new : List Binding} → Solves (λ θ. atom_image θ first ≡ target) old mid true → Finds rest ss mid new → In target ss → Finds (first ∷ rest) ss old new
finds_step first target rest ss s f there_is = record {
  chosen = target ∷ f.chosen;
  each = λ a m. elim m [ here e ↦ subst (λ b. In b ss) e there_is | there k ↦ f.each a k ];
  exact = λ θ. (
    λ a. let w = (f.exact θ).0 a in let v = (s.yes refl θ).0 w.0 in (v.0, λ i. v.1 i ∷ w.1 i),
    λ w. let h : atom_image θ first ≡ target = cc in let k : map (atom_image θ) rest ≡ f.chosen = cc in (f.exact θ).1 ((s.yes refl θ).1 (w.0, h), k),
  );
  sound = λ h. f.sound (s.sound refl h);
}

pub fails_step : (first target : Atom) (rest ss : List Atom) {old mid : List Binding} → Solves (λ θ. atom_image θ first ≡ target) old mid true → Fails rest ss mid → FailsAt first target rest ss old
fails_step first target rest ss s f θ a e h = f θ ((s.yes refl θ).1 (a, e)) h

pub fails_first : (first target : Atom) (rest ss : List Atom) {old mid : List Binding} → Solves (λ θ. atom_image θ first ≡ target) old mid false → FailsAt first target rest ss old
fails_first first target rest ss s θ a e h = s.no refl θ a e

-- whole queries
agrees_nothing : (θ : Replacement) → Agrees θ []
agrees_nothing θ b m = elim m [ ]

found_whole : (g s : Query) {mid new : List Binding} → Solves (λ θ. map (arg_image θ) g.head ≡ s.head) [] mid true → Finds g.atoms s.atoms mid new → Found g s new
found_whole g s h f = record {
  chosen = f.chosen;
  each = f.each;
  exact = λ θ. (
    λ a. let w = (f.exact θ).0 a in (((h.yes refl θ).0 w.0).1, w.1),
    λ w. (f.exact θ).1 ((h.yes refl θ).1 (agrees_nothing θ, w.0), w.1),
  );
  sound = f.sound (h.sound refl (agrees_nothing (reading [])));
}

pub found_by : (from to : Numbered) {gs ss : List Shape} {mid mid' new : List Binding} → gs ≡ from.atoms.items → ss ≡ to.atoms.items → mid' ≡ mid →
    Solves (HeadTo from.head.items to.head.items) [] mid true → Finds (map as_atom gs) (map as_atom ss) mid' new → Found (as_query from) (as_query to) new
found_by from to {gs = gs} {ss = ss} {mid = mid} {mid' = mid'} {new = new} a b e h f =
    found_whole (as_query from) (as_query to) h
    (subst (λ zs. Finds (map as_atom from.atoms.items) (map as_atom zs) mid new) b
    (subst (λ zs. Finds (map as_atom zs) (map as_atom ss) mid new) a (subst (λ m. Finds (map as_atom gs) (map as_atom ss) m new) e f)))

pub fails_by : (from to : Numbered) {gs ss : List Shape} {mid mid' : List Binding} → gs ≡ from.atoms.items → ss ≡ to.atoms.items → mid' ≡ mid →
    Solves (HeadTo from.head.items to.head.items) [] mid true → Fails (map as_atom gs) (map as_atom ss) mid' → (θ : Replacement) → IsMapping θ (as_query from) (as_query to) → ⊥
fails_by from to {gs = gs} {ss = ss} a b e h f θ m =
    let agrees = subst (Agrees θ) (sym e) ((h.yes refl θ).1 (agrees_nothing θ, m.heads)) in
    let takes : TakesInto (map as_atom gs) (map as_atom ss) θ =
    subst (λ zs. TakesInto (map as_atom gs) (map as_atom zs) θ) (sym b) (subst (λ zs. TakesInto (map as_atom zs) (map as_atom to.atoms.items) θ) (sym a) m.atoms) in
    f θ agrees takes

pub heads_differ : (from to : Numbered) {mid : List Binding} → Solves (HeadTo from.head.items to.head.items) [] mid false → (θ : Replacement) → IsMapping θ (as_query from) (as_query to) → ⊥
heads_differ from to h θ m = h.no refl θ (agrees_nothing θ) m.heads

-- what an answer may hold
pub none_weaker : {X A B : Type 0} (o : Option X) → (A → B) → IfNone o A → IfNone o B
none_weaker None f a = f a
none_weaker (Some x) f a = tt

pub some_weaker : {X : Type 0} (o : Option X) (P Q : X → Type 0) → ((x : X) → P x → Q x) → IfSome o P → IfSome o Q
some_weaker None P Q f a = tt
some_weaker (Some x) P Q f a = f x a
