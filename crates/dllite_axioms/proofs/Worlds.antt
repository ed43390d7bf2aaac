-- Finitely many derived facts have their images in each model, and the rounds of the chase are one.
use Rattle.std.proofs.Common.{ℕ, suc, ◌≡◌, refl, sym, ◌∙◌, ap, subst, ◌+◌, arith, true, false, List, [], ◌∷◌, map, ◌⊎◌, inl, inr, Some, if◌then◌else◌}
use Rattle.vocabulary.specs.declared.ids.LinkId.{LinkId}
use Rattle.vocabulary.specs.declared.ids.Dir.{Dir}
use Rattle.vocabulary.specs.declared.ids.Dir.TheVariants.{Fwd, Back}
use Rattle.vocabulary.specs.declared.term.Term.{Term, New}
use Rattle.vocabulary.specs.declared.term.Fact.{Fact}
use Rattle.vocabulary.specs.declared.term.Fact.TheVariants.{InClass, Linked}
use Rattle.vocabulary.specs.Lists.{In, here, there}
use Rattle.vocabulary.specs.Terms.{IsKnown, IsKnownFact}
use Rattle.vocabulary.proofs.Fresh.{new_unknown, new_injective, new_link, new_dir}
use Rattle.vocabulary.proofs.SameTerms.{term_same, term_told, term_itself}
use Rattle.dllite_axioms.specs.declared.axioms.Basic.{Basic}
use Rattle.dllite_axioms.specs.declared.axioms.Basic.TheVariants.{Class, Has}
use Rattle.dllite_axioms.specs.declared.axioms.Axiom.{Axiom}
use Rattle.dllite_axioms.specs.declared.axioms.Axiom.TheVariants.{Sub, SubLink}
use Rattle.dllite_axioms.specs.declared.axioms.Constraint.{Constraint}
use Rattle.dllite_axioms.specs.declared.axioms.Constraint.TheVariants.{Disjoint, Func, Apart, Identified}
use Rattle.dllite_axioms.specs.Basics.{link_fact, match_at, right_side}
use Rattle.dllite_axioms.specs.Chase.{apply_of, chase, AreKnown, Derived, given, step}
use Rattle.dllite_axioms.specs.Clashes.{AreTwo, Clash, IsConsistent, ShareEach}
use Rattle.dllite_axioms.specs.Models.{image}
use Rattle.dllite_axioms.proofs.ChaseLaws.{chase_derived, chase_grows}
use Rattle.vocabulary.proofs.Lists.{In-append_right}
use Rattle.dllite_axioms.proofs.Firing.{class_match, fwd_match, back_match, match_right, link_match, apply_inverse, apply_at, apply_link_inverse, apply_link_at, In-fired}
use Rattle.dllite_axioms.specs.Laws.{ConsistentWhereModelled, FullyModelledIsConsistent, RoundsAreAModel}
use Rattle.dllite_axioms.specs.Worlds.{Holds, IsDisjointness, IsModel, Meets, MeetsFully, Satisfies, World}
use Rattle.dllite_axioms.proofs.Models.{image_link, image_match}

-- two terms are one, or they are not
pub same_or_not : (t u : Term) → (t ≡ u) ⊎ (t ≡ u → ⊥)
same_or_not t u = (elim (term_same t u) as (λ b. term_same t u ≡ b → (t ≡ u) ⊎ (t ≡ u → ⊥)) [
  | true ↦ (λ e. inl (term_told t u e))
  | false ↦ (λ e. inr (λ same. let yes : term_same t u ≡ true = ap (term_same t) (sym same) ∙ term_itself t in let no : true ≡ false = sym yes ∙ e in absurd cc))
]) refl

listed_or_not : (t : Term) (terms : List Term) → In t terms ⊎ (In t terms → ⊥)
listed_or_not t [] = inr (λ m. elim m [ ])
listed_or_not t (u ∷ terms) =
    elim (same_or_not u t) [
      | inl e ↦ inl (here e)
      | inr apart ↦ elim (listed_or_not t terms) [ inl m ↦ inl (there m) | inr none ↦ inr (λ m. not_first apart none m) ]
    ]
  where
    not_first : {u t : Term} {terms : List Term} → (u ≡ t → ⊥) → (In t terms → ⊥) → In t (u ∷ terms) → ⊥
    not_first apart none (here e) = apart e
    not_first apart none (there m) = none m

-- one term is sent elsewhere
abbrev sent : (Term → Term) → Term → Term → Term → Term
sent h n x u = if term_same u n then x else h u

sent_there : (h : Term → Term) (n x : Term) → sent h n x n ≡ x
sent_there h n x = rw (term_itself n) refl

sent_else : (h : Term → Term) (n x u : Term) → (u ≡ n → ⊥) → sent h n x u ≡ h u
sent_else h n x u apart = (elim (term_same u n) as (λ b. term_same u n ≡ b → (if b then x else h u) ≡ h u) [
  | true ↦ (λ e. absurd (apart (term_told u n e)))
  | false ↦ (λ e. refl)
]) refl

-- the term is known, or it is a fresh one of these
abbrev IsOne : List Term → Term → Type 0
IsOne fresh t = IsKnown t ⊎ In t fresh

abbrev EndsAre : List Term → Fact → Type 0
EndsAre fresh (InClass a t) = IsOne fresh t
EndsAre fresh (Linked p s t) = IsOne fresh s × IsOne fresh t

-- these facts have their images in what is true, by terms that are chosen for the fresh ones among them
record Sent (holds : Fact → Type 0) (facts : List Fact) (fresh : List Term) (h : Term → Term) : Type 0 where
  keeps : (t : Term) → IsKnown t → h t ≡ t
  takes : (f : Fact) → In f facts → holds (image h f)
  ends : (f : Fact) → In f facts → EndsAre fresh f
  born : (p : LinkId) (d : Dir) (t : Term) → In (New p d t) fresh → holds (link_fact p d (h t) (h (New p d t)))
  parents : (p : LinkId) (d : Dir) (t : Term) → In (New p d t) fresh → IsOne fresh t

-- and more of them
record SentMore (holds : Fact → Type 0) (facts : List Fact) (f : Fact) : Type 0 where
  more : List Fact
  fresh : List Term
  to : Term → Term
  sent : Sent holds more fresh to
  grows : (g : Fact) → In g facts → In g more
  listed : In f more

one_more : {fresh : List Term} {n t : Term} → IsOne fresh t → IsOne (n ∷ fresh) t
one_more (inl k) = inl k
one_more (inr m) = inr (there m)

ends_more : (fresh : List Term) (n : Term) (f : Fact) → EndsAre fresh f → EndsAre (n ∷ fresh) f
ends_more fresh n (InClass a t) e = one_more e
ends_more fresh n (Linked p s t) e = (one_more e.0, one_more e.1)

-- a term that matches stands at an end
match_end : (fresh : List Term) (b : Basic) (f : Fact) (t : Term) → match_at b f ≡ Some t → EndsAre fresh f → IsOne fresh t
match_end fresh (Class a) f t m e = subst (EndsAre fresh) (class_match a f t m) e
match_end fresh (Has p Fwd) f t m e = let r = fwd_match p f t m in (subst (EndsAre fresh) r.1 e).0
match_end fresh (Has p Back) f t m e = let r = back_match p f t m in (subst (EndsAre fresh) r.1 e).1

link_ends_are : (fresh : List Term) (p : LinkId) (d : Dir) (s t : Term) → IsOne fresh s → IsOne fresh t → EndsAre fresh (link_fact p d s t)
link_ends_are fresh p Fwd s t k l = (k, l)
link_ends_are fresh p Back s t k l = (l, k)

-- a term of these is none that is not among them
apart_from : {fresh : List Term} (p : LinkId) (d : Dir) (t u : Term) → (In (New p d t) fresh → ⊥) → IsOne fresh u → u ≡ New p d t → ⊥
apart_from p d t u none (inl k) e = new_unknown p d t (subst IsKnown e k)
apart_from {fresh} p d t u none (inr m) e = none (subst (λ x. In x fresh) e m)

image_else : (fresh : List Term) (h : Term → Term) (p : LinkId) (d : Dir) (t x : Term) → (In (New p d t) fresh → ⊥) → (f : Fact) → EndsAre fresh f → image h f ≡ image (sent h (New p d t) x) f
image_else fresh h p d t x none (InClass a u) e = λ i. InClass a (sym (sent_else h (New p d t) x u (apart_from p d t u none e)) i)
image_else fresh h p d t x none (Linked q u v) e =
    λ i. Linked q (sym (sent_else h (New p d t) x u (apart_from p d t u none e.0)) i) (sym (sent_else h (New p d t) x v (apart_from p d t v none e.1)) i)

module _ {holds : Fact → Type 0} where
  -- a fact more, with its image
  add : {facts : List Fact} {fresh : List Term} {h : Term → Term} → Sent holds facts fresh h → (g : Fact) → EndsAre fresh g → holds (image h g) → SentMore holds facts g
  add {facts} {fresh} {h} s g e k = record {
    more = g ∷ facts;
    fresh = fresh;
    to = h;
    sent = record {
      keeps = s.keeps;
      takes = λ f m. takes_more s k m;
      ends = λ f m. ends_of s e m;
      born = s.born;
      parents = s.parents;
    };
    grows = λ f m. there m;
    listed = here refl;
  }
    where
      takes_more : {facts : List Fact} {fresh : List Term} {h : Term → Term} {g f : Fact} → Sent holds facts fresh h → holds (image h g) → In f (g ∷ facts) → holds (image h f)
      takes_more {h = h} s k (here e) = subst (λ x. holds (image h x)) e k
      takes_more s k (there m) = s.takes _ m

      ends_of : {facts : List Fact} {fresh : List Term} {h : Term → Term} {g f : Fact} → Sent holds facts fresh h → EndsAre fresh g → In f (g ∷ facts) → EndsAre fresh f
      ends_of {fresh = fresh} s e (here w) = subst (EndsAre fresh) w e
      ends_of s e (there m) = s.ends _ m

  -- a fresh term more, which is sent to the other end of a fact of its link
  send : {facts : List Fact} {fresh : List Term} {h : Term → Term} → Sent holds facts fresh h → (p : LinkId) (d : Dir) (t : Term) → IsOne fresh t → (In (New p d t) fresh → ⊥) → (x : Term) → holds (link_fact p d (h t) x) →
      Sent holds facts (New p d t ∷ fresh) (sent h (New p d t) x)
  send {facts} {fresh} {h} s p d t one none x k = record {
    keeps = λ u known. sent_else h n x u (λ e. new_unknown p d t (subst IsKnown e known)) ∙ s.keeps u known;
    takes = λ f m. subst holds (image_else fresh h p d t x none f (s.ends f m)) (s.takes f m);
    ends = λ f m. ends_more fresh n f (s.ends f m);
    born = λ q e u m. born_more q e u m;
    parents = λ q e u m. parents_more q e u m;
  }
    where
      n : Term
      n = New p d t

      kept : (u : Term) → IsOne fresh u → h u ≡ sent h n x u
      kept u o = sym (sent_else h n x u (apart_from p d t u none o))

      there_sent : (u : Term) → n ≡ u → x ≡ sent h n x u
      there_sent u e = sym (sent_there h n x) ∙ ap (sent h n x) e

      born_more : (q : LinkId) (e : Dir) (u : Term) → In (New q e u) (n ∷ fresh) → holds (link_fact q e (sent h n x u) (sent h n x (New q e u)))
      born_more q e u (here w) =
          subst holds (λ i. link_fact (new_link t u w i) (new_dir t u w i) ((kept t one ∙ ap (sent h n x) (new_injective w)) i) (there_sent (New q e u) w i)) k
      born_more q e u (there m) = subst holds (λ i. link_fact q e (kept u (s.parents q e u m) i) (kept (New q e u) (inr m) i)) (s.born q e u m)

      parents_more : (q : LinkId) (e : Dir) (u : Term) → In (New q e u) (n ∷ fresh) → IsOne (n ∷ fresh) u
      parents_more q e u (here w) = one_more (subst (IsOne fresh) (new_injective w) one)
      parents_more q e u (there m) = one_more (s.parents q e u m)

  -- what is holds at a term by a basic is holds of its right side, with a fresh term more where there is none
  side : {facts : List Fact} {fresh : List Term} {h : Term → Term} → Sent holds facts fresh h → (r : Basic) (t : Term) → IsOne fresh t → (g : Fact) → holds g → match_at r g ≡ Some (h t) → SentMore holds facts (right_side r t)
  side {h = h} s (Class c) t one g k m = add s (InClass c t) one (subst holds (class_match c g (h t) m) k)
  side {fresh = fresh} {h = h} s (Has p d) t one g k m =
      let r = link_match p d g (h t) m in
      let n : Term = New p d t in
      elim (listed_or_not n fresh) [
        | inl l ↦ add s (link_fact p d t n) (link_ends_are fresh p d t n one (inr l)) (subst holds (image_link h p d t n) (s.born p d t l))
        | inr none ↦ (
            let s' = send s p d t one none r.0 (subst holds r.1 k) in
            add s' (link_fact p d t n) (link_ends_are (n ∷ fresh) p d t n (one_more one) (inr (here refl))) (subst holds (image_link (sent h n r.0) p d t n) (s'.born p d t (here refl))))
      ]

  module _ {axioms : List Axiom} {base : List Fact} (model : Satisfies axioms base holds) where
    -- what an axiom gives at one of the facts
    gives : {facts : List Fact} {fresh : List Term} {h : Term → Term} → Sent holds facts fresh h → (ax : Axiom) → In ax axioms → (f g : Fact) → In f facts → apply_of ax f ≡ Some g → SentMore holds facts g
    gives {facts} {fresh} {h} s (Sub l r) n f g m e =
        let u = apply_inverse l r f g e in
        let c = model.closed l r n (image h f) (h u.0) (s.takes f m) (image_match h l f u.0 u.1) in
        subst (SentMore holds facts) u.2 (side s r u.0 (match_end fresh l f u.0 u.1 (s.ends f m)) c.0 c.1 c.2)
    gives {facts} {fresh} {h} s (SubLink q d p) n f g m e =
        let u = apply_link_inverse q d p f g e in
        let ends : EndsAre fresh (Linked q u.0 u.1) = subst (EndsAre fresh) u.2 (s.ends f m) in
        let k : holds (Linked q (h u.0) (h u.1)) = subst (λ y. holds (image h y)) u.2 (s.takes f m) in
        let c = model.closed_links q d p n (Linked q (h u.0) (h u.1)) (link_fact p d (h u.0) (h u.1)) k (apply_link_at q d p (h u.0) (h u.1)) in
        subst (SentMore holds facts) u.3 (add s (link_fact p d u.0 u.1) (link_ends_are fresh p d u.0 u.1 ends.0 ends.1) (subst holds (image_link h p d u.0 u.1) c))

    -- a derived fact
    derive : {f : Fact} → Derived axioms base f → {facts : List Fact} {fresh : List Term} {h : Term → Term} → Sent holds facts fresh h → ((g : Fact) → In g base → In g facts) → SentMore holds facts f
    derive {f = f} (given m) {facts} {fresh} {h} s from = record { more = facts; fresh = fresh; to = h; sent = s; grows = λ g k. k; listed = from f m }
    derive {f = f} (step {f = g} ax n e d) s from =
        let r = derive d s from in
        let w = gives r.sent ax n g f r.listed e in
        record { more = w.more; fresh = w.fresh; to = w.to; sent = w.sent; grows = λ k m. w.grows k (r.grows k m); listed = w.listed }

    -- and finitely many
    derive_all : (fs : List Fact) → ((f : Fact) → In f fs → Derived axioms base f) → {facts : List Fact} {fresh : List Term} {h : Term → Term} → Sent holds facts fresh h → ((g : Fact) → In g base → In g facts) →
        (more : List Fact) × (fresh' : List Term) × (to : Term → Term) × Sent holds more fresh' to × ((g : Fact) → In g facts → In g more) × ((g : Fact) → In g fs → In g more)
    derive_all [] all {facts} {fresh} {h} s from = (facts, fresh, h, s, (λ g m. m), (λ g m. elim m [ ]))
    derive_all (f ∷ fs) all s from =
        let r = derive (all f (here refl)) s from in
        let w = derive_all fs (λ g m. all g (there m)) r.sent (λ g m. r.grows g (from g m)) in
        (w.0, w.1, w.2, w.3, (λ g m. w.4 g (r.grows g m)), (λ g m. each r.more w.0 r.listed w.4 w.5 m))
      where
        each : {f g : Fact} {fs : List Fact} (first more : List Fact) → In f first → ((g : Fact) → In g first → In g more) → ((g : Fact) → In g fs → In g more) → In g (f ∷ fs) → In g more
        each first more m grows rest (here e) = subst (λ y. In y more) e (grows _ m)
        each first more m grows rest (there k) = rest _ k

image_itself : (f : Fact) → f ≡ image (λ t. t) f
image_itself (InClass a t) = refl
image_itself (Linked p s t) = refl

known_ends : (f : Fact) → IsKnownFact f → EndsAre [] f
known_ends (InClass a t) k = inl k
known_ends (Linked p s t) k = (inl k.0, inl k.1)

begun : {axioms : List Axiom} {base : List Fact} {holds : Fact → Type 0} → AreKnown base → Satisfies axioms base holds → Sent holds base [] (λ t. t)
begun {holds = holds} known model = record {
  keeps = λ t k. refl;
  takes = λ f m. subst holds (image_itself f) (model.has f m);
  ends = λ f m. known_ends f (known f m);
  born = λ p d t m. elim m [ ];
  parents = λ p d t m. elim m [ ];
}

-- known terms stand for themselves, and each of the facts has its image in what is true
pub record Images (holds : Fact → Type 0) (fs : List Fact) : Type 0 where
  pub to : Term → Term
  pub keeps : (t : Term) → IsKnown t → to t ≡ t
  pub takes : (f : Fact) → In f fs → holds (image to f)

pub images : {axioms : List Axiom} {base : List Fact} {holds : Fact → Type 0} → AreKnown base → Satisfies axioms base holds → (fs : List Fact) → ((f : Fact) → In f fs → Derived axioms base f) → Images holds fs
images known model fs all =
    let r = derive_all model fs all (begun known model) (λ g m. m) in
    record { to = r.2; keeps = r.3.keeps; takes = λ f m. r.3.takes f (r.5 f m) }

-- the rounds of the chase are a model
pub rounds_model : RoundsAreAModel
rounds_model axioms facts = record {
  has = λ f m. (0, m);
  closed = λ l r n f t k e. (right_side r t, (suc k.0, In-append_right _ (In-fired (Sub l r) n k.1 (apply_at l r f t e))), match_right r t);
  closed_links = λ q d p n f g k e. (suc k.0, In-append_right _ (In-fired (SubLink q d p) n k.1 e));
}

-- facts of rounds all stand in one
pub one_round : (axioms : List Axiom) (facts fs : List Fact) → ((f : Fact) → In f fs → Holds (chase axioms facts) f) → (k : ℕ) × ((f : Fact) → In f fs → In f (chase axioms facts k))
one_round axioms facts [] all = (0, λ f m. elim m [ ])
one_round axioms facts (f ∷ fs) all =
    let h = all f (here refl) in
    let r = one_round axioms facts fs (λ g m. all g (there m)) in
    let e : r.0 + h.0 ≡ h.0 + r.0 = omega arith in
    (h.0 + r.0, λ g m. each (rw e at (chase_grows axioms facts h.0 r.0 h.1)) (λ k n. chase_grows axioms facts r.0 h.0 (r.1 k n)) m)
  where
    each : {f g : Fact} {fs all : List Fact} → In f all → ((k : Fact) → In k fs → In k all) → In g (f ∷ fs) → In g all
    each {all = all} m rest (here e) = subst (λ y. In y all) e m
    each m rest (there n) = rest _ n

-- the images of facts that clash do
module _ (h : Term → Term) (keeps : (t : Term) → IsKnown t → h t ≡ t) where
  two_images : (R : Fact → Fact → Type 0) → ((f g : Fact) → R f g → R (image h f) (image h g)) → (facts : List Fact) → AreTwo R facts → AreTwo R (map (image h) facts)
  two_images R on [] c = absurd c
  two_images R on (f ∷ []) c = absurd c
  two_images R on (f ∷ g ∷ []) c = on f g c
  two_images R on (f ∷ g ∷ k ∷ more) c = absurd c

  link_image : (p : LinkId) (d : Dir) (s t : Term) (f : Fact) → f ≡ link_fact p d s t → image h f ≡ link_fact p d (h s) (h t)
  link_image p d s t f e = ap (image h) e ∙ sym (image_link h p d s t)

  share_images : (us : List LinkId) (x y : Term) → IsKnown x → IsKnown y → (facts : List Fact) → ShareEach us x y facts → ShareEach us x y (map (image h) facts)
  share_images [] x y kx ky facts e = ap (map (image h)) e
  share_images (u ∷ us) x y kx ky facts (v, more, e, kv, rest) =
      (v, map (image h) more, ap (map (image h)) e ∙ (λ i. Linked u (keeps x kx i) (keeps v kv i) ∷ Linked u (keeps y ky i) (keeps v kv i) ∷ map (image h) more), kv, share_images us x y kx ky more rest)

  clash_images : (c : Constraint) (facts : List Fact) → Clash c facts → Clash c (map (image h) facts)
  clash_images (Disjoint b c) facts k = two_images _ (λ f g r. (h r.0, image_match h b f r.0 r.1, image_match h c g r.0 r.2)) facts k
  clash_images (Func p d) facts k =
      two_images _ (λ f g r. (h r.0, r.1, r.2, link_image p d r.0 r.1 f r.3 ∙ ap (link_fact p d (h r.0)) (keeps r.1 r.5), link_image p d r.0 r.2 g r.4 ∙ ap (link_fact p d (h r.0)) (keeps r.2 r.6), r.5, r.6, r.7)) facts k
  clash_images (Apart q d p) facts k = two_images _ (λ f g r. (h r.0, h r.1, ap (image h) r.2, link_image p d r.0 r.1 g r.3)) facts k
  clash_images (Identified a us) facts (x, y, more, e, kx, ky, apart, share) =
      (x, y, map (image h) more, ap (map (image h)) e ∙ (λ i. InClass a (keeps x kx i) ∷ InClass a (keeps y ky i) ∷ map (image h) more), kx, ky, apart, share_images us x y kx ky more share)

image_of : {world : Fact → Type 0} {fs : List Fact} (i : Images world fs) (gs : List Fact) → ((f : Fact) → In f gs → In f fs) → (g : Fact) → In g (map (image i.to) gs) → world g
image_of i [] within g m = elim m [ ]
image_of {world} i (f ∷ gs) within g (here e) = subst world e (i.takes f (within f (here refl)))
image_of i (f ∷ gs) within g (there m) = image_of i gs (λ k n. within k (there n)) g m

-- known facts are consistent exactly where a model of them meets the constraints
pub consistent_where_modelled : ConsistentWhereModelled
consistent_where_modelled axioms constraints facts known = (to, from)
  where
    to : IsConsistent axioms constraints facts → (world : World) × IsModel axioms facts world × ((c : Constraint) → In c constraints → Meets world c)
    to none =
        (chase axioms facts, rounds_model axioms facts, λ c m clashing all clash. (let r = one_round axioms facts clashing all in none c m (record { round = r.0; clashing = clashing; stand = r.1; clash = clash })))

    from : (world : World) × IsModel axioms facts world × ((c : Constraint) → In c constraints → Meets world c) → IsConsistent axioms constraints facts
    from (world, model, meets) c m k =
        let i = images known model k.clashing (λ f n. chase_derived axioms facts k.round (k.stand f n)) in
        meets c m (map (image i.to) k.clashing) (image_of i k.clashing (λ f n. n)) (clash_images i.to i.keeps c k.clashing k.clash)

-- what meets a constraint fully meets it
two_hold : {world : World} (R : Fact → Fact → Type 0) (facts : List Fact) → AreTwo R facts → ((f : Fact) → In f facts → Holds world f) → (f g : Fact) × Holds world f × Holds world g × R f g
two_hold R [] k all = absurd k
two_hold R (f ∷ []) k all = absurd k
two_hold R (f ∷ g ∷ []) k all = (f, g, all f (here refl), all g (there (here refl)), k)
two_hold R (f ∷ g ∷ h ∷ more) k all = absurd k

shares_hold : {world : World} (us : List LinkId) (x y : Term) (facts : List Fact) → ShareEach us x y facts → ((f : Fact) → In f facts → Holds world f) → (u : LinkId) → In u us → (v : Term) × Holds world (Linked u x v) × Holds world (Linked u y v)
shares_hold [] x y facts share all u m = elim m [ ]
shares_hold {world} (w ∷ us) x y facts (v, more, e, k, rest) all u (here same) =
    subst (λ z. (v : Term) × Holds world (Linked z x v) × Holds world (Linked z y v)) same (
      v,
      all (Linked w x v) (subst (In (Linked w x v)) (sym e) (here refl)),
      all (Linked w y v) (subst (In (Linked w y v)) (sym e) (there (here refl))),
    )
shares_hold (w ∷ us) x y facts (v, more, e, k, rest) all u (there m) = shares_hold us x y more rest (λ f n. all f (subst (In f) (sym e) (there (there n)))) u m

fully_meets : (world : World) (c : Constraint) → MeetsFully world c → Meets world c
fully_meets world (Disjoint b c) full facts all k = let w = two_hold {world = world} _ facts k all in full w.0 w.1 w.4.0 w.2 w.3 w.4.1 w.4.2
fully_meets world (Func p d) full facts all k =
    let w = two_hold {world = world} _ facts k all in
    let (s, t, u, e, e', kt, ku, apart) = w.4 in
    apart (full s t u (subst (Holds world) e w.2) (subst (Holds world) e' w.3))
fully_meets world (Apart q d p) full facts all k =
    let w = two_hold {world = world} _ facts k all in
    let (s, t, e, e') = w.4 in
    full s t (subst (Holds world) e w.2) (subst (Holds world) e' w.3)
fully_meets world (Identified a us) full facts all (x, y, more, e, kx, ky, apart, share) =
    apart (full x y (all (InClass a x) (subst (In (InClass a x)) (sym e) (here refl))) (all (InClass a y) (subst (In (InClass a y)) (sym e) (there (here refl))))
    (shares_hold {world = world} us x y more share (λ f n. all f (subst (In f) (sym e) (there (there n))))))

-- a disjointness that no facts of a world contradict
pair_holds : {world : World} {f g : Fact} → Holds world f → Holds world g → (k : Fact) → In k (f ∷ g ∷ []) → Holds world k
pair_holds {world} hf hg k (here e) = subst (Holds world) e hf
pair_holds {world} hf hg k (there (here e)) = subst (Holds world) e hg
pair_holds hf hg k (there (there m)) = elim m [ ]

meets_fully : (world : World) (c : Constraint) → IsDisjointness c → Meets world c → MeetsFully world c
meets_fully world (Disjoint b c) k meets = λ f g t hf hg e e'. meets (f ∷ g ∷ []) (pair_holds {world = world} hf hg) (t, e, e')
meets_fully world (Func p d) k meets = absurd k
meets_fully world (Apart q d p) k meets = λ s t hs ht. meets (Linked q s t ∷ link_fact p d s t ∷ []) (pair_holds {world = world} hs ht) (s, t, refl, refl)
meets_fully world (Identified a us) k meets = absurd k

pub fully_modelled : FullyModelledIsConsistent
fully_modelled = record {
  sound = λ axioms constraints facts known world model full.
      (consistent_where_modelled axioms constraints facts known).1 (world, model, λ c m. fully_meets world c (full c m));
  complete = λ axioms constraints facts none disjoint. (
    chase axioms facts,
    rounds_model axioms facts,
    λ c m. meets_fully (chase axioms facts) c (disjoint c m) (λ clashing all clash. let r = one_round axioms facts clashing all in none c m (record { round = r.0; clashing = clashing; stand = r.1; clash = clash })),
  );
}
