-- Leads to what the birth of a fold step gives.
use Rattle.std.proofs.Common.{◌≡◌, ◌↔◌, IsTrue, refl, sym, ◌∙◌, ap, subst, ℕ, zero, suc, ◌+◌, ◌<◌, ◌≤◌, Bool, true, false, List, [], ◌∷◌, ◌++◌, length, take, get_or, append_assoc, ◌⊎◌, inl, inr, Some, None, arith}
use Rattle.std.specs.Prelude.{slice_get}
use Rattle.std.proofs.lemmas.List.{append-nil, take_more}
use Rattle.vocabulary.specs.declared.ids.ClassId.{ClassId}
use Rattle.vocabulary.specs.declared.ids.LinkId.{LinkId}
use Rattle.vocabulary.specs.declared.ids.Dir.{Dir}
use Rattle.vocabulary.specs.declared.ids.Dir.TheVariants.{Fwd, Back}
use Rattle.vocabulary.specs.declared.term.Term.{New, Term}
use Rattle.vocabulary.specs.declared.term.Fact.{Fact}
use Rattle.vocabulary.specs.Lists.{In, here, there, item}
use Rattle.vocabulary.proofs.Lists.{In-append_cases, In-append_left, In-append_right, In-map}
use Rattle.dllite_axioms.specs.declared.axioms.Axiom.{Axiom}
use Rattle.dllite_axioms.specs.declared.axioms.Axiom.TheVariants.{Sub}
use Rattle.dllite_axioms.specs.declared.axioms.Basic.{Basic}
use Rattle.dllite_axioms.specs.declared.axioms.Basic.TheVariants.{Class, Has}
use Rattle.dllite_axioms.specs.Basics.{birth, match_at, other}
use Rattle.dllite_axioms.specs.Chains.{Chain, Leads, Under, by_sub, by_sub_link, further, itself, onward, stay}
use Rattle.dllite_axioms.specs.Within.{IsAxiomWithin, IsWithin}
use Rattle.dllite_axioms.proofs.Firing.{apply_at, class_match, match_back, match_fwd}
use Rattle.mapping_facts.proofs.Members.{from_map}
use Rattle.queries.specs.declared.query.Atom.{Atom}
use Rattle.queries.specs.declared.query.Atom.TheVariants.{InClass, Linked}
use Rattle.queries.specs.declared.query.Query.{Query}
use Rattle.fold_rewriting.specs.declared.steps.FoldStep.{FoldStep as Told}
use Rattle.fold_rewriting.specs.Places.{IsBorn}
use Rattle.why_answers.specs.declared.showing.Lead.{Lead}
use Rattle.why_answers.specs.declared.showing.Mark.{Mark}
use Rattle.why_answers.specs.Applying.{Applies, apply_one}
use Rattle.why_answers.specs.Bearing.{AddsBorn, AddsFrom, BirthLeads, IsPlace, LeadOn, born}
use Rattle.why_answers.specs.Showing.{AreLed, AreMarked, lead_facts, mark_facts}
use Rattle.why_answers.proofs.Running.{follows_applies, links_apply}

module _ (axioms : List Axiom) (classes links : ℕ) (within : (a : Axiom) → In a axioms → IsAxiomWithin classes links a) where
  -- no chain leads to a class that is not within
  pub no_chain : (p : LinkId) (d : Dir) (c : ClassId) → classes ≤ c.0 → Chain axioms (Has p d) (Class c) → ⊥
  no_chain p d c high (stay e) = absurd cc
  no_chain p d c high (onward ax k i l) = by l i refl
    where
      low : (r : Basic) → r ≡ Class c → IsWithin classes links r → ⊥
      low (Class n) e w = let num : n.0 ≡ c.0 = class_number n e in omega (arith, w, high, num)
        where
          class_number : (n : ClassId) → Class n ≡ Class c → n.0 ≡ c.0
          class_number n e = let same : n ≡ c = cc in ap (λ k. k.0) same
      low (Has q g) e w = absurd cc

      by : {ax : Axiom} {x y : Basic} → Leads ax x y → In ax axioms → y ≡ Class c → ⊥
      by (by_sub {b = l} {c = r}) i e = low r e (within (Sub l r) i).1
      by by_sub_link i e = absurd cc

  -- nor one of links to a link that is not
  pub no_under : {p q : LinkId} {d : Dir} → p.0 < links → links ≤ q.0 → Under axioms p d q → ⊥
  no_under low high (itself e) = let num = ap (λ k. k.0) e in omega (arith, low, high, num)
  no_under low high (further u i t) = let w = (within _ i).1 in omega (arith, w, high)

birth_match : (p : LinkId) (d : Dir) (t : Term) → match_at (Has p (other d)) (birth p d t) ≡ Some (New p d t)
birth_match p Fwd t = match_back p t (New p Fwd t)
birth_match p Back t = match_fwd p (New p Back t) t

-- the axioms lead from the birth
birth_leads : (axioms : List Axiom) (p : LinkId) (d : Dir) (t : Term) (a : Atom) (e : Dir) (chain : List ℕ) → BirthLeads axioms p d a e chain → Applies axioms chain (birth p d t) (born p d t a e)
birth_leads axioms p d t (InClass c x) e chain path =
    let r = follows_applies axioms path.follows (birth p d t) (New p d t) (birth_match p d t) in
    subst (Applies axioms chain (birth p d t)) (class_match c r.0 (New p d t) r.2) r.1
birth_leads axioms p d t (Linked q x y) e chain path = links_apply axioms path.path.follows path.between_links q e refl p d refl t (New p d t)

-- and so from a fact that the left side matches
lead_is : (axioms : List Axiom) (s : Told) (k : ℕ) (t : Term) (a : Atom) (e : Dir) (chain : List ℕ) (l : Lead) → slice_get axioms k ≡ Some (Sub s.left (Has s.link s.dir)) → BirthLeads axioms s.link s.dir a e chain → l.chain ≡ k ∷ chain → l.fact ≡ born s.link s.dir t a e →
    (g : Fact) → match_at s.left g ≡ Some t → Applies axioms l.chain g l.fact
lead_is axioms s k t a e chain l is leads numbers fact g m =
    subst (λ c. Applies axioms c g l.fact) (sym numbers) (subst (Applies axioms (k ∷ chain) g) (sym fact) (apply_one (Sub s.left (Has s.link s.dir)) is (apply_at s.left (Has s.link s.dir) g t m) (birth_leads axioms s.link s.dir t a e chain leads)))

module _ (axioms : List Axiom) (q : Query) (s : Told) (from : ℕ) (t : Term) where
  -- nothing is born there
  pub born_none : (P : ℕ → Dir → Type 0) (leads : List Lead) → ((i : ℕ) (e : Dir) (a : Atom) → P i e → IsPlace q s i e → slice_get q.atoms i ≡ Some a → IsBorn axioms s.link s.dir a e → ⊥) → AddsBorn P axioms q s from t leads leads
  born_none P leads none = record { more = []; made = sym (append-nil leads); led = λ facts g at m l i. elim i [ ]; has = λ i e a p place is b. absurd (none i e a p place is b) }

  -- one fact is
  pub born_one : (k at : ℕ) (e : Dir) (a : Atom) (chain : List ℕ) (l : Lead) (old new : List Lead) → slice_get axioms k ≡ Some (Sub s.left (Has s.link s.dir)) → slice_get q.atoms at ≡ Some a → BirthLeads axioms s.link s.dir a e chain →
      l.step ≡ from → l.chain ≡ k ∷ chain → l.fact ≡ born s.link s.dir t a e → new ≡ old ++ l ∷ [] → AddsBorn (λ i g. (i ≡ at) × (g ≡ e)) axioms q s from t old new
  born_one k at e a chain l old new is there_is leads number numbers fact made = record {
    more = l ∷ [];
    made = made;
    led = λ facts g here_is m z i. elim i [
      | here h ↦ subst (λ x. (f : Fact) × (item facts x.step ≡ Some f) × Applies axioms x.chain f x.fact) h (g, ap (item facts) number ∙ here_is, lead_is axioms s k t a e chain l is leads numbers fact g m)
      | there j ↦ elim j [ ]
    ];
    has = λ i g b p place this bears. (
        let same : a ≡ b = same_some a b (sym there_is ∙ ap (slice_get q.atoms) (sym p.0) ∙ this) in
        here (fact ∙ ap (λ x. born s.link s.dir t x e) same ∙ ap (born s.link s.dir t b) (sym p.1)));
  }
    where
      same_some : (x y : Atom) → Some x ≡ Some y → x ≡ y
      same_some x y h = cc

  -- of two places
  pub born_both : (P Q R : ℕ → Dir → Type 0) (old between new : List Lead) → AddsBorn P axioms q s from t old between → AddsBorn Q axioms q s from t between new → ((i : ℕ) (e : Dir) → R i e → P i e ⊎ Q i e) → AddsBorn R axioms q s from t old new
  born_both P Q R old between new a b of = record {
    more = a.more ++ b.more;
    made = b.made ∙ ap (λ ls. ls ++ b.more) a.made ∙ append_assoc old a.more b.more;
    led = λ facts g at m l i. elim (In-append_cases a.more b.more i) [ inl j ↦ a.led facts g at m l j | inr j ↦ b.led facts g at m l j ];
    has = λ i e c r place is bears. elim (of i e r) [ inl p ↦ facts_left (a.has i e c p place is bears) | inr p ↦ facts_right (b.has i e c p place is bears) ];
  }
    where
      facts_left : {f : Fact} → In f (lead_facts a.more) → In f (lead_facts (a.more ++ b.more))
      facts_left i = let o = from_map (λ l. l.fact) a.more i in subst (λ x. In x (lead_facts (a.more ++ b.more))) o.2 (In-map (λ l. l.fact) (In-append_left b.more o.1))

      facts_right : {f : Fact} → In f (lead_facts b.more) → In f (lead_facts (a.more ++ b.more))
      facts_right i = let o = from_map (λ l. l.fact) b.more i in subst (λ x. In x (lead_facts (a.more ++ b.more))) o.2 (In-map (λ l. l.fact) (In-append_right a.more o.1))

  pub born_weaker : (P R : ℕ → Dir → Type 0) (old new : List Lead) → ((i : ℕ) (e : Dir) (a : Atom) → R i e → slice_get q.atoms i ≡ Some a → P i e) → AddsBorn P axioms q s from t old new → AddsBorn R axioms q s from t old new
  born_weaker P R old new of a = record { more = a.more; made = a.made; led = a.led; has = λ i e c r place is bears. a.has i e c (of i e c r is) place is bears }

-- a place so far is one before, or the last
pub below_or_at : (at : ℕ) (end : Dir) (i : ℕ) (e : Dir) → (i < at + 1) × (e ≡ end) → ((i < at) × (e ≡ end)) ⊎ ((i ≡ at) × (e ≡ end))
below_or_at at end i e (low, same) = elim (less i at low) [ inl h ↦ inl (h, same) | inr h ↦ inr (h, same) ]
  where
    less : (i at : ℕ) → i < at + 1 → (i < at) ⊎ (i ≡ at)
    less zero zero l = inr refl
    less zero (suc at) l = inl (omega arith)
    less (suc i) zero l = absurd (omega (arith, l))
    less (suc i) (suc at) l = elim (less i at (omega (arith, l))) [ inl h ↦ inl (omega (arith, h)) | inr h ↦ inr (ap suc h) ]

pub place_below : {X : Type 0} (xs : List X) (k : ℕ) (x : X) → slice_get xs k ≡ Some x → k < length xs
place_below [] k x e = cc
place_below (y ∷ xs) zero x e = omega arith
place_below (y ∷ xs) (suc k) x e = let low = place_below xs k x e in omega (arith, low)

-- one end or the other
pub either_end : (e : Dir) → (e ≡ Fwd) ⊎ (e ≡ Back)
either_end Fwd = inl refl
either_end Back = inr refl

-- from a mark
pub from_none : (axioms : List Axiom) (q : Query) (s : Told) (m : Mark) (leads : List Lead) → None ≡ match_at s.left m.fact → AddsFrom axioms q s m leads leads
from_none axioms q s m leads none = record { more = []; made = sym (append-nil leads); led = λ facts at l i. elim i [ ]; has = λ t is. absurd (clash t (none ∙ is)) }
  where
    clash : (t : Term) → None ≡ Some t → ⊥
    clash t h = cc

pub from_some : (axioms : List Axiom) (q : Query) (s : Told) (m : Mark) (t : Term) (old new : List Lead) → match_at s.left m.fact ≡ Some t → AddsBorn (λ i e. Unit {0}) axioms q s m.step t old new → AddsFrom axioms q s m old new
from_some axioms q s m t old new is a = record {
  more = a.more;
  made = a.made;
  led = λ facts at. a.led facts m.fact at is;
  has = λ u is_u i e c place there_is bears. (let same : t ≡ u = same_some t u (sym is ∙ is_u) in subst (λ x. In (born s.link s.dir x c e) (lead_facts a.more)) same (a.has i e c tt place there_is bears));
}
  where
    same_some : (x y : Term) → Some x ≡ Some y → x ≡ y
    same_some x y h = cc

-- the marks alone
pub leads_start : (axioms : List Axiom) (q : Query) (s : Told) (marks : List Mark) (leads : List Lead) → lead_facts leads ≡ mark_facts marks → ((facts : List Fact) → AreMarked facts marks → AreLed axioms facts leads) → LeadOn axioms q s [] marks leads
leads_start axioms q s marks leads same led = record {
  keeps = λ m i. subst (In m.fact) (sym same) (In-map (λ x. x.fact) i);
  led = led;
  has = λ m i. elim i [ ];
}

-- and from one mark more
pub leads_more : (axioms : List Axiom) (q : Query) (s : Told) (marks : List Mark) (i : ℕ) (m : Mark) (old new : List Lead) → i < length marks → m ≡ get_or marks i m → LeadOn axioms q s (take i marks) marks old → AddsFrom axioms q s m old new → LeadOn axioms q s (take (i + 1) marks) marks new
leads_more axioms q s marks i m old new low is w a = subst (LeadOn axioms q s (take (i + 1) marks) marks) (sym a.made) (record {
  keeps = λ n j. facts_left (w.keeps n j);
  led = λ facts are l j. elim (In-append_cases old a.more j) [ inl k ↦ w.led facts are l k | inr k ↦ a.led facts (are m (this_in marks i low is)) l k ];
  has = λ n j t is_t k e c place there_is bears. elim (In-append_cases (take i marks) (get_or marks i m ∷ []) (subst (In n) (take_more marks i m low) j)) [
    | inl h ↦ facts_left (w.has n h t is_t k e c place there_is bears)
    | inr h ↦ (let same : m ≡ n = is ∙ only h in facts_right (a.has t (ap (λ x. match_at s.left x.fact) same ∙ is_t) k e c place there_is bears))
  ];
})
  where
    only : {x y : Mark} → In x (y ∷ []) → y ≡ x
    only (here e) = e
    only (there k) = elim k [ ]

    this_in : (xs : List Mark) (k : ℕ) → k < length xs → m ≡ get_or xs k m → In m xs
    this_in [] k l e = absurd (omega (arith, l))
    this_in (x ∷ xs) zero l e = here (sym e)
    this_in (x ∷ xs) (suc k) l e = there (this_in xs k (omega (arith, l)) e)

    facts_left : {f : Fact} → In f (lead_facts old) → In f (lead_facts (old ++ a.more))
    facts_left j = let o = from_map (λ l. l.fact) old j in subst (λ x. In x (lead_facts (old ++ a.more))) o.2 (In-map (λ l. l.fact) (In-append_left a.more o.1))

    facts_right : {f : Fact} → In f (lead_facts a.more) → In f (lead_facts (old ++ a.more))
    facts_right j = let o = from_map (λ l. l.fact) a.more j in subst (λ x. In x (lead_facts (old ++ a.more))) o.2 (In-map (λ l. l.fact) (In-append_right old o.1))

pub none_further : {X : Type 0} (xs : List X) (k : ℕ) (x y : X) (b : Bool) → k < length xs → (In x (take k xs) → ⊥) → (IsTrue b ↔ (get_or xs k y ≡ x)) → b ≡ false → In x (take (k + 1) xs) → ⊥
none_further xs k x y b low before is fails i =
    elim (In-append_cases (take k xs) (get_or xs k y ∷ []) (subst (In x) (take_more xs k y low) i)) [
      | inl j ↦ before j
      | inr j ↦ elim j [ here e ↦ clash (sym fails ∙ is.1 e) | there m ↦ elim m [ ] ]
    ]
  where
    clash : false ≡ true → ⊥
    clash e = cc

pub atom_there : (xs : List Atom) (k : ℕ) (x : Atom) → k < length xs → x ≡ get_or xs k x → slice_get xs k ≡ Some x
atom_there [] k x low is = absurd (omega (arith, low))
atom_there (y ∷ xs) zero x low is = ap Some (sym is)
atom_there (y ∷ xs) (suc k) x low is = atom_there xs k x (omega (arith, low)) is

module _ (axioms : List Axiom) (q : Query) (s : Told) (at : ℕ) (a : Atom) (end : Dir) (there_is : slice_get q.atoms at ≡ Some a) (i : ℕ) (e : Dir) (p : (i ≡ at) × (e ≡ end)) where
  pub place_here : IsPlace q s i e → IsPlace q s at end
  place_here place = subst (λ k. IsPlace q s k end) p.0 (subst (IsPlace q s i) p.1 place)

  pub born_here : (b : Atom) → slice_get q.atoms i ≡ Some b → IsBorn axioms s.link s.dir b e → IsBorn axioms s.link s.dir a end
  born_here b is bears =
      let same : b ≡ a = same_atom b a (sym is ∙ ap (slice_get q.atoms) p.0 ∙ there_is) in
      subst (λ x. IsBorn axioms s.link s.dir x end) same (subst (IsBorn axioms s.link s.dir b) p.1 bears)
    where
      same_atom : (x y : Atom) → Some x ≡ Some y → x ≡ y
      same_atom x y h = cc
