-- An argument gets a row term: forwards and back.
use Rattle.std.proofs.Common.{ℕ, ◌≡◌, refl, sym, ◌∙◌, ap, subst, List, [], ◌∷◌, ◌++◌, Option, Some, None, ◌⊎◌, inl, inr, nat_eq, if◌then◌else◌, Bool, true, false, All}
use Rattle.std.specs.Prelude.{option_map, IfSome}
use Rattle.std.proofs.lemmas.Bool.{eqb-true, eq-eqb}
use Rattle.std.proofs.lemmas.List.Elements.{All-append, All-cons, All-head, All-nil, All-push, All-tail}
use Rattle.vocabulary.specs.declared.ids.VarId.{VarId}
use Rattle.vocabulary.specs.declared.term.Term.{Term}
use Rattle.queries.specs.declared.query.Arg.{Arg}
use Rattle.queries.specs.declared.query.Arg.TheVariants.{Blank, Var, Fixed}
use Rattle.queries.specs.Matches.{Terms, ArgIs}
use Rattle.mapping_facts.specs.declared.query.Place.{Place}
use Rattle.mapping_facts.specs.declared.query.Condition.{Condition}
use Rattle.mapping_facts.specs.declared.term.RowTerm.{RowTerm}
use Rattle.mapping_facts.specs.declared.term.RowTerm.TheVariants.{Iri, Cell as CellTerm, Fixed as FixedTerm}
use Rattle.mapping_facts.specs.Facts.{term_at}
use Rattle.mapping_facts.specs.Fits.{ConditionFits, IsTextCell, PlaceFits, TermFits}
use Rattle.mapping_facts.proofs.Tuples.{AllHold, CellsAt, all_hold, hold_all}
use Rattle.mapping_unfolding.specs.declared.draft.Binding.{Binding}
use Rattle.mapping_unfolding.specs.declared.draft.Draft.{Draft}
use Rattle.mapping_unfolding.specs.Drafts.{AreWhole, FitsIn, Puts, PutsEqual, PutsVar, bind, lookup, restricted}
use Rattle.mapping_unfolding.specs.Equating.{Decides, IsWhole, term_places}
use Rattle.mapping_unfolding.proofs.Cells.{all_append, all_left, all_right, mapped_some, some_is}

abbrev pub AreTexts : CellsAt → Type 0
AreTexts c = (p : Place) → IsTextCell (c p)

-- the conditions of a draft hold, and each bound variable has its term
pub record On (c : CellsAt) (σ : Terms) (d : Draft) : Type 0 where
  pub hold : AllHold c d.query.conditions
  pub agree : (v : VarId) (r : RowTerm) → lookup v d.bound ≡ Some r → term_at c r ≡ Some (σ v)

-- where the conditions hold, each bound row term is defined
abbrev pub Safe : Draft → Type 0
Safe d = (c : CellsAt) → AllHold c d.query.conditions → (v : VarId) (r : RowTerm) → lookup v d.bound ≡ Some r → (t : Term) × (term_at c r ≡ Some t)

-- where they hold, the row term is defined
abbrev pub Sure : Draft → RowTerm → Type 0
Sure d r = (c : CellsAt) → AllHold c d.query.conditions → (t : Term) × (term_at c r ≡ Some t)

-- the variable has a row term
abbrev pub Bound : Draft → VarId → Type 0
Bound d v = (r : RowTerm) × (lookup v d.bound ≡ Some r)

pub whole : (n : ℕ) (r : RowTerm) → TermFits n r → IsWhole r
whole n (Iri template places) w = w.0
whole n (CellTerm kind place) w = tt
whole n (FixedTerm t) w = tt

pub places_fit : (n : ℕ) (r : RowTerm) → TermFits n r → All (PlaceFits n) (term_places r)
places_fit n (Iri template places) w = w.1
places_fit n (CellTerm kind place) w = All-cons (PlaceFits n) place [] w (All-nil (PlaceFits n))
places_fit n (FixedTerm t) w = All-nil (PlaceFits n)

abbrev pair : VarId → RowTerm → Binding
pair v r = record { var = v; term = r }

found_cases : (b : Bool) (v w : VarId) (r r' : RowTerm) (o : Option RowTerm) → nat_eq v.0 w.0 ≡ b → (if b then Some r else o) ≡ Some r' → ((v ≡ w) × (r ≡ r')) ⊎ (o ≡ Some r')
found_cases true v w r r' o e h = inl ((λ i. record { 0 = eqb-true v.0 w.0 e i }), some_is r r' h)
found_cases false v w r r' o e h = inr h

step_cases : (P : Type 0) (b : Bool) (x r' : RowTerm) (o o' : Option RowTerm) → (o ≡ Some r' → P ⊎ (o' ≡ Some r')) → (if b then Some x else o) ≡ Some r' → P ⊎ ((if b then Some x else o') ≡ Some r')
step_cases P true x r' o o' f h = inr h
step_cases P false x r' o o' f h = f h

lookup_cases : (v w : VarId) (r r' : RowTerm) (bound : List Binding) → lookup w (bound ++ (pair v r ∷ [])) ≡ Some r' → ((v ≡ w) × (r ≡ r')) ⊎ (lookup w bound ≡ Some r')
lookup_cases v w r r' [] h = found_cases (nat_eq v.0 w.0) v w r r' None refl h
lookup_cases v w r r' (b ∷ bs) h = step_cases ((v ≡ w) × (r ≡ r')) (nat_eq b.var.0 w.0) b.term r' (lookup w (bs ++ (pair v r ∷ []))) (lookup w bs) (lookup_cases v w r r' bs) h

none_first : (b : Bool) (x r : RowTerm) (o o' : Option RowTerm) → (o ≡ None → o' ≡ Some r) → (if b then Some x else o) ≡ None → (if b then Some x else o') ≡ Some r
none_first true x r o o' f h = cc
none_first false x r o o' f h = f h

pub lookup_first : (v : VarId) (r : RowTerm) (bound : List Binding) → lookup v bound ≡ None → lookup v (bound ++ (pair v r ∷ [])) ≡ Some r
lookup_first v r [] n = rw (eq-eqb v.0 v.0 refl) refl
lookup_first v r (b ∷ bs) n = none_first (nat_eq b.var.0 v.0) b.term r (lookup v bs) (lookup v (bs ++ (pair v r ∷ []))) (lookup_first v r bs) n

some_first : (b : Bool) (x r : RowTerm) (o o' : Option RowTerm) → (o ≡ Some r → o' ≡ Some r) → (if b then Some x else o) ≡ Some r → (if b then Some x else o') ≡ Some r
some_first true x r o o' f h = h
some_first false x r o o' f h = f h

-- what is bound stays bound
pub lookup_later : (v w : VarId) (r r' : RowTerm) (bound : List Binding) → lookup w bound ≡ Some r' → lookup w (bound ++ (pair v r ∷ [])) ≡ Some r'
lookup_later v w r r' [] h = cc
lookup_later v w r r' (b ∷ bs) h = some_first (nat_eq b.var.0 w.0) b.term r' (lookup w bs) (lookup w (bs ++ (pair v r ∷ []))) (lookup_later v w r r' bs) h

pub record Put (c : CellsAt) (σ : Terms) (o : Option Draft) : Type 0 where
  pub draft : Draft
  pub is : o ≡ Some draft
  pub on : On c σ draft

-- two row terms are made equal
decided_on : (c : CellsAt) (σ : Terms) (d : Draft) (r s : RowTerm) (cs : Option (List Condition)) (t : Term) → Decides cs c r s → term_at c r ≡ Some t → term_at c s ≡ Some t → On c σ d → Put c σ (option_map (restricted d) cs)
decided_on c σ d r s None t x e f on = absurd (x t t e f refl)
decided_on c σ d r s (Some cs) t x e f on =
    record { draft = restricted d cs; is = refl; on = record { hold = all_append c d.query.conditions cs on.hold (all_hold c cs ((x t t e f).1 refl)); agree = on.agree } }

moved : (c : CellsAt) (σ : Terms) (o p : Option Draft) → o ≡ p → Put c σ p → Put c σ o
moved c σ o p e h = record { draft = h.draft; is = e ∙ h.is; on = h.on }

equal_on : (c : CellsAt) → AreTexts c → (σ : Terms) (d : Draft) (r s : RowTerm) (o : Option Draft) (t : Term) → IsWhole r → IsWhole s → PutsEqual r s d o → term_at c r ≡ Some t → term_at c s ≡ Some t → On c σ d → Put c σ o
equal_on c texts σ d r s o t v w p e f on = moved c σ o (option_map (restricted d) p.0) p.2 (decided_on c σ d r s p.0 t (p.1.decides v w c texts) e f on)

decided_back : (c : CellsAt) (σ : Terms) (d e : Draft) (r s : RowTerm) (cs : Option (List Condition)) → Decides cs c r s → option_map (restricted d) cs ≡ Some e → On c σ e →
    On c σ d × ((t u : Term) → term_at c r ≡ Some t → term_at c s ≡ Some u → t ≡ u)
decided_back c σ d e r s None x q on = cc
decided_back c σ d e r s (Some cs) x q on =
    let on' : On c σ (restricted d cs) = subst (On c σ) (sym (some_is (restricted d cs) e q)) on in
    (record { hold = all_left c d.query.conditions cs on'.hold; agree = on'.agree }, λ t u f g. (x t u f g).0 (hold_all c cs (all_right c d.query.conditions cs on'.hold)))

equal_back : (c : CellsAt) → AreTexts c → (σ : Terms) (d e : Draft) (r s : RowTerm) → IsWhole r → IsWhole s → PutsEqual r s d (Some e) → On c σ e →
    On c σ d × ((t u : Term) → term_at c r ≡ Some t → term_at c s ≡ Some u → t ≡ u)
equal_back c texts σ d e r s v w p on = decided_back c σ d e r s p.0 (p.1.decides v w c texts) (sym p.2) on

restricted_fits : (n : ℕ) (d e : Draft) (cs : Option (List Condition)) → IfSome cs (All (ConditionFits n)) → option_map (restricted d) cs ≡ Some e → FitsIn n d → FitsIn n e
restricted_fits n d e None w q fits = cc
restricted_fits n d e (Some cs) w q fits =
    subst (FitsIn n) (some_is (restricted d cs) e q) (record { conditions = All-append (ConditionFits n) d.query.conditions cs fits.conditions w; bound = fits.bound })

equal_fits : (n : ℕ) (d e : Draft) (r s : RowTerm) → All (PlaceFits n) (term_places r) → All (PlaceFits n) (term_places s) → PutsEqual r s d (Some e) → FitsIn n d → FitsIn n e
equal_fits n d e r s v w p fits = restricted_fits n d e p.0 (p.1.fits n v w) (sym p.2) fits

-- what stays when conditions are added
abbrev pub Keeps : Draft → Draft → Type 0
Keeps d e = (e.query.tables ≡ d.query.tables) × (e.origins ≡ d.origins) × ((c : CellsAt) → AllHold c e.query.conditions → AllHold c d.query.conditions) × ((w : VarId) (r : RowTerm) → lookup w d.bound ≡ Some r → lookup w e.bound ≡ Some r)

pub keeps_itself : (d e : Draft) → d ≡ e → Keeps d e
keeps_itself d e q = subst (Keeps d) q (refl, refl, (λ c h. h), (λ w r h. h))

pub keeps_on : (d m e : Draft) → Keeps d m → Keeps m e → Keeps d e
keeps_on d m e k l = (l.0 ∙ k.0, l.1 ∙ k.1, (λ c h. k.2 c (l.2 c h)), (λ w r h. l.3 w r (k.3 w r h)))

equal_keeps : (d e : Draft) (r s : RowTerm) → PutsEqual r s d (Some e) → Keeps d e × (e.bound ≡ d.bound)
equal_keeps d e r s p =
    let m = mapped_some (restricted d) p.0 e (sym p.2) in
    (subst (Keeps d) m.2 (refl, refl, (λ c h. all_left c d.query.conditions m.0 h), (λ w r h. h)), ap (λ z. z.bound) (sym m.2))

-- a first occurrence
bind_keeps : (d : Draft) (v : VarId) (r : RowTerm) → Keeps d (bind v r d)
bind_keeps d v r = (refl, refl, (λ c h. h), (λ w r' h. lookup_later v w r r' d.bound h))

bind_on : (c : CellsAt) (σ : Terms) (d : Draft) (v : VarId) (r : RowTerm) → On c σ d → term_at c r ≡ Some (σ v) → On c σ (bind v r d)
bind_on c σ d v r on e = record {
  hold = on.hold;
  agree = λ w r' h. elim (lookup_cases v w r r' d.bound h) [ inl q ↦ ap (term_at c) (sym q.1) ∙ (e ∙ ap (λ z. Some (σ z)) q.0) | inr k ↦ on.agree w r' k ];
}

bind_fits : (n : ℕ) (d : Draft) (v : VarId) (r : RowTerm) → FitsIn n d → TermFits n r → FitsIn n (bind v r d)
bind_fits n d v r fits w = record {
  conditions = fits.conditions;
  bound = λ w' r' h. elim (lookup_cases v w' r r' d.bound h) [ inl q ↦ subst (TermFits n) q.1 w | inr j ↦ fits.bound w' r' j ];
}

bind_safe : (d : Draft) (v : VarId) (r : RowTerm) → Safe d → Sure d r → Safe (bind v r d)
bind_safe d v r safe sure = λ c h w' r' k. elim (lookup_cases v w' r r' d.bound k) [ inl q ↦ subst (λ z. (t : Term) × (term_at c z ≡ Some t)) q.1 (sure c h) | inr j ↦ safe c h w' r' j ]

pub equal_safe : (d e : Draft) (r s : RowTerm) → Safe d → PutsEqual r s d (Some e) → Safe e
equal_safe d e r s safe p =
    let k = equal_keeps d e r s p in
    λ c h v r' l. safe c (k.0.2 c h) v r' (subst (λ z. lookup v z ≡ Some r') k.1 l)

-- a variable
var_on : (n : ℕ) (c : CellsAt) → AreTexts c → (σ : Terms) (d : Draft) → FitsIn n d → On c σ d → (v : VarId) (r : RowTerm) → TermFits n r → term_at c r ≡ Some (σ v) →
    (first : Option RowTerm) → lookup v d.bound ≡ first → (o : Option Draft) → PutsVar v r d first o → Put c σ o
var_on n c texts σ d fits on v r w e None q o p = record { draft = bind v r d; is = p; on = bind_on c σ d v r on e }
var_on n c texts σ d fits on v r w e (Some s) q o p = equal_on c texts σ d s r o (σ v) (whole n s (fits.bound v s q)) (whole n r w) p (on.agree v s q) e on

var_back : (n : ℕ) (c : CellsAt) → AreTexts c → (σ : Terms) (d e : Draft) → FitsIn n d → (v : VarId) (r : RowTerm) (t : Term) → TermFits n r → term_at c r ≡ Some t →
    (first : Option RowTerm) → lookup v d.bound ≡ first → PutsVar v r d first (Some e) → On c σ e → On c σ d × (σ v ≡ t)
var_back n c texts σ d e fits v r t w q None k p on =
    let bound : On c σ (bind v r d) = subst (On c σ) (some_is e (bind v r d) p) on in (
      record { hold = bound.hold; agree = λ w' r' h. bound.agree w' r' (lookup_later v w' r r' d.bound h) },
      some_is (σ v) t (sym (bound.agree v r (lookup_first v r d.bound k)) ∙ q),
    )
var_back n c texts σ d e fits v r t w q (Some s) k p on =
    let b = equal_back c texts σ d e s r (whole n s (fits.bound v s k)) (whole n r w) p on in
    (b.0, b.1 (σ v) t (b.0.agree v s k) q)

var_fits : (n : ℕ) (d e : Draft) → FitsIn n d → (v : VarId) (r : RowTerm) → TermFits n r → (first : Option RowTerm) → lookup v d.bound ≡ first → PutsVar v r d first (Some e) → FitsIn n e
var_fits n d e fits v r w None k p = subst (FitsIn n) (some_is (bind v r d) e (sym p)) (bind_fits n d v r fits w)
var_fits n d e fits v r w (Some s) k p = equal_fits n d e s r (places_fit n s (fits.bound v s k)) (places_fit n r w) p fits

var_safe : (d e : Draft) → Safe d → (v : VarId) (r : RowTerm) → Sure d r → (first : Option RowTerm) → PutsVar v r d first (Some e) → Safe e
var_safe d e safe v r sure None p = subst Safe (some_is (bind v r d) e (sym p)) (bind_safe d v r safe sure)
var_safe d e safe v r sure (Some s) p = equal_safe d e s r safe p

var_keeps : (d e : Draft) (v : VarId) (r : RowTerm) (first : Option RowTerm) → PutsVar v r d first (Some e) → Keeps d e
var_keeps d e v r None p = subst (Keeps d) (some_is (bind v r d) e (sym p)) (bind_keeps d v r)
var_keeps d e v r (Some s) p = (equal_keeps d e s r p).0

var_binds : (d e : Draft) (v : VarId) (r : RowTerm) (first : Option RowTerm) → lookup v d.bound ≡ first → PutsVar v r d first (Some e) → Bound e v
var_binds d e v r None k p = (r, subst (λ z. lookup v z.bound ≡ Some r) (some_is (bind v r d) e (sym p)) (lookup_first v r d.bound k))
var_binds d e v r (Some s) k p = (s, (var_keeps d e v r (Some s) p).3 v s k)

-- an argument
pub put_on : (n : ℕ) (c : CellsAt) → AreTexts c → (σ : Terms) (d : Draft) → FitsIn n d → On c σ d → (x : Arg) (r : RowTerm) (t : Term) → TermFits n r → term_at c r ≡ Some t → ArgIs σ x t →
    (o : Option Draft) → Puts x r d o → Put c σ o
put_on n c texts σ d fits on Blank r t w e i o p = record { draft = d; is = p; on = on }
put_on n c texts σ d fits on (Var v) r t w e i o p = var_on n c texts σ d fits on v r w (e ∙ ap Some (sym i)) (lookup v d.bound) refl o p
put_on n c texts σ d fits on (Fixed u) r t w e i o p = equal_on c texts σ d (FixedTerm u) r o t tt (whole n r w) p (ap Some i) e on

pub put_back : (n : ℕ) (c : CellsAt) → AreTexts c → (σ : Terms) (d e : Draft) → FitsIn n d → (x : Arg) (r : RowTerm) (t : Term) → TermFits n r → term_at c r ≡ Some t →
    Puts x r d (Some e) → On c σ e → On c σ d × ArgIs σ x t
put_back n c texts σ d e fits Blank r t w q p on = (subst (On c σ) (some_is e d p) on, tt)
put_back n c texts σ d e fits (Var v) r t w q p on = var_back n c texts σ d e fits v r t w q (lookup v d.bound) refl p on
put_back n c texts σ d e fits (Fixed u) r t w q p on =
    let b = equal_back c texts σ d e (FixedTerm u) r tt (whole n r w) p on in
    (b.0, b.1 u t refl q)

pub put_fits : (n : ℕ) (d e : Draft) → FitsIn n d → (x : Arg) (r : RowTerm) → TermFits n r → Puts x r d (Some e) → FitsIn n e
put_fits n d e fits Blank r w p = subst (FitsIn n) (some_is d e (sym p)) fits
put_fits n d e fits (Var v) r w p = var_fits n d e fits v r w (lookup v d.bound) refl p
put_fits n d e fits (Fixed u) r w p = equal_fits n d e (FixedTerm u) r (All-nil (PlaceFits n)) (places_fit n r w) p fits

pub put_safe : (d e : Draft) → Safe d → (x : Arg) (r : RowTerm) → Sure d r → Puts x r d (Some e) → Safe e
put_safe d e safe Blank r sure p = subst Safe (some_is d e (sym p)) safe
put_safe d e safe (Var v) r sure p = var_safe d e safe v r sure (lookup v d.bound) p
put_safe d e safe (Fixed u) r sure p = equal_safe d e (FixedTerm u) r safe p

pub put_keeps : (d e : Draft) (x : Arg) (r : RowTerm) → Puts x r d (Some e) → Keeps d e
put_keeps d e Blank r p = keeps_itself d e (some_is d e (sym p))
put_keeps d e (Var v) r p = var_keeps d e v r (lookup v d.bound) p
put_keeps d e (Fixed u) r p = (equal_keeps d e (FixedTerm u) r p).0

pub put_binds : (d e : Draft) (x : Arg) (r : RowTerm) → Puts x r d (Some e) → (v : VarId) → x ≡ Var v → Bound e v
put_binds d e x r p v i = var_binds d e v r (lookup v d.bound) refl (subst (λ z. Puts z r d (Some e)) i p)

-- each bound row term has one place for each hole
whole_cases : (b : Bool) (x r : RowTerm) (o : Option RowTerm) → IsWhole x → (o ≡ Some r → IsWhole r) → (if b then Some x else o) ≡ Some r → IsWhole r
whole_cases true x r o w f h = subst IsWhole (some_is x r h) w
whole_cases false x r o w f h = f h

pub lookup_whole : (v : VarId) (bound : List Binding) (r : RowTerm) → All (λ b. IsWhole b.term) bound → lookup v bound ≡ Some r → IsWhole r
lookup_whole v [] r w h = cc
lookup_whole v (b ∷ bs) r w h =
    whole_cases (nat_eq b.var.0 v.0) b.term r (lookup v bs) (All-head (λ z. IsWhole z.term) b bs w) (lookup_whole v bs r (All-tail (λ z. IsWhole z.term) b bs w)) h

pub bind_whole : (v : VarId) (r s : RowTerm) (d e : Draft) → AreWhole d → IsWhole r → s ≡ r → e ≡ bind v s d → AreWhole e
bind_whole v r s d e w x q h = subst AreWhole (sym h) (All-push (λ b. IsWhole b.term) d.bound (pair v s) w (subst IsWhole (sym q) x))
