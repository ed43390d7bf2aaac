-- Trails are short.
use Rattle.std.proofs.Common.{ℕ, suc, ◌≡◌, refl, sym, ◌∙◌, ap, subst, ◌<◌, ◌≤◌, List, [], ◌∷◌, length, map, true, false, eqb, ◌||◌, arith}
use Rattle.std.specs.List.{AllByRecursion, IsDistinct, list_any}
use Rattle.std.proofs.lemmas.Bool.{eqb-true, ne_eqb}
use Rattle.std.proofs.lemmas.List.{length-map}
use Rattle.std.proofs.lemmas.Map.Steps.{length-le_from_distinct_below}
use Rattle.vocabulary.specs.declared.ids.LinkId.{LinkId}
use Rattle.vocabulary.specs.declared.ids.Dir.{Dir}
use Rattle.vocabulary.specs.declared.ids.Dir.TheVariants.{Fwd, Back}
use Rattle.vocabulary.specs.Lists.{In, here, there}
use Rattle.dllite_axioms.specs.declared.axioms.Axiom.{Axiom}
use Rattle.dllite_axioms.specs.declared.axioms.Basic.{Basic}
use Rattle.dllite_axioms.specs.declared.axioms.Basic.TheVariants.{Class, Has}
use Rattle.dllite_axioms.specs.Basics.{turn}
use Rattle.dllite_axioms.specs.Chains.{Under, itself, further}
use Rattle.dllite_axioms.specs.Within.{IsAxiomWithin}
use Rattle.negative_closure.specs.Chains.{NoneTwice}
use Rattle.negative_closure.specs.Forests.{Reaches, started, hopped, by_axiom, by_link}
use Rattle.negative_closure.specs.Short.{AreShort, IsUnturned}
use Rattle.negative_closure.specs.Trails.{Winds, arrived, onward, crossed, IsTrail}
use Rattle.negative_closure.specs.declared.hops.Hops.{Hops}
use Rattle.negative_closure.specs.declared.hops.Hops.TheVariants.{Links}
use Rattle.negative_closure.specs.declared.trail.Trail.{Trail}
use Rattle.negative_closure.proofs.Places.{only_item}
use Rattle.negative_closure.proofs.Unders.{basic_at, reaches_under}

pub trail_short : (axioms : List Axiom) (hops : Hops) (starts : List Basic) (from : Basic) (t : Trail) → IsTrail axioms hops starts from t → AreShort t.numbers
trail_short axioms hops starts from t h = record { few = h.few; small = h.numbered }

-- each basic on the way reaches its end
winds_reach : {axioms : List Axiom} {hops : Hops} {to x : Basic} {numbers : List ℕ} {passed : List Basic} → Winds axioms hops to x numbers passed → Reaches axioms hops (to ∷ []) x
winds_reach (arrived e) = started (here (sym e))
winds_reach (onward {k = k} is w) = hopped (by_axiom k is) (winds_reach w)
winds_reach (crossed {p = p} {d = d} may w) = hopped (by_link {p = p} {d = d} may) (winds_reach w)

passed_reach : {axioms : List Axiom} {hops : Hops} {to x : Basic} {numbers : List ℕ} {passed : List Basic} → Winds axioms hops to x numbers passed → (y : Basic) → In y passed → Reaches axioms hops (to ∷ []) y
passed_reach {axioms} {hops} {to} (arrived {x = x} e) y m = started (here (sym e ∙ only_item m))
passed_reach {axioms} {hops} {to} (onward {x = x} {k = k} is w) y (here e) = subst (Reaches axioms hops (to ∷ [])) e (hopped (by_axiom k is) (winds_reach w))
passed_reach (onward is w) y (there m) = passed_reach w y m
passed_reach {axioms} {hops} {to} (crossed {p = p} {d = d} may w) y (here e) = subst (Reaches axioms hops (to ∷ [])) e (hopped (by_link {p = p} {d = d} may) (winds_reach w))
passed_reach (crossed may w) y (there m) = passed_reach w y m

-- what is under a link is one of so many
under_within : {axioms : List Axiom} {q : LinkId} {f : Dir} {p : LinkId} (classes links : ℕ) → ((ax : Axiom) → In ax axioms → IsAxiomWithin classes links ax) → Under axioms q f p → p.0 < links → q.0 < links
under_within classes links within (itself e) low = subst (λ z. z.0 < links) (sym e) low
under_within classes links within (further {p = p} {r = r} u n h) low = under_within classes links within u (within _ n).0

abbrev place : Basic → ℕ
place (Class a) = a.0
place (Has p d) = p.0

-- an end of a link of which there are so many, at the direction
abbrev IsPlaced : ℕ → Dir → Basic → Type 0
IsPlaced links g y = (r : LinkId) × (y ≡ Has r g) × (r.0 < links)

turned_apart : (d g : Dir) → (turn d g ≡ Back → ⊥) → d ≡ g
turned_apart Fwd Fwd n = refl
turned_apart Fwd Back n = absurd (n refl)
turned_apart Back Fwd n = absurd (n refl)
turned_apart Back Back n = refl

same_link : (p q : LinkId) → p.0 ≡ q.0 → p ≡ q
same_link p q e = λ i. record { 0 = e i }

place_same : (links : ℕ) (g : Dir) (x y : Basic) → IsPlaced links g x → IsPlaced links g y → place x ≡ place y → x ≡ y
place_same links g x y (p, x_is, low) (q, y_is, high) e =
    let same : p ≡ q = same_link p q (sym (ap place x_is) ∙ e ∙ ap place y_is) in
    x_is ∙ ap (λ z. Has z g) same ∙ sym y_is

-- places of ends that differ are different
differ : (links : ℕ) (g : Dir) (x : Basic) (xs : List Basic) → IsPlaced links g x → ((y : Basic) → In y xs → IsPlaced links g y) → (In x xs → ⊥) → AllByRecursion (λ k. eqb (place x) k ≡ false) (map place xs)
differ links g x [] px each new = tt
differ links g x (y ∷ xs) px each new = (
  ne_eqb (place x) (place y) (λ e. new (here (sym (place_same links g x y px (each y (here refl)) e)))),
  differ links g x xs px (λ z m. each z (there m)) (λ m. new (there m)),
)

places_distinct : (links : ℕ) (g : Dir) (xs : List Basic) → ((y : Basic) → In y xs → IsPlaced links g y) → NoneTwice xs → IsDistinct eqb (map place xs)
unfolding IsDistinct
places_distinct links g [] each once = tt
places_distinct links g (x ∷ xs) each once = (differ links g x xs (each x (here refl)) (λ y m. each y (there m)) once.0, places_distinct links g xs (λ y m. each y (there m)) once.1)

places_low : (links : ℕ) (g : Dir) (xs : List Basic) → ((y : Basic) → In y xs → IsPlaced links g y) → (q : ℕ) → list_any (eqb q) (map place xs) ≡ true → q < links
places_low links g [] each q is = cc
places_low links g (x ∷ xs) each q is =
    elim (eqb q (place x)) as (λ b. eqb q (place x) ≡ b → q < links) [
      | true ↦ λ e. let (r, x_is, low) = each x (here refl) in rw (eqb-true q (place x) e ∙ ap place x_is) low
      | false ↦ λ e. places_low links g xs (λ y m. each y (there m)) q (sym (ap (λ b. b || list_any (eqb q) (map place xs)) e) ∙ is)
    ] refl

winds_longer : {axioms : List Axiom} {to x : Basic} {numbers : List ℕ} {passed : List Basic} → Winds axioms Links to x numbers passed → length passed ≡ suc (length numbers)
winds_longer (arrived e) = refl
winds_longer (onward is w) = ap suc (winds_longer w)
winds_longer (crossed may w) = cc

-- a trail to a link that no other is under with its ends exchanged passes each link once
pub forward_few : (axioms : List Axiom) (classes links : ℕ) (from to : LinkId × Dir) (t : Trail) → links ≤ 600 → ((ax : Axiom) → In ax axioms → IsAxiomWithin classes links ax) → to.0.0 < links →
    IsTrail axioms Links (basic_at to ∷ []) (basic_at from) t → IsUnturned axioms to.0 → length t.numbers < 600
forward_few axioms classes links from to t few within low h unturned =
    let most = length-le_from_distinct_below (map place h.passed) links (places_distinct links to.1 h.passed each h.once) (places_low links to.1 h.passed each) in
    omega (arith, most, few, length-map {A = Basic} h.passed place, winds_longer winds)
  where
    winds : Winds axioms Links (basic_at to) (basic_at from) t.numbers h.passed
    winds = subst (λ z. Winds axioms Links z (basic_at from) t.numbers h.passed) (sym (only_item h.ends)) h.winds

    each : (y : Basic) → In y h.passed → IsPlaced links to.1 y
    each y m =
        let w = reaches_under (passed_reach winds y m) in
        let same : w.1 ≡ to.1 = turned_apart w.1 to.1 (λ e. unturned w.0 (subst (λ z. Under axioms w.0 z to.0) e w.3)) in
        (w.0, w.2 ∙ ap (Has w.0) same, under_within classes links within w.3 low)
