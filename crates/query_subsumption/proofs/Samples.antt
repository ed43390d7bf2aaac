-- The definitions, at small queries.
use Rattle.std.proofs.Common.{◌≡◌, ◌≢◌, ◌∙◌, refl, sym, subst, ap, arith, ℕ, zero, suc, ◌<◌, List, [], ◌∷◌, get_or, length, slice_get, Some, ◌⊎◌, inl, inr}
use Rattle.vocabulary.specs.declared.term.Term.{Named}
use Rattle.vocabulary.specs.Lists.{In, here, there}
use Rattle.queries.specs.declared.query.Arg.{Arg}
use Rattle.queries.specs.declared.query.Arg.TheVariants.{Blank, Var, Fixed}
use Rattle.queries.specs.declared.query.Atom.{Atom}
use Rattle.queries.specs.declared.query.Atom.TheVariants.{InClass, Linked}
use Rattle.queries.specs.declared.query.Query.{Query}
use Rattle.queries.specs.Occurrences.{count, head_count}
use Rattle.query_subsumption.specs.Images.{AreImages, numbers, told}
use Rattle.query_subsumption.specs.Subsumption.{AreKept, IsDropped, MapsInto, Replacement, apart, atom_image, first_free, past_arg}

abbrev in_class : ℕ → Arg → Atom
in_class n x = InClass (record { 0 = n }) x

abbrev linked : Arg → Arg → Atom
linked x y = Linked (record { 0 = 0 }) x y

abbrev var : ℕ → Arg
var n = Var (record { 0 = n })

abbrev constant : Arg
constant = Fixed (Named (97 ∷ []))

abbrev query : List Arg → List Atom → Query
query head atoms = record { head = head; atoms = atoms }

-- the images of the first variables
abbrev to : List Arg → Replacement
to images v = get_or images v.0 Blank

only_one : {X : Type 0} {x y : X} → In x (y ∷ []) → y ≡ x
only_one (here e) = e
only_one (there m) = elim m [ ]

-- q(x) ← p(x, _)
abbrev wide : Query
wide = query (var 0 ∷ []) (linked (var 0) Blank ∷ [])

-- q(x) ← A(x), p(x, a)
abbrev narrow : Query
narrow = query (var 0 ∷ []) (in_class 0 (var 0) ∷ linked (var 0) constant ∷ [])

-- the Blank goes to the constant
wide_into_narrow : MapsInto wide narrow
wide_into_narrow = (to (var 0 ∷ constant ∷ []), record { heads = refl; atoms = each })
  where
    each : (k : Atom) → In k (apart wide).atoms → In (atom_image (to (var 0 ∷ constant ∷ [])) k) (apart narrow).atoms
    each k (here e) = rw (← e) (there (here refl))
    each k (there m) = elim m [ ]

-- but an atom of the class has nowhere to go
narrow_not_into_wide : MapsInto narrow wide → ⊥
narrow_not_into_wide (θ, m) = let e = only_one (m.atoms (in_class 0 (var 0)) (here refl)) in absurd (cc)

-- a constant goes to itself alone, and to no variable
constant_in_the_way : MapsInto (query (var 0 ∷ []) (linked (var 0) constant ∷ [])) wide → ⊥
constant_in_the_way (θ, m) = let e = only_one (m.atoms (linked (var 0) constant) (here refl)) in absurd (cc)

-- the heads are alike, but the variable stands at the two ends of the link
abbrev turned : Query
turned = query (var 0 ∷ []) (linked Blank (var 0) ∷ [])

link_turned : MapsInto wide turned → ⊥
link_turned (θ, m) =
    let h : θ (record { 0 = 0 }) ≡ var 0 = cc in
    let e = only_one (m.atoms (linked (var 0) (var 1)) (here refl)) in
    let f : var 1 ≡ θ (record { 0 = 0 }) = cc in
    let n : past_arg (var 1) ≡ past_arg (var 0) = ap past_arg (f ∙ h) in absurd (omega (arith, n))

-- the atoms are alike, but one head has a constant where the other has a variable, or is longer
constant_in_head : MapsInto (query (constant ∷ []) (linked (var 0) Blank ∷ [])) wide → ⊥
constant_in_head (θ, m) = let e = m.heads in absurd (cc)

longer_head : MapsInto (query [] (linked (var 0) Blank ∷ [])) wide → ⊥
longer_head (θ, m) = let e = m.heads in absurd (cc)

-- of these one stands for the other, wherever it stands
abbrev narrow_first : List Query
narrow_first = narrow ∷ wide ∷ []

wide_stays : IsDropped narrow_first 1 → ⊥
wide_stays d = stays d.other d.general d.special d.other_is d.this_is d.differs d.maps
  where
    stays : (n : ℕ) (g s : Query) → slice_get narrow_first n ≡ Some g → slice_get narrow_first 1 ≡ Some s → n ≢ 1 → MapsInto g s → ⊥
    stays zero g s e f n m = let p : g ≡ narrow = cc in let q : s ≡ wide = cc in narrow_not_into_wide (subst (λ z. MapsInto z wide) p (subst (MapsInto g) q m))
    stays (suc zero) g s e f n m = n refl
    stays (suc (suc k)) g s e f n m = absurd (cc)

narrow_dropped : IsDropped narrow_first 0
narrow_dropped = record {
  other = 1;
  general = wide;
  special = narrow;
  other_is = refl;
  this_is = refl;
  differs = λ e. absurd (omega (arith, e));
  maps = wide_into_narrow;
  sooner = inl narrow_not_into_wide;
}

wide_kept : AreKept narrow_first (wide ∷ [])
wide_kept = inl (narrow_dropped, inr (wide_stays, [], refl, refl))

-- so not both are kept
not_both : AreKept narrow_first narrow_first → ⊥
not_both (inl (d, inl (dropped, e))) = wide_stays dropped
not_both (inl (d, inr (stays, more, e, rest))) =
    let p : narrow ≡ wide = cc in
    let n : length narrow.atoms ≡ length wide.atoms = ap (λ q. length q.atoms) p in absurd (omega (arith, n))
not_both (inr (stays, more, e, rest)) = stays narrow_dropped

-- of two that map into each other the first stays, though the second has fewer atoms
abbrev twice : Query
twice = query (var 0 ∷ []) (linked (var 0) Blank ∷ linked (var 0) Blank ∷ [])

wide_into_twice : MapsInto wide twice
wide_into_twice = (to (var 0 ∷ var 1 ∷ []), record { heads = refl; atoms = each })
  where
    each : (k : Atom) → In k (apart wide).atoms → In (atom_image (to (var 0 ∷ var 1 ∷ [])) k) (apart twice).atoms
    each k (here e) = rw (← e) (here refl)
    each k (there m) = elim m [ ]

twice_into_wide : MapsInto twice wide
twice_into_wide = (to (var 0 ∷ var 1 ∷ var 1 ∷ []), record { heads = refl; atoms = each })
  where
    each : (k : Atom) → In k (apart twice).atoms → In (atom_image (to (var 0 ∷ var 1 ∷ var 1 ∷ [])) k) (apart wide).atoms
    each k (here e) = rw (← e) (here refl)
    each k (there (here e)) = rw (← e) (here refl)
    each k (there (there m)) = elim m [ ]

first_stays : IsDropped (twice ∷ wide ∷ []) 0 → ⊥
first_stays d = stays d.other d.general d.special d.other_is d.this_is d.differs d.sooner
  where
    stays : (n : ℕ) (g s : Query) → slice_get (twice ∷ wide ∷ []) n ≡ Some g → slice_get (twice ∷ wide ∷ []) 0 ≡ Some s → n ≢ 0 → (MapsInto s g → ⊥) ⊎ (n < 0) → ⊥
    stays zero g s e f n h = n refl
    stays (suc zero) g s e f n h =
        let p : wide ≡ g = cc in
        let q : twice ≡ s = cc in
        elim h [ inl never ↦ never (subst (λ z. MapsInto z g) q (subst (MapsInto twice) p twice_into_wide)) | inr l ↦ absurd (omega (arith, l)) ]
    stays (suc (suc k)) g s e f n h = absurd (cc)

first_kept : AreKept (twice ∷ wide ∷ []) (twice ∷ [])
first_kept = inr (first_stays, [], refl, inl (dropped, refl))
  where
    dropped : IsDropped (twice ∷ wide ∷ []) 1
    dropped = record { other = 0; general = twice; special = wide; other_is = refl; this_is = refl; differs = λ e. absurd (omega (arith, e)); maps = twice_into_wide; sooner = inr (omega arith) }

-- of two classes neither goes into the other, so both queries stay; and of no queries none does
abbrev of_class : ℕ → Query
of_class n = query (var 0 ∷ []) (in_class n (var 0) ∷ [])

abbrev classes : List Query
classes = of_class 0 ∷ of_class 1 ∷ []

abbrev number : Atom → ℕ
number (InClass c x) = c.0
number (Linked p x y) = p.0

apart_classes : (n k : ℕ) → n ≢ k → MapsInto (of_class n) (of_class k) → ⊥
apart_classes n k differ (θ, m) = let e = only_one (m.atoms (in_class n (var 0)) (here refl)) in differ (sym (ap number e))

both_kept : AreKept classes classes
both_kept = inr (first, of_class 1 ∷ [], refl, inr (second, [], refl, refl))
  where
    none : (n k : ℕ) (g s : Query) → slice_get classes n ≡ Some g → slice_get classes k ≡ Some s → n ≢ k → MapsInto g s → ⊥
    none zero zero g s e f d m = d refl
    none zero (suc zero) g s e f d m = let p : g ≡ of_class 0 = cc in let q : s ≡ of_class 1 = cc in apart_classes 0 1 d (subst (λ z. MapsInto z (of_class 1)) p (subst (MapsInto g) q m))
    none (suc zero) zero g s e f d m = let p : g ≡ of_class 1 = cc in let q : s ≡ of_class 0 = cc in apart_classes 1 0 d (subst (λ z. MapsInto z (of_class 0)) p (subst (MapsInto g) q m))
    none (suc zero) (suc zero) g s e f d m = d refl
    none zero (suc (suc k)) g s e f d m = absurd (cc)
    none (suc zero) (suc (suc k)) g s e f d m = absurd (cc)
    none (suc (suc n)) k g s e f d m = absurd (cc)

    first : IsDropped classes 0 → ⊥
    first d = none d.other 0 d.general d.special d.other_is d.this_is d.differs d.maps

    second : IsDropped classes 1 → ⊥
    second d = none d.other 1 d.general d.special d.other_is d.this_is d.differs d.maps

none_kept : AreKept [] []
none_kept = refl

-- the images of x, of no variable, of z and of the Blank, which goes to a Blank of the other query and is told as one
abbrev general : Query
general = query (var 0 ∷ []) (in_class 0 (var 0) ∷ linked (var 2) Blank ∷ [])

abbrev special : Query
special = query (var 1 ∷ []) (linked constant Blank ∷ in_class 0 (var 1) ∷ [])

abbrev sent : List Arg
sent = var 1 ∷ Blank ∷ constant ∷ var 2 ∷ []

images : AreImages general special (var 1 ∷ Blank ∷ constant ∷ Blank ∷ [])
images = record { θ = to sent; maps = record { heads = refl; atoms = goes }; size = refl; each = each; unused = λ v. unused v.0 }
  where
    goes : (k : Atom) → In k (apart general).atoms → In (atom_image (to sent) k) (apart special).atoms
    goes k (here e) = rw (← e) (there (here refl))
    goes k (there (here e)) = rw (← e) (here refl)
    goes k (there (there m)) = elim m [ ]

    each : (n : ℕ) → n < numbers general → slice_get (var 1 ∷ Blank ∷ constant ∷ Blank ∷ []) n ≡ Some (told (first_free special) (to sent (record { 0 = n })))
    each zero l = refl
    each (suc zero) l = refl
    each (suc (suc zero)) l = refl
    each (suc (suc (suc zero))) l = refl
    each (suc (suc (suc (suc n)))) l = absurd (omega (arith, l))

    unused : (n : ℕ) → n < first_free general → head_count (record { 0 = n }) general.head ≡ 0 → count (record { 0 = n }) general.atoms ≡ 0 → to sent (record { 0 = n }) ≡ Blank
    unused zero l h c = absurd (omega (arith, h))
    unused (suc zero) l h c = refl
    unused (suc (suc zero)) l h c = absurd (omega (arith, c))
    unused (suc (suc (suc n))) l h c = absurd (omega (arith, l))
