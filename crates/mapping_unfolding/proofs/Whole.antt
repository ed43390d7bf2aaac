-- The unfolding of a whole query.
use Rattle.std.proofs.Common.{filter_map, ℕ, ◌≡◌, refl, sym, ◌∙◌, ap, subst, ◌+◌, ◌≤◌, List, [], ◌∷◌, ◌++◌, length, map, take, drop, Option, Some, None, ◌⊎◌, inl, inr, arith, append_assoc, nat_eq, if◌then◌else◌, Bool, true, false, All}
use Rattle.std.specs.List.{cons_option}
use Rattle.std.proofs.lemmas.Bool.{eqb-true}
use Rattle.std.proofs.lemmas.List.{append-nil}
use Rattle.std.proofs.lemmas.List.Elements.{All-nil, All-cons}
use Rattle.std.proofs.Math.Seq.{take-append_seam, drop-append_seam}
use Rattle.vocabulary.specs.declared.ids.VarId.{VarId}
use Rattle.vocabulary.specs.declared.term.Term.{Term, Named}
use Rattle.vocabulary.specs.declared.term.Fact.{Fact}
use Rattle.vocabulary.specs.Lists.{In, Pairwise, here, there}
use Rattle.vocabulary.proofs.Lists.{In-map}
use Rattle.source_tables.specs.Tables.{Loaded}
use Rattle.queries.specs.declared.query.Arg.{Arg}
use Rattle.queries.specs.declared.query.Arg.TheVariants.{Blank, Var, Fixed}
use Rattle.queries.specs.declared.query.Atom.{Atom}
use Rattle.queries.specs.declared.query.Atom.TheVariants.{InClass as ClassAtom, Linked as LinkAtom}
use Rattle.queries.specs.declared.query.Query.{Query}
use Rattle.queries.specs.Matches.{ArgIs, AtomIs, HeadIs, IsMatch, Matched, Terms}
use Rattle.queries.specs.Occurrences.{HeadStands, KnownArg, atom_occurs, count, occurs}
use Rattle.mapping_facts.specs.declared.term.RowTerm.{RowTerm}
use Rattle.mapping_facts.specs.declared.term.RowTerm.TheVariants.{Fixed as FixedTerm}
use Rattle.mapping_facts.specs.declared.mapping.Target.{Target}
use Rattle.mapping_facts.specs.declared.mapping.Mapping.{Mapping}
use Rattle.mapping_facts.specs.Facts.{mapped_facts, mapping_fact, term_at}
use Rattle.mapping_facts.specs.Fits.{AreFit, ConditionFits, HaveTexts, MappingFits, RowQueryFits, TargetFits, TermFits}
use Rattle.mapping_facts.specs.RowQueries.{row_tuples}
use Rattle.mapping_facts.specs.Tuples.{cell_of, tuples}
use Rattle.mapping_facts.proofs.Facts.{Gives, gives_mapping_fact, in_mapped}
use Rattle.mapping_facts.proofs.Heads.{HeadAt, asked_tuple, terms_are, tuple_asked}
use Rattle.mapping_facts.proofs.Members.{All-In, In-slice_get, In-All, from_map}
use Rattle.mapping_facts.proofs.Tuples.{AllHold, CellsAt, IsTuple, in_tuples}
use Rattle.mapping_unfolding.specs.declared.draft.Draft.{Draft}
use Rattle.mapping_unfolding.specs.declared.draft.Origin.{Origin}
use Rattle.mapping_unfolding.specs.declared.unfolded.Unfolded.{Unfolded}
use Rattle.mapping_unfolding.specs.Drafts.{DraftFits, HasAll, OnlyUnfold, StandsAt, Unfolds, empty_draft, head_term, lookup, onward, unfolded, unfolded_of}
use Rattle.mapping_unfolding.specs.Unfoldings.{AreUnfoldings, GivesHead, HasOrigins, HeadAre, Names, OriginGives, OriginStands, OriginsStand, items_from}
use Rattle.mapping_unfolding.proofs.Cells.{numbers_count, some_is}
use Rattle.mapping_unfolding.proofs.Adding.{Bound, On, Safe}
use Rattle.mapping_unfolding.proofs.Beside.{AreTables, SatAt, SourceFits, VarIn, add_back, add_binds, add_fits, add_keeps, add_safe}
use Rattle.mapping_unfolding.proofs.Texts.{are_tables}

in_cases : {X : Type 0} {x y : X} {ys : List X} → In x (y ∷ ys) → (y ≡ x) ⊎ In x ys
in_cases (here e) = inl e
in_cases (there n) = inr n

-- the mapping and the target of an origin
module _ (mappings : List Mapping) (fit : AreFit mappings) (o : Origin) (m : Mapping) (g : Target) (names : Names mappings o m g) where
  named_mapping : In m mappings
  named_mapping = In-slice_get mappings o.mapping m names.0

  named_target : In g m.targets
  named_target = In-slice_get m.targets o.target g names.1

  pub named_fits : SourceFits m.query g
  named_fits =
      let w = All-In MappingFits mappings fit.each named_mapping in
      (w.query, All-In (TargetFits (length m.query.tables)) m.targets w.targets named_target)

  named_mapped : (tables : List Loaded) (own : List ℕ) (f : Fact) → IsTuple tables m.query own → Gives (cell_of tables m.query.tables own) g f → In f (mapped_facts mappings tables)
  named_mapped tables own f tuple gives =
      (in_mapped mappings tables f).1 (record { mapping = m; target = g; rows = own; is_mapping = named_mapping; is_target = named_target; is_tuple = tuple; gives = gives })

-- a part of a list by its place
middle : {X : Type 0} (n k : ℕ) (front own more : List X) → length front ≡ n → length own ≡ k → own ≡ take k (drop n ((front ++ own) ++ more))
middle n k front own more e f =
    sym (ap (λ z. take k (drop n z)) (append_assoc front own more) ∙
    (ap (λ z. take k (drop z (front ++ (own ++ more)))) (sym e) ∙
    (ap (take k) (drop-append_seam front (own ++ more)) ∙
    (ap (λ z. take z (own ++ more)) (sym f) ∙ take-append_seam own more))))

-- what unfolding keeps
unfolds_tables : {mappings : List Mapping} {atoms : List Atom} {d u : Draft} {os : List Origin} → Unfolds mappings atoms d os u → (more : List _) × (u.query.tables ≡ d.query.tables ++ more)
unfolds_tables {d = d} unfolded = ([], sym (append-nil d.query.tables))
unfolds_tables (onward {a = a} {d = d} {e = e} o m g names first added next) =
    let r = unfolds_tables next in
    (m.query.tables ++ r.0, r.1 ∙ (ap (λ z. z ++ r.0) (add_keeps o m.query g d a e added).0 ∙ append_assoc d.query.tables m.query.tables r.0))

unfolds_origins : {mappings : List Mapping} {atoms : List Atom} {d u : Draft} {os : List Origin} → Unfolds mappings atoms d os u → u.origins ≡ d.origins ++ os
unfolds_origins {d = d} unfolded = sym (append-nil d.origins)
unfolds_origins (onward {a = a} {d = d} {e = e} {os = os} o m g names first added next) =
    unfolds_origins next ∙ (ap (λ z. z ++ os) (add_keeps o m.query g d a e added).1 ∙ append_assoc d.origins (o ∷ []) os)

unfolds_safe : {mappings : List Mapping} {atoms : List Atom} {d u : Draft} {os : List Origin} → Unfolds mappings atoms d os u → Safe d → Safe u
unfolds_safe unfolded safe = safe
unfolds_safe (onward {a = a} {d = d} {e = e} o m g names first added next) safe = unfolds_safe next (add_safe o m.query g d a e safe added)

unfolds_fits : {mappings : List Mapping} {atoms : List Atom} {d u : Draft} {os : List Origin} → AreFit mappings → Unfolds mappings atoms d os u → DraftFits d → DraftFits u
unfolds_fits fit unfolded fits = fits
unfolds_fits {mappings} fit (onward {a = a} {d = d} {e = e} o m g names first added next) fits =
    unfolds_fits fit next (add_fits o m.query g d a e fits (named_fits mappings fit o m g names) added)

unfolds_keep : {mappings : List Mapping} {atoms : List Atom} {d u : Draft} {os : List Origin} → Unfolds mappings atoms d os u → (v : VarId) → Bound d v → Bound u v
unfolds_keep unfolded v b = b
unfolds_keep (onward {a = a} {d = d} {e = e} o m g names first added next) v b = unfolds_keep next v (b.0, (add_keeps o m.query g d a e added).3 v b.0 b.1)

unfolds_bind : {mappings : List Mapping} {atoms : List Atom} {d u : Draft} {os : List Origin} → Unfolds mappings atoms d os u → (k : Atom) → In k atoms → (v : VarId) → VarIn v k → Bound u v
unfolds_bind unfolded k i v h = elim i [ ]
unfolds_bind (onward {a = a} {d = d} {e = e} o m g names first added next) k i v h =
    elim (in_cases i) [
      | inl p ↦ unfolds_keep next v (add_binds o m.query g d a e added v (subst (VarIn v) (sym p) h))
      | inr j ↦ unfolds_bind next k j v h
    ]

unfolds_stand : {mappings : List Mapping} {atoms : List Atom} {d u : Draft} {os : List Origin} → Unfolds mappings atoms d os u → Pairwise (OriginStands mappings u.query.tables) atoms os
unfolds_stand unfolded = tt
unfolds_stand {u = u} (onward {a = a} {d = d} {e = e} o m g names first added next) =
    let r = unfolds_tables next in
    let whole : u.query.tables ≡ (d.query.tables ++ m.query.tables) ++ r.0 = r.1 ∙ ap (λ z. z ++ r.0) (add_keeps o m.query g d a e added).0 in
    let is : m.query.tables ≡ items_from o.first (length m.query.tables) u.query.tables =
    middle o.first (length m.query.tables) d.query.tables m.query.tables r.0 (sym first) refl ∙ ap (λ z. take (length m.query.tables) (drop o.first z)) (sym whole) in
    ((m, g, names, sym is), unfolds_stand next)

-- a tuple of an unfolding is a match
module _ (mappings : List Mapping) (fit : AreFit mappings) (tables : List Loaded) (are : AreTables tables) (σ : Terms) where
  record Matching (rows : List ℕ) (atoms : List Atom) (os : List Origin) (d : Draft) : Type 0 where
    front : List ℕ
    more : List ℕ
    is : rows ≡ front ++ more
    sat : SatAt tables d.query.tables σ d front
    origins : Pairwise (OriginGives mappings tables rows σ) atoms os
    matched : Matched (mapped_facts mappings tables) σ atoms

  unfold_back : {atoms : List Atom} {d u : Draft} {os : List Origin} → Unfolds mappings atoms d os u → (rows : List ℕ) → DraftFits d → SatAt tables u.query.tables σ u rows → Matching rows atoms os d
  unfold_back unfolded rows fits sat = record { front = rows; more = []; is = sym (append-nil rows); sat = sat; origins = tt; matched = λ a i. elim i [ ] }
  unfold_back (onward {a = a} {atoms = atoms} {d = d} {e = e} o m g names first added next) rows fits sat =
      let w = named_fits mappings fit o m g names in
      let r = unfold_back next rows (add_fits o m.query g d a e fits w added) sat in
      let b = add_back o m.query g d a tables are σ e r.front fits w added r.sat in
      let whole : rows ≡ (b.front ++ b.own) ++ r.more = r.is ∙ ap (λ z. z ++ r.more) b.is in
      let own_is : b.own ≡ items_from o.first (length m.query.tables) rows =
      middle o.first (length m.query.tables) b.front b.own r.more (numbers_count tables d.query.tables b.front b.sat.0 ∙ sym first) (numbers_count tables m.query.tables b.own b.tuple.0)
      ∙ ap (λ z. take (length m.query.tables) (drop o.first z)) (sym whole) in
      let given : OriginGives mappings tables rows σ a o = record {
        mapping = m;
        target = g;
        fact = b.fact;
        names = names;
        rows = subst (λ z. In z (tuples tables m.query)) own_is ((in_tuples tables m.query b.own).1 b.tuple);
        gives = subst (λ z. mapping_fact tables m z g ≡ Some b.fact) own_is (gives_mapping_fact tables m b.own g b.fact b.tuple b.gives);
        atom = b.atom_is;
      } in
      record {
        front = b.front;
        more = b.own ++ r.more;
        is = whole ∙ append_assoc b.front b.own r.more;
        sat = b.sat;
        origins = (given, r.origins);
        matched = λ k j. elim (in_cases j) [
          | inl p ↦ (b.fact, named_mapped mappings fit o m g names tables b.own b.fact b.tuple b.gives, subst (λ z. AtomIs σ z b.fact) p b.atom_is)
          | inr j' ↦ r.matched k j'
        ];
      }

-- a head variable stands in an atom
arg_var : (v : VarId) (x : Arg) → 1 ≤ occurs v x → x ≡ Var v
arg_var v Blank l = absurd (omega (arith, l))
arg_var v (Var w) l = told (nat_eq w.0 v.0) refl l
  where
    told : (b : Bool) → nat_eq w.0 v.0 ≡ b → 1 ≤ (if b then 1 else 0) → Var w ≡ Var v
    told true e k = λ i. Var (record { 0 = eqb-true w.0 v.0 e i })
    told false e k = absurd (omega (arith, k))
arg_var v (Fixed t) l = absurd (omega (arith, l))

one_of : (m n : ℕ) → 1 ≤ m + n → (1 ≤ m) ⊎ (1 ≤ n)
one_of m n l = grind arith

atom_var : (v : VarId) (a : Atom) → 1 ≤ atom_occurs v a → VarIn v a
atom_var v (ClassAtom a x) l = arg_var v x l
atom_var v (LinkAtom p x y) l = elim (one_of (occurs v x) (occurs v y) l) [ inl h ↦ inl (arg_var v x h) | inr h ↦ inr (arg_var v y h) ]

some_atom : (v : VarId) (atoms : List Atom) → 1 ≤ count v atoms → (a : Atom) × In a atoms × VarIn v a
some_atom v [] l = absurd (omega (arith, l))
some_atom v (a ∷ atoms) l =
    elim (one_of (atom_occurs v a) (count v atoms) l) [ inl h ↦ (a, here refl, atom_var v a h) | inr h ↦ (let r = some_atom v atoms h in (r.0, there r.1, r.2)) ]

-- the head
abbrev HeadFound : Draft → List Arg → Type 0
HeadFound d [] = Unit {0}
HeadFound d (x ∷ xs) = ((r : RowTerm) × (head_term d.bound x ≡ Some r) × KnownArg x) × HeadFound d xs

abbrev StandsIn : List Atom → Arg → Type 0
StandsIn atoms x = KnownArg x × (x ≡ Blank → ⊥) × ((v : VarId) → x ≡ Var v → 1 ≤ count v atoms)

place_found : {mappings : List Mapping} {atoms : List Atom} {d u : Draft} {os : List Origin} → Unfolds mappings atoms d os u → (x : Arg) → StandsIn atoms x → (r : RowTerm) × (head_term u.bound x ≡ Some r) × KnownArg x
place_found un Blank h = absurd (h.1 refl)
place_found {atoms = atoms} un (Var v) h = let a = some_atom v atoms (h.2 v refl) in let b = unfolds_bind un a.0 a.1 v a.2 in (b.0, b.1, h.0)
place_found un (Fixed t) h = (FixedTerm t, refl, h.0)

head_found : {mappings : List Mapping} {atoms : List Atom} {d u : Draft} {os : List Origin} → Unfolds mappings atoms d os u → (head : List Arg) → ((x : Arg) → In x head → StandsIn atoms x) → HeadFound u head
head_found un [] h = tt
head_found un (x ∷ xs) h = (place_found un x (h x (here refl)), head_found un xs (λ y i. h y (there i)))

abbrev head_terms : Draft → List Arg → List RowTerm
head_terms d head = filter_map (head_term d.bound) head

head_cons : (d : Draft) (x : Arg) (xs : List Arg) (r : RowTerm) → head_term d.bound x ≡ Some r → head_terms d (x ∷ xs) ≡ r ∷ head_terms d xs
head_cons d x xs r e = ap (λ o. cons_option o (head_terms d xs)) e

arg_at : (c : CellsAt) (σ : Terms) (d : Draft) → On c σ d → (x : Arg) (r : RowTerm) (t : Term) → head_term d.bound x ≡ Some r → ArgIs σ x t → term_at c r ≡ Some t
arg_at c σ d on Blank r t e i = cc
arg_at c σ d on (Var v) r t e i = on.agree v r e ∙ ap Some i
arg_at c σ d on (Fixed u) r t e i = ap (term_at c) (sym (some_is (FixedTerm u) r e)) ∙ ap Some i

at_arg : (c : CellsAt) (σ : Terms) (d : Draft) → On c σ d → (x : Arg) (r : RowTerm) (t : Term) → head_term d.bound x ≡ Some r → term_at c r ≡ Some t → ArgIs σ x t
at_arg c σ d on Blank r t e i = tt
at_arg c σ d on (Var v) r t e i = some_is (σ v) t (sym (on.agree v r e) ∙ i)
at_arg c σ d on (Fixed u) r t e i = some_is u t (ap (term_at c) (some_is (FixedTerm u) r e) ∙ i)

head_on : (c : CellsAt) (σ : Terms) (d : Draft) → On c σ d → (head : List Arg) (ts : List Term) → HeadFound d head → HeadIs σ head ts → HeadAt c (head_terms d head) ts
head_on c σ d on [] [] f h = tt
head_on c σ d on [] (t ∷ ts) f h = absurd h
head_on c σ d on (x ∷ xs) [] f h = absurd h
head_on c σ d on (x ∷ xs) (t ∷ ts) f h = subst (λ z. HeadAt c z (t ∷ ts)) (sym (head_cons d x xs f.0.0 f.0.1)) (arg_at c σ d on x f.0.0 t f.0.1 h.0, head_on c σ d on xs ts f.1 h.1)

head_back : (c : CellsAt) (σ : Terms) (d : Draft) → On c σ d → (head : List Arg) (ts : List Term) → HeadFound d head → HeadAt c (head_terms d head) ts → HeadIs σ head ts
head_back c σ d on [] [] f h = tt
head_back c σ d on [] (t ∷ ts) f h = absurd h
head_back c σ d on (x ∷ xs) [] f h = absurd (subst (λ z. HeadAt c z []) (head_cons d x xs f.0.0 f.0.1) h)
head_back c σ d on (x ∷ xs) (t ∷ ts) f h =
    let h' : (term_at c f.0.0 ≡ Some t) × HeadAt c (head_terms d xs) ts = subst (λ z. HeadAt c z (t ∷ ts)) (head_cons d x xs f.0.0 f.0.1) h in
    (at_arg c σ d on x f.0.0 t f.0.1 h'.0, head_back c σ d on xs ts f.1 h'.1)

head_fits : (n : ℕ) (d : Draft) → ((v : VarId) (r : RowTerm) → lookup v d.bound ≡ Some r → TermFits n r) → (head : List Arg) → HeadFound d head → All (TermFits n) (head_terms d head)
head_fits n d fits [] f = All-nil (TermFits n)
head_fits n d fits (x ∷ xs) f =
    subst (All (TermFits n)) (sym (head_cons d x xs f.0.0 f.0.1)) (All-cons (TermFits n) f.0.0 (head_terms d xs) (place x f.0.0 f.0.1 f.0.2) (head_fits n d fits xs f.1))
  where
    place : (x : Arg) (r : RowTerm) → head_term d.bound x ≡ Some r → KnownArg x → TermFits n r
    place Blank r e k = cc
    place (Var v) r e k = fits v r e
    place (Fixed t) r e k = subst (TermFits n) (some_is (FixedTerm t) r e) k

-- the terms that a tuple gives
abbrev or_name : Option Term → Term
or_name None = Named []
or_name (Some t) = t

abbrev pick : CellsAt → Option RowTerm → Term
pick c None = Named []
pick c (Some r) = or_name (term_at c r)

abbrev terms_of : CellsAt → Draft → Terms
terms_of c d = λ v. pick c (lookup v d.bound)

agrees : (c : CellsAt) (d : Draft) → Safe d → AllHold c d.query.conditions → On c (terms_of c d) d
agrees c d safe hold = record { hold = hold; agree = λ v r e. (let s = safe c hold v r e in s.1 ∙ sym (ap Some (ap (pick c) e ∙ ap or_name s.1))) }

empty_fits : DraftFits empty_draft
empty_fits = record { conditions = All-nil (ConditionFits 0); bound = λ v r e. cc }

empty_safe : Safe empty_draft
empty_safe = λ c h v r e. cc

-- the drafts of a query's unfolding
module _ (mappings : List Mapping) (fit : AreFit mappings) (q : Query) (stands : HeadStands q) (drafts : List Draft) (only : OnlyUnfold mappings q.atoms empty_draft [] drafts) where
  abbrev list : List Unfolded
  list = map (unfolded_of q.head) drafts

  comes : (d : Draft) → In d drafts → (os : List Origin) × Unfolds mappings q.atoms empty_draft os d
  comes d i = elim (only d i) [ inl n ↦ elim n [ ] | inr h ↦ h ]

  found : (d : Draft) → In d drafts → HeadFound d q.head
  found d i = head_found (comes d i).1 q.head stands

  -- what holds of the unfolding of each draft
  each : (P : Unfolded → Type 0) → ((d : Draft) → In d drafts → P (unfolded_of q.head d)) → All P list
  each P h = In-All P list (λ u i. (let m = from_map (unfolded_of q.head) drafts i in subst P m.2 (h m.0 m.1)))

  pub unfoldings_fit : All (λ u. RowQueryFits u.rows) list
  unfoldings_fit = each (λ u. RowQueryFits u.rows) (λ d i.
      (let fits = unfolds_fits fit (comes d i).1 empty_fits in
      record { query = fits.conditions; head = head_fits (length d.query.tables) d fits.bound q.head (found d i); apart = All-nil (λ pair. TermFits (length d.query.tables) pair.0 × TermFits (length d.query.tables) pair.1) }))

  pub unfoldings_plain : All (λ u. u.rows.apart ≡ []) list
  unfoldings_plain = each (λ u. u.rows.apart ≡ []) (λ d i. refl)

  pub origins_stand : All (OriginsStand mappings q) list
  origins_stand = each (OriginsStand mappings q) (λ d i.
      (let un = comes d i in
      subst (Pairwise (OriginStands mappings d.query.tables) q.atoms) (sym (unfolds_origins un.1)) (unfolds_stand un.1)))

  -- a tuple of a draft's row query
  record TupleOf (tables : List Loaded) (d : Draft) (rows : List ℕ) : Type 0 where
    terms : Terms
    on : On (cell_of tables d.query.tables rows) terms d
    origins : Pairwise (OriginGives mappings tables rows terms) q.atoms d.origins
    matched : Matched (mapped_facts mappings tables) terms q.atoms

  tuple_of : (tables : List Loaded) → HaveTexts tables → (d : Draft) → In d drafts → (rows : List ℕ) → In rows (row_tuples tables (unfolded_of q.head d).rows) → TupleOf tables d rows
  tuple_of tables texts d i rows asked =
      let un = comes d i in
      let c = cell_of tables d.query.tables rows in
      let tuple = (asked_tuple tables (unfolded_of q.head d).rows rows asked).0 in
      let on = agrees c d (unfolds_safe un.1 empty_safe) tuple.1 in
      let m = unfold_back mappings fit tables (are_tables tables texts) (terms_of c d) un.1 rows empty_fits (tuple.0, on) in
      record { terms = terms_of c d; on = on; origins = subst (Pairwise (OriginGives mappings tables rows (terms_of c d)) q.atoms) (sym (unfolds_origins un.1)) m.origins; matched = m.matched }

  pub have_origins : All (HasOrigins mappings q) list
  have_origins = each (HasOrigins mappings q) (λ d i tables texts rows asked.
      (let t = tuple_of tables texts d i rows asked in
      let c = cell_of tables d.query.tables rows in
      record {
        terms = t.terms;
        facts = t.origins;
        head = λ ts. (
          (λ h. head_back c t.terms d t.on q.head ts (found d i) ((terms_are c (head_terms d q.head) ts).0 h)),
          (λ h. (terms_are c (head_terms d q.head) ts).1 (head_on c t.terms d t.on q.head ts (found d i) h)),
        );
      }))

  image_of : (tables : List Loaded) → HaveTexts tables → (ts : List Term) → (d : Draft) → In d drafts → (rows : List ℕ) → In rows (row_tuples tables (unfolded_of q.head d).rows) → HeadAre tables (unfolded_of q.head d) rows ts →
      (σ : Terms) × IsMatch (mapped_facts mappings tables) q ts σ
  image_of tables texts ts d i rows asked head =
      let t = tuple_of tables texts d i rows asked in
      let c = cell_of tables d.query.tables rows in
      (t.terms, record { atoms = t.matched; head = head_back c t.terms d t.on q.head ts (found d i) ((terms_are c (head_terms d q.head) ts).0 head) })

  pub are_unfoldings : HasAll mappings q.atoms empty_draft drafts → AreUnfoldings mappings q list
  are_unfoldings all tables texts ts = (onto, back)
    where
      onto : ((σ : Terms) × IsMatch (mapped_facts mappings tables) q ts σ) → GivesHead tables list ts
      onto h =
          let start : StandsAt tables h.0 empty_draft [] = record { tuple = (in_tuples tables empty_draft.query []).1 (tt, tt); agree = λ v r e. cc } in
          let a = all empty_fits tables texts h.0 [] start h.1.atoms in
          let d = a.0 in
          let rows = a.2 in
          let c = cell_of tables d.query.tables rows in
          let tuple = (in_tuples tables d.query rows).0 a.3.tuple in
          let on : On c h.0 d = record { hold = tuple.1; agree = a.3.agree } in
          let head = head_on c h.0 d on q.head ts (found d a.1) h.1.head in
          (unfolded_of q.head d, In-map (unfolded_of q.head) a.1, rows, tuple_asked tables (unfolded_of q.head d).rows rows ts refl tuple head, (terms_are c (head_terms d q.head) ts).1 head)

      back : GivesHead tables list ts → (σ : Terms) × IsMatch (mapped_facts mappings tables) q ts σ
      back h =
          let m = from_map (unfolded_of q.head) drafts h.1 in
          image_of tables texts ts m.0 m.1 h.2 (subst (λ u. In h.2 (row_tuples tables u.rows)) (sym m.2) h.3) (subst (λ u. HeadAre tables u h.2 ts) (sym m.2) h.4)
