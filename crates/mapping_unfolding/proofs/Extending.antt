-- The drafts of a list, atom by atom and target by target.
use Rattle.std.proofs.Common.{ℕ, ◌≡◌, refl, sym, ◌∙◌, ap, subst, ◌+◌, ◌<◌, ◌≤◌, List, [], ◌∷◌, ◌++◌, length, drop, take, get_or, Option, Some, None, inl, inr, arith, add-one, length-append, All}
use Rattle.std.specs.Prelude.{IfSome, OnOk, Result, Ok, Err}
use Rattle.std.proofs.lemmas.List.{drop_all, take_all}
use Rattle.std.proofs.lemmas.List.Elements.{All-more, All-weaker}
use Rattle.std.proofs.lemmas.Option.{slice_get-get_or, slice_get_read}
use Rattle.std.proofs.Math.Seq.{drop-cons}
use Rattle.vocabulary.specs.declared.term.Fact.{Fact}
use Rattle.vocabulary.specs.Lists.{In, here, there}
use Rattle.vocabulary.proofs.Lists.{In-append_left, In-append_right, In-append_cases}
use Rattle.source_tables.specs.Tables.{Loaded}
use Rattle.queries.specs.declared.query.Atom.{Atom}
use Rattle.queries.specs.Matches.{AtomIs, Terms}
use Rattle.mapping_facts.specs.declared.query.SourceQuery.{SourceQuery}
use Rattle.mapping_facts.specs.declared.mapping.Target.{Target}
use Rattle.mapping_facts.specs.declared.mapping.Mapping.{Mapping}
use Rattle.mapping_facts.specs.Facts.{fact_at}
use Rattle.mapping_facts.specs.Fits.{AreFit, HaveTexts, MappingFits}
use Rattle.mapping_facts.specs.Tuples.{cell_of, tuples}
use Rattle.mapping_facts.proofs.Facts.{fact_gives, gives_fact, in_mapped}
use Rattle.mapping_facts.proofs.Members.{All-In, In-slice_get}
use Rattle.mapping_facts.proofs.Tuples.{in_tuples}
use Rattle.mapping_unfolding.specs.declared.draft.Draft.{Draft}
use Rattle.mapping_unfolding.specs.declared.draft.Origin.{Origin}
use Rattle.mapping_unfolding.specs.Drafts.{Adds, Among, AreWhole, DraftFits, HasAll, HasMapping, HasTarget, IsReady, Kept, OnlyUnfold, StandsAt, Unfolds, no_atom, onward, unfolded}
use Rattle.mapping_unfolding.specs.Unfoldings.{Names}
use Rattle.mapping_unfolding.proofs.Beside.{SatAt, add_fits, add_keeps, add_on}
use Rattle.mapping_unfolding.proofs.Texts.{are_tables}
use Rattle.mapping_unfolding.proofs.Whole.{named_fits}

-- lists that grow
pub kept_on : (xs ys zs : List Draft) → Kept xs ys → Kept ys zs → Kept xs zs
kept_on xs ys zs k l u i = l u (k u i)

module _ (mappings : List Mapping) where
  pub only_on : (atoms : List Atom) (d : Draft) (xs ys zs : List Draft) → OnlyUnfold mappings atoms d xs ys → OnlyUnfold mappings atoms d ys zs → OnlyUnfold mappings atoms d xs zs
  only_on atoms d xs ys zs o p u i = elim (p u i) [ inl j ↦ o u j | inr h ↦ inr h ]

  among_kept : (tables : List Loaded) (σ : Terms) (xs ys : List Draft) → Kept xs ys → Among tables σ xs → Among tables σ ys
  among_kept tables σ xs ys k a = (a.0, k a.0 a.1, a.2, a.3)

  module _ (a : Atom) (rest : List Atom) (d : Draft) where
    target_kept : (q : SourceQuery) (xs ys : List Draft) → Kept xs ys → (g : Target) → HasTarget mappings a rest d q xs g → HasTarget mappings a rest d q ys g
    target_kept q xs ys k g h fits tables texts σ rows own f stands tuple fact is matched = among_kept tables σ xs ys k (h fits tables texts σ rows own f stands tuple fact is matched)

    mapping_kept : (xs ys : List Draft) → Kept xs ys → (m : Mapping) → HasMapping mappings a rest d xs m → HasMapping mappings a rest d ys m
    mapping_kept xs ys k m h = All-weaker (HasTarget mappings a rest d m.query xs) (HasTarget mappings a rest d m.query ys) (target_kept m.query xs ys k) m.targets h

    -- one more target
    pub targets_more : (m : Mapping) (i : ℕ) (g : Target) (xs ys : List Draft) → i < length m.targets → g ≡ get_or m.targets i g → Kept xs ys → All (HasTarget mappings a rest d m.query xs) (take i m.targets) →
        HasTarget mappings a rest d m.query ys g → All (HasTarget mappings a rest d m.query ys) (take (i + 1) m.targets)
    targets_more m i g xs ys l is k h n =
        All-more (HasTarget mappings a rest d m.query ys) m.targets i g l (All-weaker (HasTarget mappings a rest d m.query xs) (HasTarget mappings a rest d m.query ys) (target_kept m.query xs ys k) (take i m.targets) h)
        (subst (HasTarget mappings a rest d m.query ys) is n)

    -- one more mapping
    pub mappings_more : (i : ℕ) (m : Mapping) (xs ys : List Draft) → i < length mappings → m ≡ get_or mappings i m → Kept xs ys → All (HasMapping mappings a rest d xs) (take i mappings) →
        HasMapping mappings a rest d ys m → All (HasMapping mappings a rest d ys) (take (i + 1) mappings)
    mappings_more i m xs ys l is k h n =
        All-more (HasMapping mappings a rest d ys) mappings i m l (All-weaker (HasMapping mappings a rest d xs) (HasMapping mappings a rest d ys) (mapping_kept xs ys k) (take i mappings) h)
        (subst (HasMapping mappings a rest d ys) is n)

    -- all mappings
    pub all_mappings : (xs : List Draft) → All (HasMapping mappings a rest d xs) mappings → HasAll mappings (a ∷ rest) d xs
    all_mappings xs h fits tables texts σ rows stands matched =
        let k = matched a (here refl) in
        let m = (in_mapped mappings tables k.0).0 k.1 in
        let t = All-In (HasMapping mappings a rest d xs) mappings h m.is_mapping in
        All-In (HasTarget mappings a rest d m.mapping.query xs) m.mapping.targets t m.is_target fits tables texts σ rows m.rows k.0 stands
        ((in_tuples tables m.mapping.query m.rows).1 m.is_tuple) (gives_fact (cell_of tables m.mapping.query.tables m.rows) m.target k.0 m.gives) k.2 (λ b i. matched b (there i))

    -- a target
    module _ (fit : AreFit mappings) (o : Origin) (m : Mapping) (g : Target) (names : Names mappings o m g) where
      given : (result : Option Draft) → Adds a o m.query g d result → DraftFits d → (tables : List Loaded) → HaveTexts tables → (σ : Terms) (rows own : List ℕ) (f : Fact) → StandsAt tables σ d rows →
          In own (tuples tables m.query) → fact_at (cell_of tables m.query.tables own) g ≡ Some f → AtomIs σ a f → (e : Draft) × (result ≡ Some e) × StandsAt tables σ e (rows ++ own)
      given result added fits tables texts σ rows own f stands tuple fact is =
          let t = (in_tuples tables d.query rows).0 stands.tuple in
          let sat : SatAt tables d.query.tables σ d rows = (t.0, record { hold = t.1; agree = stands.agree }) in
          let k = add_on o m.query g d a tables (are_tables tables texts) σ f rows own fits (named_fits mappings fit o m g names) sat ((in_tuples tables m.query own).0 tuple)
          (fact_gives (cell_of tables m.query.tables own) g f fact) is result added in
          (k.draft, k.is, record { tuple = (in_tuples tables k.draft.query (rows ++ own)).1 (k.sat.0, k.sat.1.hold); agree = k.sat.1.agree })

      pub target_none : (result : Option Draft) (xs : List Draft) → Adds a o m.query g d result → result ≡ None → HasTarget mappings a rest d m.query xs g
      target_none result xs added none fits tables texts σ rows own f stands tuple fact is matched =
          let k = given result added fits tables texts σ rows own f stands tuple fact is in
          let e : None ≡ Some k.0 = sym none ∙ k.1 in cc

      pub target_some : (result : Option Draft) (e : Draft) (xs : List Draft) → Adds a o m.query g d result → result ≡ Some e → HasAll mappings rest e xs → HasTarget mappings a rest d m.query xs g
      target_some result e xs added some all fits tables texts σ rows own f stands tuple fact is matched =
          let k = given result added fits tables texts σ rows own f stands tuple fact is in
          let q : k.0 ≡ e = (let z : Some k.0 ≡ Some e = sym k.1 ∙ some in cc) in
          let fits' = add_fits o m.query g d a e fits (named_fits mappings fit o m g names) (subst (Adds a o m.query g d) some added) in
          all fits' tables texts σ (rows ++ own) (subst (λ z. StandsAt tables σ z (rows ++ own)) q k.2) matched

      pub only_onward : o.first ≡ length d.query.tables → (result : Option Draft) (e : Draft) (xs ys : List Draft) → Adds a o m.query g d result → result ≡ Some e → OnlyUnfold mappings rest e xs ys → OnlyUnfold mappings (a ∷ rest) d xs ys
      only_onward first result e xs ys added some only u i =
          elim (only u i) [ inl j ↦ inl j | inr h ↦ inr (o ∷ h.0, onward o m g names first (subst (Adds a o m.query g d) some added) h.1) ]

  -- no atom is left
  pub only_end : (d : Draft) (xs ys : List Draft) → ys ≡ xs ++ d ∷ [] → OnlyUnfold mappings [] d xs ys
  only_end d xs ys e u i = elim (In-append_cases xs (d ∷ []) (subst (In u) e i)) [ inl j ↦ inl j | inr j ↦ inr ([], last j) ]
    where
      last : In u (d ∷ []) → Unfolds mappings [] d [] u
      last (here q) = subst (Unfolds mappings [] d []) q unfolded
      last (there j) = elim j [ ]

  pub all_end : (d : Draft) (xs ys : List Draft) → ys ≡ xs ++ d ∷ [] → HasAll mappings [] d ys
  all_end d xs ys e fits tables texts σ rows stands matched = (d, subst (In d) (sym e) (In-append_right xs (here refl)), rows, stands)

  -- the atoms from a place on
  pub atoms_from : (atoms : List Atom) (at : ℕ) → at < length atoms → get_or atoms at no_atom ∷ drop (at + 1) atoms ≡ drop at atoms
  atoms_from atoms at l = rw add-one (sym (drop-cons atoms at no_atom l))

read_at : {X : Type 0} (xs : List X) (i : ℕ) (x d : X) → i < length xs → x ≡ get_or xs i x → x ≡ get_or xs i d
read_at xs i x d l is = let e : Some x ≡ Some (get_or xs i d) = sym (slice_get_read xs (length xs) i x refl l is) ∙ slice_get-get_or xs i d l in cc

pub at_last : {X : Type 0} (P : X → Type 0) (i : ℕ) (xs : List X) → length xs ≤ i → All P (take i xs) → All P xs
at_last P i xs l h = subst (All P) (take_all i xs l) h

pub on_ok : {T E : Type 0} (r : Result T E) (P Q : Type 0) → (P → Q) → OnOk r P → OnOk r Q
on_ok (Ok x) P Q f h = f h
on_ok (Err e) P Q f h = tt

module _ (mappings : List Mapping) (atoms : List Atom) (d : Draft) where
  -- all atoms have a target
  pub end_kept : (e : Draft) (xs ys : List Draft) → ys ≡ xs ++ e ∷ [] → Kept xs ys
  end_kept e xs ys q u i = subst (In u) (sym q) (In-append_left (e ∷ []) i)

  none_left : (n : ℕ) → n ≡ length atoms → drop n atoms ≡ []
  none_left n q = drop_all n atoms (omega (arith, q))

  pub end_only : (n : ℕ) → n ≡ length atoms → (e : Draft) → e ≡ d → (xs ys : List Draft) → ys ≡ xs ++ e ∷ [] → OnlyUnfold mappings (drop n atoms) d xs ys
  end_only n q e is xs ys h = subst (λ z. OnlyUnfold mappings z d xs ys) (sym (none_left n q)) (only_end mappings d xs ys (h ∙ ap (λ z. xs ++ z ∷ []) is))

  pub end_all : (n : ℕ) → n ≡ length atoms → (e : Draft) → e ≡ d → (xs ys : List Draft) → ys ≡ xs ++ e ∷ [] → HasAll mappings (drop n atoms) d ys
  end_all n q e is xs ys h = subst (λ z. HasAll mappings z d ys) (sym (none_left n q)) (all_end mappings d xs ys (h ∙ ap (λ z. xs ++ z ∷ []) is))

  -- the next atom
  abbrev pub next : Atom
  next = get_or atoms (length d.origins) no_atom

  abbrev pub rest : List Atom
  rest = drop (length d.origins + 1) atoms

  pub all_at_place : length d.origins < length atoms → (xs : List Draft) (i : ℕ) → length mappings ≤ i → All (HasMapping mappings next rest d xs) (take i mappings) → HasAll mappings (drop (length d.origins) atoms) d xs
  all_at_place l xs i k h =
      subst (λ z. HasAll mappings z d xs) (atoms_from mappings atoms (length d.origins) l) (all_mappings mappings next rest d xs (at_last (HasMapping mappings next rest d xs) i mappings k h))

  module _ (ready : IsReady mappings atoms d) (place : length d.origins < length atoms) (o : Origin) (m : Mapping) (g : Target) (names : Names mappings o m g) (first : o.first ≡ length d.query.tables)
      (x : Atom) (is : x ≡ get_or atoms (length d.origins) x) (result : Option Draft) (added : Adds x o m.query g d result) where
    next_added : Adds next o m.query g d result
    next_added = subst (λ z. Adds z o m.query g d result) (read_at atoms (length d.origins) x no_atom place is) added

    pub none_at : result ≡ None → (xs : List Draft) → HasTarget mappings next rest d m.query xs g
    none_at none xs = target_none mappings next rest d ready.fit o m g names result xs next_added none

    module _ (e : Draft) (some : result ≡ Some e) where
      some_added : Adds next o m.query g d (Some e)
      some_added = subst (Adds next o m.query g d) some next_added

      pub count_at : length e.origins ≡ length d.origins + 1
      count_at = ap length (add_keeps o m.query g d next e some_added).1 ∙ length-append d.origins (o ∷ [])

      tables_at : length e.query.tables ≡ length d.query.tables + length m.query.tables
      tables_at = ap length (add_keeps o m.query g d next e some_added).0 ∙ length-append d.query.tables m.query.tables

      pub ready_at : IfSome result AreWhole → IsReady mappings atoms e
      ready_at whole =
          let n = count_at in
          let t = tables_at in
          let six = (All-In MappingFits mappings ready.fit.each (In-slice_get mappings o.mapping m names.0)).tables in
          let narrow = ready.narrow in
          record { fit = ready.fit; few = ready.few; within = omega (arith, n, place); narrow = omega (arith, n, t, six, narrow); whole = subst (λ z. IfSome z AreWhole) some whole }

      pub only_at : (xs ys : List Draft) → OnlyUnfold mappings (drop (length e.origins) atoms) e xs ys → OnlyUnfold mappings (drop (length d.origins) atoms) d xs ys
      only_at xs ys only =
          subst (λ z. OnlyUnfold mappings z d xs ys) (atoms_from mappings atoms (length d.origins) place)
          (only_onward mappings next rest d ready.fit o m g names first result e xs ys next_added some (subst (λ n. OnlyUnfold mappings (drop n atoms) e xs ys) count_at only))

      pub all_at : (xs : List Draft) → HasAll mappings (drop (length e.origins) atoms) e xs → HasTarget mappings next rest d m.query xs g
      all_at xs all = target_some mappings next rest d ready.fit o m g names result e xs next_added some (subst (λ n. HasAll mappings (drop n atoms) e xs) count_at all)
