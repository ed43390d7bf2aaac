-- An atom gets the target of a source query beside a draft.
use Rattle.std.proofs.Common.{ℕ, ◌≡◌, refl, sym, ◌∙◌, ap, subst, ◌+◌, ◌≤◌, List, ◌++◌, length, map, Option, Some, None, inl, inr, arith, ◌⊎◌, length-append, nat_eq, Bool, true, false}
use Rattle.std.specs.Bool.{MatchBool}
use Rattle.std.proofs.lemmas.Bool.{eqb-true, eq-eqb, MatchBool-at_true}
use Rattle.std.proofs.lemmas.List.Elements.{All-append}
use Rattle.vocabulary.specs.declared.ids.ClassId.{ClassId}
use Rattle.vocabulary.specs.declared.ids.LinkId.{LinkId}
use Rattle.vocabulary.specs.declared.ids.TableId.{TableId}
use Rattle.vocabulary.specs.declared.ids.VarId.{VarId}
use Rattle.vocabulary.specs.declared.term.Fact.{Fact}
use Rattle.vocabulary.specs.declared.term.Fact.TheVariants.{InClass, Linked}
use Rattle.source_tables.specs.Tables.{Loaded}
use Rattle.queries.specs.declared.query.Arg.{Arg}
use Rattle.queries.specs.declared.query.Arg.TheVariants.{Var}
use Rattle.queries.specs.declared.query.Atom.{Atom}
use Rattle.queries.specs.declared.query.Atom.TheVariants.{InClass as ClassAtom, Linked as LinkAtom}
use Rattle.queries.specs.Matches.{Terms, AtomIs}
use Rattle.mapping_facts.specs.declared.query.SourceQuery.{SourceQuery}
use Rattle.mapping_facts.specs.declared.term.RowTerm.{RowTerm}
use Rattle.mapping_facts.specs.declared.mapping.Target.{Target}
use Rattle.mapping_facts.specs.declared.mapping.Target.TheVariants.{InClass as ClassTarget, Linked as LinkTarget}
use Rattle.mapping_facts.specs.Defined.{defined_term, defined_target}
use Rattle.mapping_facts.specs.Fits.{ConditionFits, QueryFits, TargetFits, TermFits}
use Rattle.mapping_facts.specs.Tuples.{cell_of}
use Rattle.mapping_facts.proofs.Facts.{Gives}
use Rattle.mapping_facts.proofs.Tuples.{AllHold, AreRows, CellsAt, IsTuple}
use Rattle.mapping_unfolding.specs.declared.draft.Draft.{Draft}
use Rattle.mapping_unfolding.specs.declared.draft.Origin.{Origin}
use Rattle.mapping_unfolding.specs.Drafts.{Adds, DraftFits, FitsIn, Puts, PutsAtom, PutsNext, beside}
use Rattle.mapping_unfolding.specs.Shifts.{shifted_condition, shifted_term}
use Rattle.mapping_unfolding.proofs.Cells.{all_append, all_below, all_left, all_right, all_shift, all_wider, are_beside, behind, cells_behind, cells_front, conditions_shift, defined_within, gives_defined, shift_all, shift_at, split_rows, term_below, term_defined, term_shifts, term_wider, turned}
use Rattle.mapping_unfolding.proofs.Adding.{AreTexts, Bound, Keeps, On, Put, Safe, Sure, keeps_on, put_back, put_binds, put_fits, put_keeps, put_on, put_safe}

-- an atom and a target of one class or link
class_put : (b : Bool) (P : Type 0) (e : Draft) → MatchBool b P (Some e ≡ None) → (b ≡ true) × P
class_put true P e h = (refl, h)
class_put false P e h = cc

next_put : (y : Arg) (s : RowTerm) (m : Option Draft) (e : Draft) → PutsNext y s m (Some e) → (k : Draft) × (m ≡ Some k) × Puts y s k (Some e)
next_put y s None e h = cc
next_put y s (Some k) e h = (k, refl, h)

record BothPut (x y : Arg) (r s : RowTerm) (d e : Draft) : Type 0 where
  middle : Draft
  first : Puts x r d (Some middle)
  second : Puts y s middle (Some e)

both_put : (x y : Arg) (r s : RowTerm) (d e : Draft) → ((m : Option Draft) × Puts x r d m × PutsNext y s m (Some e)) → BothPut x y r s d e
both_put x y r s d e h = let k = next_put y s h.0 e h.2 in record { middle = k.0; first = subst (Puts x r d) k.1 h.1; second = k.2 }

link_put : (b : Bool) (x y : Arg) (r s : RowTerm) (d e : Draft) → MatchBool b ((m : Option Draft) × Puts x r d m × PutsNext y s m (Some e)) (Some e ≡ None) → (b ≡ true) × BothPut x y r s d e
link_put true x y r s d e h = (refl, both_put x y r s d e h)
link_put false x y r s d e h = cc

same_class : (a b : ClassId) → nat_eq a.0 b.0 ≡ true → a ≡ b
same_class a b e = λ i. record { 0 = eqb-true a.0 b.0 e i }

same_link : (a b : LinkId) → nat_eq a.0 b.0 ≡ true → a ≡ b
same_link a b e = λ i. record { 0 = eqb-true a.0 b.0 e i }

-- the terms of a target, shifted by n, fit N tables
abbrev FitsAt : ℕ → ℕ → Target → Type 0
FitsAt N n (ClassTarget a r) = TermFits N (shifted_term n r)
FitsAt N n (LinkTarget p r s) = TermFits N (shifted_term n r) × TermFits N (shifted_term n s)

target_shifts : (n k : ℕ) (g : Target) → TargetFits k g → FitsAt (n + k) n g
target_shifts n k (ClassTarget a r) w = term_shifts n k r w
target_shifts n k (LinkTarget p r s) w = (term_shifts n k r w.0, term_shifts n k s w.1)

-- where a draft's conditions hold, the terms of the target are defined
abbrev SureTarget : Draft → ℕ → Target → Type 0
SureTarget d n g = (c : CellsAt) → AllHold c d.query.conditions → AllHold (behind n c) (defined_target g)

sure_of : (d : Draft) (n : ℕ) (r : RowTerm) → ((c : CellsAt) → AllHold c d.query.conditions → AllHold (behind n c) (defined_term r)) → Sure d (shifted_term n r)
sure_of d n r h c k = let t = term_defined (behind n c) r (h c k) in (t.0, shift_at n c r ∙ t.1)

atom_keeps : (a : Atom) (g : Target) (n : ℕ) (d e : Draft) → PutsAtom a g n d (Some e) → Keeps d e
atom_keeps (ClassAtom a x) (ClassTarget b r) n d e q = put_keeps d e x (shifted_term n r) (class_put (nat_eq a.0 b.0) (Puts x (shifted_term n r) d (Some e)) e q).1
atom_keeps (ClassAtom a x) (LinkTarget p r s) n d e q = cc
atom_keeps (LinkAtom p x y) (ClassTarget b r) n d e q = cc
atom_keeps (LinkAtom p x y) (LinkTarget b r s) n d e q =
    let k = (link_put (nat_eq p.0 b.0) x y (shifted_term n r) (shifted_term n s) d e q).1 in
    keeps_on d k.middle e (put_keeps d k.middle x (shifted_term n r) k.first) (put_keeps k.middle e y (shifted_term n s) k.second)

atom_safe : (a : Atom) (g : Target) (n : ℕ) (d e : Draft) → Safe d → SureTarget d n g → PutsAtom a g n d (Some e) → Safe e
atom_safe (ClassAtom a x) (ClassTarget b r) n d e safe sure q = put_safe d e safe x (shifted_term n r) (sure_of d n r sure) (class_put (nat_eq a.0 b.0) (Puts x (shifted_term n r) d (Some e)) e q).1
atom_safe (ClassAtom a x) (LinkTarget p r s) n d e safe sure q = cc
atom_safe (LinkAtom p x y) (ClassTarget b r) n d e safe sure q = cc
atom_safe (LinkAtom p x y) (LinkTarget b r s) n d e safe sure q =
    let k = (link_put (nat_eq p.0 b.0) x y (shifted_term n r) (shifted_term n s) d e q).1 in
    let first : Sure d (shifted_term n r) = sure_of d n r (λ c h. all_left (behind n c) (defined_term r) (defined_term s) (sure c h)) in
    let second : Sure d (shifted_term n s) = sure_of d n s (λ c h. all_right (behind n c) (defined_term r) (defined_term s) (sure c h)) in
    put_safe k.middle e (put_safe d k.middle safe x (shifted_term n r) first k.first) y (shifted_term n s) (λ c h. second c ((put_keeps d k.middle x (shifted_term n r) k.first).2 c h)) k.second

atom_fits : (N : ℕ) (a : Atom) (g : Target) (n : ℕ) (d e : Draft) → FitsIn N d → FitsAt N n g → PutsAtom a g n d (Some e) → FitsIn N e
atom_fits N (ClassAtom a x) (ClassTarget b r) n d e fits w q = put_fits N d e fits x (shifted_term n r) w (class_put (nat_eq a.0 b.0) (Puts x (shifted_term n r) d (Some e)) e q).1
atom_fits N (ClassAtom a x) (LinkTarget p r s) n d e fits w q = cc
atom_fits N (LinkAtom p x y) (ClassTarget b r) n d e fits w q = cc
atom_fits N (LinkAtom p x y) (LinkTarget b r s) n d e fits w q =
    let k = (link_put (nat_eq p.0 b.0) x y (shifted_term n r) (shifted_term n s) d e q).1 in
    put_fits N k.middle e (put_fits N d k.middle fits x (shifted_term n r) w.0 k.first) y (shifted_term n s) w.1 k.second

-- an argument of the atom is this variable
abbrev pub VarIn : VarId → Atom → Type 0
VarIn v (ClassAtom a x) = x ≡ Var v
VarIn v (LinkAtom p x y) = (x ≡ Var v) ⊎ (y ≡ Var v)

atom_binds : (a : Atom) (g : Target) (n : ℕ) (d e : Draft) → PutsAtom a g n d (Some e) → (v : VarId) → VarIn v a → Bound e v
atom_binds (ClassAtom a x) (ClassTarget b r) n d e q v i = put_binds d e x (shifted_term n r) (class_put (nat_eq a.0 b.0) (Puts x (shifted_term n r) d (Some e)) e q).1 v i
atom_binds (ClassAtom a x) (LinkTarget p r s) n d e q v i = cc
atom_binds (LinkAtom p x y) (ClassTarget b r) n d e q v i = cc
atom_binds (LinkAtom p x y) (LinkTarget b r s) n d e q v i =
    let k = (link_put (nat_eq p.0 b.0) x y (shifted_term n r) (shifted_term n s) d e q).1 in
    elim i [
      | inl h ↦ (let f = put_binds d k.middle x (shifted_term n r) k.first v h in (f.0, (put_keeps k.middle e y (shifted_term n s) k.second).3 v f.0 f.1))
      | inr h ↦ put_binds k.middle e y (shifted_term n s) k.second v h
    ]

atom_on : (N : ℕ) (c : CellsAt) → AreTexts c → (σ : Terms) (a : Atom) (g : Target) (f : Fact) (n : ℕ) (d : Draft) → FitsIn N d → FitsAt N n g → On c σ d → Gives (behind n c) g f → AtomIs σ a f →
    (o : Option Draft) → PutsAtom a g n d o → Put c σ o
atom_on N c texts σ (ClassAtom a x) (ClassTarget b r) (InClass k t) n d fits w on g i o q =
    let same : nat_eq a.0 b.0 ≡ true = eq-eqb a.0 b.0 (ap (λ z. z.0) (i.0 ∙ sym g.0)) in
    put_on N c texts σ d fits on x (shifted_term n r) t w (shift_at n c r ∙ g.1) i.1 o (MatchBool-at_true (Puts x (shifted_term n r) d o) (o ≡ None) same q)
atom_on N c texts σ (ClassAtom a x) (ClassTarget b r) (Linked k t u) n d fits w on g i o q = absurd g
atom_on N c texts σ (ClassAtom a x) (LinkTarget b r s) (InClass k t) n d fits w on g i o q = absurd g
atom_on N c texts σ (ClassAtom a x) (LinkTarget b r s) (Linked k t u) n d fits w on g i o q = absurd i
atom_on N c texts σ (LinkAtom a x y) (ClassTarget b r) (InClass k t) n d fits w on g i o q = absurd i
atom_on N c texts σ (LinkAtom a x y) (ClassTarget b r) (Linked k t u) n d fits w on g i o q = absurd g
atom_on N c texts σ (LinkAtom a x y) (LinkTarget b r s) (InClass k t) n d fits w on g i o q = absurd g
atom_on N c texts σ (LinkAtom a x y) (LinkTarget b r s) (Linked k t u) n d fits w on g i o q =
    let same : nat_eq a.0 b.0 ≡ true = eq-eqb a.0 b.0 (ap (λ z. z.0) (i.0 ∙ sym g.0)) in
    let h = MatchBool-at_true ((m : Option Draft) × Puts x (shifted_term n r) d m × PutsNext y (shifted_term n s) m o) (o ≡ None) same q in
    let p = put_on N c texts σ d fits on x (shifted_term n r) t w.0 (shift_at n c r ∙ g.1) i.1 h.0 h.1 in
    let fits' : FitsIn N p.draft = put_fits N d p.draft fits x (shifted_term n r) w.0 (subst (Puts x (shifted_term n r) d) p.is h.1) in
    put_on N c texts σ p.draft fits' p.on y (shifted_term n s) u w.1 (shift_at n c s ∙ g.2) i.2 o (subst (λ z. PutsNext y (shifted_term n s) z o) p.is h.2)

atom_back : (N : ℕ) (c : CellsAt) → AreTexts c → (σ : Terms) (a : Atom) (g : Target) (n : ℕ) (d e : Draft) → FitsIn N d → FitsAt N n g → SureTarget d n g → PutsAtom a g n d (Some e) → On c σ e →
    (f : Fact) × Gives (behind n c) g f × AtomIs σ a f × On c σ d
atom_back N c texts σ (ClassAtom a x) (ClassTarget b r) n d e fits w sure q on =
    let i = class_put (nat_eq a.0 b.0) (Puts x (shifted_term n r) d (Some e)) e q in
    let t = term_defined (behind n c) r (sure c ((put_keeps d e x (shifted_term n r) i.1).2 c on.hold)) in
    let p = put_back N c texts σ d e fits x (shifted_term n r) t.0 w (shift_at n c r ∙ t.1) i.1 on in
    (InClass b t.0, (refl, t.1), (same_class a b i.0, p.1), p.0)
atom_back N c texts σ (ClassAtom a x) (LinkTarget b r s) n d e fits w sure q on = cc
atom_back N c texts σ (LinkAtom a x y) (ClassTarget b r) n d e fits w sure q on = cc
atom_back N c texts σ (LinkAtom a x y) (LinkTarget b r s) n d e fits w sure q on =
    let i = link_put (nat_eq a.0 b.0) x y (shifted_term n r) (shifted_term n s) d e q in
    let k = i.1 in
    let h = sure c ((keeps_on d k.middle e (put_keeps d k.middle x (shifted_term n r) k.first) (put_keeps k.middle e y (shifted_term n s) k.second)).2 c on.hold) in
    let t = term_defined (behind n c) r (all_left (behind n c) (defined_term r) (defined_term s) h) in
    let u = term_defined (behind n c) s (all_right (behind n c) (defined_term r) (defined_term s) h) in
    let p' = put_back N c texts σ k.middle e (put_fits N d k.middle fits x (shifted_term n r) w.0 k.first) y (shifted_term n s) u.0 w.1 (shift_at n c s ∙ u.1) k.second on in
    let p = put_back N c texts σ d k.middle fits x (shifted_term n r) t.0 w.0 (shift_at n c r ∙ t.1) k.first p'.0 in
    (Linked b t.0 u.0, (refl, t.1, u.1), (same_link a b i.0, p.1, p'.1), p.0)

-- a tuple of a draft
abbrev pub SatAt : List Loaded → List TableId → Terms → Draft → List ℕ → Type 0
SatAt tables ts σ d rows = AreRows tables ts rows × On (cell_of tables ts rows) σ d

abbrev pub SourceFits : SourceQuery → Target → Type 0
SourceFits q g = QueryFits q × TargetFits (length q.tables) g

abbrev pub AreTables : List Loaded → Type 0
AreTables tables = (ts : List TableId) (rows : List ℕ) → AreTexts (cell_of tables ts rows)

-- the source query beside the draft
module _ (o : Origin) (q : SourceQuery) (g : Target) (d : Draft) where
  abbrev count : ℕ
  count = length d.query.tables

  -- the draft's own conditions, those of the source query, and those under which its target is defined
  abbrev old_hold : (c : CellsAt) → AllHold c (beside o q g d).query.conditions → AllHold c d.query.conditions
  old_hold c h = all_left c d.query.conditions _ h

  abbrev own_hold : (c : CellsAt) → AllHold c (beside o q g d).query.conditions → AllHold c (map (shifted_condition count) q.conditions)
  own_hold c h = all_left c (map (shifted_condition count) q.conditions) _ (all_right c d.query.conditions _ h)

  abbrev defined_hold : (c : CellsAt) → AllHold c (beside o q g d).query.conditions → AllHold c (map (shifted_condition count) (defined_target g))
  defined_hold c h = all_right c (map (shifted_condition count) q.conditions) _ (all_right c d.query.conditions _ h)

  beside_fits : DraftFits d → SourceFits q g → FitsIn (count + length q.tables) (beside o q g d)
  beside_fits fits w =
      let k = length q.tables in
      let more : count ≤ count + k = omega arith in
      record {
        conditions = All-append (ConditionFits (count + k)) d.query.conditions _ (all_wider count (count + k) d.query.conditions more fits.conditions)
            (All-append (ConditionFits (count + k)) (map (shifted_condition count) q.conditions) _ (conditions_shift count k q.conditions w.0) (conditions_shift count k (defined_target g) (defined_within k g w.1)));
        bound = λ v r h. term_wider count (count + k) r more (fits.bound v r h);
      }

  beside_sure : SureTarget (beside o q g d) count g
  beside_sure c h = all_shift count c (defined_target g) (defined_hold c h)

  module _ (a : Atom) where
    pub add_keeps : (e : Draft) → Adds a o q g d (Some e) → Keeps (beside o q g d) e
    add_keeps e p = atom_keeps a g count (beside o q g d) e p

    pub add_safe : (e : Draft) → Safe d → Adds a o q g d (Some e) → Safe e
    add_safe e safe p = atom_safe a g count (beside o q g d) e (λ c h v r k. safe c (old_hold c h) v r k) beside_sure p

    pub add_binds : (e : Draft) → Adds a o q g d (Some e) → (v : VarId) → VarIn v a → Bound e v
    add_binds e p v i = atom_binds a g count (beside o q g d) e p v i

    pub add_fits : (e : Draft) → DraftFits d → SourceFits q g → Adds a o q g d (Some e) → DraftFits e
    add_fits e fits w p =
        let long : length e.query.tables ≡ count + length q.tables = ap length (add_keeps e p).0 ∙ length-append d.query.tables q.tables in
        subst (λ n. FitsIn n e) (sym long) (atom_fits (count + length q.tables) a g count (beside o q g d) e (beside_fits fits w) (target_shifts count (length q.tables) g w.1) p)

    pub record AddedOn (tables : List Loaded) (σ : Terms) (rows : List ℕ) (result : Option Draft) : Type 0 where
      pub draft : Draft
      pub is : result ≡ Some draft
      pub sat : SatAt tables draft.query.tables σ draft rows

    pub add_on : (tables : List Loaded) → AreTables tables → (σ : Terms) (f : Fact) (rows own : List ℕ) → DraftFits d → SourceFits q g → SatAt tables d.query.tables σ d rows →
        IsTuple tables q own → Gives (cell_of tables q.tables own) g f → AtomIs σ a f → (result : Option Draft) → Adds a o q g d result → AddedOn tables σ (rows ++ own) result
    add_on tables are σ f rows own fits w sat tuple gives i result p =
        let all : List TableId = d.query.tables ++ q.tables in
        let c : CellsAt = cell_of tables all (rows ++ own) in
        let below = cells_front tables d.query.tables rows q.tables own sat.0 in
        let shifted : behind count c ≡ cell_of tables q.tables own = cells_behind tables d.query.tables rows q.tables own sat.0 in
        let old : AllHold c d.query.conditions = all_below count (cell_of tables d.query.tables rows) c below d.query.conditions fits.conditions sat.1.hold in
        let new : AllHold c (map (shifted_condition count) q.conditions) = shift_all count c q.conditions (subst (λ z. AllHold z q.conditions) (sym shifted) tuple.1) in
        let gives' : Gives (behind count c) g f = subst (λ z. Gives z g f) (sym shifted) gives in
        let defined : AllHold c (map (shifted_condition count) (defined_target g)) = shift_all count c (defined_target g) (gives_defined (behind count c) g f gives') in
        let on : On c σ (beside o q g d) = record {
          hold = all_append c d.query.conditions _ old (all_append c (map (shifted_condition count) q.conditions) _ new defined);
          agree = λ v r h. sym (term_below count (cell_of tables d.query.tables rows) c below r (fits.bound v r h)) ∙ sat.1.agree v r h;
        } in
        let k = atom_on (count + length q.tables) c (are all (rows ++ own)) σ a g f count (beside o q g d) (beside_fits fits w) (target_shifts count (length q.tables) g w.1) on gives' i result p in
        let tables_are = (add_keeps k.draft (subst (Adds a o q g d) k.is p)).0 in
        record { draft = k.draft; is = k.is; sat = subst (λ ts. SatAt tables ts σ k.draft (rows ++ own)) (sym tables_are) (are_beside tables d.query.tables rows q.tables own sat.0 tuple.0, k.on) }

    pub record AddedBack (tables : List Loaded) (σ : Terms) (rows : List ℕ) : Type 0 where
      pub front : List ℕ
      pub own : List ℕ
      pub is : rows ≡ front ++ own
      pub sat : SatAt tables d.query.tables σ d front
      pub tuple : IsTuple tables q own
      pub fact : Fact
      pub gives : Gives (cell_of tables q.tables own) g fact
      pub atom_is : AtomIs σ a fact

    pub add_back : (tables : List Loaded) → AreTables tables → (σ : Terms) (e : Draft) (rows : List ℕ) → DraftFits d → SourceFits q g → Adds a o q g d (Some e) → SatAt tables e.query.tables σ e rows → AddedBack tables σ rows
    add_back tables are σ e rows fits w p sat' =
        let all : List TableId = d.query.tables ++ q.tables in
        let sat : SatAt tables all σ e rows = subst (λ ts. SatAt tables ts σ e rows) (add_keeps e p).0 sat' in
        let b = split_rows tables d.query.tables q.tables rows sat.0 in
        let c : CellsAt = cell_of tables all (b.left ++ b.right) in
        let on : On c σ e = subst (λ z. On (cell_of tables all z) σ e) b.is sat.1 in
        let below = cells_front tables d.query.tables b.left q.tables b.right b.left_are in
        let shifted : behind count c ≡ cell_of tables q.tables b.right = cells_behind tables d.query.tables b.left q.tables b.right b.left_are in
        let k = atom_back (count + length q.tables) c (are all (b.left ++ b.right)) σ a g count (beside o q g d) e (beside_fits fits w) (target_shifts count (length q.tables) g w.1) beside_sure p on in
        let hold : AllHold c (beside o q g d).query.conditions = k.3.hold in
        record {
          front = b.left;
          own = b.right;
          is = b.is;
          sat = (
            b.left_are,
            record {
              hold = all_below count c (cell_of tables d.query.tables b.left) (turned count (cell_of tables d.query.tables b.left) c below) d.query.conditions fits.conditions (old_hold c hold);
              agree = λ v r h. term_below count (cell_of tables d.query.tables b.left) c below r (fits.bound v r h) ∙ k.3.agree v r h;
            },
          );
          tuple = (b.right_are, subst (λ z. AllHold z q.conditions) shifted (all_shift count c q.conditions (own_hold c hold)));
          fact = k.0;
          gives = subst (λ z. Gives z g k.0) shifted k.1;
          atom_is = k.2;
        }
