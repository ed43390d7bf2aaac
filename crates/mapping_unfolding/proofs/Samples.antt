-- The unfolding of small queries over two mappings of one link.
use Rattle.std.proofs.Common.{◌≡◌, refl, sym, subst, ap, ◌∙◌, arith, ℕ, List, [], ◌∷◌, Some, codes}
use Rattle.vocabulary.specs.declared.ids.LinkId.{LinkId}
use Rattle.vocabulary.specs.declared.ids.ValueKind.TheVariants.{Text}
use Rattle.vocabulary.specs.declared.term.Term.{Term, Named}
use Rattle.vocabulary.specs.declared.term.Fact.{Fact}
use Rattle.vocabulary.specs.declared.term.Fact.TheVariants.{InClass as ClassFact, Linked as LinkFact}
use Rattle.vocabulary.specs.Lists.{In, here, there}
use Rattle.source_tables.specs.Tables.{Loaded}
use Rattle.queries.specs.declared.query.Arg.TheVariants.{Blank, Var}
use Rattle.queries.specs.declared.query.Atom.{Atom}
use Rattle.queries.specs.declared.query.Atom.TheVariants.{Linked}
use Rattle.queries.specs.declared.query.Query.{Query}
use Rattle.queries.specs.Matches.{AtomIs, HeadIs, IsMatch, Terms}
use Rattle.mapping_facts.specs.declared.term.RowTerm.{RowTerm}
use Rattle.mapping_facts.specs.declared.term.RowTerm.TheVariants.{Cell, Fixed}
use Rattle.mapping_facts.specs.declared.mapping.Target.{Target}
use Rattle.mapping_facts.specs.declared.mapping.Target.TheVariants.{Linked as LinkTarget}
use Rattle.mapping_facts.specs.declared.mapping.Mapping.{Mapping}
use Rattle.mapping_facts.specs.Facts.{mapped_facts, term_at}
use Rattle.mapping_facts.specs.RowQueries.{row_tuples}
use Rattle.mapping_facts.specs.Tuples.{cell_of}
use Rattle.mapping_facts.proofs.Facts.{Gives, in_mapped}
use Rattle.mapping_facts.proofs.Heads.{HeadAt, asked_tuple, terms_are, tuple_asked}
use Rattle.mapping_facts.proofs.Tuples.{IsTuple}
use Rattle.mapping_unfolding.specs.declared.unfolded.Unfolded.{Unfolded}
use Rattle.mapping_unfolding.specs.Unfoldings.{AreUnfoldings, GivesHead, HeadAre}

abbrev link : ℕ → LinkId
link n = record { 0 = n }

abbrev value : RowTerm
value = Cell Text (record { table = 0; col = record { 0 = 0 } })

abbrev object : Term
object = Named (codes "a")

abbrev target : Target
target = LinkTarget (link 0) (Fixed object) value

-- a row of the table gives p(a, x), where x is its first cell
abbrev mapping : ℕ → Mapping
mapping n = record { name = codes "m"; query = record { tables = record { 0 = n } ∷ []; conditions = [] }; targets = target ∷ [] }

abbrev mappings : List Mapping
mappings = mapping 0 ∷ mapping 1 ∷ []

-- q(x) ← p(_, x)
abbrev ends_of : ℕ → Query
ends_of n = record { head = Var (record { 0 = 0 }) ∷ []; atoms = Linked (link n) Blank (Var (record { 0 = 0 })) ∷ [] }

-- the first cell of each row of the table, where it is not null
abbrev cells : ℕ → Unfolded
cells n = record { rows = record { query = (mapping n).query; apart = []; head = value ∷ [] }; origins = record { mapping = n; target = 0; first = 0 } ∷ [] }

abbrev both : List Unfolded
both = cells 0 ∷ cells 1 ∷ []

only_one : {X : Type 0} {x y : X} → In x (y ∷ []) → y ≡ x
only_one (here e) = e
only_one (there i) = elim i [ ]

mapping_of : (m : Mapping) → In m mappings → (n : ℕ) × (mapping n ≡ m) × In (cells n) both
mapping_of m (here e) = (0, e, here refl)
mapping_of m (there (here e)) = (1, e, there (here refl))
mapping_of m (there (there i)) = elim i [ ]

cells_of : (u : Unfolded) → In u both → (n : ℕ) × (cells n ≡ u) × In (mapping n) mappings
cells_of u (here e) = (0, e, here refl)
cells_of u (there (here e)) = (1, e, there (here refl))
cells_of u (there (there i)) = elim i [ ]

module _ (tables : List Loaded) where
  head_at : (n : ℕ) (rows : List ℕ) (σ : Terms) (f : Fact) (ts : List Term) → In (cells n) both → IsTuple tables (mapping n).query rows → Gives (cell_of tables (mapping n).query.tables rows) target f →
      AtomIs σ (Linked (link 0) Blank (Var (record { 0 = 0 }))) f → HeadIs σ (ends_of 0).head ts → GivesHead tables both ts
  head_at n rows σ (ClassFact c t) ts i tuple gives is head = absurd gives
  head_at n rows σ (LinkFact q s t) [] i tuple gives is head = absurd head
  head_at n rows σ (LinkFact q s t) (u ∷ v ∷ more) i tuple gives is head = absurd (head.1)
  head_at n rows σ (LinkFact q s t) (u ∷ []) i tuple gives is head =
      let c = cell_of tables (mapping n).query.tables rows in
      let e : term_at c value ≡ Some u = gives.2 ∙ ap Some (sym is.2 ∙ head.0) in
      (cells n, i, rows, tuple_asked tables (cells n).rows rows (u ∷ []) refl tuple (e, tt), (terms_are c (value ∷ []) (u ∷ [])).1 (e, tt))

  match_at : (n : ℕ) (rows : List ℕ) (ts : List Term) → In (mapping n) mappings → IsTuple tables (mapping n).query rows → HeadAt (cell_of tables (mapping n).query.tables rows) (value ∷ []) ts →
      (σ : Terms) × IsMatch (mapped_facts mappings tables) (ends_of 0) ts σ
  match_at n rows [] i tuple head = absurd head
  match_at n rows (t ∷ u ∷ more) i tuple head = absurd (head.1)
  match_at n rows (t ∷ []) i tuple head = ((λ v. t), record { atoms = each; head = (refl, tt) })
    where
      fact : In (LinkFact (link 0) object t) (mapped_facts mappings tables)
      fact = (in_mapped mappings tables (LinkFact (link 0) object t)).1 (record { mapping = mapping n; target = target; rows = rows; is_mapping = i; is_target = here refl; is_tuple = tuple; gives = (refl, refl, head.0) })

      each : (k : Atom) → In k (ends_of 0).atoms → (f : Fact) × In f (mapped_facts mappings tables) × AtomIs (λ v. t) k f
      each k (here e) = (LinkFact (link 0) object t, fact, rw (← e) (refl, tt, refl))
      each k (there m) = elim m [ ]

-- one row query for each of the mappings
two_mappings : AreUnfoldings mappings (ends_of 0) both
two_mappings tables texts ts = (onto, back)
  where
    onto : ((σ : Terms) × IsMatch (mapped_facts mappings tables) (ends_of 0) ts σ) → GivesHead tables both ts
    onto (σ, m) =
        let k = m.atoms (Linked (link 0) Blank (Var (record { 0 = 0 }))) (here refl) in
        let w = (in_mapped mappings tables k.0).0 k.1 in
        let n = mapping_of w.mapping w.is_mapping in
        let tuple = subst (λ z. IsTuple tables z.query w.rows) (sym n.1) w.is_tuple in
        let is_target = only_one (subst (λ z. In w.target z.targets) (sym n.1) w.is_target) in
        let gives = subst (λ z. Gives (cell_of tables z.query.tables w.rows) w.target k.0) (sym n.1) w.gives in
        head_at tables n.0 w.rows σ k.0 ts n.2 tuple (subst (λ g. Gives (cell_of tables (mapping n.0).query.tables w.rows) g k.0) (sym is_target) gives) k.2 m.head

    back : GivesHead tables both ts → (σ : Terms) × IsMatch (mapped_facts mappings tables) (ends_of 0) ts σ
    back (u, i, rows, j, e) =
        let n = cells_of u i in
        let asked = subst (λ z. In rows (row_tuples tables z.rows)) (sym n.1) j in
        let head : HeadAre tables (cells n.0) rows ts = subst (λ z. HeadAre tables z rows ts) (sym n.1) e in
        match_at tables n.0 rows ts n.2 (asked_tuple tables (cells n.0).rows rows asked).0 ((terms_are (cell_of tables (mapping n.0).query.tables rows) (value ∷ []) ts).0 head)

-- no target is of the other link
none_fits : AreUnfoldings mappings (ends_of 1) []
none_fits tables texts ts = (onto, λ h. elim h.1 [ ])
  where
    other : (c : _) (σ : Terms) (f : Fact) → Gives c target f → AtomIs σ (Linked (link 1) Blank (Var (record { 0 = 0 }))) f → ⊥
    other c σ (ClassFact d t) gives is = gives
    other c σ (LinkFact q s t) gives is = let e : 1 ≡ 0 = ap (λ p. p.0) (is.0 ∙ sym gives.0) in absurd (omega (arith, e))

    onto : ((σ : Terms) × IsMatch (mapped_facts mappings tables) (ends_of 1) ts σ) → GivesHead tables [] ts
    onto (σ, m) =
        let k = m.atoms (Linked (link 1) Blank (Var (record { 0 = 0 }))) (here refl) in
        let w = (in_mapped mappings tables k.0).0 k.1 in
        let n = mapping_of w.mapping w.is_mapping in
        let is_target = only_one (subst (λ z. In w.target z.targets) (sym n.1) w.is_target) in
        let c = cell_of tables w.mapping.query.tables w.rows in
        absurd (other c σ k.0 (subst (λ g. Gives c g k.0) (sym is_target) w.gives) k.2)
