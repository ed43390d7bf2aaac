-- Drafts of row queries, atom by atom.
use Rattle.std.specs.Prelude.{ℕ, ◌≡◌, ◌≤◌, ◌*◌, List, [], ◌∷◌, ◌++◌, length, map, filter_map, Option, Some, None, option_map, nat_eq, if◌then◌else◌, ◌⊎◌, All}
use Rattle.std.specs.Bool.{MatchBool}
use Rattle.vocabulary.specs.declared.ids.VarId.{VarId}
use Rattle.vocabulary.specs.declared.term.Fact.{Fact}
use Rattle.vocabulary.specs.Lists.{In}
use Rattle.source_tables.specs.Tables.{Loaded}
use Rattle.queries.specs.declared.query.Arg.{Arg}
use Rattle.queries.specs.declared.query.Arg.TheVariants.{Blank, Var, Fixed}
use Rattle.queries.specs.declared.query.Atom.{Atom}
use Rattle.queries.specs.declared.query.Atom.TheVariants.{InClass as ClassAtom, Linked as LinkAtom}
use Rattle.queries.specs.Matches.{AtomIs, Matched, Terms}
use Rattle.mapping_facts.specs.declared.query.Condition.{Condition}
use Rattle.mapping_facts.specs.declared.query.SourceQuery.{SourceQuery}
use Rattle.mapping_facts.specs.declared.term.RowTerm.{RowTerm}
use Rattle.mapping_facts.specs.declared.term.RowTerm.TheVariants.{Fixed as FixedTerm}
use Rattle.mapping_facts.specs.declared.mapping.Target.{Target}
use Rattle.mapping_facts.specs.declared.mapping.Target.TheVariants.{InClass as ClassTarget, Linked as LinkTarget}
use Rattle.mapping_facts.specs.declared.mapping.Mapping.{Mapping}
use Rattle.mapping_facts.specs.Defined.{defined_target}
use Rattle.mapping_facts.specs.Facts.{fact_at, mapped_facts, term_at}
use Rattle.mapping_facts.specs.Fits.{AreFit, ConditionFits, HaveTexts, TermFits}
use Rattle.mapping_facts.specs.Tuples.{cell_of, tuples}
use Rattle.mapping_unfolding.specs.declared.draft.Binding.{Binding}
use Rattle.mapping_unfolding.specs.declared.draft.Draft.{Draft}
use Rattle.mapping_unfolding.specs.declared.draft.Origin.{Origin}
use Rattle.mapping_unfolding.specs.declared.unfolded.Unfolded.{Unfolded}
use Rattle.mapping_unfolding.specs.Equating.{Equates, IsWhole}
use Rattle.mapping_unfolding.specs.Shifts.{shifted_condition, shifted_term}
use Rattle.mapping_unfolding.specs.Unfoldings.{Names}

-- the row term of a variable
abbrev pub lookup : VarId → List Binding → Option RowTerm
lookup v [] = None
lookup v (b ∷ bs) = if nat_eq b.var.0 v.0 then Some b.term else lookup v bs

-- each row term has one place for each hole
abbrev pub AreWhole : Draft → Type 0
AreWhole d = All (λ b. IsWhole b.term) d.bound

-- one more variable
abbrev pub bind : VarId → RowTerm → Draft → Draft
bind v r d = record { query = d.query; bound = d.bound ++ (record { var = v; term = r } ∷ []); origins = d.origins }

-- more conditions
abbrev pub restricted : Draft → List Condition → Draft
restricted d conditions = record { query = record { tables = d.query.tables; conditions = d.query.conditions ++ conditions }; bound = d.bound; origins = d.origins }

-- the draft in which two row terms are equal, none where they never are
abbrev pub PutsEqual : RowTerm → RowTerm → Draft → Option Draft → Type 0
PutsEqual s r d o = (conditions : Option (List Condition)) × Equates s r conditions × (o ≡ option_map (restricted d) conditions)

-- a variable gets a row term, where it has this one or none
abbrev pub PutsVar : VarId → RowTerm → Draft → Option RowTerm → Option Draft → Type 0
PutsVar v r d None o = o ≡ Some (bind v r d)
PutsVar v r d (Some s) o = PutsEqual s r d o

-- an argument gets a row term
abbrev pub Puts : Arg → RowTerm → Draft → Option Draft → Type 0
Puts Blank r d o = o ≡ Some d
Puts (Var v) r d o = PutsVar v r d (lookup v d.bound) o
Puts (Fixed t) r d o = PutsEqual (FixedTerm t) r d o

abbrev pub PutsNext : Arg → RowTerm → Option Draft → Option Draft → Type 0
PutsNext x r None o = o ≡ None
PutsNext x r (Some d) o = Puts x r d o

-- the arguments of an atom get the terms of a target whose tables stand behind n others
abbrev pub PutsAtom : Atom → Target → ℕ → Draft → Option Draft → Type 0
PutsAtom (ClassAtom a x) (ClassTarget b r) n d o = MatchBool (nat_eq a.0 b.0) (Puts x (shifted_term n r) d o) (o ≡ None)
PutsAtom (ClassAtom a x) (LinkTarget q r s) n d o = o ≡ None
PutsAtom (LinkAtom p x y) (ClassTarget b r) n d o = o ≡ None
PutsAtom (LinkAtom p x y) (LinkTarget q r s) n d o =
    MatchBool (nat_eq p.0 q.0) ((m : Option Draft) × Puts x (shifted_term n r) d m × PutsNext y (shifted_term n s) m o) (o ≡ None)

-- the tables of a source query stand behind those that are there, and the terms of its target are defined
abbrev pub beside : Origin → SourceQuery → Target → Draft → Draft
beside o q g d = record {
  query = record {
    tables = d.query.tables ++ q.tables;
    conditions = d.query.conditions ++ (map (shifted_condition (length d.query.tables)) q.conditions ++ map (shifted_condition (length d.query.tables)) (defined_target g));
  };
  bound = d.bound;
  origins = d.origins ++ (o ∷ []);
}

-- an atom gets the target of a source query, none where it does not fit the target
abbrev pub Adds : Atom → Origin → SourceQuery → Target → Draft → Option Draft → Type 0
Adds a o q g d result = PutsAtom a g (length d.query.tables) (beside o q g d) result

-- one target for each atom, and the draft that this makes
pub data Unfolds (mappings : List Mapping) : List Atom → Draft → List Origin → Draft → Type 0 where
  unfolded : {d : Draft} → Unfolds mappings [] d [] d
  onward : {a : Atom} {atoms : List Atom} {d e u : Draft} {os : List Origin} (o : Origin) (m : Mapping) (g : Target) →
      Names mappings o m g → o.first ≡ length d.query.tables → Adds a o m.query g d (Some e) → Unfolds mappings atoms e os u → Unfolds mappings (a ∷ atoms) d (o ∷ os) u

-- conditions and row terms are over n tables
pub record FitsIn (n : ℕ) (d : Draft) : Type 0 where
  pub conditions : All (ConditionFits n) d.query.conditions
  pub bound : (v : VarId) (r : RowTerm) → lookup v d.bound ≡ Some r → TermFits n r

abbrev pub DraftFits : Draft → Type 0
DraftFits d = FitsIn (length d.query.tables) d

-- a tuple of the draft, at which each variable's row term is its term
pub record StandsAt (tables : List Loaded) (σ : Terms) (d : Draft) (rows : List ℕ) : Type 0 where
  pub tuple : In rows (tuples tables d.query)
  pub agree : (v : VarId) (r : RowTerm) → lookup v d.bound ≡ Some r → term_at (cell_of tables d.query.tables rows) r ≡ Some (σ v)

-- a draft of the list has a tuple for these terms
abbrev pub Among : List Loaded → Terms → List Draft → Type 0
Among tables σ drafts = (u : Draft) × In u drafts × (rows : List ℕ) × StandsAt tables σ u rows

-- where a tuple of the draft and a match of the atoms agree, so does a draft of the list
abbrev pub HasAll : List Mapping → List Atom → Draft → List Draft → Type 0
HasAll mappings atoms d drafts = DraftFits d → (tables : List Loaded) → HaveTexts tables → (σ : Terms) (rows : List ℕ) → StandsAt tables σ d rows →
    Matched (mapped_facts mappings tables) σ atoms → Among tables σ drafts

-- the same for a first atom whose fact this target gives
abbrev pub HasTarget : List Mapping → Atom → List Atom → Draft → SourceQuery → List Draft → Target → Type 0
HasTarget mappings a atoms d q drafts g = DraftFits d → (tables : List Loaded) → HaveTexts tables → (σ : Terms) (rows own : List ℕ) (f : Fact) → StandsAt tables σ d rows →
    In own (tuples tables q) → fact_at (cell_of tables q.tables own) g ≡ Some f → AtomIs σ a f → Matched (mapped_facts mappings tables) σ atoms → Among tables σ drafts

-- the same for a first atom whose fact this mapping gives
abbrev pub HasMapping : List Mapping → Atom → List Atom → Draft → List Draft → Mapping → Type 0
HasMapping mappings a atoms d drafts m = All (HasTarget mappings a atoms d m.query drafts) m.targets

-- no draft is lost
abbrev pub Kept : List Draft → List Draft → Type 0
Kept old new = (u : Draft) → In u old → In u new

-- each draft is an old one, or unfolds the atoms
abbrev pub OnlyUnfold : List Mapping → List Atom → Draft → List Draft → List Draft → Type 0
OnlyUnfold mappings atoms d old new = (u : Draft) → In u new → In u old ⊎ ((os : List Origin) × Unfolds mappings atoms d os u)

-- a draft for at most all of sixteen atoms, which mappings that fit have made
pub record IsReady (mappings : List Mapping) (atoms : List Atom) (d : Draft) : Type 0 where
  pub fit : AreFit mappings
  pub few : length atoms ≤ 16
  pub within : length d.origins ≤ length atoms
  pub narrow : length d.query.tables ≤ 6 * length d.origins
  pub whole : AreWhole d

abbrev pub no_atom : Atom
no_atom = ClassAtom (record { 0 = 0 }) Blank

abbrev pub empty_draft : Draft
empty_draft = record { query = record { tables = []; conditions = [] }; bound = []; origins = [] }

-- the row term of a head place
abbrev pub head_term : List Binding → Arg → Option RowTerm
head_term bound Blank = None
head_term bound (Var v) = lookup v bound
head_term bound (Fixed t) = Some (FixedTerm t)

-- the row query of a draft
abbrev pub unfolded_of : List Arg → Draft → Unfolded
unfolded_of head d = record { rows = record { query = d.query; apart = []; head = filter_map (head_term d.bound) head }; origins = d.origins }
