-- Conditions and terms over cells that are the same at their places.
use Rattle.std.proofs.Common.{ℕ, ◌≡◌, refl, ap, subst, ◌<◌, List, [], ◌∷◌, map, All, Option}
use Rattle.std.specs.Prelude.{option_map, option_and_then}
use Rattle.std.specs.Str.{bytes_eq}
use Rattle.std.proofs.lemmas.List.Elements.{All-head, All-tail}
use Rattle.vocabulary.specs.declared.term.Term.{Term, Named, Value}
use Rattle.vocabulary.specs.Lists.{In, here, there}
use Rattle.source_tables.specs.Cells.{Cell, is_null}
use Rattle.iri_templates.specs.Texts.{filled_text}
use Rattle.mapping_facts.specs.declared.query.Place.{Place}
use Rattle.mapping_facts.specs.declared.query.Condition.{Condition}
use Rattle.mapping_facts.specs.declared.query.Condition.TheVariants.{Equal, EqualText, Differ, DifferText, IsNull, NotNull}
use Rattle.mapping_facts.specs.declared.term.RowTerm.{RowTerm}
use Rattle.mapping_facts.specs.declared.term.RowTerm.TheVariants.{Iri, Cell as CellTerm, Fixed}
use Rattle.mapping_facts.specs.Facts.{term_at}
use Rattle.mapping_facts.specs.Fits.{ConditionFits, PlaceFits, TermFits}
use Rattle.mapping_facts.specs.RowQueries.{terms_at}
use Rattle.mapping_facts.specs.Tuples.{compares, condition_holds, differs}
use Rattle.mapping_facts.proofs.Members.{All-In}
use Rattle.mapping_facts.proofs.Tuples.{CellsAt}
use Rattle.table_renumbering.specs.Places.{condition_places, term_places}

abbrev pub SameCells : List Place → CellsAt → CellsAt → Type 0
SameCells ps c e = (p : Place) → In p ps → c p ≡ e p

pub condition_same : (c e : CellsAt) (x : Condition) → SameCells (condition_places x) c e → condition_holds c x ≡ condition_holds e x
condition_same c e (Equal p q) h = λ i. compares bytes_eq (h p (here refl) i) (h q (there (here refl)) i)
condition_same c e (EqualText p text) h = λ i. condition_holds (λ z. h p (here refl) i) (EqualText p text)
condition_same c e (Differ p q) h = λ i. compares differs (h p (here refl) i) (h q (there (here refl)) i)
condition_same c e (DifferText p text) h = λ i. condition_holds (λ z. h p (here refl) i) (DifferText p text)
condition_same c e (IsNull p) h = λ i. condition_holds (λ z. h p (here refl) i) (IsNull p)
condition_same c e (NotNull p) h = λ i. condition_holds (λ z. h p (here refl) i) (NotNull p)

cells_same : (c e : CellsAt) (ps : List Place) → SameCells ps c e → map c ps ≡ map e ps
cells_same c e [] h = refl
cells_same c e (p ∷ ps) h = λ i. h p (here refl) i ∷ cells_same c e ps (λ q m. h q (there m)) i

pub term_same : (c e : CellsAt) (r : RowTerm) → SameCells (term_places r) c e → term_at c r ≡ term_at e r
term_same c e (Iri template ps) h = ap (λ cells. option_map Named (filled_text template cells)) (cells_same c e ps h)
term_same c e (CellTerm kind p) h = ap (option_map (Value kind)) (h p (here refl))
term_same c e (Fixed term) h = refl

pub terms_same : (c e : CellsAt) (rs : List RowTerm) → ((r : RowTerm) → In r rs → SameCells (term_places r) c e) → terms_at c rs ≡ terms_at e rs
terms_same c e [] h = refl
terms_same c e (r ∷ rs) h = λ i. option_and_then (λ t. option_map (λ ts. t ∷ ts) (terms_same c e rs (λ s m. h s (there m)) i)) (term_same c e r (h r (here refl)) i)

-- the places of what fits are at the tables
pub one_fits : (P : Place → Type 0) (p r : Place) → P p → In r (p ∷ []) → P r
one_fits P p r f (here e) = subst P e f
one_fits P p r f (there k) = elim k [ ]

pub two_fit : (P : Place → Type 0) (p q r : Place) → P p → P q → In r (p ∷ q ∷ []) → P r
two_fit P p q r f g (here e) = subst P e f
two_fit P p q r f g (there m) = one_fits P q r g m

pub condition_fits : (n : ℕ) (x : Condition) → ConditionFits n x → (p : Place) → In p (condition_places x) → PlaceFits n p
condition_fits n (Equal p q) f r m = two_fit (PlaceFits n) p q r f.0 f.1 m
condition_fits n (EqualText p text) f r m = one_fits (PlaceFits n) p r f m
condition_fits n (Differ p q) f r m = two_fit (PlaceFits n) p q r f.0 f.1 m
condition_fits n (DifferText p text) f r m = one_fits (PlaceFits n) p r f m
condition_fits n (IsNull p) f r m = one_fits (PlaceFits n) p r f m
condition_fits n (NotNull p) f r m = one_fits (PlaceFits n) p r f m

pub term_fits : (n : ℕ) (r : RowTerm) → TermFits n r → (p : Place) → In p (term_places r) → PlaceFits n p
term_fits n (Iri template ps) f p m = All-In (PlaceFits n) ps f.1 m
term_fits n (CellTerm kind q) f p m = one_fits (PlaceFits n) q p f m
term_fits n (Fixed term) f p m = elim m [ ]
