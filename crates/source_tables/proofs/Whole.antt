-- A whole table, from its header and the records below it.
use Rattle.std.proofs.Common.{◌≡◌, ◌∙◌, sym, refl, ap, ℕ, List, [], ◌∷◌, length, Ok, Err}
use Rattle.cell_store.specs.Grid.{Grid}
use Rattle.source_tables.specs.declared.decl.TableDecl.{TableDecl}
use Rattle.source_tables.specs.declared.fault.TableFault.{TableFault}
use Rattle.source_tables.specs.Cells.{Row}
use Rattle.source_tables.specs.Tables.{Loaded, OrFault, ◌>>=◌, body_of, checked_header, checked_rows, cut_rows, header_of, records_of, table_of}
use Rattle.source_tables.specs.Loading.{Fails, rows_in, table_below}

pub no_rows_in : (decl : TableDecl) (count : ℕ) (cells : Grid) → count ≡ 0 → rows_in decl count cells ≡ []
no_rows_in decl count cells none = ap (λ (n : ℕ). cut_rows n (length decl.columns) cells.cells) none

then_rows : (decl : TableDecl) (header : List (List ℕ)) (body : List (List (List ℕ))) (due : OrFault Loaded) → checked_header decl header ≡ Ok header
    → (checked_rows decl header [] body >>= (λ rows. Ok (record { decl = decl; rows = rows }))) ≡ due → table_below decl header body ≡ due
then_rows decl header body due right is =
    ap (λ (h : OrFault (List (List ℕ))). h >>= (λ first. checked_rows decl first [] body >>= (λ rows. Ok (record { decl = decl; rows = rows })))) right ∙ is

pub header_fails : (decl : TableDecl) (header : List (List ℕ)) (body : List (List (List ℕ))) (e : TableFault) → Fails e (checked_header decl header) → Fails e (table_below decl header body)
header_fails decl header body e fails = λ other.
    ap (λ (h : OrFault (List (List ℕ))). h >>= (λ first. checked_rows decl first [] body >>= (λ rows. Ok (record { decl = decl; rows = rows })))) (fails other)

pub rows_fail : (decl : TableDecl) (header : List (List ℕ)) (body : List (List (List ℕ))) (start : List Row) (e : TableFault) → checked_header decl header ≡ Ok header → start ≡ []
    → Fails e (checked_rows decl header start body) → Fails e (table_below decl header body)
rows_fail decl header body start e right none fails = λ other.
    then_rows decl header body (Err e) right
    (ap (λ (read : OrFault (List Row)). read >>= (λ rows. Ok (record { decl = decl; rows = rows }))) (ap (λ (rows : List Row). checked_rows decl header rows body) (sym none) ∙ fails other))

pub rows_found : (decl : TableDecl) (header : List (List ℕ)) (body : List (List (List ℕ))) (start rows : List Row) (table : Loaded) → checked_header decl header ≡ Ok header → start ≡ []
    → checked_rows decl header start body ≡ Ok rows → table ≡ record { decl = decl; rows = rows } → table_below decl header body ≡ Ok table
rows_found decl header body start rows table right none found is =
    then_rows decl header body (Ok table) right
    (ap (λ (read : OrFault (List Row)). read >>= (λ all. Ok (record { decl = decl; rows = all }))) (ap (λ (rs : List Row). checked_rows decl header rs body) (sym none) ∙ found)
    ∙ ap (λ (t : Loaded). Ok t) (sym is))

pub empty_found : (decl : TableDecl) (header : List (List ℕ)) (rows : List Row) (table : Loaded) → checked_header decl header ≡ Ok header → header ≡ [] → rows ≡ []
    → table ≡ record { decl = decl; rows = rows } → table_below decl [] [] ≡ Ok table
unfolding checked_rows
empty_found decl header rows table right empty none is =
    ap (λ (h : List (List ℕ)). table_below decl h []) (sym empty)
    ∙ rows_found decl header [] [] [] table right refl refl (is ∙ ap (λ (rs : List Row). record { decl = decl; rows = rs }) none)

pub of_records : (decl : TableDecl) (bytes : List ℕ) (header : List (List ℕ)) (body : List (List (List ℕ))) → records_of bytes ≡ header ∷ body → table_of decl bytes ≡ table_below decl header body
unfolding table_of
of_records decl bytes header body e = ap (λ (records : List (List (List ℕ))). table_below decl (header_of records) (body_of records)) e

pub of_none : (decl : TableDecl) (bytes : List ℕ) → records_of bytes ≡ [] → table_of decl bytes ≡ table_below decl [] []
unfolding table_of
of_none decl bytes e = ap (λ (records : List (List (List ℕ))). table_below decl (header_of records) (body_of records)) e
