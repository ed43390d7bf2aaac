-- The rows of the records below a header, one record after the other.
use Rattle.std.proofs.Common.{◌≡◌, ◌∙◌, sym, refl, ap, ℕ, List, [], ◌∷◌, ◌++◌, Ok, Err}
use Rattle.source_tables.specs.declared.decl.TableDecl.{TableDecl}
use Rattle.source_tables.specs.declared.fault.TableFault.{TableFault}
use Rattle.source_tables.specs.Cells.{Row}
use Rattle.source_tables.specs.Tables.{OrFault, ◌>>=◌, checked_row, checked_rows}
use Rattle.source_tables.specs.Loading.{AddsRow, Fails}

pub none_left : (decl : TableDecl) (header : List (List ℕ)) (before : List Row) (rest : List (List (List ℕ))) (all : OrFault (List Row))
    → checked_rows decl header before rest ≡ all → rest ≡ [] → all ≡ Ok before
unfolding checked_rows
none_left decl header before rest all is e = sym is ∙ ap (λ (records : List (List (List ℕ))). checked_rows decl header before records) e

pub row_fails : (decl : TableDecl) (header : List (List ℕ)) (before : List Row) (fields : List (List ℕ)) (rest more : List (List (List ℕ))) (all : OrFault (List Row)) (e : TableFault)
    → checked_rows decl header before rest ≡ all → rest ≡ fields ∷ more → Fails e (checked_row decl header before fields) → Fails e all
unfolding checked_rows
row_fails decl header before fields rest more all e is first fails = λ other.
    sym is ∙ ap (λ (records : List (List (List ℕ))). checked_rows decl header before records) first
    ∙ ap (λ (r : OrFault Row). r >>= (λ row. checked_rows decl header (before ++ (row ∷ [])) more)) (fails other)

added : (read : OrFault Row) (before after : List Row) → AddsRow read before after → (row : Row) × (read ≡ Ok row) × (after ≡ before ++ (row ∷ []))
added (Ok row) before after e = (row, refl, e)
added (Err e) before after h = absurd h

pub row_goes : (decl : TableDecl) (header : List (List ℕ)) (before after : List Row) (fields : List (List ℕ)) (rest more : List (List (List ℕ))) (all : OrFault (List Row))
    → checked_rows decl header before rest ≡ all → rest ≡ fields ∷ more → AddsRow (checked_row decl header before fields) before after
    → checked_rows decl header after more ≡ all
unfolding checked_rows
row_goes decl header before after fields rest more all is first adds =
    let row = added (checked_row decl header before fields) before after adds in
    ap (λ (rows : List Row). checked_rows decl header rows more) row.2
    ∙ ap (λ (r : OrFault Row). r >>= (λ one. checked_rows decl header (before ++ (one ∷ [])) more)) (sym row.1)
    ∙ ap (λ (records : List (List (List ℕ))). checked_rows decl header before records) (sym first) ∙ is
