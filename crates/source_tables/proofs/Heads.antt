-- What the header of a file is found to be.
use Rattle.std.proofs.Common.{◌≡◌, ap, subst, ℕ, ◌<◌, ◌≤◌, true, false, List, length, take, get_or, Option, Ok, Err, arith}
use Rattle.std.specs.List.{list_all, count_by}
use Rattle.std.specs.Str.{bytes_eq, is_utf8}
use Rattle.std.proofs.lemmas.Bool.Decides.{nat_tests}
use Rattle.std.proofs.lemmas.List.{take_all}
use Rattle.source_tables.specs.declared.decl.ColumnDecl.{ColumnDecl}
use Rattle.source_tables.specs.declared.decl.TableDecl.{TableDecl}
use Rattle.source_tables.specs.declared.fault.TableFault.TheVariants.{Header}
use Rattle.source_tables.specs.Tables.{checked_header, has_place, missing_or_header, col}
use Rattle.source_tables.proofs.Firsts.{first_missing, none_missing}

pub no_place : (header : List (List ℕ)) (column : ColumnDecl) (text : List ℕ) (count : ℕ) → text ≡ column.header → count ≡ count_by (bytes_eq text) header → (count ≡ 1 → ⊥)
    → has_place header column ≡ false
no_place header column text count is counted other =
    let e : count ≡ count_by (bytes_eq column.header) header = subst (λ (t : List ℕ). count ≡ count_by (bytes_eq t) header) is counted in
    rw (← e) (grind (arith, nat_tests))

pub column_missing : (decl : TableDecl) (header : List (List ℕ)) (i : ℕ) (column : ColumnDecl) → list_all is_utf8 header ≡ true → i < length decl.columns
    → list_all (has_place header) (take i decl.columns) ≡ true → get_or decl.columns i column ≡ column → has_place header column ≡ false
    → checked_header decl header ≡ Err (Header (col i))
column_missing decl header i column utf8 less before is fails =
    rw utf8 (ap (λ (o : Option ℕ). missing_or_header o header) (first_missing (has_place header) decl.columns i column less before (rw is fails)))

pub header_right : (decl : TableDecl) (header : List (List ℕ)) (n : ℕ) → list_all is_utf8 header ≡ true → length decl.columns ≤ n
    → list_all (has_place header) (take n decl.columns) ≡ true → checked_header decl header ≡ Ok header
header_right decl header n utf8 past all =
    let whole : list_all (has_place header) decl.columns ≡ true = rw (take_all n decl.columns past) at all in
    rw utf8 (ap (λ (o : Option ℕ). missing_or_header o header) (none_missing (has_place header) decl.columns whole))
