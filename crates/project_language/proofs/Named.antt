-- A text that names an ontology is no project by its lines alone.
use Rattle.std.proofs.Common.{◌≡◌, refl, sym, subst, ◌&&◌, not, ℕ, ◌+◌, Bool, true, false, List, [], ◌∷◌, Option, Some, None, Result, Ok, Err, codes, if◌then◌else◌}
use Rattle.std.specs.Str.{bytes_eq}
use Rattle.std.proofs.lemmas.Slice.Eq.{bytes_eq-Decides}
use Rattle.line_lexer.specs.Grammar.{◌>>=◌, any_quoted, is_quoted_shape}
use Rattle.line_lexer.specs.Left.{Left}
use Rattle.line_lexer.specs.Tokens.{Seen, tokens_of}
use Rattle.line_lexer.specs.declared.fault.LineFault.{LineFault}
use Rattle.line_lexer.specs.declared.fault.LineFault.TheVariants.{Syntax}
use Rattle.line_lexer.specs.declared.shape.Shape.{Shape}
use Rattle.line_lexer.specs.declared.shape.Shape.TheVariants.{Word, Quoted, Number, Sign}
use Rattle.uml_model.specs.Lines.{model_line}
use Rattle.project_language.specs.declared.fault.ProjectFault.{ProjectFault}
use Rattle.project_language.specs.declared.project.Project.{Project}
use Rattle.project_language.specs.Project.{as_fault, behind, file_alone, file_of, file_or_syntax, name_lines, name_text, named, named_file, naming, nothing, onward, ontology_file, open_text, read_lines, read_project, read_seen}

-- the tokens of a line that names an ontology begin with `ontology`
abbrev file_where : Bool → List Seen → Option (List ℕ)
file_where c ts = (if c then Some ts else None) >>= (λ rest. any_quoted rest >>= file_alone)

-- such a line is in no form of a project's own lines
no_form : (n : ℕ) (shape : Shape) → not (is_quoted_shape shape) ≡ true → (ts : List Seen) → read_seen n nothing (Some (record { shape = shape; text = codes "ontology" } ∷ ts)) ≡ Err Syntax
unfolding model_line
no_form n Word plain ts = refl
no_form n Number plain ts = refl
no_form n Sign plain ts = refl
no_form n Quoted plain ts = absurd cc

no_line : (n : ℕ) (t : Seen) (ts : List Seen) (file : List ℕ) → named_file (t ∷ ts) ≡ Some file → read_seen n nothing (Some (t ∷ ts)) ≡ Err Syntax
no_line n t ts file = by (not (is_quoted_shape t.shape)) (bytes_eq t.text (codes "ontology")) refl refl
  where
    by : (a b : Bool) → not (is_quoted_shape t.shape) ≡ a → bytes_eq t.text (codes "ontology") ≡ b → file_where (a && b) ts ≡ Some file → read_seen n nothing (Some (t ∷ ts)) ≡ Err Syntax
    by true true e f h =
        let is : t.text ≡ codes "ontology" = (bytes_eq-Decides t.text (codes "ontology")).0 f in
        subst (λ x. read_seen n nothing (Some (record { shape = t.shape; text = x } ∷ ts)) ≡ Err Syntax) (sym is) (no_form n t.shape e ts)
    by true false e f h = absurd cc
    by false b e f h = absurd cc

-- what a line names and what it says, by its tokens
tokens_refused : (n : ℕ) (seen : Option (List Seen)) (file : List ℕ) → naming seen ≡ Ok (Some file) → read_seen n nothing seen ≡ Err Syntax
tokens_refused n None file h = absurd cc
tokens_refused n (Some []) file h = absurd cc
tokens_refused n (Some (t ∷ ts)) file h = by (named_file (t ∷ ts)) refl h
  where
    by : (o : Option (List ℕ)) → named_file (t ∷ ts) ≡ o → file_or_syntax o ≡ Ok (Some file) → read_seen n nothing (Some (t ∷ ts)) ≡ Err Syntax
    by None is h = absurd cc
    by (Some f) is h = no_line n t ts f is

nothing_said : (n : ℕ) (seen : Option (List Seen)) → naming seen ≡ Ok None → read_seen n nothing seen ≡ Ok nothing
nothing_said n None h = absurd cc
nothing_said n (Some []) h = refl
nothing_said n (Some (t ∷ ts)) h = by (named_file (t ∷ ts)) h
  where
    by : (o : Option (List ℕ)) → file_or_syntax o ≡ Ok None → read_seen n nothing (Some (t ∷ ts)) ≡ Ok nothing
    by None h = absurd cc
    by (Some f) h = absurd cc

-- none of these lines is the first with tokens that names an ontology
lines_named : (n : ℕ) (lines : List (List ℕ)) (p : Project) → read_lines n nothing lines ≡ Ok p → file_of (name_lines n lines) ≡ None
unfolding read_lines name_lines
lines_named n [] p h = refl
lines_named n (line ∷ rest) p h = by (naming (tokens_of line)) refl (λ p h. lines_named (n + 1) rest p h)
  where
    by : (r : Result (Option (List ℕ)) LineFault) → naming (tokens_of line) ≡ r → ((p : Project) → read_lines (n + 1) nothing rest ≡ Ok p → file_of (name_lines (n + 1) rest) ≡ None)
        → file_of (named n r (record { number = n; lines = rest }) (name_lines (n + 1) rest)) ≡ None
    by (Err f) is later = refl
    by (Ok (Some file)) is later = absurd (let e : Err (as_fault n Syntax) ≡ Ok p = subst (λ r. onward n r (λ next. read_lines (n + 1) next rest) ≡ Ok p) (tokens_refused n (tokens_of line) file is) h in cc)
    by (Ok None) is later = later p (subst (λ r. onward n r (λ next. read_lines (n + 1) next rest) ≡ Ok p) (nothing_said n (tokens_of line) is) h)

pub names_none : (bytes : List ℕ) (p : Project) → read_project bytes ≡ Ok p → ontology_file bytes ≡ None
unfolding read_project name_text
names_none bytes p = by (open_text bytes)
  where
    by : (r : Result Left ProjectFault) → behind r (λ left. read_lines (left.number + 1) nothing left.lines) ≡ Ok p → file_of (behind r (λ left. name_lines (left.number + 1) left.lines)) ≡ None
    by (Ok left) h = lines_named (left.number + 1) left.lines p h
    by (Err f) h = refl
