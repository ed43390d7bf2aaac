-- The folds over lines, a line at a time.
use Rattle.std.proofs.Common.{◌≡◌, ◌≢◌, refl, sym, ◌∙◌, ap, subst, ℕ, ◌+◌, true, false, List, [], ◌∷◌, None, Some, Result, Ok, Err}
use Rattle.line_lexer.specs.Tokens.{tokens_of}
use Rattle.line_lexer.specs.declared.fault.LineFault.{LineFault}
use Rattle.line_lexer.specs.declared.fault.LineFault.TheVariants as line_fault
use Rattle.project_language.specs.declared.fault.ProjectFault.{ProjectFault}
use Rattle.project_language.specs.declared.fault.ProjectFault.TheVariants as fault
use Rattle.project_language.specs.declared.project.Project.{Project}
use Rattle.line_lexer.specs.Left.{Left}
use Rattle.line_lexer.specs.Lines.{IsNextLine}
use Rattle.line_lexer.specs.declared.lines.Line.{Line}
use Rattle.project_language.proofs.Next.{next_line, no_line}
use Rattle.project_language.specs.Project.{as_fault, named, name_lines, naming, onward, opened, opening, open_lines, read_lines, read_seen}

-- what is not want of memory of a project is none of its line
pub of_line : (n : ℕ) (f : LineFault) → as_fault n f ≢ fault.NoMemory → f ≢ line_fault.NoMemory
of_line n f h is = h (ap (as_fault n) is)

-- what is left behind a line
abbrev pub left_behind : ℕ → List (List ℕ) → Left
left_behind n rest = record { number = n; lines = rest }

-- before `onprom 1`
pub passed_over : (n : ℕ) (line : List ℕ) (rest : List (List ℕ)) → opening (tokens_of line) ≡ Ok false → open_lines n (line ∷ rest) ≡ open_lines (n + 1) rest
unfolding open_lines
passed_over n line rest is = ap (λ o. opened n o (left_behind n rest) (open_lines (n + 1) rest)) is

pub opened_here : (n : ℕ) (line : List ℕ) (rest : List (List ℕ)) → opening (tokens_of line) ≡ Ok true → open_lines n (line ∷ rest) ≡ Ok (left_behind n rest)
unfolding open_lines
opened_here n line rest is = ap (λ o. opened n o (left_behind n rest) (open_lines (n + 1) rest)) is

pub not_opened : (n : ℕ) (line : List ℕ) (rest : List (List ℕ)) (f : LineFault) → opening (tokens_of line) ≡ Err f → open_lines n (line ∷ rest) ≡ Err (as_fault n f)
unfolding open_lines
not_opened n line rest f is = ap (λ o. opened n o (left_behind n rest) (open_lines (n + 1) rest)) is

pub never_opened : (n : ℕ) → open_lines n [] ≡ Err (fault.Line 1 line_fault.Syntax)
unfolding open_lines
never_opened n = refl

-- before the line that names an ontology
pub passed_over_again : (n : ℕ) (line : List ℕ) (rest : List (List ℕ)) → naming (tokens_of line) ≡ Ok None → name_lines n (line ∷ rest) ≡ name_lines (n + 1) rest
unfolding name_lines
passed_over_again n line rest is = ap (λ o. named n o (left_behind n rest) (name_lines (n + 1) rest)) is

pub named_here : (n : ℕ) (line file : List ℕ) (rest : List (List ℕ)) → naming (tokens_of line) ≡ Ok (Some file) → name_lines n (line ∷ rest) ≡ Ok (file, left_behind n rest)
unfolding name_lines
named_here n line file rest is = ap (λ o. named n o (left_behind n rest) (name_lines (n + 1) rest)) is

pub not_named : (n : ℕ) (line : List ℕ) (rest : List (List ℕ)) (f : LineFault) → naming (tokens_of line) ≡ Err f → name_lines n (line ∷ rest) ≡ Err (as_fault n f)
unfolding name_lines
not_named n line rest f is = ap (λ o. named n o (left_behind n rest) (name_lines (n + 1) rest)) is

pub never_named : (n : ℕ) → name_lines n [] ≡ Err (fault.Line 1 line_fault.Syntax)
unfolding name_lines
never_named n = refl

-- behind it
pub read_next : (n : ℕ) (p next : Project) (line : List ℕ) (rest : List (List ℕ)) → read_seen n p (tokens_of line) ≡ Ok next → read_lines n p (line ∷ rest) ≡ read_lines (n + 1) next rest
unfolding read_lines
read_next n p next line rest is = ap (λ r. onward n r (λ next. read_lines (n + 1) next rest)) is

pub read_fault : (n : ℕ) (p : Project) (line : List ℕ) (rest : List (List ℕ)) (f : LineFault) → read_seen n p (tokens_of line) ≡ Err f → read_lines n p (line ∷ rest) ≡ Err (as_fault n f)
unfolding read_lines
read_fault n p line rest f is = ap (λ r. onward n r (λ next. read_lines (n + 1) next rest)) is

pub read_end : (n : ℕ) (p : Project) → read_lines n p [] ≡ Ok p
unfolding read_lines
read_end n p = refl

-- the same by what `next` gives, where the whole is what is left before it
module _ (whole : Result Left ProjectFault) (old new : Left) where
  pub at_passed : (line : Line) → whole ≡ open_lines (old.number + 1) old.lines → IsNextLine old.lines old new (Some line) → opening (tokens_of line.text.now) ≡ Ok false → whole ≡ open_lines (new.number + 1) new.lines
  at_passed line left next is =
      let w = next_line old.lines old new line next in
      left ∙ ap (open_lines (old.number + 1)) w.0 ∙ passed_over (old.number + 1) line.text.now new.lines is ∙ ap (λ n. open_lines (n + 1) new.lines) (sym w.1)

  pub at_opened : (line : Line) → whole ≡ open_lines (old.number + 1) old.lines → IsNextLine old.lines old new (Some line) → opening (tokens_of line.text.now) ≡ Ok true → whole ≡ Ok new
  at_opened line left next is =
      let w = next_line old.lines old new line next in
      left ∙ ap (open_lines (old.number + 1)) w.0 ∙ opened_here (old.number + 1) line.text.now new.lines is ∙ ap (λ n. Ok (left_behind n new.lines)) (sym w.1)

  pub at_fault : (line : Line) (f : LineFault) (of : ProjectFault) → whole ≡ open_lines (old.number + 1) old.lines → IsNextLine old.lines old new (Some line)
      → (f ≢ line_fault.NoMemory → opening (tokens_of line.text.now) ≡ Err f) → of ≡ as_fault line.number f → of ≢ fault.NoMemory → whole ≡ Err of
  at_fault line f of left next is same known =
      let w = next_line old.lines old new line next in
      let told = is (of_line line.number f (λ h. known (same ∙ h))) in
      left ∙ ap (open_lines (old.number + 1)) w.0 ∙ not_opened (old.number + 1) line.text.now new.lines f told ∙ ap (λ n. Err (as_fault n f)) (sym w.2) ∙ ap Err (sym same)

  pub at_never : whole ≡ open_lines (old.number + 1) old.lines → IsNextLine old.lines old new None → whole ≡ Err (fault.Line 1 line_fault.Syntax)
  at_never left next = left ∙ ap (open_lines (old.number + 1)) (no_line old.lines old new next) ∙ never_opened (old.number + 1)

module _ (whole : Result (List ℕ × Left) ProjectFault) (old new : Left) where
  pub at_passed_again : (line : Line) → whole ≡ name_lines (old.number + 1) old.lines → IsNextLine old.lines old new (Some line) → naming (tokens_of line.text.now) ≡ Ok None → whole ≡ name_lines (new.number + 1) new.lines
  at_passed_again line left next is =
      let w = next_line old.lines old new line next in
      left ∙ ap (name_lines (old.number + 1)) w.0 ∙ passed_over_again (old.number + 1) line.text.now new.lines is ∙ ap (λ n. name_lines (n + 1) new.lines) (sym w.1)

  pub at_named : (line : Line) (file : List ℕ) → whole ≡ name_lines (old.number + 1) old.lines → IsNextLine old.lines old new (Some line) → naming (tokens_of line.text.now) ≡ Ok (Some file) → whole ≡ Ok (file, new)
  at_named line file left next is =
      let w = next_line old.lines old new line next in
      left ∙ ap (name_lines (old.number + 1)) w.0 ∙ named_here (old.number + 1) line.text.now file new.lines is ∙ ap (λ n. Ok (file, left_behind n new.lines)) (sym w.1)

  pub at_not_named : (line : Line) (f : LineFault) (of : ProjectFault) → whole ≡ name_lines (old.number + 1) old.lines → IsNextLine old.lines old new (Some line)
      → (f ≢ line_fault.NoMemory → naming (tokens_of line.text.now) ≡ Err f) → of ≡ as_fault line.number f → of ≢ fault.NoMemory → whole ≡ Err of
  at_not_named line f of left next is same known =
      let w = next_line old.lines old new line next in
      let told = is (of_line line.number f (λ h. known (same ∙ h))) in
      left ∙ ap (name_lines (old.number + 1)) w.0 ∙ not_named (old.number + 1) line.text.now new.lines f told ∙ ap (λ n. Err (as_fault n f)) (sym w.2) ∙ ap Err (sym same)

  pub at_never_named : whole ≡ name_lines (old.number + 1) old.lines → IsNextLine old.lines old new None → whole ≡ Err (fault.Line 1 line_fault.Syntax)
  at_never_named left next = left ∙ ap (name_lines (old.number + 1)) (no_line old.lines old new next) ∙ never_named (old.number + 1)

module _ (whole : Result Project ProjectFault) (old new : Left) where
  pub at_read : (line : Line) (p after : Project) → whole ≡ read_lines (old.number + 1) p old.lines → IsNextLine old.lines old new (Some line) → read_seen line.number p (tokens_of line.text.now) ≡ Ok after → whole ≡ read_lines (new.number + 1) after new.lines
  at_read line p after left next is =
      let w = next_line old.lines old new line next in
      left ∙ ap (read_lines (old.number + 1) p) w.0 ∙ read_next (old.number + 1) p after line.text.now new.lines (subst (λ n. read_seen n p (tokens_of line.text.now) ≡ Ok after) w.2 is) ∙ ap (λ n. read_lines (n + 1) after new.lines) (sym w.1)

  pub at_read_fault : (line : Line) (p : Project) (f : LineFault) (of : ProjectFault) → whole ≡ read_lines (old.number + 1) p old.lines → IsNextLine old.lines old new (Some line)
      → (f ≢ line_fault.NoMemory → read_seen line.number p (tokens_of line.text.now) ≡ Err f) → of ≡ as_fault line.number f → of ≢ fault.NoMemory → whole ≡ Err of
  at_read_fault line p f of left next is same known =
      let w = next_line old.lines old new line next in
      let told = is (of_line line.number f (λ h. known (same ∙ h))) in
      left ∙ ap (read_lines (old.number + 1) p) w.0 ∙ read_fault (old.number + 1) p line.text.now new.lines f (subst (λ n. read_seen n p (tokens_of line.text.now) ≡ Err f) w.2 told) ∙ ap (λ n. Err (as_fault n f)) (sym w.2) ∙ ap Err (sym same)

  pub at_end : (p : Project) → whole ≡ read_lines (old.number + 1) p old.lines → IsNextLine old.lines old new None → whole ≡ Ok p
  at_end p left next = left ∙ ap (read_lines (old.number + 1) p) (no_line old.lines old new next) ∙ read_end (old.number + 1) p
