-- A project text is UTF-8.
use Rattle.std.proofs.Common.{◌≡◌, ◌≢◌, refl, sym, ◌∙◌, ap, ℕ, Bool, true, false, List, Result, Ok, Err, IfOk, IfErr, if◌then◌else◌}
use Rattle.std.specs.Str.{IsUtf8, is_utf8}
use Rattle.std.proofs.lemmas.Str.{IsUtf8-from_is_utf8, is_utf8-from_IsUtf8}
use Rattle.line_lexer.specs.Left.{Left}
use Rattle.line_lexer.specs.Lines.{lines_of}
use Rattle.project_language.specs.declared.fault.ProjectFault.{ProjectFault}
use Rattle.project_language.specs.declared.fault.ProjectFault.TheVariants as fault
use Rattle.project_language.specs.Project.{bad_line, open_counted, open_text}

abbrev opened_if : List ℕ → Bool → Result Left ProjectFault
opened_if bytes b = if b then open_counted (lines_of bytes) else Err (fault.NotUtf8 (bad_line bytes))

is_text : (bytes : List ℕ) → is_utf8 bytes ≡ true → open_text bytes ≡ open_counted (lines_of bytes)
is_text bytes is = ap (opened_if bytes) is

no_text : (bytes : List ℕ) (b : Bool) → is_utf8 bytes ≡ b → (b ≡ true → ⊥) → open_text bytes ≡ Err (fault.NotUtf8 (bad_line bytes))
no_text bytes true is none = absurd (none refl)
no_text bytes false is none = ap (opened_if bytes) is

whole : (bytes text : List ℕ) → IsUtf8 bytes → text ≡ bytes → open_text bytes ≡ open_counted (lines_of text)
whole bytes text utf8 same = is_text bytes (is_utf8-from_IsUtf8 bytes utf8) ∙ ap (λ b. open_counted (lines_of b)) (sym same)

pub text_opened : (bytes text : List ℕ) (r : Result Left ProjectFault) → IsUtf8 bytes → text ≡ bytes → IfOk r (λ left. open_counted (lines_of text) ≡ Ok left) → IfOk r (λ left. open_text bytes ≡ Ok left)
text_opened bytes text (Ok left) utf8 same read = whole bytes text utf8 same ∙ read
text_opened bytes text (Err e) utf8 same read = tt

pub text_fault : (bytes text : List ℕ) (r : Result Left ProjectFault) → IsUtf8 bytes → text ≡ bytes → IfErr r (λ e. e ≢ fault.NoMemory → open_counted (lines_of text) ≡ Err e) → IfErr r (λ e. e ≢ fault.NoMemory → open_text bytes ≡ Err e)
text_fault bytes text (Ok left) utf8 same read = tt
text_fault bytes text (Err e) utf8 same read = λ known. whole bytes text utf8 same ∙ read known

pub bytes_fault : (bytes : List ℕ) (line : ℕ) → (IsUtf8 bytes → ⊥) → line ≡ bad_line bytes → open_text bytes ≡ Err (fault.NotUtf8 line)
bytes_fault bytes line none is = no_text bytes (is_utf8 bytes) refl (λ h. none (IsUtf8-from_is_utf8 bytes h)) ∙ ap (λ n. Err (fault.NotUtf8 n)) (sym is)
