-- A text of derivations is UTF-8, and that of a log is not empty.
use Rattle.std.proofs.Common.{◌≡◌, refl, sym, ◌∙◌, ap, ℕ, Bool, true, false, List, [], Result, Err, codes, if◌then◌else◌}
use Rattle.std.specs.Str.{IsUtf8, is_utf8}
use Rattle.std.proofs.lemmas.Str.{IsUtf8-from_is_utf8, is_utf8-from_IsUtf8}
use Rattle.conflict_checker.specs.declared.derivation.Derivation.{Derivation}
use Rattle.derivation_text.specs.Reading.{derivations_of}
use Rattle.project_language.specs.Project.{bad_line}
use Rattle.project_language.specs.declared.project.Project.{Project}
use Rattle.xes_writer.specs.declared.log.Log.{Log}
use Rattle.xes_writer.specs.Xes.{log_front, xes_text}
use Rattle.onprom_core.specs.declared.halt.Halt.{Halt}
use Rattle.onprom_core.specs.declared.status.Status.TheVariants as status
use Rattle.onprom_core.specs.Lines.{line_refused}
use Rattle.onprom_core.specs.Meaning.{mapping_names}
use Rattle.onprom_core.specs.Outputs.{Refuses}
use Rattle.onprom_core.specs.Steps.{Gives, Step}
use Rattle.onprom_core.specs.Walk.{spell_step, spelled_step, stop}

module _ (project : Project) (d bytes : List ℕ) where
  by_test : Bool → Step (List Derivation)
  by_test b = if b then spelled_step d (derivations_of (mapping_names project) bytes) else stop status.Refused (line_refused d (bad_line bytes) (codes "NotUtf8"))

  is_text : is_utf8 bytes ≡ true → spell_step project d bytes ≡ spelled_step d (derivations_of (mapping_names project) bytes)
  unfolding by_test
  is_text is = ap by_test is

  no_text : (b : Bool) → is_utf8 bytes ≡ b → (b ≡ true → ⊥) → spell_step project d bytes ≡ stop status.Refused (line_refused d (bad_line bytes) (codes "NotUtf8"))
  unfolding by_test
  no_text true is none = absurd (none refl)
  no_text false is none = ap by_test is

  pub text_told : (text : List ℕ) (r : Result (List Derivation) Halt) → IsUtf8 bytes → text ≡ bytes → Gives (λ ds. ds) r (spelled_step d (derivations_of (mapping_names project) text)) → Gives (λ ds. ds) r (spell_step project d bytes)
  text_told text r utf8 same told = rw (is_text (is_utf8-from_IsUtf8 bytes utf8)) (rw same at told)

  pub bytes_told : (r : Result (List Derivation) Halt) (line : List ℕ) → (IsUtf8 bytes → ⊥) → line ≡ line_refused d (bad_line bytes) (codes "NotUtf8") → Refuses line r → Gives (λ ds. ds) r (spell_step project d bytes)
  bytes_told r line none is refused =
      let e = no_text (is_utf8 bytes) refl (λ h. none (IsUtf8-from_is_utf8 bytes h)) in
      rw refused (ap (λ s. s.end) e ∙ ap (λ l. Err (record { status = status.Refused; line = l })) (sym is))

pub log_has_text : (log : Log (List ℕ)) → xes_text log ≡ [] → ⊥
unfolding xes_text log_front
log_has_text log none = absurd cc
