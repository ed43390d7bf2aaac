-- Want of memory is no fault of a text.
use Rattle.std.proofs.Common.{◌≡◌, ◌≢◌, ℕ, ◌+◌, Bool, true, false, if◌then◌else◌, List, [], ◌∷◌, Option, Some, None, Ok, Err}
use Rattle.line_lexer.specs.Lines.{lines_of}
use Rattle.line_lexer.specs.Tokens.{tokens_of}
use Rattle.conflict_checker.specs.declared.derivation.Step.{Step}
use Rattle.conflict_checker.specs.declared.derivation.Derivation.{Derivation}
use Rattle.derivation_text.specs.declared.fault.DerivationFault.{DerivationFault}
use Rattle.derivation_text.specs.declared.fault.DerivationFault.TheVariants.{BadStep, NoMemory, TooLong}
use Rattle.derivation_text.specs.declared.place.Place.{Place}
use Rattle.derivation_text.specs.declared.place.Place.TheVariants.{Between, Within, Ended}
use Rattle.derivation_text.specs.declared.said.Said.{Said}
use Rattle.derivation_text.specs.declared.said.Said.TheVariants.{Nothing, Conflict, Mapped, Rule, Clash, End, Unreadable}
use Rattle.derivation_text.specs.Reading.{OrFault, after_line, at_the_end, clashed, derivations_of, finished, onward, read_lines, said_by, with_mapping, with_step}

-- a step is added, is not the next, or is too many
step_or_fault : (c d : Bool) (line : ℕ) (place : Place) → ◌≡◌ {A = OrFault Place} (if c then Err (BadStep line) else (if d then Ok place else Err TooLong)) (Err NoMemory) → ⊥
step_or_fault true d line place e = cc
step_or_fault false true line place e = cc
step_or_fault false false line place e = cc

stepped : (line : ℕ) (done : List Derivation) (constraint : ℕ) (before : List Step) (k : ℕ) (sound : Bool) (step : Step) → with_step line done constraint before k sound step ≢ Err NoMemory
stepped line done constraint before k sound step = step_or_fault _ _ line _

mapped : (line : ℕ) (done : List Derivation) (constraint : ℕ) (before : List Step) (k : ℕ) (mapping : Option ℕ) (target : ℕ) (rows : List ℕ) → with_mapping line done constraint before k mapping target rows ≢ Err NoMemory
mapped line done constraint before k None target rows = λ e. cc
mapped line done constraint before k (Some m) target rows = stepped line done constraint before k true _

place_or_fault : (c : Bool) (line : ℕ) (place : Place) → ◌≡◌ {A = OrFault Place} (if c then Ok place else Err (BadStep line)) (Err NoMemory) → ⊥
place_or_fault true line place e = cc
place_or_fault false line place e = cc

ended : (line : ℕ) (done : List Derivation) (constraint : ℕ) (before : List Step) (ends : List ℕ) → clashed line done constraint before ends ≢ Err NoMemory
ended line done constraint [] ends = λ e. cc
ended line done constraint (step ∷ rest) ends = place_or_fault _ line _

whole : (line : ℕ) (done : List Derivation) → finished line done ≢ Err NoMemory
whole line [] = λ e. cc
whole line (d ∷ done) = λ e. cc

after : (line : ℕ) (place : Place) (said : Said) → after_line line place said ≢ Err NoMemory
after line place Nothing = λ e. cc
after line (Between done) (Conflict c) = λ e. cc
after line (Between done) (Mapped k mapping target rows) = λ e. cc
after line (Between done) (Rule k a j) = λ e. cc
after line (Between done) (Clash ends) = λ e. cc
after line (Between done) End = whole line done
after line (Between done) Unreadable = λ e. cc
after line (Within done c before) (Conflict d) = λ e. cc
after line (Within done c before) (Mapped k mapping target rows) = mapped line done c before k mapping target rows
after line (Within done c before) (Rule k a j) = stepped line done c before k _ _
after line (Within done c before) (Clash ends) = ended line done c before ends
after line (Within done c before) End = λ e. cc
after line (Within done c before) Unreadable = λ e. cc
after line (Ended done) (Conflict c) = λ e. cc
after line (Ended done) (Mapped k mapping target rows) = λ e. cc
after line (Ended done) (Rule k a j) = λ e. cc
after line (Ended done) (Clash ends) = λ e. cc
after line (Ended done) End = λ e. cc
after line (Ended done) Unreadable = λ e. cc

at_end : (line : ℕ) (place : Place) → at_the_end line place ≢ Err NoMemory
at_end line (Ended done) = λ e. cc
at_end line (Between done) = λ e. cc
at_end line (Within done c before) = λ e. cc

go_on : (first : OrFault Place) (more : Place → OrFault (List Derivation)) → first ≢ Err NoMemory → ((place : Place) → more place ≢ Err NoMemory) → onward first more ≢ Err NoMemory
go_on (Ok place) more h k = k place
go_on (Err fault) more h k = λ e. h (same fault e)
  where
    same : (fault : DerivationFault) → ◌≡◌ {A = OrFault (List Derivation)} (Err fault) (Err NoMemory) → ◌≡◌ {A = OrFault Place} (Err fault) (Err NoMemory)
    same fault e = cc

read : (names : List (List ℕ)) (line : ℕ) (place : Place) (texts : List (List ℕ)) → read_lines names line place texts ≢ Err NoMemory
unfolding read_lines
read names line place [] = at_end line place
read names line place (text ∷ texts) = go_on (after_line line place (said_by names (tokens_of text))) _ (after line place (said_by names (tokens_of text))) (λ next. read names (line + 1) next texts)

pub memory_is_no_fault : (names : List (List ℕ)) (text : List ℕ) → derivations_of names text ≢ Err NoMemory
memory_is_no_fault names text = read names 1 (Between []) (lines_of text)
