-- Which command words name, by the tests of the code.
use Rattle.std.proofs.Common.{◌≡◌, refl, sym, ◌∙◌, List, ℕ, [], ◌∷◌, Bool, true, false, codes, Option, Some, None, IfSome, Ok, Err, ap, slice_get, if◌then◌else◌, ◌&&◌, is_some}
use Rattle.std.specs.Str.{bytes_eq}
use Rattle.std.proofs.lemmas.Slice.Eq.{bytes_eq-Decides}
use Rattle.onprom_core.specs.declared.status.Status.TheVariants as status
use Rattle.onprom_core.specs.Commands.{Command, Extract, Check, Verify, Answer, Rewrite, Make, Why, Lint, Contained, count_named, docs_named, is_answer, is_check, is_contained, is_count, is_extract, is_lint, is_made, is_make, is_rewrite, is_verify, number_named, value_behind}
use Rattle.onprom_core.specs.Lines.{usage_line}
use Rattle.onprom_core.specs.Walk.{Files, IsNoCommand, command_step, named_step, stop_usage, walk}

first_is : (a b : List ℕ) → Some a ≡ Some b → a ≡ b
first_is a b e = cc

pub extract_named : (words : List (List ℕ)) (p : List ℕ) → is_extract words ≡ true → slice_get words 1 ≡ Some p → (command_step words).end ≡ Ok (Extract p)
extract_named [] p is named = cc
extract_named (a ∷ []) p is named = cc
extract_named (a ∷ q ∷ []) p is named = rw (is, first_is q p named) refl
extract_named (a ∷ q ∷ d ∷ rest) p is named = cc

pub check_named : (words : List (List ℕ)) (p : List ℕ) → is_extract words ≡ false → is_check words ≡ true → slice_get words 1 ≡ Some p → (command_step words).end ≡ Ok (Check p)
check_named [] p other is named = cc
check_named (a ∷ []) p other is named = cc
check_named (a ∷ q ∷ []) p other is named = rw (other, is, first_is q p named) refl
check_named (a ∷ q ∷ d ∷ rest) p other is named = cc

pub lint_named : (words : List (List ℕ)) (p : List ℕ) → is_extract words ≡ false → is_check words ≡ false → is_lint words ≡ true → slice_get words 1 ≡ Some p → (command_step words).end ≡ Ok (Lint p)
lint_named [] p e c is named = cc
lint_named (a ∷ []) p e c is named = cc
lint_named (a ∷ q ∷ []) p e c is named = rw (e, c, is, first_is q p named) refl
lint_named (a ∷ q ∷ d ∷ rest) p e c is named = cc

pub contained_named : (words : List (List ℕ)) (p q r : List ℕ) → is_contained words ≡ true → slice_get words 1 ≡ Some p → slice_get words 2 ≡ Some q → slice_get words 3 ≡ Some r → (command_step words).end ≡ Ok (Contained p q r)
contained_named [] p q r is first second third = cc
contained_named (a ∷ []) p q r is first second third = cc
contained_named (a ∷ b ∷ []) p q r is first second third = cc
contained_named (a ∷ b ∷ c ∷ []) p q r is first second third = cc
contained_named (a ∷ b ∷ c ∷ d ∷ []) p q r is first second third = rw (is, first_is b p first, first_is c q second, first_is d r third) refl
contained_named (a ∷ b ∷ c ∷ d ∷ e ∷ rest) p q r is first second third = cc

-- the test of the word before that of the number
why_tests : (contained word number : Bool) (p q r : List ℕ) (n m : ℕ) → contained ≡ false → (if word then (if number then Some n else None) else None) ≡ Some m
    → named_step (if contained then Some (Contained p q r) else (if word && number then Some (Why p q n) else None)) ≡ named_step (Some (Why p q m))
why_tests true word number p q r n m other e = absurd cc
why_tests false true true p q r n m other e = let same : n ≡ m = cc in rw same refl
why_tests false true false p q r n m other e = absurd cc
why_tests false false number p q r n m other e = absurd cc

why_fails : (contained word number : Bool) (p q r : List ℕ) (n : ℕ) → contained ≡ false → (if word then (if number then Some n else None) else None) ≡ None
    → named_step (if contained then Some (Contained p q r) else (if word && number then Some (Why p q n) else None)) ≡ stop_usage
why_fails true word number p q r n other e = absurd cc
why_fails false true true p q r n other e = absurd cc
why_fails false true false p q r n other e = refl
why_fails false false number p q r n other e = refl

-- words that begin with `why` do not begin with `contained`
why_is : (word number : Bool) (n m : ℕ) → (if word then (if number then Some n else None) else None) ≡ Some m → word ≡ true
why_is true number n m e = refl
why_is false number n m e = absurd cc

pub why_named : (words : List (List ℕ)) (p q : List ℕ) (number : ℕ) → number_named words ≡ Some number → slice_get words 1 ≡ Some p → slice_get words 2 ≡ Some q → (command_step words).end ≡ Ok (Why p q number)
why_named [] p q number is first second = absurd cc
why_named (w ∷ []) p q number is first second = absurd cc
why_named (w ∷ b ∷ []) p q number is first second = absurd cc
why_named (w ∷ b ∷ c ∷ []) p q number is first second = absurd cc
why_named (w ∷ b ∷ c ∷ n ∷ []) p q number is first second =
    let word : w ≡ codes "why" = (bytes_eq-Decides w (codes "why")).0 (why_is (bytes_eq w (codes "why")) (is_count 4_294_967_295 n) (value_behind 0 n) number is) in
    let other : bytes_eq w (codes "contained") ≡ false = rw word refl in
    let step = why_tests (bytes_eq w (codes "contained")) (bytes_eq w (codes "why")) (is_count 4_294_967_295 n) b c n (value_behind 0 n) number other is in
    ap (λ s. s.end) step ∙ rw (first_is b p first, first_is c q second) refl
why_named (w ∷ b ∷ c ∷ n ∷ d ∷ rest) p q number is first second = absurd cc

pub verify_named : (words : List (List ℕ)) (p d : List ℕ) → is_verify words ≡ true → slice_get words 1 ≡ Some p → slice_get words 2 ≡ Some d → (command_step words).end ≡ Ok (Verify p d)
verify_named [] p d is named second = cc
verify_named (a ∷ []) p d is named second = cc
verify_named (a ∷ q ∷ []) p d is named second = cc
verify_named (a ∷ q ∷ e ∷ []) p d is named second = rw (is, first_is q p named, first_is e d second) refl
verify_named (a ∷ q ∷ e ∷ f ∷ rest) p d is named second = cc

pub answer_named : (words : List (List ℕ)) (p q : List ℕ) → is_verify words ≡ false → is_answer words ≡ true → slice_get words 1 ≡ Some p → slice_get words 2 ≡ Some q → (command_step words).end ≡ Ok (Answer p q)
answer_named [] p q v is named second = cc
answer_named (a ∷ []) p q v is named second = cc
answer_named (a ∷ b ∷ []) p q v is named second = cc
answer_named (a ∷ b ∷ c ∷ []) p q v is named second = rw (v, is, first_is b p named, first_is c q second) refl
answer_named (a ∷ b ∷ c ∷ d ∷ rest) p q v is named second = cc

pub rewrite_named : (words : List (List ℕ)) (p q : List ℕ) → is_verify words ≡ false → is_answer words ≡ false → is_rewrite words ≡ true → slice_get words 1 ≡ Some p → slice_get words 2 ≡ Some q
    → (command_step words).end ≡ Ok (Rewrite p q)
rewrite_named [] p q v a is named second = cc
rewrite_named (w ∷ []) p q v a is named second = cc
rewrite_named (w ∷ b ∷ []) p q v a is named second = cc
rewrite_named (w ∷ b ∷ c ∷ []) p q v a is named second = rw (v, a, is, first_is b p named, first_is c q second) refl
rewrite_named (w ∷ b ∷ c ∷ d ∷ rest) p q v a is named second = cc

-- the tests of `make` in their other order
make_tests : (word file number : Bool) (n : ℕ) (f : List ℕ) (docs : ℕ)
    → (if word && file then (if number then Some n else None) else None) ≡ Some docs → named_step (if word && number && file then Some (Make n f) else None) ≡ named_step (Some (Make docs f))
make_tests true true true n f docs e = let same : n ≡ docs = cc in rw same refl
make_tests true true false n f docs e = absurd cc
make_tests true false number n f docs e = absurd cc
make_tests false file number n f docs e = absurd cc

pub make_named : (words : List (List ℕ)) (docs : ℕ) (f : List ℕ) → is_verify words ≡ false → is_answer words ≡ false → is_rewrite words ≡ false → docs_named words ≡ Some docs → slice_get words 2 ≡ Some f
    → (command_step words).end ≡ Ok (Make docs f)
make_named [] docs f v a r is second = cc
make_named (w ∷ []) docs f v a r is second = cc
make_named (w ∷ n ∷ []) docs f v a r is second = cc
make_named (w ∷ n ∷ g ∷ []) docs f v a r is second =
    rw (v, a, r, make_tests (bytes_eq w (codes "make")) (is_made g) (is_count 100_000 n) (value_behind 0 n) g docs is, first_is g f second) refl
make_named (w ∷ n ∷ g ∷ d ∷ rest) docs f v a r is second = cc

make_fails : (word file number : Bool) (n : ℕ) (f : List ℕ)
    → (if word && file then (if number then Some n else None) else None) ≡ None → named_step (if word && number && file then Some (Make n f) else None) ≡ stop_usage
make_fails true true true n f e = absurd cc
make_fails true true false n f e = refl
make_fails true false true n f e = refl
make_fails true false false n f e = refl
make_fails false file number n f e = refl

-- none of the tests is met
pub record NoneNamed (words : List (List ℕ)) : Type 0 where
  pub extract : is_extract words ≡ false
  pub check : is_check words ≡ false
  pub verify : is_verify words ≡ false
  pub answer : is_answer words ≡ false
  pub rewrite : is_rewrite words ≡ false
  pub make : docs_named words ≡ None
  pub why : number_named words ≡ None
  pub lint : is_lint words ≡ false
  pub contained : is_contained words ≡ false

pub none_named : (words : List (List ℕ)) → NoneNamed words → command_step words ≡ stop_usage
none_named [] n = refl
none_named (w ∷ []) n = refl
none_named (w ∷ p ∷ []) n = rw (n.extract, n.check, n.lint) refl
none_named (w ∷ d ∷ f ∷ []) n =
    rw (n.verify, n.answer, n.rewrite) (make_fails (bytes_eq w (codes "make")) (is_made f) (is_count 100_000 d) (value_behind 0 d) f n.make)
none_named (w ∷ p ∷ q ∷ r ∷ []) n = why_fails (bytes_eq w (codes "contained")) (bytes_eq w (codes "why")) (is_count 4_294_967_295 r) p q r (value_behind 0 r) n.contained n.why
none_named (w ∷ p ∷ q ∷ r ∷ d ∷ rest) n = refl

-- words of no command
pub no_command : (words : List (List ℕ)) → command_step words ≡ stop_usage → IsNoCommand words
no_command words none = (record { status = status.Usage; line = usage_line }, ap (λ step. step.end) none)

pub no_walk : (held : Option Files) (words : List (List ℕ)) (line : List ℕ) → command_step words ≡ stop_usage → line ≡ usage_line → IfSome held (λ files. (walk words files).end ≡ Err (record { status = status.Usage; line = line }))
unfolding walk
no_walk None words line none is = tt
no_walk (Some files) words line none is = rw (none, is) refl

-- words that name a command name one
pub some_command : (words : List (List ℕ)) (command : Command) → (command_step words).end ≡ Ok command → IsNoCommand words → ⊥
some_command words command named none = let e : Ok command ≡ Err none.0 = sym named ∙ none.1 in cc

-- `extract` is not `check`
pub extract_checks_not : (words : List (List ℕ)) → is_extract words ≡ true → is_check words ≡ false
extract_checks_not [] is = refl
extract_checks_not (a ∷ []) is = refl
extract_checks_not (a ∷ p ∷ []) is = rw ((bytes_eq-Decides a (codes "extract")).0 is) refl
extract_checks_not (a ∷ p ∷ q ∷ rest) is = refl

pub contained_checks_not : (words : List (List ℕ)) → is_contained words ≡ true → is_check words ≡ false
contained_checks_not [] is = refl
contained_checks_not (a ∷ []) is = refl
contained_checks_not (a ∷ p ∷ []) is = cc
contained_checks_not (a ∷ p ∷ q ∷ rest) is = refl

makes_word : (word file : Bool) (o : Option ℕ) → is_some (if word && file then o else None) ≡ true → word ≡ true
makes_word true file o is = refl
makes_word false file o is = absurd cc

-- `make` is no other command
pub make_alone : (words : List (List ℕ)) → is_make words ≡ true → (is_extract words ≡ false) × (is_check words ≡ false) × (is_verify words ≡ false) × (is_answer words ≡ false) × (is_rewrite words ≡ false)
make_alone [] is = (refl, refl, refl, refl, refl)
make_alone (w ∷ []) is = (refl, refl, refl, refl, refl)
make_alone (w ∷ n ∷ []) is = absurd cc
make_alone (w ∷ n ∷ f ∷ []) is =
    let word : w ≡ codes "make" = (bytes_eq-Decides w (codes "make")).0 (makes_word (bytes_eq w (codes "make")) (is_made f) (count_named 100_000 n) is) in
    rw word (refl, refl, refl, refl, refl)
make_alone (w ∷ n ∷ f ∷ d ∷ rest) is = (refl, refl, refl, refl, refl)
