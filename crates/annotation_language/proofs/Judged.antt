-- Judging by parts.
use Rattle.std.proofs.Common.{◌≡◌, refl, sym, ap, ◌∙◌, ℕ, Bool, true, false, List, [], ◌∷◌, ◌++◌, Option, Some, None, option_map, if◌then◌else◌, nat_lt, ◌≤◌, arith}
use Rattle.std.proofs.lemmas.Bool.Decides.{nat_tests}
use Rattle.line_lexer.specs.Faults.{limit_of}
use Rattle.line_lexer.specs.Judging.{first_passed, first_broken}
use Rattle.line_lexer.specs.declared.fault.LineFault.{LineFault}
use Rattle.line_lexer.specs.declared.fault.LineFault.TheVariants.{Limit}
use Rattle.line_lexer.specs.declared.fault.Counted.{Counted}

-- the first, or the other where there is none
abbrev pub or_else : {A : Type 0} → Option A → Option A → Option A
or_else None other = other
or_else (Some x) other = Some x

choice : {A : Type 0} (t : Bool) (x : A) (o p : Option A) → (if t then Some x else or_else o p) ≡ or_else (if t then Some x else o) p
choice true x o p = refl
choice false x o p = refl

passed_parts : (cs ds : List (Counted × ℕ)) → first_passed (cs ++ ds) ≡ or_else (first_passed cs) (first_passed ds)
passed_parts [] ds = refl
passed_parts (c ∷ cs) ds = rw (passed_parts cs ds) (choice (nat_lt (limit_of c.0) c.1) c.0 (first_passed cs) (first_passed ds))

broken_parts : (rules : List (Bool × LineFault)) (cs : List (Counted × ℕ)) → first_broken rules cs ≡ or_else (first_broken rules []) (option_map Limit (first_passed cs))
broken_parts [] cs = refl
broken_parts (rule ∷ rules) cs = rw (broken_parts rules cs) (choice rule.0 rule.1 (first_broken rules []) (option_map Limit (first_passed cs)))

limit_parts : (o p : Option Counted) → option_map Limit (or_else o p) ≡ or_else (option_map Limit o) (option_map Limit p)
limit_parts None p = refl
limit_parts (Some what) p = refl

-- the rules first, then the counts in their order
pub first_of_all : (rules : List (Bool × LineFault)) (cs ds : List (Counted × ℕ)) → first_broken rules (cs ++ ds) ≡ or_else (first_broken rules []) (or_else (option_map Limit (first_passed cs)) (option_map Limit (first_passed ds)))
first_of_all rules cs ds = broken_parts rules (cs ++ ds) ∙ ap (λ o. or_else (first_broken rules []) (option_map Limit o)) (passed_parts cs ds) ∙ ap (or_else (first_broken rules [])) (limit_parts (first_passed cs) (first_passed ds))

-- a broken rule goes before every count
pub rule_first : (rules : List (Bool × LineFault)) (counts : List (Counted × ℕ)) (fault : LineFault) → Some fault ≡ first_broken rules [] → Some fault ≡ first_broken rules counts
rule_first rules counts fault e = sym (broken_parts rules counts ∙ ap (λ o. or_else o (option_map Limit (first_passed counts))) (sym e))

other_none : {A : Type 0} (t : Bool) (x : A) (o : Option A) → (if t then Some x else o) ≡ None → o ≡ None
other_none true x o e = grind arith
other_none false x o e = e

test_false : {A : Type 0} (t : Bool) (x : A) (o : Option A) → (if t then Some x else o) ≡ None → t ≡ false
test_false true x o e = grind arith
test_false false x o e = refl

-- where no rule is broken, each test is false and no count passes its number
pub rest_unbroken : (rule : Bool × LineFault) (rules : List (Bool × LineFault)) (counts : List (Counted × ℕ)) → first_broken (rule ∷ rules) counts ≡ None → first_broken rules counts ≡ None
rest_unbroken rule rules counts e = other_none rule.0 rule.1 (first_broken rules counts) e

pub rule_kept : (rule : Bool × LineFault) (rules : List (Bool × LineFault)) (counts : List (Counted × ℕ)) → first_broken (rule ∷ rules) counts ≡ None → rule.0 ≡ false
rule_kept rule rules counts e = test_false rule.0 rule.1 (first_broken rules counts) e

pub unpassed : (rules : List (Bool × LineFault)) (counts : List (Counted × ℕ)) → first_broken rules counts ≡ None → first_passed counts ≡ None
unpassed [] counts e = by (first_passed counts) e
  where
    by : (o : Option Counted) → option_map Limit o ≡ None → o ≡ None
    by None e = refl
    by (Some what) e = grind arith
unpassed (rule ∷ rules) counts e = unpassed rules counts (rest_unbroken rule rules counts e)

pub rest_unpassed : (count : Counted × ℕ) (counts : List (Counted × ℕ)) → first_passed (count ∷ counts) ≡ None → first_passed counts ≡ None
rest_unpassed count counts e = other_none (nat_lt (limit_of count.0) count.1) count.0 (first_passed counts) e

pub within : (count : Counted × ℕ) (counts : List (Counted × ℕ)) → first_passed (count ∷ counts) ≡ None → count.1 ≤ limit_of count.0
within count counts e = let passed = test_false (nat_lt (limit_of count.0) count.1) count.0 (first_passed counts) e in grind (arith, nat_tests, passed)
