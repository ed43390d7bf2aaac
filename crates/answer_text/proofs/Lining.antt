-- Lines, piece by piece.
use Rattle.std.proofs.Common.{◌≡◌, sym, ◌∙◌, ap, ℕ, ◌+◌, ◌<◌, List, [], ◌∷◌, ◌++◌, append_assoc, length, take, get_or, arith}
use Rattle.std.proofs.lemmas.List.{append-nil, length-take-le, take_more}
use Rattle.answer_text.specs.Voids.{rule_line, rule_lines}

more_rules : (k : ℕ) (rules : List (ℕ × ℕ)) (rule : ℕ × ℕ) → rule_lines k (rules ++ rule ∷ []) ≡ rule_lines k rules ++ rule_line (k + length rules) rule
more_rules k [] rule = let same : k + 0 ≡ k = omega arith in append-nil (rule_line k rule) ∙ ap (λ n. rule_line n rule) (sym same)
more_rules k (r ∷ rules) rule =
    let same : k + 1 + length rules ≡ k + length (r ∷ rules) = omega arith in
    ap (λ lines. rule_line k r ++ lines) (more_rules (k + 1) rules rule)
    ∙ sym (append_assoc (rule_line k r) (rule_lines (k + 1) rules) (rule_line (k + 1 + length rules) rule))
    ∙ ap (λ n. rule_line k r ++ rule_lines (k + 1) rules ++ rule_line n rule) same

-- one step more
pub rule_written : (rules : List (ℕ × ℕ)) (i : ℕ) (rule other : ℕ × ℕ) (start before after : List ℕ) → i < length rules → rule ≡ get_or rules i other
    → before ≡ start ++ rule_lines 2 (take i rules) → after ≡ before ++ rule_line (i + 2) rule → after ≡ start ++ rule_lines 2 (take (i + 1) rules)
rule_written rules i rule other start before after low is so_far written =
    let long = length-take-le i rules (omega (arith, low)) in
    let number : 2 + length (take i rules) ≡ i + 2 = omega (arith, long) in
    let lines : rule_lines 2 (take (i + 1) rules) ≡ rule_lines 2 (take i rules) ++ rule_line (i + 2) rule =
    ap (rule_lines 2) (take_more rules i other low ∙ ap (λ r. take i rules ++ r ∷ []) (sym is)) ∙ more_rules 2 (take i rules) rule ∙ ap (λ n. rule_lines 2 (take i rules) ++ rule_line n rule) number in
    written ∙ ap (λ text. text ++ rule_line (i + 2) rule) so_far
    ∙ append_assoc start (rule_lines 2 (take i rules)) (rule_line (i + 2) rule)
    ∙ ap (λ text. start ++ text) (sym lines)

-- three pieces, one behind the other
pub three_written : (out a b c first second last : List ℕ) → first ≡ out ++ a → second ≡ first ++ b → last ≡ second ++ c → last ≡ out ++ (a ++ b ++ c)
three_written out a b c first second last one two three =
    three ∙ ap (λ text. text ++ c) (two ∙ ap (λ text. text ++ b) one ∙ append_assoc out a b) ∙ append_assoc out (a ++ b) c
