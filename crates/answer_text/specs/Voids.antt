-- Proofs that classes and links are void, as they are printed, by the names of classes and links.
use Rattle.std.specs.Prelude.{ℕ, ◌+◌, List, [], ◌∷◌, ◌++◌, length, flat_map, get_or, codes, decimal}
use Rattle.model_lint.specs.declared.element.Void.{Void}
use Rattle.model_lint.specs.declared.element.Void.TheVariants.{Class, Link}
use Rattle.model_lint.specs.declared.element.VoidProof.{VoidProof}

-- what is void
abbrev pub void_name : List (List ℕ) → List (List ℕ) → Void → List ℕ
void_name classes links (Class c) = codes "void class " ++ get_or classes c.0 []
void_name classes links (Link p) = codes "void link " ++ get_or links p.0 []

-- the line of step k: an axiom, applied to the fact of a step
abbrev pub rule_line : ℕ → ℕ × ℕ → List ℕ
rule_line k rule = decimal k ++ codes " rule " ++ decimal rule.0 ++ codes " from " ++ decimal rule.1 ++ codes "\n"

-- the lines of steps from number k on
abbrev pub rule_lines : ℕ → List (ℕ × ℕ) → List ℕ
rule_lines k [] = []
rule_lines k (rule ∷ rules) = rule_line k rule ++ rule_lines (k + 1) rules

-- the constraint, and the steps whose facts clash
abbrev pub clash_line : VoidProof → List ℕ
clash_line v = codes "clash " ++ decimal v.constraint ++ codes " " ++ decimal v.first ++ codes " " ++ decimal v.second ++ codes "\n"

-- what is void, its fact, what follows from it, and what clashes
unfoldable pub void_lines : List (List ℕ) → List (List ℕ) → VoidProof → List ℕ
void_lines classes links v = void_name classes links v.what ++ codes "\n1 fact\n" ++ rule_lines 2 v.rules ++ clash_line v

-- the proofs in their order, and an end
abbrev pub voids_text : List (List ℕ) → List (List ℕ) → List VoidProof → List ℕ
voids_text classes links vs = flat_map (void_lines classes links) vs ++ codes "end\n"

abbrev pub voids_report : List VoidProof → List ℕ
voids_report vs = codes "void " ++ decimal (length vs) ++ codes "\n"
