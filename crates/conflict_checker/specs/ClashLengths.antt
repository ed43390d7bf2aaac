-- How many facts clash.
use Rattle.std.specs.Prelude.{ℕ, ◌+◌, ◌*◌, length}
use Rattle.dllite_axioms.specs.declared.axioms.Constraint.{Constraint}
use Rattle.dllite_axioms.specs.declared.axioms.Constraint.TheVariants.{Disjoint, Func, Apart, Identified}

-- two facts, and two more for each attribute of an identification
abbrev pub clash_length : Constraint → ℕ
clash_length (Disjoint b c) = 2
clash_length (Func p d) = 2
clash_length (Apart q d p) = 2
clash_length (Identified a links) = 2 + 2 * length links
