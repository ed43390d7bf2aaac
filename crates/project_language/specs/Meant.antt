-- The axioms and constraints of a project.
use Rattle.std.specs.Prelude.{Option, None, Some}
use Rattle.dllite_axioms.specs.declared.axioms.Tbox.{Tbox}
use Rattle.uml_model.specs.Axioms.{axioms_of, constraints_of}
use Rattle.uml_model.specs.Rules.{Known}
use Rattle.project_language.specs.declared.project.Project.{Project}

-- what the lines of a model mean
abbrev pub of_lines : Known → Tbox
of_lines s = record { axioms = axioms_of s.lines; constraints = constraints_of s.lines }

-- those that an ontology gives, else those of the model lines
abbrev pub chosen : Known → Option Tbox → Tbox
chosen s None = of_lines s
chosen s (Some given) = given

abbrev pub tbox : Project → Tbox
tbox p = chosen p.model p.given
