-- The laws of project texts, as the functions of `laws` state them.
use Rattle.std.specs.Prelude.{◌≡◌, ◌≢◌, ℕ, List, None, Ok, Err}
use Rattle.owl_functional.specs.declared.ontology.Ontology.{Ontology}
use Rattle.project_language.specs.Project.{ontology_file, read_project, read_project_over}
use Rattle.project_language.specs.declared.fault.ProjectFault.TheVariants.{NoMemory}
use Rattle.project_language.specs.declared.project.Project.{Project}

-- no text is refused for want of memory
abbrev pub MemoryIsNoFault : Type 0
MemoryIsNoFault = (bytes : List ℕ) → read_project bytes ≢ Err NoMemory

abbrev pub MemoryIsNoFaultOver : Type 0
MemoryIsNoFaultOver = (bytes : List ℕ) (o : Ontology) → read_project_over bytes o ≢ Err NoMemory

-- a text that is a project by its own lines names no ontology
abbrev pub NamesNoOntology : Type 0
NamesNoOntology = (bytes : List ℕ) (p : Project) → read_project bytes ≡ Ok p → ontology_file bytes ≡ None
