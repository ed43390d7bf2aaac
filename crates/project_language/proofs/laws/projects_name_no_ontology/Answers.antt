use Rattle.project_language.proofs.Named.{names_none}
use Rattle.project_language.proofs.laws.projects_name_no_ontology.Goals as goal

pub returns : goal.returns
returns c = names_none
