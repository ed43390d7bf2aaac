use Rattle.iri_templates.proofs.ReadBack.{spelled_is_read}
use Rattle.iri_templates.proofs.Spelled.{read_is_spelled}
use Rattle.iri_templates.proofs.laws.reading_is_spelling.Goals as goal

pub returns : goal.returns
returns c = λ text t. (read_is_spelled text t, λ s. spelled_is_read text t s.0 s.1)
