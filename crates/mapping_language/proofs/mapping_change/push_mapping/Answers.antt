use Rattle.mapping_language.proofs.Fitting.{pushed_fit}
use Rattle.mapping_language.proofs.mapping_change.push_mapping.Goals as goal

pub returns-clause-fit : goal.returns-clause-fit
returns-clause-fit c = λ fit few one. pushed_fit c.push.result c.args.sources.now.mappings c.push.new.self c.args.mapping fit few one c.push.ensures.ok
