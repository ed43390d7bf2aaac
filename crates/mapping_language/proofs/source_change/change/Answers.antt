use Rattle.std.proofs.Common.{◌∙◌}
use Rattle.std.proofs.lemmas.Result.{on_ok_weaker}
use Rattle.mapping_language.specs.Shown.{line_shown}
use Rattle.mapping_language.proofs.Offsets.{extended_near}
use Rattle.mapping_language.proofs.source_change.change.Goals as goal

pub returns-clause-offsets : goal.returns-clause-offsets
returns-clause-offsets c = λ near. on_ok_weaker _ (λ is. extended_near (line_shown c.args.line.now) c.args.name.now _ _ _ near (c.into_vec-tables.ensures ∙ c.replace.ensures.value) (c.from_vec.ensures ∙ is)) c.extend_named-changed.ensures
