use Rattle.uml_model.specs.Rules.{class_named, link_named}
use Rattle.mapping_language.proofs.Naming.{named_on}
use Rattle.mapping_language.proofs.Within.{few_on, within_on}
use Rattle.mapping_language.proofs.reader.read_mapping_line.Goals as goal

pub returns-clause-names : goal.returns-clause-names
returns-clause-names c = λ old. named_on c.read_tokens_of_mapping.result (class_named c.args.model.now) (link_named c.args.model.now) c.args.sources.now c.read_tokens_of_mapping.new.sources c.args.line.now.text.now c.read_tokens_of_mapping.ensures.read old

pub returns-clause-few : goal.returns-clause-few
returns-clause-few c = λ old. few_on c.read_tokens_of_mapping.result (class_named c.args.model.now) (link_named c.args.model.now) c.args.sources.now c.read_tokens_of_mapping.new.sources c.args.line.now.text.now c.read_tokens_of_mapping.ensures.read old

pub returns-clause-within : goal.returns-clause-within
returns-clause-within c = λ old. within_on c.read_tokens_of_mapping.result c.args.model.now c.args.sources.now c.read_tokens_of_mapping.new.sources c.args.line.now.text.now c.read_tokens_of_mapping.ensures.read old
