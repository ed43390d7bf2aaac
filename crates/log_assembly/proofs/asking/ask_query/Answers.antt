use Rattle.std.proofs.Common.{ap, option_copied}
use Rattle.certain_semantics.specs.Certain.{IsCertain}
use Rattle.mapping_facts.specs.Facts.{mapped_facts}
use Rattle.log_assembly.proofs.Asks.{none_asked}
use Rattle.log_assembly.proofs.asking.ask_query.Goals as goal

pub answers-requires-clause-stands : goal.answers-requires-clause-stands
answers-requires-clause-stands c = (c.requires c.in-Some.query.now (ap option_copied c.in-Some.is)).stands

pub answers-requires-clause-known : goal.answers-requires-clause-known
answers-requires-clause-known c = (c.requires c.in-Some.query.now (ap option_copied c.in-Some.is)).known

pub returns-in-None-clause-answers : goal.returns-in-None-clause-answers
returns-in-None-clause-answers c =
    none_asked (IsCertain c.args.specification.now.axioms (mapped_facts c.args.specification.now.mappings c.args.tables.now)) (option_copied c.args.query) c.new.result (ap option_copied c.in-None.is) c.new.ensures
