use Rattle.source_tables.proofs.CanonicalTexts.{each_kind}
use Rattle.source_tables.proofs.value.canonical_text.Goals as goal

pub returns-clause-cell : goal.returns-clause-cell
returns-clause-cell c = λ written is.
    let laws = c.canonical_texts_are_cell_texts.ensures in
    each_kind laws.time laws.int laws.bool laws.text c.args.offset c.args.kind c.args.text.now written c.requires is
