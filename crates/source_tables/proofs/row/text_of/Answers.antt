use Rattle.std.proofs.lemmas.Str.{IsUtf8-from_is_utf8}
use Rattle.source_tables.proofs.Utf8.{only_ok}
use Rattle.source_tables.proofs.row.text_of.Goals as goal

pub unwrap-requires : goal.unwrap-requires
unwrap-requires c = only_ok _ _ c.from_utf8.result (IsUtf8-from_is_utf8 _ c.requires) c.from_utf8.ensures.cases
