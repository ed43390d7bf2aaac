use Rattle.std.proofs.Common.{◌≡◌, ◌∙◌, sym, tests, rules, arith, length}
use Rattle.std.specs.Str.{chars}
use Rattle.std.specs.List.{list_all}
use Rattle.std.proofs.lemmas.Iterator.{YieldsList-from_chars}
use Rattle.std.proofs.lemmas.Iterator.Search.{all_from_yields_List}
use Rattle.std.proofs.lemmas.Bool.{lt-ltb, eqb-false}
use Rattle.vocabulary.specs.Texts.{is_xml_char}
use Rattle.civil_values.proofs.text.is_text.Goals as goal

pub returns-then-not-is_empty : goal.returns-then-not-is_empty
returns-then-not-is_empty c =
    let all : c.all.result ≡ list_all is_xml_char (chars c.args.text.now) = all_from_yields_List is_xml_char _ _ c.all.result c.all.ensures.ran
    (YieldsList-from_chars c.args.text.now c.utf8.text c.chars.ensures.rest)
    (λ x b q k. search (rules, tests)) in
    let none = eqb-false (length c.args.text.now) 0 (sym c.is_empty.ensures ∙ c.if-not-is_empty.true) in
    rw (lt-ltb 0 (length c.args.text.now) (omega arith)) all
