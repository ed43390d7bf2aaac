-- By the command that the words name.
use Rattle.std.proofs.Common.{sym, ◌∙◌, Ok}
use Rattle.onprom_core.specs.Commands.{Answer, Check, Contained, Extract, Lint, Make, Rewrite, Verify, Why}
use Rattle.onprom_core.proofs.MadeFiles.{made_end, made_works}
use Rattle.onprom_core.proofs.Walks.{works_from}
use Rattle.onprom_core.proofs.Words.{answer_named, check_named, contained_named, extract_named, lint_named, make_named, no_command, no_walk, none_named, rewrite_named, verify_named, why_named}
use Rattle.onprom_core.proofs.commands.work.Goals as goal

pub returns-then-is_extract-clause-told : goal.returns-then-is_extract-clause-told
returns-then-is_extract-clause-told g c =
    works_from (g.S.Shelf.held c.args.shelf.now) c.args.words.now (Extract c.get.result.now) c.extract.result
    (extract_named c.args.words.now c.get.result.now (sym c.is_extract.ensures ∙ c.if-is_extract.true) c.get.ensures) c.extract.ensures.told

pub returns-then-is_check-clause-told : goal.returns-then-is_check-clause-told
returns-then-is_check-clause-told g c =
    let p = c.get-then-is_check in
    works_from (g.S.Shelf.held c.args.shelf.now) c.args.words.now (Check p.result.now) c.check.result
    (check_named c.args.words.now p.result.now (sym c.is_extract.ensures ∙ c.if-is_extract.false) (sym c.is_check.ensures ∙ c.if-is_check.true) p.ensures) c.check.ensures.told

pub returns-then-is_verify-clause-told : goal.returns-then-is_verify-clause-told
returns-then-is_verify-clause-told g c =
    let p = c.get-then-is_verify in
    let d = c.get-then-is_verify-2 in
    works_from (g.S.Shelf.held c.args.shelf.now) c.args.words.now (Verify p.result.now d.result.now) c.verify.result
    (verify_named c.args.words.now p.result.now d.result.now (sym c.is_verify.ensures ∙ c.if-is_verify.true) p.ensures d.ensures) c.verify.ensures.told

pub returns-then-is_answer-clause-told : goal.returns-then-is_answer-clause-told
returns-then-is_answer-clause-told g c =
    let p = c.get-then-is_answer in
    let q = c.get-then-is_answer-2 in
    works_from (g.S.Shelf.held c.args.shelf.now) c.args.words.now (Answer p.result.now q.result.now) c.answer.result
    (answer_named c.args.words.now p.result.now q.result.now (sym c.is_verify.ensures ∙ c.if-is_verify.false) (sym c.is_answer.ensures ∙ c.if-is_answer.true) p.ensures q.ensures) c.answer.ensures.told

pub returns-then-is_rewrite-clause-told : goal.returns-then-is_rewrite-clause-told
returns-then-is_rewrite-clause-told g c =
    let p = c.get-then-is_rewrite in
    let q = c.get-then-is_rewrite-2 in
    works_from (g.S.Shelf.held c.args.shelf.now) c.args.words.now (Rewrite p.result.now q.result.now) c.rewrite.result
    (rewrite_named c.args.words.now p.result.now q.result.now (sym c.is_verify.ensures ∙ c.if-is_verify.false) (sym c.is_answer.ensures ∙ c.if-is_answer.false)
    (sym c.is_rewrite.ensures ∙ c.if-is_rewrite.true) p.ensures q.ensures) c.rewrite.ensures.told

pub returns-then-is_lint-clause-told : goal.returns-then-is_lint-clause-told
returns-then-is_lint-clause-told g c =
    let p = c.get-then-is_lint in
    works_from (g.S.Shelf.held c.args.shelf.now) c.args.words.now (Lint p.result.now) c.lint.result
    (lint_named c.args.words.now p.result.now (sym c.is_extract.ensures ∙ c.if-is_extract.false) (sym c.is_check.ensures ∙ c.if-is_check.false) (sym c.is_lint.ensures ∙ c.if-is_lint.true) p.ensures) c.lint.ensures.told

pub returns-then-is_contained-clause-told : goal.returns-then-is_contained-clause-told
returns-then-is_contained-clause-told g c =
    let p = c.get-then-is_contained in
    let q = c.get-then-is_contained-2 in
    let r = c.get-then-is_contained-3 in
    works_from (g.S.Shelf.held c.args.shelf.now) c.args.words.now (Contained p.result.now q.result.now r.result.now) c.contain.result
    (contained_named c.args.words.now p.result.now q.result.now r.result.now (sym c.is_contained.ensures ∙ c.if-is_contained.true) p.ensures q.ensures r.ensures) c.contain.ensures.told

pub returns-in-Some-clause-told : goal.returns-in-Some-clause-told
returns-in-Some-clause-told g c =
    let p = c.get-in-Some in
    let q = c.get-in-Some-2 in
    works_from (g.S.Shelf.held c.args.shelf.now) c.args.words.now (Why p.result.now q.result.now c.in-Some.number) c.explain.result
    (why_named c.args.words.now p.result.now q.result.now c.in-Some.number (sym c.number_named.ensures ∙ c.in-Some.is) p.ensures q.ensures) c.explain.ensures.told

pub returns-in-Some-docs_named-clause-told : goal.returns-in-Some-docs_named-clause-told
returns-in-Some-docs_named-clause-told g c =
    let docs = c.in-Some-docs_named in
    let f = c.get-in-Some-docs_named in
    works_from (g.S.Shelf.held c.args.shelf.now) c.args.words.now (Make docs.docs f.result.now) (Ok c.in_ok-making.field-0)
    (make_named c.args.words.now docs.docs f.result.now (sym c.is_verify.ensures ∙ c.if-is_verify.false) (sym c.is_answer.ensures ∙ c.if-is_answer.false)
    (sym c.is_rewrite.ensures ∙ c.if-is_rewrite.false) (sym c.docs_named.ensures ∙ docs.is) f.ensures)
    (made_works (g.S.Shelf.held c.args.shelf.now) docs.docs f.result.now c.in_ok-making.field-0 c.in_ok-making.ensures.ends)

pub returns-in-Some-docs_named-clause-made : goal.returns-in-Some-docs_named-clause-made
returns-in-Some-docs_named-clause-made g c = λ make.
    let docs = c.in-Some-docs_named in
    let f = c.get-in-Some-docs_named in
    made_end c.args.words.now docs.docs f.result.now c.in_ok-making.field-0
    (make_named c.args.words.now docs.docs f.result.now (sym c.is_verify.ensures ∙ c.if-is_verify.false) (sym c.is_answer.ensures ∙ c.if-is_answer.false)
    (sym c.is_rewrite.ensures ∙ c.if-is_rewrite.false) (sym c.docs_named.ensures ∙ docs.is) f.ensures)
    c.in_ok-making.ensures.ends

pub returns-clause-told : goal.returns-clause-told
returns-clause-told g c =
    no_walk (g.S.Shelf.held c.args.shelf.now) c.args.words.now c.in_ok-usage_line.field-0
    (none_named c.args.words.now (record {
      extract = sym c.is_extract.ensures ∙ c.if-is_extract.false;
      check = sym c.is_check.ensures ∙ c.if-is_check.false;
      verify = sym c.is_verify.ensures ∙ c.if-is_verify.false;
      answer = sym c.is_answer.ensures ∙ c.if-is_answer.false;
      rewrite = sym c.is_rewrite.ensures ∙ c.if-is_rewrite.false;
      make = sym c.docs_named.ensures ∙ c.in_default-docs_named.is;
      why = sym c.number_named.ensures ∙ c.in_default.is;
      lint = sym c.is_lint.ensures ∙ c.if-is_lint.false;
      contained = sym c.is_contained.ensures ∙ c.if-is_contained.false;
    }))
    c.in_ok-usage_line.ensures

pub returns-clause-usage : goal.returns-clause-usage
returns-clause-usage g c = λ usage.
    no_command c.args.words.now
    (none_named c.args.words.now (record {
      extract = sym c.is_extract.ensures ∙ c.if-is_extract.false;
      check = sym c.is_check.ensures ∙ c.if-is_check.false;
      verify = sym c.is_verify.ensures ∙ c.if-is_verify.false;
      answer = sym c.is_answer.ensures ∙ c.if-is_answer.false;
      rewrite = sym c.is_rewrite.ensures ∙ c.if-is_rewrite.false;
      make = sym c.docs_named.ensures ∙ c.in_default-docs_named.is;
      why = sym c.number_named.ensures ∙ c.in_default.is;
      lint = sym c.is_lint.ensures ∙ c.if-is_lint.false;
      contained = sym c.is_contained.ensures ∙ c.if-is_contained.false;
    }))
