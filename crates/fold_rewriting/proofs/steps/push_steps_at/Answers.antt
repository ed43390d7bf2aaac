-- By `Gathering`.
use Rattle.std.proofs.Common.{sym, subst, ◌∙◌, get_or, take}
use Rattle.std.proofs.lemmas.Bool.{iff_false}
use Rattle.std.proofs.lemmas.List.{take_more, take_all}
use Rattle.vocabulary.specs.declared.ids.LinkId.{LinkId}
use Rattle.vocabulary.specs.declared.ids.Dir.{Dir}
use Rattle.vocabulary.specs.declared.ids.Dir.TheVariants.{Fwd}
use Rattle.negative_closure.specs.Chains.{NoneTwice}
use Rattle.fold_rewriting.proofs.Bearing.{within_at}
use Rattle.fold_rewriting.proofs.Gathering.{not_free, births_begun, births_on, births_end}
use Rattle.fold_rewriting.proofs.Pushing.{place_read}
use Rattle.fold_rewriting.proofs.steps.push_steps_at.Goals as goal

abbrev no_birth : LinkId × Dir
no_birth = (record { 0 = 0 }, Fwd)

pub returns-then-not-is_free_at : goal.returns-then-not-is_free_at
returns-then-not-is_free_at c = not_free c.args.downs.now.axioms c.args.query.now c.args.at c.args.end c.args.steps.now (iff_false c.is_free_at.ensures c.if-not-is_free_at.true)

pub loop-birth-init : goal.loop-birth-init
loop-birth-init c = births_begun c.args.downs.now.axioms c.args.query.now c.args.at c.args.end c.args.steps.now

pub push_steps_by-requires-clause-link : goal.push_steps_by-requires-clause-link
push_steps_by-requires-clause-link c = within_at c.args.downs.now.links c.in_ok-births.births c.items-birth-items.result.now c.loop-birth.birth-index no_birth c.in_ok-births.ensures.within c.items-birth-items.ensures c.loop-birth-test.true

pub loop-birth-preserved : goal.loop-birth-preserved
loop-birth-preserved c =
    let births = c.items-birth-items.result.now in
    let n = c.loop-birth.birth-index in
    births_on c.args.downs.now.axioms c.args.query.now c.args.at c.args.end births n (get_or births n no_birth) c.args.steps.now c.loop-birth.steps c.push_steps_by.new.steps
    (subst NoneTwice (sym c.items-birth-items.ensures) c.in_ok-births.ensures.once) (take_more births n no_birth c.loop-birth-test.true) c.loop-birth.invariant c.in_ok-push_steps_by.ensures

pub returns : goal.returns
returns c =
    let q = c.args.query.now in
    let births = c.items-birth-items.result.now in
    let n = c.loop-birth.birth-index in
    let is = place_read q c.args.at c.items.result.now c.index-items-at.result c.items.ensures c.requires.place c.index-items-at.is in
    births_end c.args.downs.now.axioms q c.args.downs.now.classes c.args.downs.now.links c.requires.within c.args.at c.args.end c.in_ok-births.births (take n births) c.args.steps.now c.loop-birth.steps c.index-items-at.result
    is c.in_ok-births.ensures.all (take_all n births c.loop-birth-test.false ∙ c.items-birth-items.ensures) c.loop-birth.invariant
