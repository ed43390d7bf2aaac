use Rattle.std.proofs.Common.{◌≡◌, All, [], subst}
use Rattle.mapping_facts.specs.Fits.{RowQueryFits}
use Rattle.mapping_unfolding.specs.Drafts.{HasAll, OnlyUnfold, empty_draft}
use Rattle.mapping_unfolding.specs.Unfoldings.{AreUnfoldings, HasOrigins, OriginsStand}
use Rattle.mapping_unfolding.proofs.Finishing.{finished}
use Rattle.mapping_unfolding.proofs.Whole.{are_unfoldings, have_origins, origins_stand, unfoldings_fit, unfoldings_plain}
use Rattle.mapping_unfolding.proofs.unfolding.unfold.Goals as goal

pub returns-clause-exact : goal.returns-clause-exact
returns-clause-exact c =
    let only = subst (λ z. OnlyUnfold c.args.mappings.now z empty_draft [] c.in_ok-drafts.drafts.items) c.items.ensures c.in_ok-drafts.ensures.only in
    let all = subst (λ z. HasAll c.args.mappings.now z empty_draft c.in_ok-drafts.drafts.items) c.items.ensures c.in_ok-drafts.ensures.all in
    finished c.finish_all.result (AreUnfoldings c.args.mappings.now c.args.query.now) c.items-2.result.now c.args.query.now.head c.in_ok-drafts.drafts.items c.items-2.ensures c.finish_all.ensures
    (are_unfoldings c.args.mappings.now c.requires.fit c.args.query.now c.requires.head c.in_ok-drafts.drafts.items only all)

pub returns-clause-fitting : goal.returns-clause-fitting
returns-clause-fitting c =
    let only = subst (λ z. OnlyUnfold c.args.mappings.now z empty_draft [] c.in_ok-drafts.drafts.items) c.items.ensures c.in_ok-drafts.ensures.only in
    finished c.finish_all.result (All (λ u. RowQueryFits u.rows)) c.items-2.result.now c.args.query.now.head c.in_ok-drafts.drafts.items c.items-2.ensures c.finish_all.ensures
    (unfoldings_fit c.args.mappings.now c.requires.fit c.args.query.now c.requires.head c.in_ok-drafts.drafts.items only)

pub returns-clause-not_apart : goal.returns-clause-not_apart
returns-clause-not_apart c =
    let only = subst (λ z. OnlyUnfold c.args.mappings.now z empty_draft [] c.in_ok-drafts.drafts.items) c.items.ensures c.in_ok-drafts.ensures.only in
    finished c.finish_all.result (All (λ u. u.rows.apart ≡ [])) c.items-2.result.now c.args.query.now.head c.in_ok-drafts.drafts.items c.items-2.ensures c.finish_all.ensures
    (unfoldings_plain c.args.mappings.now c.requires.fit c.args.query.now c.requires.head c.in_ok-drafts.drafts.items only)

pub returns-clause-places : goal.returns-clause-places
returns-clause-places c =
    let only = subst (λ z. OnlyUnfold c.args.mappings.now z empty_draft [] c.in_ok-drafts.drafts.items) c.items.ensures c.in_ok-drafts.ensures.only in
    finished c.finish_all.result (All (OriginsStand c.args.mappings.now c.args.query.now)) c.items-2.result.now c.args.query.now.head c.in_ok-drafts.drafts.items c.items-2.ensures c.finish_all.ensures
    (origins_stand c.args.mappings.now c.requires.fit c.args.query.now c.requires.head c.in_ok-drafts.drafts.items only)

pub returns-clause-origins : goal.returns-clause-origins
returns-clause-origins c =
    let only = subst (λ z. OnlyUnfold c.args.mappings.now z empty_draft [] c.in_ok-drafts.drafts.items) c.items.ensures c.in_ok-drafts.ensures.only in
    finished c.finish_all.result (All (HasOrigins c.args.mappings.now c.args.query.now)) c.items-2.result.now c.args.query.now.head c.in_ok-drafts.drafts.items c.items-2.ensures c.finish_all.ensures
    (have_origins c.args.mappings.now c.requires.fit c.args.query.now c.requires.head c.in_ok-drafts.drafts.items only)
