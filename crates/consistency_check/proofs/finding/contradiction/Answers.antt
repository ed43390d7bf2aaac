-- By the values, or by the sources.
use Rattle.std.proofs.Common.{◌≡◌, sym, ap, subst, ◌∙◌, Some}
use Rattle.vocabulary.specs.Lists.{In, item}
use Rattle.dllite_axioms.specs.declared.axioms.Constraint.TheVariants.{Identified}
use Rattle.dllite_axioms.specs.Within.{IsConstraintWithin}
use Rattle.negative_closure.specs.Sources.{HasExactSources}
use Rattle.identification_check.specs.Violations.{AreAttributes}
use Rattle.consistency_check.specs.Checkable.{IsCheckable, KnowAll}
use Rattle.consistency_check.proofs.Gathered.{item_in, no_item}
use Rattle.consistency_check.proofs.Identified.{exact_or_identified}
use Rattle.consistency_check.proofs.finding.contradiction.Goals as goal

pub by_values-requires-clause-within : goal.by_values-requires-clause-within
by_values-requires-clause-within c =
    let named = sym (subst (λ cs. Some c.in-Some.constraint.now ≡ item cs c.args.number) c.constraints.ensures c.in-Some.ensures) in
    let listed = item_in c.args.tbox.now.constraints c.args.number c.in-Some.constraint.now named in
    let same : c.in-Some.constraint.now ≡ Identified c.in-Identified.class c.items.result.now = c.in-Identified.is ∙ ap (Identified c.in-Identified.class) (sym c.items.ensures) in
    subst (IsConstraintWithin c.args.prepared.now.downs.classes c.args.prepared.now.downs.links) same (c.requires.constraints c.in-Some.constraint.now listed)

pub by_values-requires-clause-attributes : goal.by_values-requires-clause-attributes
by_values-requires-clause-attributes c =
    let named = sym (subst (λ cs. Some c.in-Some.constraint.now ≡ item cs c.args.number) c.constraints.ensures c.in-Some.ensures) in
    let listed = item_in c.args.tbox.now.constraints c.args.number c.in-Some.constraint.now named in
    let same : c.in-Some.constraint.now ≡ Identified c.in-Identified.class c.items.result.now = c.in-Identified.is ∙ ap (Identified c.in-Identified.class) (sym c.items.ensures) in
    subst (λ axs. AreAttributes axs c.items.result.now) (sym c.requires.prepared.axioms) (subst (IsCheckable c.args.tbox.now.axioms) same (c.requires.checkable c.in-Some.constraint.now listed))

pub by_values-requires-clause-saturated : goal.by_values-requires-clause-saturated
by_values-requires-clause-saturated c =
    let named = sym (subst (λ cs. Some c.in-Some.constraint.now ≡ item cs c.args.number) c.constraints.ensures c.in-Some.ensures) in
    let listed = subst (λ k. In k c.args.tbox.now.constraints) c.in-Identified.is (item_in c.args.tbox.now.constraints c.args.number c.in-Some.constraint.now named) in
    subst (λ axs. KnowAll axs c.args.mappings.now c.args.prepared.now.saturated) (sym c.requires.prepared.axioms) (c.requires.prepared.saturated c.in-Identified.class c.in-Identified.links listed)

pub by_sources-requires : goal.by_sources-requires
by_sources-requires c =
    let named = sym (subst (λ cs. Some c.in-Some.constraint.now ≡ item cs c.args.number) c.constraints.ensures c.in-Some.ensures) in
    let listed = item_in c.args.tbox.now.constraints c.args.number c.in-Some.constraint.now named in
    record {
      fit = c.requires.fit;
      indexes = c.requires.indexes;
      given = c.requires.prepared.given;
      within = c.requires.constraints c.in-Some.constraint.now listed;
      exact = subst (λ axs. HasExactSources axs c.in-Some.constraint.now) (sym c.requires.prepared.axioms) (exact_or_identified c.args.tbox.now.axioms c.in-Some.constraint.now (c.requires.checkable c.in-Some.constraint.now listed) c.in_default-constraint.not-Identified);
    }

pub returns-in_default-clause-found : goal.returns-in_default-clause-found
returns-in_default-clause-found c =
    no_item c.args.tbox.now c.args.mappings.now c.args.tables.now c.args.number (c.in_default.ensures ∙ ap (λ cs. item cs c.args.number) c.constraints.ensures)
