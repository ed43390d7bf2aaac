-- Each test is that of the query, and each count is one of what is seen.
use Rattle.std.proofs.Common.{◌∙◌, sym, map}
use Rattle.std.proofs.lemmas.List.{length-map}
use Rattle.annotation_language.specs.Shown.{shown_atom, shown_query}
use Rattle.annotation_language.specs.Resolved.{texts, shown_placed}
use Rattle.annotation_language.proofs.Asking.{by_its_own, few_variables}
use Rattle.annotation_language.proofs.rules.broken_query.Goals as goal

pub returns-clause-first : goal.returns-clause-first
returns-clause-first c =
    let q = c.args.asked.now.query.now in
    let asks = c.args.asks.now in
    let own = by_its_own c.args.model.now asks.missing asks.double (shown_query q) (texts asks.objects.now) asks.bad_key asks.others.now (texts c.args.asked.now.variables.items) (map shown_placed c.args.asked.now.places.items) c.requires.variables c.requires.places in
    let atoms = sym (length-map q.atoms.items shown_atom) in
    let variables = sym (length-map c.args.asked.now.variables.items (λ v. v.now)) in
    let head = sym (length-map q.head.items (λ v. v.now)) in
    c.judged.ensures ∙ (rw (
      c.is_missing.ensures,
      c.in_ok-mismatch.ensures,
      c.in_ok-some_bad_template.ensures,
      c.in_ok-standing.ensures.mixed,
      c.in_ok-standing.ensures.unbound,
      c.as_slice-atoms.ensures.value,
      c.as_slice-places.ensures.value,
      c.as_slice-variables.ensures.value,
      c.as_slice-head.ensures.value,
      atoms,
      variables,
      head,
    ) own)

pub returns-clause-few : goal.returns-clause-few
returns-clause-few c = λ none.
    let q = c.args.asked.now.query.now in
    let asks = c.args.asks.now in
    let few = few_variables c.args.model.now asks.missing asks.double (shown_query q) (texts asks.objects.now) asks.bad_key asks.others.now (sym (returns-clause-first c) ∙ none) in
    let own = rw (← c.requires.variables) at few in
    rw (length-map) at own
