-- By `Explained`.
use Rattle.std.proofs.Common.{◌≡◌, ◌∙◌, refl, sym, ap, subst, length, map, Some, arith}
use Rattle.std.specs.Prelude.{slice_get}
use Rattle.vocabulary.specs.Lists.{In}
use Rattle.dllite_axioms.specs.declared.axioms.Axiom.{Axiom}
use Rattle.dllite_axioms.specs.Within.{IsAxiomWithin}
use Rattle.mapping_facts.specs.declared.mapping.Mapping.{Mapping}
use Rattle.mapping_facts.specs.Within.{AreTargetsWithin}
use Rattle.mapping_facts.specs.Facts.{mapped_facts}
use Rattle.mapping_saturation.specs.Saturation.{GiveTheKnown}
use Rattle.why_answers.specs.Folding.{AreNodes, SomeMatches}
use Rattle.why_answers.specs.Showing.{IsShown, Read, mark_facts}
use Rattle.why_answers.proofs.Explained.{derivable, explained, some_matches}
use Rattle.why_answers.proofs.Tupled.{tuple_length}
use Rattle.why_answers.proofs.answering.why.Goals as goal

pub saturate-requires-clause-within : goal.saturate-requires-clause-within
saturate-requires-clause-within c = subst (λ h. (a : Axiom) → In a h.axioms → IsAxiomWithin h.classes h.links a) (sym c.in_ok-downs.ensures) c.requires.within

pub saturate-requires-clause-targets : goal.saturate-requires-clause-targets
saturate-requires-clause-targets c = subst (λ h. (m : Mapping) → In m c.args.mappings.now → AreTargetsWithin h.classes h.links m.targets) (sym c.in_ok-downs.ensures) c.requires.targets

pub search-requires-clause-within : goal.search-requires-clause-within
search-requires-clause-within c = subst (λ h. (a : Axiom) → In a h.axioms → IsAxiomWithin h.classes h.links a) (sym c.in_ok-downs.ensures) c.requires.within

pub search-requires-clause-head : goal.search-requires-clause-head
search-requires-clause-head c = ap (λ q. q.head) c.in_ok-asked.ensures

pub search-requires-clause-few : goal.search-requires-clause-few
search-requires-clause-few c =
    let few = c.requires.few in
    let same = ap (λ q. length q.atoms) c.in_ok-asked.ensures ∙ tuple_length c.args.query.now.head c.args.tuple.now c.args.query.now.atoms in
    omega (arith, few, same)

pub search-requires-clause-some : goal.search-requires-clause-some
search-requires-clause-some c =
    let saturated = c.in_ok-saturated.saturated in
    let know : GiveTheKnown c.args.tbox.now.axioms c.args.mappings.now saturated = subst (λ h. GiveTheKnown h.axioms c.args.mappings.now saturated) c.in_ok-downs.ensures c.in_ok-saturated.ensures.known in
    let some : SomeMatches c.args.tbox.now.axioms c.in_ok-asked.asked (mapped_facts saturated c.args.tables.now) =
    some_matches c.args.tbox.now.axioms c.args.mappings.now saturated c.args.tables.now c.requires.fit c.in_ok-saturated.ensures.fit know c.args.query.now c.in_ok-asked.asked c.args.tuple.now c.requires.known c.requires.certain c.in_ok-asked.ensures in
    subst (λ ms. SomeMatches c.in_ok-downs.downs.axioms c.in_ok-asked.asked (mapped_facts ms c.args.tables.now)) (sym c.items.ensures)
    (subst (λ h. SomeMatches h.axioms c.in_ok-asked.asked (mapped_facts saturated c.args.tables.now)) (sym c.in_ok-downs.ensures) some)

pub known_marks-requires-clause-facts : goal.known_marks-requires-clause-facts
known_marks-requires-clause-facts c f i =
    derivable c.in_ok-downs.downs c.args.mappings.now c.in_ok-saturated.saturated c.args.tables.now c.in_ok-saturated.ensures.known
    (subst (λ h. (a : Axiom) → In a h.axioms → IsAxiomWithin h.classes h.links a) (sym c.in_ok-downs.ensures) c.requires.within)
    (subst (λ h. (m : Mapping) → In m c.args.mappings.now → AreTargetsWithin h.classes h.links m.targets) (sym c.in_ok-downs.ensures) c.requires.targets)
    f (subst (λ ms. In f (mapped_facts ms c.args.tables.now)) c.items.ensures (c.in_ok-found.ensures.matched.mapped f (subst (In f) c.items-2.ensures i)))

pub unwind-requires-clause-axioms : goal.unwind-requires-clause-axioms
unwind-requires-clause-axioms c = c.axioms.ensures ∙ sym (ap (λ h. h.axioms) c.in_ok-downs.ensures)

pub unwind-requires-clause-within : goal.unwind-requires-clause-within
unwind-requires-clause-within c = subst (λ h. (a : Axiom) → In a h.axioms → IsAxiomWithin h.classes h.links a) (sym c.in_ok-downs.ensures) c.requires.within

pub unwind-requires-clause-head : goal.unwind-requires-clause-head
unwind-requires-clause-head c = ap (λ q. q.head) c.in_ok-asked.ensures

pub unwind-requires-clause-nodes : goal.unwind-requires-clause-nodes
unwind-requires-clause-nodes c = subst (AreNodes c.in_ok-downs.downs.axioms c.in_ok-asked.asked) (sym c.items-nodes.ensures) c.in_ok-found.ensures.are

pub unwind-requires-clause-node : goal.unwind-requires-clause-node
unwind-requires-clause-node c =
    let found = c.in_ok-found.ensures in (
      found.node,
      subst (λ ns. slice_get ns c.in_ok-found.found.at ≡ Some found.node) (sym c.items-nodes.ensures) found.at,
      subst (Read found.node.query.atoms) (sym (c.in_ok-shown.ensures.facts ∙ c.items-2.ensures)) found.matched.read,
    )

pub returns : goal.returns
returns c =
    let shown = c.in_ok-shown-2.shown in
    let tbox = c.args.tbox.now in
    let stays : IsShown tbox.axioms c.args.mappings.now c.args.tables.now shown = subst (λ h. IsShown h.axioms c.args.mappings.now c.args.tables.now shown) c.in_ok-downs.ensures (c.in_ok-shown-2.ensures.shown c.args.mappings.now c.args.tables.now c.in_ok-shown.ensures.shown) in
    explained tbox c.args.mappings.now c.args.tables.now c.args.query.now c.args.tuple.now shown (record { steps = shown.steps; atoms = c.in_ok-atoms.atoms }) c.requires.certain stays
    (subst (λ q. Read q.atoms (mark_facts shown.marks)) c.in_ok-asked.ensures c.in_ok-shown-2.ensures.read) refl (c.in_ok-atoms.ensures ∙ ap (map (λ m. m.step)) c.items-3.ensures)
