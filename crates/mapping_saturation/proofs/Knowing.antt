-- Facts that are the known facts of a chase have that chase.
use Rattle.std.proofs.Common.{List}
use Rattle.vocabulary.specs.declared.term.Fact.{Fact}
use Rattle.vocabulary.specs.Lists.{In}
use Rattle.vocabulary.specs.Terms.{IsKnownFact}
use Rattle.dllite_axioms.specs.declared.axioms.Axiom.{Axiom}
use Rattle.dllite_axioms.specs.Chase.{Derived, given, step}
use Rattle.dllite_axioms.proofs.ChaseLaws.{stands_where_derived}
use Rattle.source_tables.specs.Tables.{Loaded}
use Rattle.mapping_facts.specs.declared.mapping.Mapping.{Mapping}
use Rattle.mapping_facts.specs.Facts.{mapped_facts}
use Rattle.mapping_saturation.specs.Laws.{KnownHaveTheChase, KnownHoldTheirKnown}
use Rattle.mapping_saturation.specs.Saturation.{GiveTheKnown}
use Rattle.mapping_saturation.proofs.Known.{mapped_known}

module _ (axioms : List Axiom) (ms ns : List Mapping) (tables : List Loaded) (same : GiveTheKnown axioms ms ns) where
  derived_less : {f : Fact} → Derived axioms (mapped_facts ns tables) f → Derived axioms (mapped_facts ms tables) f
  derived_less {f} (given m) = (stands_where_derived axioms (mapped_facts ms tables) f).0 ((same tables f).0 m).0
  derived_less (step ax n e d) = step ax n e (derived_less d)

  derived_more : ((f : Fact) → In f (mapped_facts ms tables) → IsKnownFact f) → {f : Fact} → Derived axioms (mapped_facts ms tables) f → Derived axioms (mapped_facts ns tables) f
  derived_more known {f} (given m) = given ((same tables f).1 ((0, m), known f m))
  derived_more known (step ax n e d) = step ax n e (derived_more known d)

pub have_the_chase : KnownHaveTheChase
have_the_chase axioms ms ns fit same tables f = (
  (λ k. (stands_where_derived axioms (mapped_facts ns tables) f).1 (derived_more axioms ms ns tables same (mapped_known ms tables fit) ((stands_where_derived axioms (mapped_facts ms tables) f).0 k))),
  (λ k. (stands_where_derived axioms (mapped_facts ms tables) f).1 (derived_less axioms ms ns tables same ((stands_where_derived axioms (mapped_facts ns tables) f).0 k))),
)

pub hold_their_known : KnownHoldTheirKnown
hold_their_known axioms ms ns same tables f d k = (same tables f).1 ((stands_where_derived axioms (mapped_facts ms tables) f).1 (derived_less axioms ms ns tables same d), k)
